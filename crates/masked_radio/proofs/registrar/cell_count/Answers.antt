use Rattle.std.proofs.Common.{rules}
use Rattle.masked_radio.proofs.Mapped.{length_kept_map}
use Rattle.masked_radio.proofs.registrar.cell_count.Goals as goal

pub returns : goal.returns
returns g c = search (rules, length_kept_map)
