use Rattle.std.proofs.Common.{rules}
use Rattle.mask_places.proofs.Kept.{nth_kept}
use Rattle.masked_radio.proofs.registrar.entry_through.Goals as goal

pub returns : goal.returns
returns g c = search (rules, nth_kept)
