use Rattle.std.proofs.Common.{rules}
use Rattle.masked_radio.proofs.Mapped.{masked_agree}
use Rattle.masked_radio.proofs.registrar.MaskedRegistrar.rows.Goals as goal

pub returns : goal.returns
returns g c = search (rules, masked_agree)
