use Rattle.std.proofs.Common.{rules}
use Rattle.mask_places.proofs.Kept.{front_kept, later_kept}
use Rattle.masked_radio.proofs.registrar.MaskedRegistrar.seek.Goals as goal

pub returns : goal.returns
returns g c = search (rules, front_kept, later_kept)
