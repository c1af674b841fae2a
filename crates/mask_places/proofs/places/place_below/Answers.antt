use Rattle.std.proofs.Common.{rules}
use Rattle.mask_places.proofs.Kept.{kept_more, kept_all}
use Rattle.mask_places.proofs.places.place_below.Goals as goal

pub loop-i-preserved : goal.loop-i-preserved
loop-i-preserved g c = search (rules, kept_more)

pub returns : goal.returns
returns g c = search (rules, kept_all)
