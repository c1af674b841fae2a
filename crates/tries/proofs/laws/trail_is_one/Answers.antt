use Rattle.tries.proofs.Words.{one}
use Rattle.tries.proofs.laws.trail_is_one.Goals as goal

pub returns : goal.returns
returns c = one
