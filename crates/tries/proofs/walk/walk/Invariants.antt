use Rattle.std.proofs.Common.{length}
use Rattle.bounded.specs.Held.{held}
use Rattle.tries.specs.Turns.{barred}
use Rattle.tries.proofs.Turning.{Mid}
use Rattle.tries.proofs.walk.walk.Given as goal

abbrev pub invariant-loop-k : goal.invariant-loop-k
invariant-loop-k g l =
    Mid (barred l.areas.roaming.now l.areas.regional.now) (g.R.Registrar.air l.initial.radio) l.order l.initial.trail l.k-index (length (held l.heard)) (held l.heard) l.trail (g.R.Registrar.air l.radio)
