use Rattle.std.proofs.Common.{◌≡◌, drop}
use Rattle.causes.specs.Closing.{closed}
use Rattle.fates.proofs.judging.closer.Given as goal

abbrev pub invariant-loop-i : goal.invariant-loop-i
invariant-loop-i l = closed l.done l.row ≡ closed (drop l.i l.done) l.row
