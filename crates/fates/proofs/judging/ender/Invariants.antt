use Rattle.std.proofs.Common.{◌≡◌, drop}
use Rattle.fates.specs.Reasons.{ended}
use Rattle.fates.proofs.judging.ender.Given as goal

abbrev pub invariant-loop-i : goal.invariant-loop-i
invariant-loop-i l = ended l.done ≡ ended (drop l.i l.done)
