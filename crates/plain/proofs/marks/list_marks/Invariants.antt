use Rattle.std.proofs.Common.{◌≡◌, ◌≤◌, length}
use Rattle.bounded.specs.Held.{held}
use Rattle.plain.specs.Plays.{marked_below}
use Rattle.plain.proofs.marks.list_marks.Given as goal

abbrev pub invariant-loop-place : goal.invariant-loop-place
invariant-loop-place g l = record {
  few : length (held l.places) ≤ l.place;
  marked : held l.places ≡ marked_below (g.R.Registrar.air l.radio).here l.place;
}
