use Rattle.std.proofs.Common.{◌≡◌, map, take}
use Rattle.bounded.specs.Held.{held}
use Rattle.radio.specs.Airs.{row_in}
use Rattle.found_rows.proofs.taking.take_rows.Given as goal

abbrev pub invariant-loop-place : goal.invariant-loop-place
invariant-loop-place g l =
    (g.R.Registrar.air l.radio ≡ g.R.Registrar.air l.fn.radio)
    × (held l.held ≡ map row_in (take l.place (g.R.Registrar.air l.fn.radio).here))
