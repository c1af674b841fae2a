use Rattle.std.proofs.Common.{◌≡◌, ◌≤◌, length, take, filter}
use Rattle.mask_places.specs.Masks.{in_set}
use Rattle.mask_places.proofs.places.place_below.Given as goal

abbrev pub invariant-loop-i : goal.invariant-loop-i
invariant-loop-i g l =
    (g.Q.Asks.meaning l.radio ≡ g.Q.Asks.meaning l.initial.radio)
    × (g.Q.Asks.rows l.radio ≡ g.Q.Asks.rows l.initial.radio)
    × (l.seen ≡ length (filter (in_set l.technologies.bits) (take l.i (g.Q.Asks.rows l.initial.radio))))
    × (l.seen ≤ l.i)
    × (l.seen ≤ l.place)
