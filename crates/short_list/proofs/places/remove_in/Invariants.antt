use Rattle.std.proofs.Common.{◌≡◌, ◌++◌, take, drop}
use Rattle.short_list.specs.Places.{removed}
use Rattle.short_list.proofs.places.remove_in.Given as goal

abbrev pub invariant-loop-p : goal.invariant-loop-p
invariant-loop-p g l = l.places ≡ removed g.T.Same.alike g.T.Element.blank l.x (take l.p-index l.initial.places) ++ drop l.p-index l.initial.places
