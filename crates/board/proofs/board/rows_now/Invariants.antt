use Rattle.std.proofs.Common.{◌≡◌, take, vec_items}
use Rattle.board.proofs.board.rows_now.Given as goal

abbrev pub invariant-loop-place : goal.invariant-loop-place
invariant-loop-place g l =
    (g.F.Finder.sky l.finder ≡ g.F.Finder.sky l.initial.finder) × (vec_items l.rows ≡ take l.place (g.F.Finder.sky l.initial.finder).here)
