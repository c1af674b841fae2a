use Rattle.std.proofs.Common.{List, ◌++◌, take, drop}
use Rattle.ranking.specs.Draws.{Drawn}
use Rattle.ranking.specs.declared.key.Key.{Key}
use Rattle.ranking.proofs.draw.draw_order.Given as goal

-- what is left, drawn in any order, completes the draw
abbrev pub invariant-loop-t : goal.invariant-loop-t
invariant-loop-t l = (ys : List Key) → Drawn l.d (drop l.t l.keys) ys → Drawn l.initial.d l.initial.keys (take l.t l.keys ++ ys)
