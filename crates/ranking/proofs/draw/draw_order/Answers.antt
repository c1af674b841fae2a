use Rattle.std.proofs.Common.{◌<◌, ◌≤◌, [], length, ◌∙◌, subst, arith}
use Rattle.std.proofs.lemmas.List.{length-drop, take_all, append-nil}
use Rattle.ranking.specs.Draws.{Drawn}
use Rattle.ranking.proofs.Turns.{turn}
use Rattle.ranking.proofs.draw.draw_order.Goals as goal

pub loop-t-preserved : goal.loop-t-preserved
loop-t-preserved c =
    let h : c.loop-t.t < length c.loop-t.keys = omega arith in
    turn c.loop-t.keys c.take_drawn-d.new.keys c.loop-t.t c.loop-t.d c.take_drawn-d.result (Drawn c.args.draw c.args.keys.now) h c.take_drawn-d.ensures.value c.take_drawn-d.ensures.after c.loop-t.invariant

pub returns : goal.returns
returns c =
    let n : length c.loop-t.keys ≤ c.loop-t.t = omega arith in
    subst (Drawn c.args.draw c.args.keys.now) (append-nil _ ∙ take_all c.loop-t.t c.loop-t.keys n)
    (c.loop-t.invariant [] (let e = length-drop c.loop-t.t c.loop-t.keys in omega arith))
