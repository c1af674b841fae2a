use Rattle.std.proofs.Common.{◌+◌, Bool, ◌||◌, List, drop, sym, ap, ◌∙◌}
use Rattle.std.proofs.lemmas.List.{at_drop_more, at_drop_all}
use Rattle.causes.specs.Closing.{closed, closes}
use Rattle.causes.specs.declared.heard.Heard.{Heard}
use Rattle.tries.specs.Turns.{nothing}
use Rattle.fates.proofs.Elements.{any_default}
use Rattle.fates.proofs.judging.closer.Goals as goal

pub returns-then-closes_row : goal.returns-then-closes_row
returns-then-closes_row c = (
  c.loop-i-test.true,
  ap (λ (h : Heard). closes h c.args.row) (any_default c.args.done.now c.loop-i.i nothing _ c.loop-i-test.true) ∙ sym c.if-closes_row.ensures,
)

pub loop-i-preserved : goal.loop-i-preserved
loop-i-preserved c =
    c.loop-i.invariant
    ∙ at_drop_more (λ (hs : List Heard). closed hs c.args.row) c.args.done.now c.loop-i.i _ c.loop-i-test.true
    ∙ ap (λ (b : Bool). b || closed (drop (c.loop-i.i + 1) c.args.done.now) c.args.row) (sym c.if-closes_row.ensures)

pub returns : goal.returns
returns c = c.loop-i.invariant ∙ at_drop_all (λ (hs : List Heard). closed hs c.args.row) c.args.done.now c.loop-i.i c.loop-i-test.false
