use Rattle.std.proofs.Common.{◌+◌, Bool, ◌||◌, drop, sym, ap, ◌∙◌}
use Rattle.std.proofs.lemmas.List.{at_drop_more, at_drop_all}
use Rattle.causes.specs.Closing.{ends}
use Rattle.causes.specs.declared.heard.Heard.{Heard}
use Rattle.tries.specs.Turns.{nothing}
use Rattle.fates.specs.Reasons.{ended}
use Rattle.fates.proofs.Elements.{any_default}
use Rattle.fates.proofs.judging.ender.Goals as goal

pub returns-then-ends_run : goal.returns-then-ends_run
returns-then-ends_run c = (
  c.loop-i-test.true,
  ap (λ (h : Heard). ends h.answer) (any_default c.args.done.now c.loop-i.i nothing _ c.loop-i-test.true) ∙ sym c.if-ends_run.ensures,
)

pub loop-i-preserved : goal.loop-i-preserved
loop-i-preserved c =
    c.loop-i.invariant
    ∙ at_drop_more ended c.args.done.now c.loop-i.i _ c.loop-i-test.true
    ∙ ap (λ (b : Bool). b || ended (drop (c.loop-i.i + 1) c.args.done.now)) (sym c.if-ends_run.ensures)

pub returns : goal.returns
returns c = c.loop-i.invariant ∙ at_drop_all ended c.args.done.now c.loop-i.i c.loop-i-test.false
