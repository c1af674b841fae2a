use Rattle.std.proofs.Common.{ap, ◌∙◌}
use Rattle.std.specs.Result.{result_unwrap_or}
use Rattle.radio.specs.declared.answer.Answer.TheVariants.{Silence}
use Rattle.tries.proofs.Cells.{answer_there}
use Rattle.tries.proofs.walk.answer_at.Goals as goal

pub returns-clause-value : goal.returns-clause-value
returns-clause-value g c =
    c.unwrap_or.ensures ∙ (ap (λ r. result_unwrap_or r Silence) c.attempt.ensures.value ∙ answer_there (g.R.Registrar.air c.args.radio.now).here c.args.place)
