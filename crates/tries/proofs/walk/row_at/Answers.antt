use Rattle.std.proofs.Common.{ap, ◌∙◌}
use Rattle.std.specs.Result.{result_unwrap_or}
use Rattle.tries.specs.Turns.{nothing}
use Rattle.tries.proofs.Cells.{row_there}
use Rattle.tries.proofs.walk.row_at.Goals as goal

pub returns-clause-value : goal.returns-clause-value
returns-clause-value g c =
    c.unwrap_or.ensures ∙ (ap (λ r. result_unwrap_or r nothing.row) c.entry.ensures.value ∙ row_there (g.R.Registrar.air c.args.radio.now).here c.args.place)
