use Rattle.std.proofs.Common.{sym, ◌∙◌}
use Rattle.tries.proofs.Cells.{row_is}
use Rattle.selector.proofs.Picked.{usable_there}
use Rattle.selector.proofs.calls.usable_row.Goals as goal

pub returns-in-Ok : goal.returns-in-Ok
returns-in-Ok g c = record {
  answer = (
    usable_there c.args.supported.bits (g.R.Registrar.air c.args.radio.now).here c.args.place c.in-Ok.row c.in-Ok.ensures.value (sym c.is_usable.ensures ∙ c.if-is_usable.true),
    row_is (g.R.Registrar.air c.args.radio.now).here c.args.place c.in-Ok.row c.in-Ok.ensures.value,
  );
  air = c.in-Ok.ensures.air;
}
