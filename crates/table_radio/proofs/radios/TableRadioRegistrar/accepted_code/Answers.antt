use Rattle.std.proofs.Common.{rules}
use Rattle.table_radio.proofs.Cells.{nth_celled}
use Rattle.table_radio.proofs.radios.TableRadioRegistrar.accepted_code.Goals as goal

pub returns-in-Ok : goal.returns-in-Ok
returns-in-Ok c = search (rules, nth_celled)

pub returns-in_default : goal.returns-in_default
returns-in_default c = search (rules, nth_celled)

pub returns-in_default-2 : goal.returns-in_default-2
returns-in_default-2 c = search (rules, nth_celled)
