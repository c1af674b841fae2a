use Rattle.std.proofs.Common.{rules}
use Rattle.radio.proofs.Changes.{changed_none}
use Rattle.table_radio.proofs.Cells.{nth_celled, celled_set}
use Rattle.table_radio.proofs.radios.TableRadioRegistrar.attempt.Goals as goal

pub returns : goal.returns
returns c = search (rules, nth_celled, celled_set)

pub returns-in_err-found : goal.returns-in_err-found
returns-in_err-found c = search (rules, nth_celled, changed_none)
