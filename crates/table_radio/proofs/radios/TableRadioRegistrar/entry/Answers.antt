use Rattle.std.proofs.Common.{rules}
use Rattle.table_radio.proofs.Cells.{nth_celled}
use Rattle.table_radio.proofs.radios.TableRadioRegistrar.entry.Goals as goal

pub returns : goal.returns
returns c = search (rules, nth_celled)
