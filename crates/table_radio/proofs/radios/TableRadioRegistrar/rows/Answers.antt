use Rattle.std.proofs.Common.{rules}
use Rattle.table_radio.specs.Small.{length_celled}
use Rattle.table_radio.proofs.Cells.{table_agree}
use Rattle.table_radio.proofs.radios.TableRadioRegistrar.rows.Goals as goal

pub returns : goal.returns
returns c = let a = table_agree c.args.self.now.here.now c.args.self.now.tried c.args.self.now.rest.now in search (rules, length_celled)
