use Rattle.table_radio.proofs.Stands.{standing}
use Rattle.table_radio.proofs.laws.table_laws.Goals as goal

pub returns : goal.returns
returns c = standing c.args.table.now
