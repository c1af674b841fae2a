use Rattle.radio.proofs.Lawful.{trying}
use Rattle.radio.proofs.laws.try_laws.Goals as goal

pub returns : goal.returns
returns g c = trying (g.R.Registrar.air c.args.registrar.now) c.args.place
