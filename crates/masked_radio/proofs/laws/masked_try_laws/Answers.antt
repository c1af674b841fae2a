use Rattle.masked_radio.proofs.Lawful.{trying_below}
use Rattle.masked_radio.proofs.laws.masked_try_laws.Goals as goal

pub returns : goal.returns
returns g c = trying_below c.args.technologies.bits (g.R.Registrar.air c.args.radio.now) c.args.place
