use Rattle.radio.proofs.Lawful.{seeking}
use Rattle.radio.proofs.laws.seek_laws.Goals as goal

pub returns : goal.returns
returns g c = seeking (g.R.Registrar.air c.args.registrar.now)
