use Rattle.joined_radio.proofs.Lawful.{trying_both}
use Rattle.joined_radio.proofs.laws.joined_try_laws.Goals as goal

pub returns : goal.returns
returns g c = trying_both (g.A.Registrar.air c.args.one.now) (g.B.Registrar.air c.args.other.now) c.args.place
