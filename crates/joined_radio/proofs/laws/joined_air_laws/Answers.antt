use Rattle.joined_radio.proofs.Lawful.{joining, joining_skies}
use Rattle.joined_radio.proofs.laws.joined_air_laws.Goals as goal

pub returns : goal.returns
returns g c =
    let a = g.A.Registrar.air c.args.one.now in let b = g.B.Registrar.air c.args.other.now in
    record { here = joining a.here b.here; coming = joining_skies a.coming b.coming }
