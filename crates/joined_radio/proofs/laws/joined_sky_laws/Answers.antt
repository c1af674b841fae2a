use Rattle.joined_radio.proofs.Lawful.{joining, joining_skies}
use Rattle.joined_radio.proofs.laws.joined_sky_laws.Goals as goal

pub returns : goal.returns
returns g c =
    let a = g.A.Finder.sky c.args.one.now in let b = g.B.Finder.sky c.args.other.now in
    record { here = joining a.here b.here; coming = joining_skies a.coming b.coming }
