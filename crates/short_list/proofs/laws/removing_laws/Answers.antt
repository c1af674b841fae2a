use Rattle.short_list.proofs.Lawful.{removing}
use Rattle.short_list.proofs.laws.removing_laws.Goals as goal

pub returns : goal.returns
returns g c = removing g.T.Same.alike g.T.Same.decides g.T.Element.blank c.args.x c.args.places.now
