use Rattle.short_list.proofs.Lawful.{storing}
use Rattle.short_list.proofs.laws.storing_laws.Goals as goal

pub returns : goal.returns
returns g c = storing g.T.Same.alike g.T.Same.decides g.T.Element.blank c.args.x c.args.places.now
