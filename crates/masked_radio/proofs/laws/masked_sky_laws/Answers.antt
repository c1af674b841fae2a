use Rattle.mask_places.specs.Masks.{in_set}
use Rattle.masked_radio.proofs.Lawful.{shows, shows_each}
use Rattle.masked_radio.proofs.laws.masked_sky_laws.Goals as goal

pub returns : goal.returns
returns g c =
    let s = g.R.Finder.sky c.args.radio.now in
    record { here = shows (in_set c.args.technologies.bits) s.here; coming = shows_each (in_set c.args.technologies.bits) s.coming }
