use Rattle.mask_places.specs.Masks.{offer_in_set, cell_in_set}
use Rattle.masked_radio.proofs.Lawful.{shows, shows_each}
use Rattle.masked_radio.proofs.laws.masked_air_laws.Goals as goal

pub returns : goal.returns
returns g c =
    let a = g.R.Registrar.air c.args.radio.now in
    record { here = shows (cell_in_set c.args.technologies.bits) a.here; coming = shows_each (offer_in_set c.args.technologies.bits) a.coming }
