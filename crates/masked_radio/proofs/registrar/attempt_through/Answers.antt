use Rattle.std.proofs.Common.{refl, rules}
use Rattle.radio.specs.Airs.{marked}
use Rattle.mask_places.specs.Masks.{cell_in_set}
use Rattle.std.proofs.lemmas.Option.{slice_get_past}
use Rattle.masked_radio.proofs.Among.{among_at, among_past, kept_among}
use Rattle.mask_places.proofs.Kept.{nth_kept}
use Rattle.masked_radio.proofs.registrar.attempt_through.Goals as goal

pub returns : goal.returns
returns g c =
    let k = kept_among (cell_in_set c.args.technologies.bits) marked (λ _. refl) (g.R.Registrar.air c.args.radio.now).here c.args.place in
    search (rules, nth_kept, among_at)

pub returns-in_err-below : goal.returns-in_err-below
returns-in_err-below g c =
    let k = kept_among (cell_in_set c.args.technologies.bits) marked (λ _. refl) (g.R.Registrar.air c.args.radio.now).here c.args.place in
    search (rules, slice_get_past, among_past)
