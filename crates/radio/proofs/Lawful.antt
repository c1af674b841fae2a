-- The laws of searching and trying.
use Rattle.std.proofs.Common.{◌≡◌, ℕ, true, false, List, [], ◌∷◌, map, Some, None, Option, sym, refl, ap, ◌∙◌, arith}
use Rattle.std.specs.Option.{option_map}
use Rattle.std.specs.List.{AllByRecursion, slice_get}
use Rattle.radio.specs.Airs.{Air, Cell, Offer, row_in, marked, fresh, sought, attempted}
use Rattle.radio.specs.Skies.{front, later}
use Rattle.radio.specs.Laws.{Seeking, Trying}
use Rattle.radio.proofs.Changes.{changed_past, changed_at, changed_other, map_changed}

fresh_offers : (os : List Offer) → map (λ (c : Cell). c.offer) (map fresh os) ≡ os
fresh_offers [] = refl
fresh_offers (o ∷ os) = ap (λ l. o ∷ l) (fresh_offers os)

fresh_unmarked : (os : List Offer) → AllByRecursion (λ c. c.tried ≡ false) (map fresh os)
fresh_unmarked [] = tt
fresh_unmarked (o ∷ os) = (refl, fresh_unmarked os)

pub seeking : (a : Air) → Seeking a (sought a)
seeking a = record {
  takes_the_first = λ s t e. (ap (λ (u : List (List Offer)). map (λ (c : Cell). c.offer) (map fresh (front u))) e ∙ fresh_offers s, ap later e);
  empties = λ e. (ap (λ (u : List (List Offer)). map fresh (front u)) e, ap later e);
  clears_marks = fresh_unmarked (front a.coming);
}

mark_there : (o : Option Cell) (c : Cell) → option_map marked o ≡ Some c → c.tried ≡ true
mark_there None c h = let z : ◌≡◌ {A = ℕ} 0 1 = cc in absurd (omega arith)
mark_there (Some d) c h = let e : marked d ≡ c = cc in ap (λ (x : Cell). x.tried) (sym e)

pub trying : (a : Air) (place : ℕ) → Trying place a (attempted a place)
trying a place = record {
  rows_stay = map_changed row_in marked (λ _. refl) a.here place;
  answers_stay = map_changed (λ (c : Cell). c.offer.reply) marked (λ _. refl) a.here place;
  skies_stay = refl;
  marks_it = λ c e. mark_there (slice_get a.here place) c (sym (changed_at marked a.here place) ∙ e);
  others_stay = λ k h. changed_other marked a.here place k h;
  nothing_there = λ h. ap (λ (l : List Cell). record { here = l; coming = a.coming }) (changed_past marked a.here place h);
}
