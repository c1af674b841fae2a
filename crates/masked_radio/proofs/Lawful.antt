-- The laws of masking.
use Rattle.std.proofs.Common.{◌≡◌, ℕ, zero, suc, Bool, true, false, cond, List, [], ◌∷◌, map, get_or, filter, refl, ap, ◌∙◌}
use Rattle.std.proofs.lemmas.List.{length-map}
use Rattle.radio.specs.Airs.{Air, Cell, marked}
use Rattle.mask_places.specs.Masks.{cell_in_set, changed_among, tried_below}
use Rattle.mask_places.specs.Places.{passes}
use Rattle.masked_radio.specs.Laws.{Shows, over, shown, hidden, ShowsEach, TryingBelow}
use Rattle.masked_radio.proofs.Among.{among_hidden}

pub shows : {X : Type 0} (p : X → Bool) (xs : List X) → Shows p xs (filter p xs)
shows p [] = over
shows p (x ∷ xs) =
    let ih = shows p xs in
    elim (p x) as (λ v. p x ≡ v → Shows p (x ∷ xs) (cond v (x ∷ filter p xs) (filter p xs))) [ true ↦ λ t. shown t ih | false ↦ λ t. hidden t ih ] refl

shows_at : {X : Type 0} (p : X → Bool) (s : List (List X)) (k : ℕ) → Shows p (get_or s k []) (get_or (map (filter p) s) k [])
shows_at p [] k = over
shows_at p (xs ∷ s) zero = shows p xs
shows_at p (xs ∷ s) (suc k) = shows_at p s k

pub shows_each : {X : Type 0} (p : X → Bool) (s : List (List X)) → ShowsEach p s (map (filter p) s)
shows_each p s = record { as_many = length-map s (filter p); each_masked = shows_at p s }

-- a part that the change leaves alone
map_among : {X Y : Type 0} (h : X → Y) (p : X → Bool) (f : X → X) → ((x : X) → h (f x) ≡ h x) → (xs : List X) (n : ℕ) → map h (changed_among p f xs n) ≡ map h xs
map_among h p f s [] n = refl
map_among h p f s (x ∷ xs) zero =
    let ih = map_among h p f s xs 0 in
    elim (p x) as (λ v. map h (cond v (f x ∷ xs) (x ∷ changed_among p f xs 0)) ≡ h x ∷ map h xs) [ true ↦ ap (λ y. y ∷ map h xs) (s x) | false ↦ ap (λ l. h x ∷ l) ih ]
map_among h p f s (x ∷ xs) (suc n) =
    let ih = map_among h p f s xs n in let jh = map_among h p f s xs (suc n) in
    elim (p x) as (λ v. map h (cond v (x ∷ changed_among p f xs n) (x ∷ changed_among p f xs (suc n))) ≡ h x ∷ map h xs) [ true ↦ ap (λ l. h x ∷ l) ih | false ↦ ap (λ l. h x ∷ l) jh ]

pub trying_below : (set : ℕ) (a : Air) (place : ℕ) → TryingBelow set a (tried_below set a place)
trying_below set a place = record {
  rows_stay = map_among (λ (c : Cell). c.offer) (cell_in_set set) marked (λ _. refl) a.here place;
  skies_stay = refl;
  hidden_stay = λ k c e h. among_hidden (cell_in_set set) marked a.here place k (ap (passes (cell_in_set set)) e ∙ h) ∙ e;
}
