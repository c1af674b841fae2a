-- A radio's rows are its cells without answers and marks: what passes of the ones passes of the others.
use Rattle.std.proofs.Common.{◌≡◌, ℕ, zero, suc, Bool, List, [], ◌∷◌, map, length, take, Some, None, filter, Option, sym, refl, ap, ◌∙◌, arith}
use Rattle.std.proofs.lemmas.List.{length-map, take-map}
use Rattle.radio.specs.Skies.{Sky}
use Rattle.radio.specs.Airs.{Air, Offer, row_in, sky_of}
use Rattle.mask_places.specs.Masks.{in_set, offer_in_set, masked_sky, masked_air}
use Rattle.mask_places.specs.Places.{pass_at, Spot}
use Rattle.mask_places.proofs.Kept.{kept_map}

pub length_kept_map : {X Y : Type 0} (p : Y → Bool) (f : X → Y) (xs : List X) → length (filter p (map f xs)) ≡ length (filter (λ x. p (f x)) xs)
length_kept_map p f xs = ap length (kept_map p f xs) ∙ length-map (filter (λ x. p (f x)) xs) f

pass_map : {X Y : Type 0} (p : Y → Bool) (f : X → Y) (xs : List X) (i : ℕ) → pass_at p (map f xs) i ≡ pass_at (λ x. p (f x)) xs i
pass_map p f [] i = refl
pass_map p f (x ∷ xs) zero = refl
pass_map p f (x ∷ xs) (suc i) = pass_map p f xs i

pub spot_map : {X Y : Type 0} (p : Y → Bool) (f : X → Y) (xs : List X) (place : ℕ) (o : Option ℕ) → Spot p (map f xs) place o → Spot (λ x. p (f x)) xs place o
spot_map p f xs place None h = let l = length_kept_map p f xs in omega arith
spot_map p f xs place (Some i) h =
    (sym (length_kept_map p f (take i xs)) ∙ (ap (λ l. length (filter p l)) (sym (take-map f i xs)) ∙ h.0), sym (pass_map p f xs i) ∙ h.1)

-- the rows with answers and marks are the rows that the finder shows
kept_coming : (set : ℕ) (s : List (List Offer)) → map (map (λ o. o.row)) (map (filter (offer_in_set set)) s) ≡ map (filter (in_set set)) (map (map (λ o. o.row)) s)
kept_coming set [] = refl
kept_coming set (os ∷ s) = let a = kept_map (in_set set) (λ (o : Offer). o.row) os in let b = kept_coming set s in cc

pub masked_agree : (set : ℕ) (a : Air) (s : Sky) → sky_of a ≡ s → sky_of (masked_air set a) ≡ masked_sky set s
masked_agree set a s h =
    let p = kept_map (in_set set) row_in a.here in let q = kept_coming set a.coming in
    let e : sky_of (masked_air set a) ≡ masked_sky set (sky_of a) = cc in
    e ∙ ap (masked_sky set) h
