-- What passes of a list: how many, where each stands, and the same of a map and sky by sky.
use Rattle.std.proofs.Common.{◌≡◌, ℕ, zero, suc, ◌+◌, ◌≤◌, Bool, true, false, cond, List, [], ◌∷◌, map, length, take, filter, refl, ap, add-one, arith}
use Rattle.std.specs.List.{slice_get}
use Rattle.std.proofs.lemmas.List.{take_all}
use Rattle.radio.specs.Skies.{front, later}
use Rattle.radio.specs.Airs.{Offer, fresh}
use Rattle.mask_places.specs.Masks.{offer_in_set, cell_in_set}
use Rattle.mask_places.specs.Places.{pass_at}

kept_suc : {X : Type 0} (p : X → Bool) (xs : List X) (i : ℕ) → length (filter p (take (suc i) xs)) ≡ length (filter p (take i xs)) + cond (pass_at p xs i) 1 0
kept_suc p [] zero = refl
kept_suc p [] (suc i) = refl
kept_suc p (x ∷ xs) zero = elim (p x) as (λ v. length (cond v (x ∷ []) []) ≡ 0 + cond v 1 0) [ true ↦ refl | false ↦ refl ]
kept_suc p (x ∷ xs) (suc i) =
    let ih = kept_suc p xs i in
    elim (p x) as (λ v. length (cond v (x ∷ filter p (take (suc i) xs)) (filter p (take (suc i) xs))) ≡ length (cond v (x ∷ filter p (take i xs)) (filter p (take i xs))) + cond (pass_at p xs i) 1 0) [ true ↦ omega arith | false ↦ ih ]

-- a loop that counts what passes: one turn
pub kept_more : {X : Type 0} (p : X → Bool) (xs : List X) (i : ℕ) → length (filter p (take (i + 1) xs)) ≡ length (filter p (take i xs)) + cond (pass_at p xs i) 1 0
kept_more p xs i = rw add-one (kept_suc p xs i)

-- and its end
pub kept_all : {X : Type 0} (p : X → Bool) (xs : List X) (i : ℕ) → length xs ≤ i → length (filter p (take i xs)) ≡ length (filter p xs)
kept_all p xs i h = ap (λ l. length (filter p l)) (take_all i xs h)

pub nth_kept : {X : Type 0} (p : X → Bool) (xs : List X) (i : ℕ) → pass_at p xs i ≡ true → slice_get (filter p xs) (length (filter p (take i xs))) ≡ slice_get xs i
nth_kept p [] i h = refl
nth_kept p (x ∷ xs) zero h = rw h refl
nth_kept p (x ∷ xs) (suc i) h =
    let ih = nth_kept p xs i h in
    elim (p x) as (λ v. slice_get (cond v (x ∷ filter p xs) (filter p xs)) (length (cond v (x ∷ filter p (take i xs)) (filter p (take i xs)))) ≡ slice_get xs i) [ true ↦ ih | false ↦ ih ]

pub kept_map : {X Y : Type 0} (p : Y → Bool) (f : X → Y) (xs : List X) → filter p (map f xs) ≡ map f (filter (λ x. p (f x)) xs)
kept_map p f [] = refl
kept_map p f (x ∷ xs) =
    let ih = kept_map p f xs in
    elim (p (f x)) as (λ v. cond v (f x ∷ filter p (map f xs)) (filter p (map f xs)) ≡ map f (cond v (x ∷ filter (λ y. p (f y)) xs) (filter (λ y. p (f y)) xs))) [ true ↦ ap (λ l. f x ∷ l) ih | false ↦ ih ]

pub front_kept : (s : ℕ) (t : List (List Offer)) → filter (cell_in_set s) (map fresh (front t)) ≡ map fresh (front (map (filter (offer_in_set s)) t))
front_kept s [] = refl
front_kept s (a ∷ t) = kept_map (cell_in_set s) fresh a

pub later_kept : {X : Type 0} (p : X → Bool) (t : List (List X)) → later (map (filter p) t) ≡ map (filter p) (later t)
later_kept p [] = refl
later_kept p (a ∷ t) = refl
