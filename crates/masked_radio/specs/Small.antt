-- Masked skies have at most twenty rows, and their acceptances at most five codes, since those below do. It stands here since the
-- radio's meaning names it.
use Rattle.std.specs.Prelude.{ℕ, suc, ◌≤◌, Bool, true, false, cond, List, [], ◌∷◌, map, length, filter}
use Rattle.std.proofs.Common.{arith}
use Rattle.std.specs.List.{AllByRecursion}
use Rattle.std.proofs.ByRecursion.{all_kept_by}
use Rattle.radio.specs.Skies.{Sky, Few, SmallSky}
use Rattle.radio.specs.Airs.{Air, Brief, SmallAir}
use Rattle.mask_places.specs.Masks.{in_set, offer_in_set, cell_in_set, masked_sky, masked_air}

pub length_kept : {X : Type 0} (p : X → Bool) (xs : List X) → length (filter p xs) ≤ length xs
length_kept p [] = omega arith
length_kept p (x ∷ xs) =
    let ih = length_kept p xs in
    elim (p x) as (λ v. length (cond v (x ∷ filter p xs) (filter p xs)) ≤ suc (length xs)) [ true ↦ omega arith | false ↦ omega arith ]

few_kept : {X : Type 0} (p : X → Bool) (xs : List X) → Few xs → Few (filter p xs)
few_kept p xs h = let l = length_kept p xs in omega arith

few_kept_coming : {X : Type 0} (p : X → Bool) (s : List (List X)) → AllByRecursion Few s → AllByRecursion Few (map (filter p) s)
few_kept_coming p [] h = tt
few_kept_coming p (xs ∷ s) h = (few_kept p xs h.0, few_kept_coming p s h.1)

all_kept_coming : {X : Type 0} (P : X → Type 0) (p : X → Bool) (s : List (List X)) → AllByRecursion (AllByRecursion P) s → AllByRecursion (AllByRecursion P) (map (filter p) s)
all_kept_coming P p [] h = tt
all_kept_coming P p (xs ∷ s) h = (all_kept_by p P xs h.0, all_kept_coming P p s h.1)

pub masked_small : (set : ℕ) (s : Sky) → SmallSky s → SmallSky (masked_sky set s)
masked_small set s h = record { few = few_kept (in_set set) s.here h.few; few_coming = few_kept_coming (in_set set) s.coming h.few_coming }

pub masked_brief : (set : ℕ) (a : Air) → SmallAir a → SmallAir (masked_air set a)
masked_brief set a h = record {
  few = few_kept (cell_in_set set) a.here h.few;
  few_coming = few_kept_coming (offer_in_set set) a.coming h.few_coming;
  brief = all_kept_by (cell_in_set set) (λ c. Brief c.offer) a.here h.brief;
  brief_coming = all_kept_coming Brief (offer_in_set set) a.coming h.brief_coming;
}
