-- One element changed among those that pass.
use Rattle.std.proofs.Common.{◌≡◌, ℕ, zero, suc, ◌≤◌, Bool, true, false, cond, List, [], ◌∷◌, length, take, filter, refl, ap, arith}
use Rattle.std.specs.List.{slice_get}
use Rattle.radio.specs.Airs.{changed}
use Rattle.mask_places.specs.Masks.{counted, changed_among}
use Rattle.mask_places.specs.Places.{pass_at}

-- it is the one that stands below
pub among_at : {X : Type 0} (p : X → Bool) (f : X → X) (xs : List X) (i : ℕ) → pass_at p xs i ≡ true → changed_among p f xs (length (filter p (take i xs))) ≡ changed f xs i
among_at p f [] i h = refl
among_at p f (x ∷ xs) zero h = rw h refl
among_at p f (x ∷ xs) (suc i) h =
    let ih = among_at p f xs i h in
    elim (p x) as (λ v. cond v (counted (f x ∷ xs) (λ n. x ∷ changed_among p f xs n) (length (cond v (x ∷ filter p (take i xs)) (filter p (take i xs)))))
    (x ∷ changed_among p f xs (length (cond v (x ∷ filter p (take i xs)) (filter p (take i xs))))) ≡ x ∷ changed f xs i)
    [ true ↦ ap (λ l. x ∷ l) ih | false ↦ ap (λ l. x ∷ l) ih ]

pub among_past : {X : Type 0} (p : X → Bool) (f : X → X) (xs : List X) (n : ℕ) → length (filter p xs) ≤ n → changed_among p f xs n ≡ xs
among_past p f [] n h = refl
among_past p f (x ∷ xs) zero h =
    elim (p x) as (λ v. length (cond v (x ∷ filter p xs) (filter p xs)) ≤ 0 → cond v (f x ∷ xs) (x ∷ changed_among p f xs 0) ≡ x ∷ xs)
    [ true ↦ λ k. absurd (omega arith) | false ↦ λ k. ap (λ l. x ∷ l) (among_past p f xs 0 k) ] h
among_past p f (x ∷ xs) (suc n) h =
    elim (p x) as (λ v. length (cond v (x ∷ filter p xs) (filter p xs)) ≤ suc n → cond v (x ∷ changed_among p f xs n) (x ∷ changed_among p f xs (suc n)) ≡ x ∷ xs)
    [ true ↦ λ k. ap (λ l. x ∷ l) (among_past p f xs n (omega arith)) | false ↦ λ k. ap (λ l. x ∷ l) (among_past p f xs (suc n) k) ] h

-- it is the one that is shown at the place
pub kept_among : {X : Type 0} (p : X → Bool) (f : X → X) → ((x : X) → p (f x) ≡ p x) → (xs : List X) (n : ℕ) → filter p (changed_among p f xs n) ≡ changed f (filter p xs) n
kept_among p f s [] n = refl
kept_among p f s (x ∷ xs) zero =
    let ih = kept_among p f s xs 0 in
    elim (p x) as (λ v. p x ≡ v → filter p (cond v (f x ∷ xs) (x ∷ changed_among p f xs 0)) ≡ changed f (cond v (x ∷ filter p xs) (filter p xs)) 0)
    [ true ↦ λ t. rw (s x, t) refl | false ↦ λ t. rw t ih ] refl
kept_among p f s (x ∷ xs) (suc n) =
    let ih = kept_among p f s xs n in let jh = kept_among p f s xs (suc n) in
    elim (p x) as (λ v. p x ≡ v → filter p (cond v (x ∷ changed_among p f xs n) (x ∷ changed_among p f xs (suc n))) ≡ changed f (cond v (x ∷ filter p xs) (filter p xs)) (suc n))
    [ true ↦ λ t. rw t (ap (λ l. x ∷ l) ih) | false ↦ λ t. rw t jh ] refl

-- what is hidden stays
pub among_hidden : {X : Type 0} (p : X → Bool) (f : X → X) (xs : List X) (n k : ℕ) → pass_at p xs k ≡ false → slice_get (changed_among p f xs n) k ≡ slice_get xs k
among_hidden p f [] n k h = refl
among_hidden p f (x ∷ xs) n zero h = rw h refl
among_hidden p f (x ∷ xs) zero (suc k) h =
    let ih = among_hidden p f xs 0 k h in
    elim (p x) as (λ v. slice_get (cond v (f x ∷ xs) (x ∷ changed_among p f xs 0)) (suc k) ≡ slice_get xs k) [ true ↦ refl | false ↦ ih ]
among_hidden p f (x ∷ xs) (suc n) (suc k) h =
    let ih = among_hidden p f xs n k h in let jh = among_hidden p f xs (suc n) k h in
    elim (p x) as (λ v. slice_get (cond v (x ∷ changed_among p f xs n) (x ∷ changed_among p f xs (suc n))) (suc k) ≡ slice_get xs k) [ true ↦ ih | false ↦ jh ]
