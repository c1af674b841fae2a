-- One element changed: what it does to each place, to a map and to a length.
use Rattle.std.proofs.Common.{◌≡◌, ℕ, zero, suc, ◌≤◌, List, [], ◌∷◌, map, length, None, refl, ap, arith}
use Rattle.std.specs.Option.{option_map}
use Rattle.std.specs.List.{slice_get}
use Rattle.radio.specs.Airs.{changed}

pub changed_past : {X : Type 0} (f : X → X) (xs : List X) (i : ℕ) → length xs ≤ i → changed f xs i ≡ xs
changed_past f [] i h = refl
changed_past f (x ∷ xs) zero h = absurd (omega arith)
changed_past f (x ∷ xs) (suc i) h = ap (λ l. x ∷ l) (changed_past f xs i (omega arith))

pub changed_at : {X : Type 0} (f : X → X) (xs : List X) (i : ℕ) → slice_get (changed f xs i) i ≡ option_map f (slice_get xs i)
changed_at f [] i = refl
changed_at f (x ∷ xs) zero = refl
changed_at f (x ∷ xs) (suc i) = changed_at f xs i

pub changed_other : {X : Type 0} (f : X → X) (xs : List X) (i k : ℕ) → (k ≡ i → ⊥) → slice_get (changed f xs i) k ≡ slice_get xs k
changed_other f [] i k h = refl
changed_other f (x ∷ xs) zero zero h = absurd (h refl)
changed_other f (x ∷ xs) zero (suc k) h = refl
changed_other f (x ∷ xs) (suc i) zero h = refl
changed_other f (x ∷ xs) (suc i) (suc k) h = changed_other f xs i k (λ e. h (ap suc e))

-- a part that the change leaves alone
pub map_changed : {X Y : Type 0} (g : X → Y) (f : X → X) → ((x : X) → g (f x) ≡ g x) → (xs : List X) (i : ℕ) → map g (changed f xs i) ≡ map g xs
map_changed g f s [] i = refl
map_changed g f s (x ∷ xs) zero = ap (λ y. y ∷ map g xs) (s x)
map_changed g f s (x ∷ xs) (suc i) = ap (λ l. g x ∷ l) (map_changed g f s xs i)

pub changed_none : {X : Type 0} (f : X → X) (xs : List X) (i : ℕ) → slice_get xs i ≡ None → changed f xs i ≡ xs
changed_none f [] i h = refl
changed_none f (x ∷ xs) zero h = let z : ◌≡◌ {A = ℕ} 0 1 = cc in absurd (omega arith)
changed_none f (x ∷ xs) (suc i) h = ap (λ l. x ∷ l) (changed_none f xs i h)
