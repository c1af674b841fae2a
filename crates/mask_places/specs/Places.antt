-- Where a row of a masked sky stands below.
use Rattle.std.specs.Prelude.{◌≡◌, ℕ, ◌≤◌, Bool, true, false, List, length, take, Some, None, filter, Option}
use Rattle.std.specs.List.{slice_get}

abbrev pub passes : {X : Type 0} → (X → Bool) → Option X → Bool
passes p None = false
passes p (Some x) = p x

-- whether there is an element at i, and it passes
abbrev pub pass_at : {X : Type 0} → (X → Bool) → List X → ℕ → Bool
pass_at p xs i = passes p (slice_get xs i)

-- where in xs the element stands that is at a place among those that pass: so many pass before it, and it passes
abbrev pub Spot : {X : Type 0} → (X → Bool) → List X → ℕ → Option ℕ → Type 0
Spot p xs place None = length (filter p xs) ≤ place
Spot p xs place (Some i) = (length (filter p (take i xs)) ≡ place) × (pass_at p xs i ≡ true)
