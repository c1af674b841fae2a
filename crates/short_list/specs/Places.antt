-- What asking, storing and removing mean on a list of places. `like` tells whether two elements are the same, and
-- `blank` is the element of an empty place.
use Rattle.std.specs.Prelude.{ℕ, Bool, cond, List, [], ◌∷◌, ◌++◌, map, Some, None, Ok, Err, Option, Result, slice_set}
use Rattle.std.specs.List.{list_any, position}
use Rattle.refusal.specs.declared.Refusal.{Refusal}
use Rattle.refusal.specs.declared.Refusal.TheVariants.{NoPlaces}

-- some place holds x
abbrev pub held_in : {X : Type 0} → (X → X → Bool) → X → List X → Bool
held_in like x xs = list_any (λ y. like y x) xs

-- the first place that holds x
abbrev pub first_of : {X : Type 0} → (X → X → Bool) → X → List X → Option ℕ
first_of like x xs = position (λ y. like y x) xs

-- the list shifts down by one: its first element is lost, and x stands last
abbrev pub shifted : {X : Type 0} → X → List X → List X
shifted x [] = []
shifted x (y ∷ ys) = ys ++ x ∷ []

-- the first empty place takes x; where there is none the list shifts
abbrev pub placed : {X : Type 0} → X → List X → Option ℕ → List X
placed x xs (Some i) = slice_set xs i x
placed x xs None = shifted x xs

-- the places after x is stored
abbrev pub stored : {X : Type 0} → (X → X → Bool) → X → X → List X → List X
stored like blank x xs = cond (held_in like x xs) xs (placed x xs (first_of like blank xs))

-- storing is refused where there is no place
abbrev pub store_answer : {X : Type 0} → List X → Result (Unit {0}) Refusal
store_answer [] = Err NoPlaces
store_answer (x ∷ xs) = Ok tt

-- what a place holds after x is removed
abbrev pub emptied : {X : Type 0} → (X → X → Bool) → X → X → X → X
emptied like blank x y = cond (like y x) blank y

-- the places after x is removed
abbrev pub removed : {X : Type 0} → (X → X → Bool) → X → X → List X → List X
removed like blank x xs = map (emptied like blank x) xs
