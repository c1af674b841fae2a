-- The skies of a radio seen through a set of technologies.
use Rattle.std.specs.Prelude.{ℕ, zero, suc, Bool, cond, List, [], ◌∷◌, map, filter}
use Rattle.plmn.specs.declared.row.Row.{Row}
use Rattle.plmn.specs.Technologies.{has_number}
use Rattle.radio.specs.Skies.{Sky}
use Rattle.radio.specs.Airs.{Air, Cell, Offer, marked}

-- the technology of the row is in the set
abbrev pub in_set : ℕ → Row → Bool
in_set set r = has_number set r.technology

abbrev pub offer_in_set : ℕ → Offer → Bool
offer_in_set set o = in_set set o.row

abbrev pub cell_in_set : ℕ → Cell → Bool
cell_in_set set c = offer_in_set set c.offer

-- only the rows in the set are shown
abbrev pub masked_sky : ℕ → Sky → Sky
masked_sky set s = record { here = filter (in_set set) s.here; coming = map (filter (in_set set)) s.coming }

-- answers and marks are kept
abbrev pub masked_air : ℕ → Air → Air
masked_air set a = record { here = filter (cell_in_set set) a.here; coming = map (filter (offer_in_set set)) a.coming }

-- the one at 0, the others by how far they are from 1
abbrev pub counted : {Y : Type 0} → Y → (ℕ → Y) → ℕ → Y
counted y rest zero = y
counted y rest (suc n) = rest n

-- the element changed that is at a place among those that pass
abbrev pub changed_among : {X : Type 0} → (X → Bool) → (X → X) → List X → ℕ → List X
changed_among p f [] place = []
changed_among p f (x ∷ xs) place = cond (p x) (counted (f x ∷ xs) (λ n. x ∷ changed_among p f xs n) place) (x ∷ changed_among p f xs place)

-- what a try of the row at a place of the masked sky leaves of the radio below
abbrev pub tried_below : ℕ → Air → ℕ → Air
tried_below set a place = record { here = changed_among (cell_in_set set) marked a.here place; coming = a.coming }

-- what a radio means as a finder and as a registrar
pub record Both : Type 0 where
  pub sky : Sky
  pub air : Air
