-- Masking in a reader's words.
use Rattle.std.specs.Prelude.{◌≡◌, ℕ, Bool, true, false, List, [], ◌∷◌, map, length, Some, slice_index_or}
use Rattle.std.specs.List.{slice_get}
use Rattle.radio.specs.Airs.{Air, Cell}
use Rattle.mask_places.specs.Masks.{cell_in_set}

-- going through the rows below in their order, one in the set is shown next, and one outside it is not shown
pub data Shows {X : Type 0} (p : X → Bool) : List X → List X → Type 0 where
  over : Shows p [] []
  shown : {x : X} {below seen : List X} → p x ≡ true → Shows p below seen → Shows p (x ∷ below) (x ∷ seen)
  hidden : {x : X} {below seen : List X} → p x ≡ false → Shows p below seen → Shows p (x ∷ below) seen

-- the skies to come: as many as below, each of them masked; `get_or s k []` is the k-th
pub record ShowsEach {X : Type 0} (p : X → Bool) (below seen : List (List X)) : Type 0 where
  pub as_many : length seen ≡ length below
  pub each_masked : (k : ℕ) → Shows p (slice_index_or below k []) (slice_index_or seen k [])

-- the radio below before and after a try through the mask
pub record TryingBelow (set : ℕ) (before after : Air) : Type 0 where
  -- no row, no answer and no sky to come changes
  pub rows_stay : map (λ c. c.offer) after.here ≡ map (λ c. c.offer) before.here
  pub skies_stay : after.coming ≡ before.coming
  -- no hidden row changes its mark
  pub hidden_stay : (k : ℕ) (c : Cell) → slice_get before.here k ≡ Some c → cell_in_set set c ≡ false → slice_get after.here k ≡ Some c
