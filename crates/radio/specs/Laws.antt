-- Searching and trying in a reader's words. `nth rows k` is the row at the place k, or `None` where there is none.
use Rattle.std.specs.Prelude.{◌≡◌, ℕ, ◌≤◌, true, false, List, [], ◌∷◌, map, length, Some, ◌≢◌}
use Rattle.std.specs.List.{AllByRecursion, slice_get}
use Rattle.plmn.specs.declared.row.Row.{Row}
use Rattle.radio.specs.Skies.{Sky}
use Rattle.radio.specs.Airs.{Air, Cell, Offer, row_in}

pub record Searching (before after : Sky) : Type 0 where
  -- the first sky to come is the sky now, and the others are still to come
  pub takes_the_first : (s : List Row) (t : List (List Row)) → before.coming ≡ s ∷ t → (after.here ≡ s) × (after.coming ≡ t)
  -- where none waits the sky now is empty
  pub empties : before.coming ≡ [] → (after.here ≡ []) × (after.coming ≡ [])

pub record Seeking (before after : Air) : Type 0 where
  -- the rows of the first sky to come are in the sky now, with their answers
  pub takes_the_first : (s : List Offer) (t : List (List Offer)) → before.coming ≡ s ∷ t → (map (λ c. c.offer) after.here ≡ s) × (after.coming ≡ t)
  pub empties : before.coming ≡ [] → (after.here ≡ []) × (after.coming ≡ [])
  -- no row is marked
  pub clears_marks : AllByRecursion (λ c. c.tried ≡ false) after.here

pub record Trying (place : ℕ) (before after : Air) : Type 0 where
  -- no row, no answer and no sky to come changes
  pub rows_stay : map row_in after.here ≡ map row_in before.here
  pub answers_stay : map (λ c. c.offer.reply) after.here ≡ map (λ c. c.offer.reply) before.here
  pub skies_stay : after.coming ≡ before.coming
  -- the row at the place is marked
  pub marks_it : (c : Cell) → slice_get after.here place ≡ Some c → c.tried ≡ true
  -- no other mark changes
  pub others_stay : (k : ℕ) → (k ≢ place) → slice_get after.here k ≡ slice_get before.here k
  -- with no row at the place nothing changes
  pub nothing_there : length before.here ≤ place → after ≡ before
