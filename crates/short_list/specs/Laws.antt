-- Storing and removing in a reader's words. `before` and `after` are the places, and `get_or before k d` is the element
-- at the place k.
use Rattle.std.specs.Prelude.{◌≡◌, ℕ, ◌+◌, ◌<◌, ◌⊎◌, List, length, ◌≢◌, slice_index_or}

-- x stands at some place
abbrev pub Held : {X : Type 0} → X → List X → Type 0
Held x xs = (k : ℕ) × (k < length xs) × (slice_index_or xs k x ≡ x)

-- every place holds something
abbrev pub Full : {X : Type 0} → X → List X → Type 0
Full blank xs = Held blank xs → ⊥

pub record Storing {X : Type 0} (blank x : X) (before after : List X) : Type 0 where
  -- the list has as many places as before
  pub places_stay : length after ≡ length before
  -- a list with places holds what was stored
  pub holds_it : 0 < length before → Held x after
  -- storing what is held changes nothing
  pub keeps_if_held : Held x before → after ≡ before
  -- with an empty place, one place that was empty takes x and every other place stays
  pub takes_first_empty : (Held x before → ⊥) → Held blank before →
      (i : ℕ) × (i < length before) × (slice_index_or before i x ≡ blank) × (slice_index_or after i blank ≡ x)
      × ((k : ℕ) (d : X) → k < i → slice_index_or before k d ≢ blank)
      × ((k : ℕ) (d : X) → (k ≢ i) → slice_index_or after k d ≡ slice_index_or before k d)
  -- without one, every element moves down by one place and x stands last
  pub shifts_if_full : (Held x before → ⊥) → Full blank before →
      ((k : ℕ) (d : X) → k + 1 < length before → slice_index_or after k d ≡ slice_index_or before (k + 1) d)
      × ((d : X) → 0 < length before → (n : ℕ) → n + 1 ≡ length before → slice_index_or after n d ≡ x)
  -- what is lost was the first element of a full list, or was no element but the blank of an empty place
  pub loses_only_first : (y : X) → Held y before → (Held y after → ⊥) → (y ≡ blank) ⊎ (Full blank before × (slice_index_or before 0 y ≡ y))

pub record Removing {X : Type 0} (blank x : X) (before after : List X) : Type 0 where
  -- the list has as many places as before
  pub places_stay : length after ≡ length before
  -- a place that held x is empty
  pub empties_its_places : (k : ℕ) (d : X) → k < length before → slice_index_or before k d ≡ x → slice_index_or after k d ≡ blank
  -- every other place stays
  pub keeps_the_rest : (k : ℕ) (d : X) → k < length before → (slice_index_or before k d ≢ x) → slice_index_or after k d ≡ slice_index_or before k d
  -- x is held no more, unless it stands for an empty place
  pub holds_it_no_more : (x ≢ blank) → Held x after → ⊥
