-- Joining in a reader's words. `nth rows k` is the row at the place k, or `None` where there is none.
use Rattle.std.specs.Prelude.{◌≡◌, ℕ, ◌+◌, ◌<◌, ◌≤◌, max, List, [], length, None, slice_index_or}
use Rattle.std.specs.List.{slice_get}
use Rattle.radio.specs.Airs.{Air}

-- one sky of the first radio, of the second, and of both; rows alone, or rows with answers and marks
pub record Joining {X : Type 0} (a b both : List X) : Type 0 where
  -- the first rows are the first radio's, in their order
  pub first_rows : (k : ℕ) → k < 20 → k < length a → slice_get both k ≡ slice_get a k
  -- then come the second's
  pub then_second : (k : ℕ) → length a + k < 20 → slice_get both (length a + k) ≡ slice_get b k
  -- at most twenty in all
  pub at_most_twenty : length both ≤ 20
  pub none_beyond : (k : ℕ) → 20 ≤ k → slice_get both k ≡ None

-- the skies to come of the first radio, of the second, and of both; `get_or s k []` is the k-th, and empty where there is none
pub record JoiningSkies {X : Type 0} (s t both : List (List X)) : Type 0 where
  -- there is a sky to come as long as either has one
  pub as_many : length both ≡ max (length s) (length t)
  pub each_joined : (k : ℕ) → Joining (slice_index_or s k []) (slice_index_or t k []) (slice_index_or both k [])

-- the two radios before and after a try through both
pub record TryingBoth (place : ℕ) (first second : Air) (first-after second-after : Air) : Type 0 where
  -- past the twentieth place nothing is tried
  pub none_beyond : 20 ≤ place → (first-after ≡ first) × (second-after ≡ second)
  -- at most one of the two is touched
  pub second_stays : place < length first.here → second-after ≡ second
  pub first_stays : length first.here ≤ place → first-after ≡ first
  -- no row past the twentieth changes its mark
  pub hidden_stay : (k : ℕ) → 20 ≤ length first.here + k → slice_get second-after.here k ≡ slice_get second.here k
