-- Which rows stand in which sky, in a reader's words. Skies, places and rows count from 0.
use Rattle.std.specs.Prelude.{◌≡◌, ℕ, ◌+◌, ◌*◌, ◌<◌, ◌≤◌, true, List, [], length, Some, None, Option, slice_index_or}
use Rattle.std.specs.List.{slice_get}
use Rattle.table_rows.specs.declared.row.TableRow.{TableRow}
use Rattle.table_rows.specs.Tables.{named}

-- a row stands there, and its code is not the empty one
abbrev pub Named : Option TableRow → Type 0
Named None = ⊥
Named (Some e) = named e ≡ true

-- the rows of the k-th sky
abbrev pub sky_at : {X : Type 0} → List (List X) → ℕ → List X
sky_at s k = slice_index_or s k []

pub record Standing (table : List TableRow) (s : List (List TableRow)) : Type 0 where
  -- there is a k-th sky where the table has the row 20 k, and that is one of the first 10,000
  pub has_sky : (k : ℕ) → 20 * k < 10000 → 20 * k < length table → k < length s
  pub no_other_sky : (k : ℕ) → k < length s → (20 * k < 10000) × (20 * k < length table)
  -- at place i of the k-th sky stands the row 20 k + i of the table, where no empty code comes before it in its block
  pub has_row : (k i : ℕ) (e : TableRow) → i < 20 → 20 * k + i < 10000 → slice_get table (20 * k + i) ≡ Some e →
      ((j : ℕ) → j ≤ i → Named (slice_get table (20 * k + j))) → slice_get (sky_at s k) i ≡ Some e
  -- and no other row
  pub no_other_row : (k i : ℕ) (e : TableRow) → slice_get (sky_at s k) i ≡ Some e →
      (i < 20) × (20 * k + i < 10000) × (slice_get table (20 * k + i) ≡ Some e) × ((j : ℕ) → j ≤ i → Named (slice_get table (20 * k + j)))
