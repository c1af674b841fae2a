-- The lines of a text.
use Rattle.std.specs.Prelude.{ℕ, ◌-◌, cond, ◌&&◌, List, [], ◌∷◌, length, take, ◌==◌, nat_lt, slice_index}

abbrev pub with_first : ℕ → List (List ℕ) → List (List ℕ)
with_first b [] = (b ∷ []) ∷ []
with_first b (l ∷ ls) = (b ∷ l) ∷ ls

-- each line ends at byte 10, the last one at the latest where the text does
abbrev pub lines_of : List ℕ → List (List ℕ)
lines_of [] = []
lines_of (b ∷ bs) = cond (b == 10) ([] ∷ lines_of bs) (with_first b (lines_of bs))

-- a byte 13 at a line's end does not count
abbrev pub unreturned : List ℕ → List ℕ
unreturned line = cond (nat_lt 0 (length line) && slice_index line (length line - 1) == 13) (take (length line - 1) line) line
