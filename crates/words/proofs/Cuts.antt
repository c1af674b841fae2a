-- The first line of a text, and the lines behind it.
use Rattle.std.proofs.Common.{◌≡◌, ℕ, ◌+◌, ◌<◌, Bool, true, false, cond, not, eqb, List, [], ◌∷◌, length, take, drop, refl, add-one, one-add, arith}
use Rattle.std.specs.List.{prefix_len}
use Rattle.words.specs.Lines.{with_first, lines_of}
use Rattle.words.specs.Words.{of_run}
use Rattle.words.specs.declared.runs.Run.TheVariants.{Line}

-- how long the first line is
abbrev pub first_length : List ℕ → ℕ
first_length s = prefix_len (of_run Line) s

-- behind n bytes and the end of the line
abbrev Cut : ℕ → List ℕ → List (List ℕ) → Type 0
Cut n s ls = ls ≡ take n s ∷ lines_of (drop (n + 1) s)

further : (b : ℕ) (bs : List ℕ) (n : ℕ) → Cut n bs (lines_of bs) → Cut (1 + n) (b ∷ bs) (with_first b (lines_of bs))
further b bs n h = rw (one-add, add-one, h) (rw add-one refl)

by_end : (b : ℕ) (bs : List ℕ) → Cut (1 + first_length bs) (b ∷ bs) (with_first b (lines_of bs)) → Cut (first_length (b ∷ bs)) (b ∷ bs) (lines_of (b ∷ bs))
by_end b bs h =
    elim (eqb b 10) as (λ (v : Bool). Cut (cond (not v) (1 + first_length bs) 0) (b ∷ bs) (cond v ([] ∷ lines_of bs) (with_first b (lines_of bs))))
    [ true ↦ refl | false ↦ h ]

pub lines_more : (s : List ℕ) → 0 < length s → lines_of s ≡ take (first_length s) s ∷ lines_of (drop (first_length s + 1) s)
lines_more [] h = absurd (omega arith)
lines_more (b ∷ []) h = by_end b [] refl
lines_more (b ∷ x ∷ xs) h = by_end b (x ∷ xs) (further b (x ∷ xs) (first_length (x ∷ xs)) (lines_more (x ∷ xs) (omega arith)))
