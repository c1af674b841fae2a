-- A text has at most as many lines as bytes.
use Rattle.std.proofs.Common.{ℕ, ◌+◌, ◌≤◌, true, false, Bool, List, [], ◌∷◌, length, cond, arith}
use Rattle.words.specs.Lines.{lines_of, with_first}

with_first_count : (b n : ℕ) (ls : List (List ℕ)) → length ls ≤ n → length (with_first b ls) ≤ n + 1
with_first_count b n [] h = omega arith
with_first_count b n (l ∷ ls) h = omega (arith, h)

either_count : (t : Bool) (n : ℕ) (xs ys : List (List ℕ)) → length xs ≤ n → length ys ≤ n → length (cond t xs ys) ≤ n
either_count true n xs ys h k = h
either_count false n xs ys h k = k

pub lines_count : (bs : List ℕ) → length (lines_of bs) ≤ length bs
lines_count [] = omega arith
lines_count (b ∷ bs) =
    let k : length (lines_of (b ∷ bs)) ≤ length bs + 1 =
    either_count _ (length bs + 1) ([] ∷ lines_of bs) (with_first b (lines_of bs)) (omega (arith, lines_count bs)) (with_first_count b (length bs) (lines_of bs) (lines_count bs)) in
    omega (arith, k)
