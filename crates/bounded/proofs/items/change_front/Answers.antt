use Rattle.std.proofs.Common.{◌≡◌, ◌≤◌, ◌++◌, List, ℕ, length, take, drop, refl, arith, rules}
use Rattle.std.proofs.lemmas.List.{length-take-le}
use Rattle.std.proofs.Math.Seq.{take-append_seam}
use Rattle.bounded.proofs.items.change_front.Goals as goal

-- What was written in the front is the front.
front : {T : Type 0} (n : ℕ) (xs ys : List T) → n ≤ length xs → length ys ≡ length (take n xs) → ys ≡ take n (ys ++ drop n xs)
front n xs ys small e = grind (arith, length-take-le n xs, take-append_seam ys (drop n xs))

pub returns : goal.returns
returns g c = record {
  shown = _;
  shows = refl;
  left = _;
  met = c.change.ensures;
  leaves = front _ _ _ (search rules) c.change.auto.arg2;
}
