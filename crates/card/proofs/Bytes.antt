-- What a write to a part of a file's bytes leaves.
use Rattle.std.proofs.Common.{◌≡◌, ℕ, ◌+◌, ◌≤◌, List, length}
use borrow.Rule.Slice.PartMut.{put_mid}
use Rattle.std.proofs.lemmas.List.{drop-drop}
use Rattle.std.proofs.lemmas.Bool.{le-leb}
use Rattle.card.specs.Files.{patched}

pub patched_is : (a k : ℕ) (bs ys xs : List ℕ) → k ≡ length bs → ys ≡ bs → a + length bs ≤ length xs → put_mid a k xs ys ≡ patched a bs xs
patched_is a k bs ys xs ek ey h = let d = drop-drop k a xs in rw (le-leb (a + length bs) (length xs) h) (cc)
