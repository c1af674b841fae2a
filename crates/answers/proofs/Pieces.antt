-- A text that is written piece by piece, one for each element of a list.
use Rattle.std.proofs.Common.{◌≡◌, ℕ, ◌+◌, ◌<◌, ◌≤◌, List, ◌++◌, length, get_or, take, sym, ap, ◌∙◌}
use Rattle.std.specs.List.{flat_map}
use Rattle.std.proofs.lemmas.List.{take_more, take_all, flat_map_more}

module _ {X : Type 0} (f : X → List ℕ) (old : List ℕ) (xs : List X) where
  pub pieces_more : (i : ℕ) (d : X) → i < length xs → (old ++ flat_map f (take i xs)) ++ f (get_or xs i d) ≡ old ++ flat_map f (take (i + 1) xs)
  pieces_more i d h = flat_map_more f old (take i xs) (get_or xs i d) ∙ ap (λ (ys : List X). old ++ flat_map f ys) (sym (take_more xs i d h))

  pub pieces_all : (i : ℕ) → length xs ≤ i → old ++ flat_map f (take i xs) ≡ old ++ flat_map f xs
  pieces_all i h = ap (λ (ys : List X). old ++ flat_map f ys) (take_all i xs h)
