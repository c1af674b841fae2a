use Rattle.std.proofs.Common.{◌≡◌, ◌-◌, ◌<◌, Bool, List, [], ◌∷◌, ◌++◌, length, take, drop, set, refl, arith}
use Rattle.std.proofs.lemmas.List.{set_at}
use Rattle.short_list.specs.Places.{shifted, stored}

pub shifted_is : {X : Type 0} (x : X) (xs : List X) → 0 < length xs → set (drop 1 xs ++ take 1 xs) (length xs - 1) x ≡ shifted x xs
shifted_is x [] h = absurd (omega arith)
shifted_is x (y ∷ ys) h = set_at ys y [] x (length (y ∷ ys) - 1) (omega arith)

pub stored_none : {X : Type 0} (like : X → X → Bool) (e x : X) (xs : List X) → length xs ≡ 0 → xs ≡ stored like e x xs
stored_none like e x [] h = refl
stored_none like e x (y ∷ ys) h = absurd (omega arith)
