-- The draw, as a relation and as a list.
use Rattle.std.specs.Prelude.{◌≡◌, ℕ, zero, suc, ◌/◌, ◌%◌, ◌<◌, List, [], ◌∷◌, length, pos, slice_index_or}
use Rattle.std.specs.List.{remove}
use Rattle.ranking.specs.declared.key.Key.{Key}

-- The draw d takes the keys xs in the order ys: with m left, the next is the one at d mod m, and d becomes d div m.
abbrev pub Drawn : ℕ → List Key → List Key → Type 0
Drawn d xs [] = length xs ≡ 0
Drawn d xs (y ∷ ys) = (0 < length xs) × ((e : Key) → slice_index_or xs (d % length xs) e ≡ y) × Drawn (d / length xs) (remove xs (d % length xs)) ys

-- what stands where a list has no key
abbrev pub no_key : Key
no_key = record { class = 0; position = 0; rank = 0; level = record { 0 = pos 0 }; place = 0 }

-- The first n keys that the draw takes.
abbrev pub draw_order : ℕ → ℕ → List Key → List Key
draw_order zero d xs = []
draw_order (suc n) d xs = slice_index_or xs (d % length xs) no_key ∷ draw_order n (d / length xs) (remove xs (d % length xs))
