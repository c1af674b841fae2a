-- The draw as a relation is the draw as a list.
use Rattle.std.proofs.Common.{◌≡◌, ℕ, zero, suc, ◌+◌, ◌/◌, ◌%◌, ◌<◌, List, [], ◌∷◌, length, get_or, sym, ap, ◌∙◌, mod-lt, arith}
use Rattle.std.specs.List.{remove}
use Rattle.std.proofs.lemmas.List.Edits.{length-remove}
use Rattle.std.proofs.lemmas.List.{get_or_default}
use Rattle.ranking.specs.Draws.{Drawn, draw_order, no_key}
use Rattle.ranking.specs.declared.key.Key.{Key}

pub drawn_is : (d : ℕ) (xs ys : List Key) → Drawn d xs ys → ys ≡ draw_order (length xs) d xs
drawn_is d xs [] h = sym (ap (λ (n : ℕ). draw_order n d xs) h)
drawn_is d xs (y ∷ ys) h =
    let i : ℕ = d % length xs in
    let m : ℕ = length (remove xs i) in
    let some : 0 < length xs = h.0 in
    let l : m + 1 ≡ length xs = length-remove xs i (mod-lt d some) in
    let e : length xs ≡ suc m = omega arith in
    let a : y ≡ get_or xs i no_key = sym (h.1 no_key) in
    let b : ys ≡ draw_order m (d / length xs) (remove xs i) = drawn_is (d / length xs) (remove xs i) ys h.2 in
    ap (λ (z : Key). z ∷ ys) a ∙ ap (λ (zs : List Key). get_or xs i no_key ∷ zs) b ∙ sym (ap (λ (n : ℕ). draw_order n d xs) e)

pub list_is_drawn : (n d : ℕ) (xs : List Key) → length xs ≡ n → Drawn d xs (draw_order n d xs)
list_is_drawn zero d xs e = e
list_is_drawn (suc n) d xs e =
    let i : ℕ = d % length xs in
    let some : 0 < length xs = omega arith in
    let l : length (remove xs i) + 1 ≡ length xs = length-remove xs i (mod-lt d some) in
    (some, (λ f. get_or_default xs i f no_key (mod-lt d some)), list_is_drawn n (d / length xs) (remove xs i) (omega arith))
