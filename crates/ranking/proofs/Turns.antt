-- One turn of the draw.
use Rattle.std.proofs.Common.{◌≡◌, ℕ, ◌+◌, ◌-◌, ◌/◌, ◌%◌, ◌<◌, List, [], ◌∷◌, ◌++◌, length, get_or, take, drop, sym, ap, ◌∙◌, subst, mod-lt, arith}
use borrow.Rule.Slice.PartMut.{put_mid}
use Rattle.std.specs.List.{remove}
use Rattle.std.proofs.lemmas.List.{take_at, drop_at, take_rest, drop_all, length-take-le, length-drop, append_assoc, append-nil, get_or_default, length_push}
use Rattle.ranking.specs.Draws.{Drawn, no_key}
use Rattle.ranking.specs.declared.key.Key.{Key}

split_take : (p zs : List Key) (y : Key) (t : ℕ) → length p ≡ t → take (t + 1) (p ++ (y ∷ zs)) ≡ p ++ (y ∷ [])
split_take p zs y t e =
    ap (take (t + 1)) (sym (append_assoc p (y ∷ []) zs)) ∙ take_at (p ++ (y ∷ [])) zs (t + 1) (length_push p y ∙ ap (λ (n : ℕ). n + 1) e)

split_drop : (p zs : List Key) (y : Key) (t : ℕ) → length p ≡ t → drop (t + 1) (p ++ (y ∷ zs)) ≡ zs
split_drop p zs y t e =
    ap (drop (t + 1)) (sym (append_assoc p (y ∷ []) zs)) ∙ drop_at (p ++ (y ∷ [])) zs (t + 1) (length_push p y ∙ ap (λ (n : ℕ). n + 1) e)

-- one turn, over what is left, L
turned : (xs L r : List Key) (t d : ℕ) (P : List Key → Type 0) → length (take t xs) ≡ t → 0 < length L
    → ((e : Key) → r ≡ get_or L (d % length L) e ∷ remove L (d % length L))
    → ((ys : List Key) → Drawn d L ys → P (take t xs ++ ys))
    → (ys : List Key) → Drawn (d / length L) (drop (t + 1) (take t xs ++ r)) ys → P (take (t + 1) (take t xs ++ r) ++ ys)
turned xs L r t d P len some e inv ys h =
    let y : Key = get_or L (d % length L) no_key in
    let zs : List Key = remove L (d % length L) in
    let q : take t xs ++ r ≡ take t xs ++ (y ∷ zs) = ap (λ (z : List Key). take t xs ++ z) (e no_key) in
    let a : drop (t + 1) (take t xs ++ r) ≡ zs = ap (drop (t + 1)) q ∙ split_drop (take t xs) zs y t len in
    let b : take (t + 1) (take t xs ++ r) ≡ take t xs ++ (y ∷ []) = ap (take (t + 1)) q ∙ split_take (take t xs) zs y t len in
    let g : P (take t xs ++ (y ∷ ys)) =
    inv (y ∷ ys) (some, (λ f. get_or_default L (d % length L) f no_key (mod-lt d some)), subst (λ (z : List Key). Drawn (d / length L) z ys) a h) in
    subst P (sym (ap (λ (z : List Key). z ++ ys) b ∙ append_assoc (take t xs) (y ∷ []) ys)) g

pub turn : (xs r : List Key) (t d q : ℕ) (P : List Key → Type 0) → t < length xs
    → q ≡ d / length (take (length xs - t) (drop t xs))
    → ((e : Key) → r ≡ get_or (take (length xs - t) (drop t xs)) (d % length (take (length xs - t) (drop t xs))) e ∷ remove (take (length xs - t) (drop t xs)) (d % length (take (length xs - t) (drop t xs))))
    → ((ys : List Key) → Drawn d (drop t xs) ys → P (take t xs ++ ys))
    → (ys : List Key) → Drawn q (drop (t + 1) (put_mid t (length xs - t) xs r)) ys → P (take (t + 1) (put_mid t (length xs - t) xs r) ++ ys)
turn xs r t d q P h eq e inv ys =
    let L : List Key = drop t xs in
    let m : length L ≡ length xs - t = length-drop t xs in
    let past : put_mid t (length xs - t) xs r ≡ take t xs ++ r =
    ap (λ (z : List Key). take t xs ++ (r ++ z)) (drop_all (length xs - t) L (omega arith)) ∙ ap (λ (z : List Key). take t xs ++ z) (append-nil r) in
    let w : take (length xs - t) L ≡ L = take_rest xs t in
    let f : (k : Key) → r ≡ get_or L (d % length L) k ∷ remove L (d % length L) =
    λ k. subst (λ (z : List Key). r ≡ get_or z (d % length z) k ∷ remove z (d % length z)) w (e k) in
    let g : q ≡ d / length L = eq ∙ ap (λ (z : List Key). d / length z) w in
    rw (past, g) (turned xs L r t d P (length-take-le t xs (omega arith)) (omega arith) f inv ys)
