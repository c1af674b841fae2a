-- A search goes on to the next block of the table.
use Rattle.std.proofs.Common.{◌≡◌, ℕ, zero, suc, ◌≤◌, Bool, false, List, [], ◌∷◌, map, length, take, drop, replicate, refl, ap, arith}
use Rattle.std.proofs.lemmas.List.{length-drop}
use Rattle.radio.specs.Skies.{front, later, searched}
use Rattle.radio.specs.Airs.{sought, fresh}
use Rattle.table_rows.specs.declared.row.TableRow.{TableRow}
use Rattle.table_rows.specs.Tables.{cut, blocks, skies, celled, table_sky, table_air, offer_of}

-- enough fuel is as good as any other
fuel : (n m : ℕ) (es : List TableRow) → length es ≤ n → length es ≤ m → blocks n es ≡ blocks m es
fuel zero zero [] h k = refl
fuel zero (suc m) [] h k = refl
fuel (suc n) zero [] h k = refl
fuel (suc n) (suc m) [] h k = refl
fuel zero m (e ∷ es) h k = absurd (omega arith)
fuel (suc n) zero (e ∷ es) h k = absurd (omega arith)
fuel (suc n) (suc m) (e ∷ es) h k =
    let l = length-drop 20 (e ∷ es) in
    ap (λ t. cut (take 20 (e ∷ es)) ∷ t) (fuel n m (drop 20 (e ∷ es)) (omega arith) (omega arith))

pub front_skies : (es : List TableRow) → cut (take 20 es) ≡ front (skies es)
front_skies [] = refl
front_skies (e ∷ es) = refl

pub later_skies : (es : List TableRow) → skies (drop 20 es) ≡ later (skies es)
later_skies [] = refl
later_skies (e ∷ es) =
    let l = length-drop 20 (e ∷ es) in
    fuel (length (drop 20 (e ∷ es))) (length es) (drop 20 (e ∷ es)) (omega arith) (omega arith)

pub front_map : {X Y : Type 0} (f : X → Y) (s : List (List X)) → front (map (map f) s) ≡ map f (front s)
front_map f [] = refl
front_map f (a ∷ s) = refl

pub later_map : {X Y : Type 0} (f : X → Y) (s : List (List X)) → later (map (map f) s) ≡ map (map f) (later s)
later_map f [] = refl
later_map f (a ∷ s) = refl

pub celled_fresh : (es : List TableRow) (n : ℕ) → celled es (replicate n false) ≡ map fresh (map offer_of es)
celled_fresh [] n = refl
celled_fresh (e ∷ es) zero = ap (λ t. fresh (offer_of e) ∷ t) (celled_fresh es zero)
celled_fresh (e ∷ es) (suc n) = ap (λ t. fresh (offer_of e) ∷ t) (celled_fresh es n)

pub sky_next : (here es : List TableRow) → table_sky (cut (take 20 es)) (drop 20 es) ≡ searched (table_sky here es)
sky_next here es =
    let a = front_skies es in let b = later_skies es in
    let c = front_map (λ (e : TableRow). e.row) (skies es) in let d = later_map (λ (e : TableRow). e.row) (skies es) in cc

pub air_next : (here es : List TableRow) (bs : List Bool) → table_air (cut (take 20 es)) (replicate 20 false) (drop 20 es) ≡ sought (table_air here bs es)
air_next here es bs =
    let a = front_skies es in let b = later_skies es in
    let c = front_map offer_of (skies es) in let d = later_map offer_of (skies es) in
    let f = celled_fresh (cut (take 20 es)) 20 in cc
