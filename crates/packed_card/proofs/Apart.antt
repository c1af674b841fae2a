-- The good entries: none of them clashes with another, each fits the image, and a found one is one of them.
use Rattle.std.proofs.Common.{◌≡◌, ℕ, ◌+◌, Bool, true, false, not, ◌&&◌, ◌||◌, eqb, leb, List, [], ◌∷◌, ◌++◌, length, take, Some, None, fold, Option, sym, refl, ap, ◌∙◌, subst, ⊎_elim, arith}
use mathlib.Core.Path.{fun_ext}
use Rattle.std.specs.List.{AllByRecursion}
use Rattle.std.proofs.ByRecursion.{All-push}
use Rattle.std.proofs.lemmas.Bool.{or_parts, or_from, and_parts, and_from, not-true, not_from_false, cond_both, cond-true, cond-false}
use Rattle.std.proofs.lemmas.Bool.Decides.{eqb_tells, nat_tests}
use Rattle.packed_card.specs.Directories.{fits, overlap, clash, clashes, admitted, goods, found, sound}
use Rattle.packed_card.specs.Packed.{part, kept, packed_files, files_in}
use Rattle.packed_card.specs.Small.{all_found, Spread}
use Rattle.packed_card.specs.declared.entry.Entry.{Entry}

same_number : (m n : ℕ) → eqb m n ≡ eqb n m
same_number m n = grind (arith, nat_tests)

overlap_comm : (e f : Entry) → overlap e f ≡ overlap f e
overlap_comm e f = grind (arith, nat_tests)

clash_comm : (e f : Entry) → clash e f ≡ clash f e
clash_comm e f = ap (λ (b : Bool). b || overlap e f) (same_number e.file f.file) ∙ ap (λ (b : Bool). eqb f.file e.file || b) (overlap_comm e f)

clashes_push : (x : Entry) (xs : List Entry) (e : Entry) → clashes x xs ≡ false → clash x e ≡ false → clashes x (xs ++ e ∷ []) ≡ false
clashes_push x [] e h k = or_from (clash x e) false k refl
clashes_push x (y ∷ ys) e h k =
    let p = or_parts (clash x y) (clashes x ys) h in
    or_from (clash x y) (clashes x (ys ++ e ∷ [])) p.0 (clashes_push x ys e p.1 k)

-- one more good entry leaves them sound
pub sound_push : (size : ℕ) (xs : List Entry) (e : Entry) → sound xs ≡ true → fits size e ≡ true → clashes e xs ≡ false → sound (xs ++ e ∷ []) ≡ true
sound_push size [] e s f k = and_from (leb e.length 240) true (and_parts (leb (e.start + e.length) size) (leb e.length 240) f).1 refl
sound_push size (x ∷ xs) e s f k =
    let p = and_parts (leb x.length 240) (not (clashes x xs) && sound xs) s in
    let q = and_parts (not (clashes x xs)) (sound xs) p.1 in
    let r = or_parts (clash e x) (clashes e xs) k in
    and_from (leb x.length 240) (not (clashes x (xs ++ e ∷ [])) && sound (xs ++ e ∷ [])) p.0
    (and_from (not (clashes x (xs ++ e ∷ []))) (sound (xs ++ e ∷ []))
    (not_from_false (clashes x (xs ++ e ∷ [])) (clashes_push x xs e (not-true (clashes x xs) q.0) (clash_comm x e ∙ r.0)))
    (sound_push size xs e q.1 f r.1))

-- each good entry lies in the image
folded_fits : (size : ℕ) (es good : List Entry) → AllByRecursion (λ e. fits size e ≡ true) good → AllByRecursion (λ e. fits size e ≡ true) (fold (admitted size) good es)
folded_fits size [] good s = s
folded_fits size (e ∷ es) good s =
    folded_fits size es (admitted size good e)
    (cond_both (fits size e && not (clashes e good)) (good ++ e ∷ []) good (AllByRecursion (λ f. fits size f ≡ true))
    (λ t. All-push (λ f. fits size f ≡ true) good e s (and_parts (fits size e) (not (clashes e good)) t).0) (λ _. s))

kept_all : (size : ℕ) (o : Option Entry) → ((e : Entry) → o ≡ Some e → fits size e ≡ true) → kept size o ≡ o
kept_all size None h = refl
kept_all size (Some e) h = cond-true (leb (e.start + e.length) size) (Some e) None (and_parts (leb (e.start + e.length) size) (leb e.length 240) (h e refl)).0

-- what the card keeps is what the directory says
pub files_in_packed : (image : List ℕ) (good directory : List Entry) → good ≡ goods (length image) directory → files_in image good ≡ packed_files image directory
files_in_packed image good directory e = fun_ext (λ n.
    ap (λ (es : List Entry). part image (kept (length image) (found n es))) e
    ∙ ap (part image) (kept_all (length image) (found n (goods (length image) directory))
    (λ f h. all_found (λ g. fits (length image) g ≡ true) n (goods (length image) directory) f (folded_fits (length image) (take 12 directory) [] tt) h)))

none_some : (e : Entry) → None ≡ Some e → ⊥
none_some e h = let z : ◌≡◌ {A = ℕ} 0 1 = cc in omega arith

same_some : (e f : Entry) → Some e ≡ Some f → e ≡ f
same_some e f h = cc

-- the entries of two files have no byte in common
pub found_apart : (n m : ℕ) (xs : List Entry) (e f : Entry) → (n ≡ m → ⊥) → Spread xs → found n xs ≡ Some e → found m xs ≡ Some f → overlap e f ≡ false
found_apart n m [] e f ne s p q = absurd (none_some e p)
found_apart n m (x ∷ xs) e f ne s p q =
    ⊎_elim
    (λ (a : (eqb x.file n ≡ true) × (x.file ≡ n)).
    let ex : x ≡ e = same_some x e (sym (cond-true (eqb x.file n) (Some x) (found n xs) a.0) ∙ p) in
    ⊎_elim
    (λ (b : (eqb x.file m ≡ true) × (x.file ≡ m)). absurd (ne (sym a.1 ∙ b.1)))
    (λ (b : (eqb x.file m ≡ false) × (x.file ≡ m → ⊥)).
    let o : overlap x f ≡ false = all_found (λ y. overlap x y ≡ false) m xs f s.0 (sym (cond-false (eqb x.file m) (Some x) (found m xs) b.0) ∙ q) in
    subst (λ (z : Entry). overlap z f ≡ false) ex o)
    (eqb_tells x.file m))
    (λ (a : (eqb x.file n ≡ false) × (x.file ≡ n → ⊥)).
    let pn : found n xs ≡ Some e = sym (cond-false (eqb x.file n) (Some x) (found n xs) a.0) ∙ p in
    ⊎_elim
    (λ (b : (eqb x.file m ≡ true) × (x.file ≡ m)).
    let fx : x ≡ f = same_some x f (sym (cond-true (eqb x.file m) (Some x) (found m xs) b.0) ∙ q) in
    let o : overlap e x ≡ false = overlap_comm e x ∙ all_found (λ y. overlap x y ≡ false) n xs e s.0 pn in
    subst (λ (z : Entry). overlap e z ≡ false) fx o)
    (λ (b : (eqb x.file m ≡ false) × (x.file ≡ m → ⊥)). found_apart n m xs e f ne s.1 pn (sym (cond-false (eqb x.file m) (Some x) (found m xs) b.0) ∙ q))
    (eqb_tells x.file m))
    (eqb_tells x.file n)
