-- Stretches of an image: what a write to one entry's stretch leaves of every file.
use Rattle.std.proofs.Common.{◌≡◌, ℕ, ◌+◌, ◌-◌, ◌<◌, ◌≤◌, min, max, Bool, true, false, cond, eqb, leb, List, [], length, take, drop, Some, None, Option, sym, refl, ap, ◌∙◌, subst, ⊎_elim, arith}
use mathlib.Core.Path.{fun_ext}
use borrow.Rule.Slice.PartMut.{put_mid}
use Rattle.std.proofs.lemmas.List.{take-append-drop, drop-take, length-take, length-drop, length-append, nil_from_length}
use Rattle.std.proofs.lemmas.Slice.{drop-put_mid, take-put_mid_below, between-put_mid}
use Rattle.std.proofs.lemmas.Bool.{cases_lt, cases_eq, cases_Bool, cond-true, cond-false, leb-true, ltb-false}
use Rattle.std.proofs.lemmas.Bool.Decides.{eqb_tells}
use Rattle.card.specs.Files.{Files, patched, patched_file, written}
use Rattle.packed_card.specs.Directories.{overlap, found}
use Rattle.packed_card.specs.Packed.{part, kept, files_in}
use Rattle.packed_card.specs.declared.entry.Entry.{Entry}
use Rattle.packed_card.specs.Small.{Spread}
use Rattle.packed_card.proofs.Apart.{found_apart}

length_put_mid : (a k : ℕ) (xs ys : List ℕ) → a + k ≤ length xs → length ys ≡ k → length (put_mid a k xs ys) ≡ length xs
length_put_mid a k xs ys h e = simp (length-append, length-take, length-drop) (omega arith)

put_mid_none : (a k : ℕ) (xs ys : List ℕ) → k ≡ 0 → length ys ≡ k → put_mid a k xs ys ≡ xs
put_mid_none a k xs ys z e = let y : ys ≡ [] = nil_from_length ys (e ∙ z) in let t = take-append-drop a xs in cc

other_part : (e f : Entry) (xs ys : List ℕ) → overlap e f ≡ false → e.start + e.length ≤ length xs → f.start + f.length ≤ length xs → length ys ≡ e.length →
    take f.length (drop f.start (put_mid e.start e.length xs ys)) ≡ take f.length (drop f.start xs)
other_part e f xs ys o he hf ly =
    let no : min (e.start + e.length) (f.start + f.length) ≤ max e.start f.start = ltb-false (max e.start f.start) (min (e.start + e.length) (f.start + f.length)) o in
    let z = put_mid e.start e.length xs ys in
    ⊎_elim
    (λ (a : e.length ≡ 0). ap (λ (w : List ℕ). take f.length (drop f.start w)) (put_mid_none e.start e.length xs ys a ly))
    (λ (na : e.length ≡ 0 → ⊥). ⊎_elim
    (λ (b : f.length ≡ 0). rw b)
    (λ (nb : f.length ≡ 0 → ⊥). ⊎_elim
    (λ (k : f.start < e.start + e.length).
    sym (drop-take f.start f.length z) ∙ (ap (λ (w : List ℕ). drop f.start w) (take-put_mid_below e.start e.length xs ys (f.start + f.length) (omega arith) (omega arith)) ∙ drop-take f.start f.length xs))
    (λ (k : e.start + e.length ≤ f.start). ap (λ (w : List ℕ). take f.length w) (drop-put_mid e.start e.length xs ys f.start k (omega arith) ly))
    (cases_lt f.start (e.start + e.length)))
    (cases_eq f.length 0))
    (cases_eq e.length 0)

own_part : (a k : ℕ) (xs ys : List ℕ) → a + k ≤ length xs → length ys ≡ k → take k (drop a (put_mid a k xs ys)) ≡ ys
own_part a k xs ys h e = let w : (a + k) - a ≡ k = omega arith in subst (λ (m : ℕ). take m (drop a (put_mid a k xs ys)) ≡ ys) w (between-put_mid a k xs ys (a + k) (omega arith) (omega arith))

none_some : (e : Entry) → None ≡ Some e → ⊥
none_some e h = let z : ◌≡◌ {A = ℕ} 0 1 = cc in omega arith

same_some : (e f : Entry) → Some e ≡ Some f → e ≡ f
same_some e f h = cc

-- an entry that is kept was found, and lies in the image
pub kept_is : (size : ℕ) (o : Option Entry) (e : Entry) → kept size o ≡ Some e → (o ≡ Some e) × (e.start + e.length ≤ size)
kept_is size None e h = absurd (none_some e h)
kept_is size (Some f) e h =
    ⊎_elim
    (λ (t : leb (f.start + f.length) size ≡ true).
    let k : f ≡ e = same_some f e (sym (cond-true (leb (f.start + f.length) size) (Some f) None t) ∙ h) in
    (ap Some k, subst (λ (g : Entry). g.start + g.length ≤ size) k (leb-true (f.start + f.length) size t)))
    (λ (t : leb (f.start + f.length) size ≡ false). absurd (none_some e (sym (cond-false (leb (f.start + f.length) size) (Some f) None t) ∙ h)))
    (cases_Bool (leb (f.start + f.length) size))

-- one file of the card, after the stretch of the entry e has become ys
file_after : (file start : ℕ) (bs : List ℕ) (good : List Entry) (xs ys : List ℕ) (e : Entry) → Spread good →
    kept (length xs) (found file good) ≡ Some e → length ys ≡ e.length → ys ≡ patched start bs (take e.length (drop e.start xs)) →
    (n : ℕ) (o : Option Entry) → kept (length xs) (found n good) ≡ o →
    part (put_mid e.start e.length xs ys) o ≡ cond (eqb n file) (patched_file start bs (part xs o)) (part xs o)
file_after file start bs good xs ys e s fe ly is n None h = elim (eqb n file) as (λ (v : Bool). ◌≡◌ {A = Option (List ℕ)} None (cond v None None)) [ true ↦ refl | false ↦ refl ]
file_after file start bs good xs ys e s fe ly is n (Some f) h =
    let he = kept_is (length xs) (found file good) e fe in
    let hf = kept_is (length xs) (found n good) f h in
    ⊎_elim
    (λ (a : (eqb n file ≡ true) × (n ≡ file)).
    let same : f ≡ e = same_some f e (sym h ∙ (ap (λ (m : ℕ). kept (length xs) (found m good)) a.1 ∙ fe)) in
    let own : take e.length (drop e.start (put_mid e.start e.length xs ys)) ≡ patched start bs (take e.length (drop e.start xs)) = own_part e.start e.length xs ys he.1 ly ∙ is in
    subst (λ (g : Entry). part (put_mid e.start e.length xs ys) (Some g) ≡ cond (eqb n file) (patched_file start bs (part xs (Some g))) (part xs (Some g))) (sym same)
    (ap Some own ∙ sym (cond-true (eqb n file) (patched_file start bs (part xs (Some e))) (part xs (Some e)) a.0)))
    (λ (a : (eqb n file ≡ false) × (n ≡ file → ⊥)).
    let o : overlap e f ≡ false = found_apart file n good e f (λ q. a.1 (sym q)) s he.0 hf.0 in
    ap Some (other_part e f xs ys o he.1 hf.1 ly) ∙ sym (cond-false (eqb n file) (patched_file start bs (part xs (Some f))) (part xs (Some f)) a.0))
    (eqb_tells n file)

pub files_written : (file start : ℕ) (bs : List ℕ) (good : List Entry) (xs ys : List ℕ) (e : Entry) → Spread good →
    kept (length xs) (found file good) ≡ Some e → length ys ≡ e.length → ys ≡ patched start bs (take e.length (drop e.start xs)) →
    files_in (put_mid e.start e.length xs ys) good ≡ written file start bs (files_in xs good)
files_written file start bs good xs ys e s fe ly is =
    let l : length (put_mid e.start e.length xs ys) ≡ length xs = length_put_mid e.start e.length xs ys (kept_is (length xs) (found file good) e fe).1 ly in
    fun_ext (λ n. ap (λ (k : ℕ). part (put_mid e.start e.length xs ys) (kept k (found n good))) l ∙ file_after file start bs good xs ys e s fe ly is n (kept (length xs) (found n good)) refl)

-- no such file: the card is as it was
pub files_refused : (file start : ℕ) (bs : List ℕ) (fs : Files) → fs file ≡ None → fs ≡ written file start bs fs
files_refused file start bs fs h = fun_ext (λ n.
    ⊎_elim
    (λ (a : (eqb n file ≡ true) × (n ≡ file)). let k : fs n ≡ None = ap fs a.1 ∙ h in sym (cond-true (eqb n file) (patched_file start bs (fs n)) (fs n) a.0 ∙ (ap (patched_file start bs) k ∙ sym k)))
    (λ (a : (eqb n file ≡ false) × (n ≡ file → ⊥)). sym (cond-false (eqb n file) (patched_file start bs (fs n)) (fs n) a.0))
    (eqb_tells n file))

pub part_length : (e : Entry) (bytes : List ℕ) → e.start + e.length ≤ length bytes → length (take e.length (drop e.start bytes)) ≡ e.length
part_length e bytes h = simp (length-take, length-drop) (omega arith)
