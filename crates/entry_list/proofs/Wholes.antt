-- Whole entries: the first one and those behind it, and a file has at most eighty.
use Rattle.std.proofs.Common.{◌≡◌, ℕ, zero, suc, ◌+◌, ◌*◌, ◌/◌, ◌<◌, ◌≤◌, List, [], ◌∷◌, ◌++◌, map, length, take, drop, sym, refl, ap, ◌∙◌, arith, add-mul, append_assoc}
use Rattle.std.proofs.Math.Nat.{add-div_left, div-eq_of_lt}
use Rattle.std.proofs.Math.Seq.{take-append_seam, drop-append_seam}
use Rattle.std.proofs.lemmas.List.{drop-drop, length-append, length_push, append-nil}
use Rattle.std.proofs.lemmas.Nat.{div-add-mod', mul-le}
use Rattle.std.specs.List.{range_with_len}
use Rattle.entry_list.specs.Entries.{entry_bytes, entries}
use Rattle.entry_list.specs.declared.listed.Listed.{Listed}

pub at_most_eighty : (n k : ℕ) → n ≤ 240 → 3 ≤ k → n / k ≤ 80
at_most_eighty n k small long =
    let a = mul-le (n / k) 3 (n / k) k (omega arith) long in
    let b = div-add-mod' n k in
    omega arith

later : (f g : ℕ → Listed) → ((i : ℕ) → f (i + 1) ≡ g i) → (a n : ℕ) → map f (range_with_len (a + 1) n) ≡ map g (range_with_len a n)
later f g h a zero = refl
later f g h a (suc n) = let e = h a in let r = later f g h (a + 1) n in cc

-- the bytes of an entry behind the first
entry_later : (size i : ℕ) (x r : List ℕ) → length x ≡ size → entry_bytes size (x ++ r) (i + 1) ≡ entry_bytes size r i
entry_later size i x r e =
    let m : (i + 1) * size ≡ length x + i * size = add-mul i 1 size ∙ omega arith in
    ap (λ (k : ℕ). take size (drop k (x ++ r))) m
    ∙ (ap (take size) (sym (drop-drop (i * size) (length x) (x ++ r))) ∙ ap (λ (ys : List ℕ). take size (drop (i * size) ys)) (drop-append_seam x r))

-- one entry more than in the rest
one_more : (size : ℕ) (x r : List ℕ) → 0 < size → length x ≡ size → length (x ++ r) / size ≡ length r / size + 1
one_more size x r pos e = ap (λ (n : ℕ). n / size) (length-append x r ∙ ap (λ (n : ℕ). n + length r) e) ∙ add-div_left (length r) pos

-- one entry stands first, and the entries of the rest behind it
entries_first : (size : ℕ) (meaning : List ℕ → Listed) (x r : List ℕ) → 0 < size → length x ≡ size → entries size meaning (x ++ r) ≡ meaning x ∷ entries size meaning r
entries_first size meaning x r pos e =
    let f : ℕ → Listed = λ i. meaning (entry_bytes size (x ++ r) i) in
    let n : length (x ++ r) / size ≡ suc (length r / size) = one_more size x r pos e ∙ omega arith in
    let zero_on : 0 * size ≡ 0 = omega arith in
    let front : entry_bytes size (x ++ r) 0 ≡ x = ap (λ (k : ℕ). take size (drop k (x ++ r))) zero_on ∙ (ap (λ (k : ℕ). take k (x ++ r)) (sym e) ∙ take-append_seam x r) in
    let first : f 0 ≡ meaning x = ap meaning front in
    ap (λ (k : ℕ). map f (range_with_len 0 k)) n
    ∙ (ap (λ (y : Listed). y ∷ map f (range_with_len 1 (length r / size))) first
    ∙ ap (λ (ys : List Listed). meaning x ∷ ys) (later f (λ i. meaning (entry_bytes size r i)) (λ i. ap meaning (entry_later size i x r e)) 0 (length r / size)))

-- too few bytes for an entry
no_entry : (size : ℕ) (meaning : List ℕ → Listed) (r : List ℕ) → length r < size → entries size meaning r ≡ []
no_entry size meaning r short = ap (λ (k : ℕ). map (λ i. meaning (entry_bytes size r i)) (range_with_len 0 k)) (div-eq_of_lt short)

-- `ys` are the entries of a file up to the bytes `rest`, and no more than eighty are there
pub record ReadTo (size : ℕ) (meaning : List ℕ → Listed) (bs : List ℕ) (ys : List Listed) (rest : List ℕ) : Type 0 where
  is : entries size meaning bs ≡ ys ++ entries size meaning rest
  few : length ys + length rest / size ≤ 80

pub none_read : (size : ℕ) (meaning : List ℕ → Listed) (bs : List ℕ) → 3 ≤ size → length bs ≤ 240 → ReadTo size meaning bs [] bs
none_read size meaning bs long small = record { is = refl; few = omega (arith, at_most_eighty (length bs) size small long) }

pub room : (size : ℕ) (meaning : List ℕ → Listed) (bs : List ℕ) (ys : List Listed) (x r : List ℕ) → 0 < size → length x ≡ size → ReadTo size meaning bs ys (x ++ r) → length ys < 80
room size meaning bs ys x r pos e t = omega (arith, one_more size x r pos e, t.few)

pub read_more : (size : ℕ) (meaning : List ℕ → Listed) (bs : List ℕ) (ys : List Listed) (x r : List ℕ) → 0 < size → length x ≡ size →
    ReadTo size meaning bs ys (x ++ r) → ReadTo size meaning bs (ys ++ meaning x ∷ []) r
read_more size meaning bs ys x r pos e t = record {
  is = t.is ∙ (ap (λ (zs : List Listed). ys ++ zs) (entries_first size meaning x r pos e) ∙ sym (append_assoc ys (meaning x ∷ []) (entries size meaning r)));
  few = omega (arith, one_more size x r pos e, t.few, length_push ys (meaning x));
}

pub read_all : (size : ℕ) (meaning : List ℕ → Listed) (bs : List ℕ) (ys : List Listed) (r : List ℕ) → length r < size → ReadTo size meaning bs ys r → ys ≡ entries size meaning bs
read_all size meaning bs ys r short t = sym (t.is ∙ (ap (λ (zs : List Listed). ys ++ zs) (no_entry size meaning r short) ∙ append-nil ys))
