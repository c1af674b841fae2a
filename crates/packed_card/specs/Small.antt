-- A card image's files have at most 240 bytes. It stands here since the card's meaning names it.
use Rattle.std.specs.Prelude.{◌≡◌, ℕ, ◌+◌, ◌≤◌, true, false, cond, not, ◌&&◌, List, [], ◌∷◌, length, Some, None, Option, ◌==◌, ◌≢◌, nat_le, refl}
use Rattle.std.proofs.Common.{subst, arith}
use Rattle.std.specs.List.{AllByRecursion}
use Rattle.std.proofs.lemmas.List.{length-take}
use Rattle.std.proofs.lemmas.Bool.{and_parts, or_parts, not-true, cond_both, leb-true}
use Rattle.card.specs.Files.{size_of}
use Rattle.packed_card.specs.Directories.{overlap, clash, clashes, found, sound}
use Rattle.packed_card.specs.Packed.{part, kept, files_in}
use Rattle.packed_card.specs.declared.entry.Entry.{Entry}

none_some : (e : Entry) → None ≢ Some e
none_some e h = let z : ◌≡◌ {A = ℕ} 0 1 = cc in omega arith

same_some : (e f : Entry) → Some e ≡ Some f → e ≡ f
same_some e f h = cc

-- no two of the entries have a byte in common
abbrev pub Spread : List Entry → Type 0
Spread [] = Unit {0}
Spread (x ∷ xs) = AllByRecursion (λ y. overlap x y ≡ false) xs × Spread xs

free_each : (e : Entry) (xs : List Entry) → clashes e xs ≡ false → AllByRecursion (λ f. overlap e f ≡ false) xs
free_each e [] h = tt
free_each e (x ∷ xs) h =
    let p = or_parts (clash e x) (clashes e xs) h in
    ((or_parts (e.file == x.file) (overlap e x) p.0).1, free_each e xs p.1)

pub sound_spread : (xs : List Entry) → sound xs ≡ true → Spread xs × AllByRecursion (λ e. nat_le e.length 240 ≡ true) xs
sound_spread [] h = (tt, tt)
sound_spread (x ∷ xs) h =
    let p = and_parts (nat_le x.length 240) (not (clashes x xs) && sound xs) h in
    let q = and_parts (not (clashes x xs)) (sound xs) p.1 in
    let r = sound_spread xs q.1 in
    ((free_each x xs (not-true (clashes x xs) q.0), r.0), (p.0, r.1))

-- what holds of every entry holds of a found one
pub all_found : (P : Entry → Type 0) (n : ℕ) (xs : List Entry) (e : Entry) → AllByRecursion P xs → found n xs ≡ Some e → P e
all_found P n [] e a h = absurd (none_some e h)
all_found P n (x ∷ xs) e a h =
    elim (x.file == n) as (λ v. cond v (Some x) (found n xs) ≡ Some e → P e)
    [ true ↦ λ k. subst P (same_some x e k) a.0 | false ↦ λ k. all_found P n xs e a.1 k ] h

kept_small : (image : List ℕ) (o : Option Entry) → ((e : Entry) → o ≡ Some e → nat_le e.length 240 ≡ true) → size_of (part image (kept (length image) o)) ≤ 240
kept_small image None h = omega arith
kept_small image (Some e) h =
    let l : e.length ≤ 240 = leb-true e.length 240 (h e refl) in
    cond_both (nat_le (e.start + e.length) (length image)) (Some e) None (λ (o : Option Entry). size_of (part image o) ≤ 240)
    (λ _. simp length-take (omega arith)) (λ _. omega arith)

pub packed_small : (image : List ℕ) (good : List Entry) → sound good ≡ true → (n : ℕ) → size_of (files_in image good n) ≤ 240
packed_small image good s n = kept_small image (found n good) (λ e h. all_found (λ f. nat_le f.length 240 ≡ true) n good e (sound_spread good s).1 h)
