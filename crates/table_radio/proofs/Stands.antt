-- Which rows of a table stand in which of its skies.
use Rattle.std.proofs.Common.{◌≡◌, ℕ, zero, suc, ◌+◌, ◌-◌, ◌*◌, ◌<◌, ◌≤◌, true, false, cond, List, [], ◌∷◌, length, take, drop, Some, sym, refl, ap, ◌∙◌, subst, one-add, arith}
use Rattle.std.specs.List.{prefix_len, slice_get}
use Rattle.std.proofs.lemmas.List.{length-take, length-drop, drop-drop}
use Rattle.radio.specs.Skies.{front, later}
use Rattle.radio.proofs.Places.{none_some, nth_take, nth_drop}
use Rattle.table_rows.specs.declared.row.TableRow.{TableRow}
use Rattle.table_rows.specs.Tables.{named, cut, skies}
use Rattle.table_radio.specs.Laws.{Named, Standing, sky_at}
use Rattle.table_radio.proofs.Skies.{front_skies, later_skies}

-- what is found in the first n stands there, and below n
in_take : {X : Type 0} (n : ℕ) (xs : List X) (i : ℕ) (x : X) → slice_get (take n xs) i ≡ Some x → (i < n) × (slice_get xs i ≡ Some x)
in_take zero xs i x h = absurd (none_some x h)
in_take (suc n) [] i x h = absurd (none_some x h)
in_take (suc n) (y ∷ xs) zero x h = (omega arith, h)
in_take (suc n) (y ∷ xs) (suc i) x h = let r = in_take n xs i x h in (omega arith, r.1)

-- the k-th sky is the k-th block
later_at : {X : Type 0} (s : List (List X)) (k : ℕ) → sky_at s (suc k) ≡ sky_at (later s) k
later_at [] k = refl
later_at (a ∷ s) k = refl

front_at : {X : Type 0} (s : List (List X)) → sky_at s 0 ≡ front s
front_at [] = refl
front_at (a ∷ s) = refl

sky_block : (k : ℕ) (es : List TableRow) → sky_at (skies es) k ≡ cut (take 20 (drop (20 * k) es))
sky_block zero es = front_at (skies es) ∙ sym (front_skies es)
sky_block (suc k) es =
    let e : 20 + 20 * k ≡ 20 * suc k = omega arith in
    later_at (skies es) k ∙ (ap (λ s. sky_at s k) (sym (later_skies es)) ∙ (sky_block k (drop 20 es)
    ∙ ap (λ l. cut (take 20 l)) (drop-drop (20 * k) 20 es ∙ ap (λ n. drop n es) e)))

-- and there is one where its first row is in the table
later_length : {X : Type 0} (s : List (List X)) → length (later s) ≡ length s - 1
later_length [] = refl
later_length (a ∷ s) = omega arith

sky_there : (k : ℕ) (es : List TableRow) → (20 * k < length es → k < length (skies es)) × (k < length (skies es) → 20 * k < length es)
sky_there zero [] = (λ h. absurd (omega arith), λ h. absurd (omega arith))
sky_there zero (e ∷ es) = (λ _. omega arith, λ _. omega arith)
sky_there (suc k) es =
    let r = sky_there k (drop 20 es) in
    let d = length-drop 20 es in
    let l = ap length (later_skies es) ∙ later_length (skies es) in
    (λ h. let q : k < length (skies (drop 20 es)) = r.0 (omega arith) in omega arith, λ h. let q : 20 * k < length (drop 20 es) = r.1 (omega arith) in omega arith)

-- a block ends before its first empty code
named_zero : (x : TableRow) (xs : List TableRow) → named x ≡ true → (j : ℕ) → j ≤ 0 → Named (slice_get (x ∷ xs) j)
named_zero x xs t zero h = t
named_zero x xs t (suc j) h = absurd (omega arith)

named_suc : (x : TableRow) (xs : List TableRow) (i : ℕ) → named x ≡ true → ((j : ℕ) → j ≤ i → Named (slice_get xs j)) → (j : ℕ) → j ≤ suc i → Named (slice_get (x ∷ xs) j)
named_suc x xs i t r zero h = t
named_suc x xs i t r (suc j) h = r j (omega arith)

in_cut : (xs : List TableRow) (i : ℕ) (e : TableRow) → slice_get (cut xs) i ≡ Some e → (slice_get xs i ≡ Some e) × ((j : ℕ) → j ≤ i → Named (slice_get xs j))
in_cut [] i e h = absurd (none_some e h)
in_cut (x ∷ xs) zero e h =
    elim (named x) as (λ v. named x ≡ v → slice_get (take (cond v (1 + prefix_len named xs) 0) (x ∷ xs)) 0 ≡ Some e → (slice_get (x ∷ xs) 0 ≡ Some e) × ((j : ℕ) → j ≤ 0 → Named (slice_get (x ∷ xs) j)))
    [ true ↦ λ t k. (rw one-add at k, named_zero x xs t) | false ↦ λ _ k. absurd (none_some e k) ] refl h
in_cut (x ∷ xs) (suc i) e h =
    elim (named x) as (λ v. named x ≡ v → slice_get (take (cond v (1 + prefix_len named xs) 0) (x ∷ xs)) (suc i) ≡ Some e → (slice_get xs i ≡ Some e) × ((j : ℕ) → j ≤ suc i → Named (slice_get (x ∷ xs) j)))
    [ true ↦ λ t k. let r = in_cut xs i e (rw one-add at k) in (r.0, named_suc x xs i t r.1) | false ↦ λ _ k. absurd (none_some e k) ] refl h

out_cut : (xs : List TableRow) (i : ℕ) (e : TableRow) → slice_get xs i ≡ Some e → ((j : ℕ) → j ≤ i → Named (slice_get xs j)) → slice_get (cut xs) i ≡ Some e
out_cut [] i e h n = absurd (none_some e h)
out_cut (x ∷ xs) zero e h n = let t : named x ≡ true = n 0 (omega arith) in rw (t, one-add) h
out_cut (x ∷ xs) (suc i) e h n =
    let t : named x ≡ true = n 0 (omega arith) in
    let r = out_cut xs i e h (λ j l. n (suc j) (omega arith)) in
    rw (t, one-add) r

-- the rows of the k-th block
abbrev block : List TableRow → ℕ → List TableRow
block table k = take 20 (drop (20 * k) (take 10000 table))

block_at : (table : List TableRow) (k j : ℕ) → j < 20 → 20 * k + j < 10000 → slice_get (block table k) j ≡ slice_get table (20 * k + j)
block_at table k j h l = nth_take 20 _ j h ∙ (nth_drop (20 * k) (take 10000 table) j ∙ nth_take 10000 table (20 * k + j) l)

in_block : (table : List TableRow) (k i : ℕ) (e : TableRow) → slice_get (block table k) i ≡ Some e → (i < 20) × (20 * k + i < 10000)
in_block table k i e h =
    let a = in_take 20 (drop (20 * k) (take 10000 table)) i e h in
    let b = in_take 10000 table (20 * k + i) e (sym (nth_drop (20 * k) (take 10000 table) i) ∙ a.1) in
    (a.0, b.0)

has_row : (table : List TableRow) (k i : ℕ) (e : TableRow) → i < 20 → 20 * k + i < 10000 → slice_get table (20 * k + i) ≡ Some e →
    ((j : ℕ) → j ≤ i → Named (slice_get table (20 * k + j))) → slice_get (sky_at (skies (take 10000 table)) k) i ≡ Some e
has_row table k i e h l s n =
    ap (λ r. slice_get r i) (sky_block k (take 10000 table))
    ∙ out_cut (block table k) i e (block_at table k i h l ∙ s) (λ j m. subst Named (sym (block_at table k j (omega arith) (omega arith))) (n j m))

no_other_row : (table : List TableRow) (k i : ℕ) (e : TableRow) → slice_get (sky_at (skies (take 10000 table)) k) i ≡ Some e →
    (i < 20) × (20 * k + i < 10000) × (slice_get table (20 * k + i) ≡ Some e) × ((j : ℕ) → j ≤ i → Named (slice_get table (20 * k + j)))
no_other_row table k i e h =
    let c = in_cut (block table k) i e (ap (λ r. slice_get r i) (sym (sky_block k (take 10000 table))) ∙ h) in
    let b = in_block table k i e c.0 in
    (b.0, b.1, sym (block_at table k i b.0 b.1) ∙ c.0, λ j m. subst Named (block_at table k j (omega arith) (omega arith)) (c.1 j m))

pub standing : (table : List TableRow) → Standing table (skies (take 10000 table))
standing table =
    let l = length-take 10000 table in
    record {
      has_sky = λ k h m. (sky_there k (take 10000 table)).0 (omega arith);
      no_other_sky = λ k h. let q = (sky_there k (take 10000 table)).1 h in (omega arith, omega arith);
      has_row = has_row table;
      no_other_row = no_other_row table;
    }
