-- The keys of the found rows: each at its row's place, and there exactly where the row is allowed.
use Rattle.std.proofs.Common.{◌≡◌, ℕ, zero, suc, ◌+◌, Bool, true, false, cond, List, [], ◌∷◌, Some, None, Option, sym, refl, ap, subst, inl, inr, ⊎_elim, arith}
use Rattle.std.specs.List.{slice_get}
use Rattle.std.specs.Option.{option_map}
use Rattle.plmn.specs.declared.code.Code.{Code}
use Rattle.plmn.specs.declared.row.Row.{Row}
use Rattle.ranking.specs.Lists.{at_place}
use Rattle.ranking.specs.Precedence.{In, Numbered}
use Rattle.ranking.specs.declared.key.Key.{Key}
use Rattle.ranking.proofs.Options.{no_some, some_is}
use Rattle.row_classes.specs.Classes.{class_of}
use Rattle.row_classes.specs.Facts.{Facts, allowed}
use Rattle.order.specs.Keys.{key_in, key_of, keys_from}

module _ (f : Facts) (home : Option Code) where
  abbrev may : Row → Bool
  may r = allowed f.supported f.forbidden r

  abbrev key : Row → Key
  key r = key_in (class_of f home r) r

  -- the key of a row at a place
  abbrev placed : ℕ → Row → Option Key
  placed i r = option_map (at_place i) (key_of f home r)

  placed_yes : (i : ℕ) (r : Row) → may r ≡ true → placed i r ≡ Some (at_place i (key r))
  placed_yes i r e = ap (λ (b : Bool). option_map (at_place i) (cond b (Some (key r)) None)) e

  placed_if : (i : ℕ) (r : Row) (k : Key) → Some k ≡ placed i r → (may r ≡ true) × (k.place ≡ i)
  placed_if i r k =
      elim (may r) as (λ b. Some k ≡ option_map (at_place i) (cond b (Some (key r)) None) → (b ≡ true) × (k.place ≡ i)) [
        | true ↦ λ e. (refl, ap (λ (z : Key). z.place) (some_is k (at_place i (key r)) e))
        | false ↦ λ e. absurd (no_some k e)
      ]

  -- each key has its row's place
  pub numbered : (i : ℕ) (rows : List Row) → Numbered i (keys_from f home i rows)
  numbered i [] = tt
  numbered i (r ∷ rs) =
      elim (may r) as (λ b. Numbered i (option_map (at_place i) (cond b (Some (key r)) None) ∷ keys_from f home (suc i) rs))
      [ true ↦ (refl, numbered (suc i) rs) | false ↦ numbered (suc i) rs ]

  -- at the place of a key stands an allowed row
  pub allowed_row : (k : Key) (i : ℕ) (rows : List Row) → In (Some k) (keys_from f home i rows) →
      (j : ℕ) × (k.place ≡ i + j) × ((r : Row) × (slice_get rows j ≡ Some r) × (may r ≡ true))
  allowed_row k i [] h = absurd h
  allowed_row k i (x ∷ xs) h =
      ⊎_elim
      (λ (e : Some k ≡ placed i x). let p = placed_if i x k e in (0, omega (arith, p.1), (x, refl, p.0)))
      (λ q. let p = allowed_row k (suc i) xs q in (suc p.0, omega (arith, p.1), p.2)) h

  -- an allowed row has a key, at its place
  pub allowed_key : (i j : ℕ) (rows : List Row) (r : Row) → slice_get rows j ≡ Some r → may r ≡ true →
      (k : Key) × In (Some k) (keys_from f home i rows) × (k.place ≡ i + j)
  allowed_key i j [] r h a = let z : ◌≡◌ {A = ℕ} 0 1 = cc in absurd (omega arith)
  allowed_key i zero (x ∷ xs) r h a =
      let e : x ≡ r = cc in
      (at_place i (key x), inl (sym (placed_yes i x (subst (λ (y : Row). may y ≡ true) (sym e) a))), omega arith)
  allowed_key i (suc j) (x ∷ xs) r h a = let p = allowed_key (suc i) j xs r h a in (p.0, inr p.1, omega (arith, p.2))
