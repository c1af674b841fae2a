-- The marks that tries leave: on the rows tried, and on no other.
use Rattle.std.proofs.Common.{◌≡◌, ℕ, zero, suc, true, false, ◌⊎◌, List, [], ◌∷◌, map, Some, fold, sym, ap, ◌∙◌, subst, inl, inr, ⊎_elim, arith}
use Rattle.std.specs.List.{slice_get}
use Rattle.std.proofs.lemmas.Bool.{cases_eq, both_ways}
use Rattle.radio.specs.Airs.{Air, Cell, Offer, fresh, sought, attempted}
use Rattle.radio.specs.Skies.{front}
use Rattle.radio.proofs.Lawful.{trying}
use Rattle.tries.specs.Laws.{In}

-- a cell at this place, if there is one, is marked
abbrev Marked : Air → ℕ → Type 0
Marked a p = (c : Cell) → slice_get a.here p ≡ Some c → c.tried ≡ true

-- a try takes no mark away
mark_stays : (a : Air) (p q : ℕ) → Marked a p → Marked (attempted a q) p
mark_stays a p q m c e =
    ⊎_elim (λ (same : p ≡ q). (trying a q).marks_it c (subst (λ (k : ℕ). slice_get (attempted a q).here k ≡ Some c) same e))
    (λ (other : p ≡ q → ⊥). m c (sym ((trying a q).others_stay p other) ∙ e)) (cases_eq p q)

marks_stay : (a : Air) (ps : List ℕ) (p : ℕ) → Marked a p → Marked (fold attempted a ps) p
marks_stay a [] p m = m
marks_stay a (q ∷ ps) p m = marks_stay (attempted a q) ps p (mark_stays a p q m)

pub marks_tried : (a : Air) (ps : List ℕ) (p : ℕ) → In p ps → Marked (fold attempted a ps) p
marks_tried a [] p i = absurd i
marks_tried a (q ∷ ps) p i =
    ⊎_elim (λ (e : p ≡ q). marks_stay (attempted a q) ps p (subst (Marked (attempted a q)) (sym e) (trying a q).marks_it))
    (λ j. marks_tried (attempted a q) ps p j) i

-- a cell at a place that was not tried is as it was
kept_or_tried : (a : Air) (ps : List ℕ) (p : ℕ) (c : Cell) → slice_get (fold attempted a ps).here p ≡ Some c → In p ps ⊎ (slice_get a.here p ≡ Some c)
kept_or_tried a [] p c e = inr e
kept_or_tried a (q ∷ ps) p c e =
    ⊎_elim (λ i. inl (inr i))
    (λ (k : slice_get (attempted a q).here p ≡ Some c).
    ⊎_elim (λ (same : p ≡ q). inl (inl same)) (λ (other : p ≡ q → ⊥). inr (sym ((trying a q).others_stay p other) ∙ k)) (cases_eq p q))
    (kept_or_tried (attempted a q) ps p c e)

fresh_is_unmarked : (os : List Offer) (p : ℕ) (c : Cell) → slice_get (map fresh os) p ≡ Some c → c.tried ≡ false
fresh_is_unmarked [] p c e = let z : ◌≡◌ {A = ℕ} 0 1 = cc in absurd (omega arith)
fresh_is_unmarked (o ∷ os) zero c e = let h : fresh o ≡ c = cc in sym (ap (λ (x : Cell). x.tried) h)
fresh_is_unmarked (o ∷ os) (suc p) c e = fresh_is_unmarked os p c e

-- after a search no row is marked, so that the marks are those of the tries
pub marked_was_tried : (a : Air) (ps : List ℕ) (p : ℕ) (c : Cell) → slice_get (fold attempted (sought a) ps).here p ≡ Some c → c.tried ≡ true → In p ps
marked_was_tried a ps p c e m =
    ⊎_elim (λ i. i) (λ (k : slice_get (sought a).here p ≡ Some c). absurd (both_ways c.tried (fresh_is_unmarked (front a.coming) p c k) m)) (kept_or_tried (sought a) ps p c e)
