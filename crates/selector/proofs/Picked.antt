-- A pick: the row is there, and what follows is what the rules say.
use Rattle.std.proofs.Common.{◌≡◌, ℕ, zero, suc, true, List, [], ◌∷◌, Some, None, Ok, Err, Result, ap, ◌∙◌, subst, arith}
use Rattle.std.specs.List.{slice_get}
use Rattle.std.proofs.lemmas.Bool.{cond-true}
use Rattle.refusal.specs.declared.Refusal.{Refusal}
use Rattle.refusal.specs.declared.Refusal.TheVariants.{NoRow, UnusableRow}
use Rattle.plmn.specs.declared.code.Code.{Code}
use Rattle.plmn.specs.declared.row.Row.{Row}
use Rattle.card.specs.Files.{Files}
use Rattle.radio.specs.Airs.{Air, Cell, entry_at}
use Rattle.radio.specs.declared.answer.Answer.{Answer}
use Rattle.causes.specs.declared.heard.Heard.{Heard}
use Rattle.states.specs.Checks.{usable, row_refusal}
use Rattle.conclusions.specs.Conclusions.{concluded, files_after}
use Rattle.selector.specs.Runs.{home_of, forbidden_of, pick_heard, pick_air, pick_standing, pick_files}
use Rattle.states.specs.Standings.{Standing}
use Rattle.states.specs.declared.state.State.TheVariants.{NoService}

ok_err : (r : Row) (e : Refusal) → ◌≡◌ {A = Result Row Refusal} (Ok r) (Err e) → ⊥
ok_err r e h = let z : ◌≡◌ {A = ℕ} 0 1 = cc in omega arith

same_ok : (r s : Row) → ◌≡◌ {A = Result Row Refusal} (Ok r) (Ok s) → r ≡ s
same_ok r s h = cc

pub usable_there : (n : ℕ) (cells : List Cell) (p : ℕ) (r : Row) → Ok r ≡ entry_at cells p → usable n r ≡ true → row_refusal n (slice_get cells p) ≡ None
usable_there n [] p r h u = absurd (ok_err r NoRow h)
usable_there n (c ∷ cs) zero r h u =
    cond-true (usable n c.offer.row) None (Some UnusableRow) (subst (λ (x : Row). usable n x ≡ true) (same_ok r c.offer.row h) u)
usable_there n (c ∷ cs) (suc p) r h u = usable_there n cs p r h u

pub heard_is : (a : Air) (place : ℕ) (r : Row) (x : Answer) → r ≡ (pick_heard a place).row → x ≡ (pick_heard a place).answer → record { row = r; answer = x } ≡ pick_heard a place
heard_is a place r x p q = ap (λ (y : Row). record { row = y; answer = x }) p ∙ ap (λ (y : Answer). record { row = (pick_heard a place).row; answer = y }) q

module _ (t : Standing) (fs : Files) (a b : Air) (place : ℕ) (h : Heard) (home forbidden : List Code)
    (ek : h ≡ pick_heard a place) (eb : b ≡ pick_air a place) (eh : home ≡ home_of fs) (ef : forbidden ≡ forbidden_of fs) where
  pub picked_standing : concluded t home forbidden b.here place (h ∷ []) (Some h) NoService ≡ pick_standing t fs a place
  picked_standing =
      ap (λ (z : List Code). concluded t z forbidden b.here place (h ∷ []) (Some h) NoService) eh
      ∙ (ap (λ (z : List Code). concluded t (home_of fs) z b.here place (h ∷ []) (Some h) NoService) ef
      ∙ (ap (λ (x : Air). concluded t (home_of fs) (forbidden_of fs) x.here place (h ∷ []) (Some h) NoService) eb
      ∙ ap (λ (k : Heard). concluded t (home_of fs) (forbidden_of fs) (pick_air a place).here place (k ∷ []) (Some k) NoService) ek))

  pub picked_files : (gs : Files) → gs ≡ fs → files_after t home forbidden (h ∷ []) (Some h) gs ≡ pick_files t fs a place
  picked_files gs eg =
      ap (λ (z : List Code). files_after t z forbidden (h ∷ []) (Some h) gs) eh
      ∙ (ap (λ (z : List Code). files_after t (home_of fs) z (h ∷ []) (Some h) gs) ef
      ∙ (ap (λ (k : Heard). files_after t (home_of fs) (forbidden_of fs) (k ∷ []) (Some k) gs) ek
      ∙ ap (λ (z : Files). files_after t (home_of fs) (forbidden_of fs) (pick_heard a place ∷ []) (Some (pick_heard a place)) z) eg))
