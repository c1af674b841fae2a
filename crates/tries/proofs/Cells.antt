-- The row and the answer at a place of the sky; a try changes neither.
use Rattle.std.proofs.Common.{◌≡◌, ℕ, zero, suc, List, [], ◌∷◌, Ok, Err, Result, sym, refl, ap, arith}
use Rattle.std.specs.Result.{result_unwrap_or}
use Rattle.refusal.specs.declared.Refusal.{Refusal}
use Rattle.refusal.specs.declared.Refusal.TheVariants.{NoRow}
use Rattle.plmn.specs.declared.row.Row.{Row}
use Rattle.radio.specs.declared.answer.Answer.{Answer}
use Rattle.radio.specs.declared.answer.Answer.TheVariants.{Silence}
use Rattle.radio.specs.Airs.{Air, Cell, entry_at, answer_at, answer_of, marked, changed, attempted}
use Rattle.tries.specs.Turns.{heard_in, heard_sky, at, nothing}

ok_err : {X : Type 0} (x : X) (e : Refusal) → ◌≡◌ {A = Result X Refusal} (Ok x) (Err e) → ⊥
ok_err x e h = let z : ◌≡◌ {A = ℕ} 0 1 = cc in omega arith

same_ok : {X : Type 0} (x y : X) → ◌≡◌ {A = Result X Refusal} (Ok x) (Ok y) → x ≡ y
same_ok x y h = cc

pub row_is : (cells : List Cell) (p : ℕ) (r : Row) → Ok r ≡ entry_at cells p → r ≡ (at (heard_sky cells) p).row
row_is [] p r h = absurd (ok_err r NoRow h)
row_is (c ∷ cs) zero r h = same_ok r c.offer.row h
row_is (c ∷ cs) (suc p) r h = row_is cs p r h

pub row_there : (cells : List Cell) (p : ℕ) → result_unwrap_or (entry_at cells p) nothing.row ≡ (at (heard_sky cells) p).row
row_there [] p = refl
row_there (c ∷ cs) zero = refl
row_there (c ∷ cs) (suc p) = row_there cs p

pub answer_there : (cells : List Cell) (p : ℕ) → result_unwrap_or (answer_at cells p) Silence ≡ (at (heard_sky cells) p).answer
answer_there [] p = refl
answer_there (c ∷ cs) zero = refl
answer_there (c ∷ cs) (suc p) = answer_there cs p

heard_changed : (cells : List Cell) (p : ℕ) → heard_sky (changed marked cells p) ≡ heard_sky cells
heard_changed [] p = refl
heard_changed (c ∷ cs) zero = refl
heard_changed (c ∷ cs) (suc p) = ap (λ hs. heard_in c ∷ hs) (heard_changed cs p)

pub heard_attempted : (a : Air) (p : ℕ) → heard_sky (attempted a p).here ≡ heard_sky a.here
heard_attempted a p = heard_changed a.here p
