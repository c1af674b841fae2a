-- The test whether a row is allowed says what the laws say.
use Rattle.std.proofs.Common.{◌≡◌, ℕ, zero, suc, Bool, true, false, not, ◌&&◌, List, [], ◌∷◌, map, Some, ⊎_elim, arith}
use Rattle.std.specs.List.{slice_get}
use Rattle.std.proofs.lemmas.Bool.{and_parts, and_from, not-true, not_from_false, cases_Bool}
use Rattle.plmn.specs.Codes.{valid_code, same_code}
use Rattle.plmn.specs.Technologies.{has_number}
use Rattle.plmn.specs.declared.code.Code.{Code}
use Rattle.plmn.specs.declared.row.Row.{Row}
use Rattle.plmn.specs.Equality.{same_code_says}
use Rattle.short_list.specs.Places.{held_in}
use Rattle.short_list.proofs.Lawful.{held_from, not_held}
use Rattle.radio.specs.Airs.{Cell, row_in}
use Rattle.order.specs.Facts.{allowed}
use Rattle.tries.specs.Turns.{heard_sky, at}
use Rattle.run_laws.specs.Laws.{Allowed}

module _ (supported : ℕ) (forbidden : List Code) (r : Row) where
  abbrev held : Bool
  held = held_in same_code r.code forbidden

  pub allowed_says : allowed supported forbidden r ≡ true → Allowed supported forbidden r
  allowed_says h =
      let p = and_parts (has_number supported r.technology) (valid_code r.code && not held) h in
      let q = and_parts (valid_code r.code) (not held) p.1 in
      record {
        technology_supported = p.0;
        code_valid = q.0;
        not_forbidden = not_held same_code same_code_says r.code forbidden (not-true held q.1);
      }

  pub says_allowed : Allowed supported forbidden r → allowed supported forbidden r ≡ true
  says_allowed a =
      and_from (has_number supported r.technology) (valid_code r.code && not held) a.technology_supported
      (and_from (valid_code r.code) (not held) a.code_valid
      (not_from_false held
      (⊎_elim (λ (h : held ≡ true). absurd (a.not_forbidden (held_from same_code same_code_says r.code forbidden h))) (λ (h : held ≡ false). h) (cases_Bool held))))

-- the row that stands at a place is the one with whose answer a run goes on
pub row_at : (cells : List Cell) (p : ℕ) (r : Row) → slice_get (map row_in cells) p ≡ Some r → (at (heard_sky cells) p).row ≡ r
row_at [] p r e = let z : ◌≡◌ {A = ℕ} 0 1 = cc in absurd (omega arith)
row_at (c ∷ cs) zero r e = cc
row_at (c ∷ cs) (suc p) r e = row_at cs p r e
