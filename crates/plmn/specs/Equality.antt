-- `same_code` tells whether two codes are equal, and `same_area` whether two areas are.
use Rattle.std.proofs.Common.{◌≡◌, ℕ, Bool, ◌&&◌, eqb, Decides, ap, ◌∙◌}
use Rattle.std.proofs.lemmas.Bool.{and_parts, and_from, eqb-true, eq-eqb}
use Rattle.plmn.specs.Codes.{same_code}
use Rattle.plmn.specs.declared.code.Code.{Code}
use Rattle.plmn.specs.declared.area.Area.{Area}
use Rattle.plmn.specs.Areas.{same_area}

same_bytes : (a b : Code) → a.first ≡ b.first → a.second ≡ b.second → a.third ≡ b.third → a ≡ b
same_bytes a b p q r =
    ap (λ (x : ℕ). record { first = x; second = a.second; third = a.third }) p
    ∙ (ap (λ (x : ℕ). record { first = b.first; second = x; third = a.third }) q ∙ ap (λ (x : ℕ). record { first = b.first; second = b.second; third = x }) r)

pub same_code_says : (a b : Code) → Decides (same_code a b) (a ≡ b)
same_code_says a b =
    let first : Bool = eqb a.first b.first in
    let second : Bool = eqb a.second b.second in
    let third : Bool = eqb a.third b.third in (
      λ h.
          let p = and_parts first (second && third) h in
          let q = and_parts second third p.1 in
          same_bytes a b (eqb-true a.first b.first p.0) (eqb-true a.second b.second q.0) (eqb-true a.third b.third q.1),
      λ e. and_from first (second && third) (eq-eqb a.first b.first (ap (λ (c : Code). c.first) e))
          (and_from second third (eq-eqb a.second b.second (ap (λ (c : Code). c.second) e)) (eq-eqb a.third b.third (ap (λ (c : Code). c.third) e))),
    )

pub same_area_says : (a b : Area) → Decides (same_area a b) (a ≡ b)
same_area_says a b =
    let code : Bool = same_code a.code b.code in
    let number : Bool = eqb a.number b.number in (
      λ h.
          let p = and_parts code number h in
          ap (λ (c : Code). record { code = c; number = a.number }) ((same_code_says a.code b.code).0 p.0)
          ∙ ap (λ (n : ℕ). record { code = b.code; number = n }) (eqb-true a.number b.number p.1),
      λ e. and_from code number ((same_code_says a.code b.code).1 (ap (λ (x : Area). x.code) e)) (eq-eqb a.number b.number (ap (λ (x : Area). x.number) e)),
    )
