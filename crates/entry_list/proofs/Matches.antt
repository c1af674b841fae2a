-- The first match is the first entry that serves, whatever stands before it.
use Rattle.std.proofs.Common.{◌≡◌, ℕ, zero, suc, ◌+◌, ◌<◌, Bool, true, false, ◌&&◌, List, [], ◌∷◌, length, get_or, Some, None, Option, sym, ◌∙◌, subst, ⊎_elim, arith}
use Rattle.std.proofs.lemmas.Bool.{cond-true, cond-false, cases_Bool, and_parts, and_from, both_ways}
use Rattle.std.specs.List.{position_from}
use Rattle.std.proofs.lemmas.Iterator.Adapters.{position_from-zero}
use Rattle.plmn.specs.Codes.{valid_code, same_code}
use Rattle.plmn.specs.Technologies.{common}
use Rattle.plmn.specs.declared.code.Code.{Code}
use Rattle.plmn.specs.Equality.{same_code_says}
use Rattle.entry_list.specs.Entries.{usable, serves, first_match}
use Rattle.entry_list.specs.Laws.{Serves, Matching}
use Rattle.entry_list.specs.declared.listed.Listed.{Listed}

none_some : (i : ℕ) → None ≡ Some i → ⊥
none_some i h = let z : ◌≡◌ {A = ℕ} 0 1 = cc in omega arith

same_some : (i j : ℕ) → Some i ≡ Some j → i ≡ j
same_some i j h = cc

module _ (supported : ℕ) (code : Code) (wanted : ℕ) where
  serves_says : (e : Listed) → serves supported code wanted e ≡ true → Serves supported code wanted e
  serves_says e h =
      let p = and_parts (usable supported e) (same_code e.code code && common e.technologies.bits wanted) h in
      let u = and_parts (valid_code e.code) (common e.technologies.bits supported) p.0 in
      let q = and_parts (same_code e.code code) (common e.technologies.bits wanted) p.1 in
      let same = (same_code_says e.code code).0 q.0 in
      record { is_valid = subst (λ (c : Code). valid_code c ≡ true) same u.0; has_code = same; is_supported = u.1; is_wanted = q.1 }

  says_serves : (e : Listed) → Serves supported code wanted e → serves supported code wanted e ≡ true
  says_serves e s =
      and_from (usable supported e) (same_code e.code code && common e.technologies.bits wanted)
      (and_from (valid_code e.code) (common e.technologies.bits supported) (subst (λ (c : Code). valid_code c ≡ true) (sym s.has_code) s.is_valid) s.is_supported)
      (and_from (same_code e.code code) (common e.technologies.bits wanted) ((same_code_says e.code code).1 s.has_code) s.is_wanted)

  passed_over : (e : Listed) → serves supported code wanted e ≡ false → Serves supported code wanted e → ⊥
  passed_over e f s = both_ways (serves supported code wanted e) f (says_serves e s)

  none_later : (e : Listed) (es : List Listed) (n : ℕ) → (Serves supported code wanted e → ⊥) → ((k : ℕ) (d : Listed) → k < n → Serves supported code wanted (get_or es k d) → ⊥) →
      (k : ℕ) (d : Listed) → k < suc n → Serves supported code wanted (get_or (e ∷ es) k d) → ⊥
  none_later e es n here rest zero d l = here
  none_later e es n here rest (suc k) d l = rest k d (omega arith)

  first_some : (i : ℕ) (es : List Listed) (j : ℕ) → position_from (serves supported code wanted) i es ≡ Some j → (n : ℕ) × (i + n ≡ j) × Matching supported code wanted es (Some n)
  first_some i [] j h = absurd (none_some j h)
  first_some i (e ∷ es) j h =
      let p : Listed → Bool = serves supported code wanted in
      ⊎_elim
      (λ (a : p e ≡ true).
      (0, (let q = same_some i j (sym (cond-true (p e) (Some i) (position_from p (i + 1) es) a) ∙ h) in omega arith), (omega arith, λ d. serves_says e a, λ k d l. absurd (omega arith))))
      (λ (a : p e ≡ false).
      let r = first_some (i + 1) es j (sym (cond-false (p e) (Some i) (position_from p (i + 1) es) a) ∙ h) in
      (suc r.0, omega (arith, r.1), (omega (arith, r.2.0), r.2.1, none_later e es r.0 (passed_over e a) r.2.2)))
      (cases_Bool (p e))

  first_none : (i : ℕ) (es : List Listed) → position_from (serves supported code wanted) i es ≡ None → Matching supported code wanted es None
  first_none i [] h = λ k d l. absurd (omega arith)
  first_none i (e ∷ es) h =
      let p : Listed → Bool = serves supported code wanted in
      ⊎_elim
      (λ (a : p e ≡ true). absurd (none_some i (sym h ∙ cond-true (p e) (Some i) (position_from p (i + 1) es) a)))
      (λ (a : p e ≡ false). none_later e es (length es) (passed_over e a) (first_none (i + 1) es (sym (cond-false (p e) (Some i) (position_from p (i + 1) es) a) ∙ h)))
      (cases_Bool (p e))

  by_match : (es : List Listed) (o : Option ℕ) → position_from (serves supported code wanted) 0 es ≡ o → Matching supported code wanted es o
  by_match es None h = first_none 0 es h
  by_match es (Some j) h =
      let r = first_some 0 es j h in
      let e : r.0 ≡ j = omega (arith, r.1) in
      subst (λ (n : ℕ). Matching supported code wanted es (Some n)) e r.2

  pub matching : (es : List Listed) → Matching supported code wanted es (first_match supported code wanted es)
  matching es = by_match es (first_match supported code wanted es) (sym (position_from-zero (serves supported code wanted) es))
