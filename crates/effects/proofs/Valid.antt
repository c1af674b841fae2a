-- One more code of an acceptance.
use Rattle.std.proofs.Common.{◌≡◌, ℕ, ◌+◌, ◌<◌, ◌≤◌, true, false, cond, ltb, List, [], ◌∷◌, ◌++◌, length, sym, ap, ◌∙◌, arith}
use Rattle.std.proofs.lemmas.List.FromFn.{filter_of_map_range_with_len_more}
use Rattle.std.proofs.lemmas.List.{append-nil, length_push}
use Rattle.std.proofs.lemmas.Bool.{cond-true, cond-false, lt-ltb}
use Rattle.plmn.specs.Codes.{valid_code}
use Rattle.plmn.specs.declared.code.Code.{Code}
use Rattle.radio.specs.Airs.{Cell, code_at}
use Rattle.effects.specs.Accepted.{accepted_codes}

module _ (cells : List Cell) (place i : ℕ) where
  more_is : accepted_codes cells place (i + 1) ≡ accepted_codes cells place i ++ cond (valid_code (code_at cells place i)) (code_at cells place i ∷ []) []
  more_is = filter_of_map_range_with_len_more valid_code (code_at cells place) 0 i i (omega arith)

  pub valid_more : (cs after : List Code) (c : Code) → c ≡ code_at cells place i → valid_code c ≡ true → cs ≡ accepted_codes cells place i → length cs ≤ i → i < 80 →
      after ≡ cond (ltb (length cs) 80) (cs ++ c ∷ []) cs → (after ≡ accepted_codes cells place (i + 1)) × (length after ≤ i + 1)
  valid_more cs after c ec v e l h ea =
      let is : after ≡ cs ++ c ∷ [] = ea ∙ cond-true (ltb (length cs) 80) (cs ++ c ∷ []) cs (lt-ltb (length cs) 80 (omega arith)) in
      let w : valid_code (code_at cells place i) ≡ true = ap valid_code (sym ec) ∙ v in (
        is ∙ (ap (λ (z : List Code). z ++ c ∷ []) e ∙ (ap (λ (x : Code). accepted_codes cells place i ++ x ∷ []) ec
            ∙ (ap (λ (z : List Code). accepted_codes cells place i ++ z) (sym (cond-true (valid_code (code_at cells place i)) (code_at cells place i ∷ []) [] w)) ∙ sym more_is))),
        omega (arith, ap length is, length_push cs c),
      )

  pub invalid_more : (cs : List Code) (c : Code) → c ≡ code_at cells place i → valid_code c ≡ false → cs ≡ accepted_codes cells place i → cs ≡ accepted_codes cells place (i + 1)
  invalid_more cs c ec v e =
      let w : valid_code (code_at cells place i) ≡ false = ap valid_code (sym ec) ∙ v in
      e ∙ (sym (append-nil (accepted_codes cells place i))
      ∙ (ap (λ (z : List Code). accepted_codes cells place i ++ z) (sym (cond-false (valid_code (code_at cells place i)) (code_at cells place i ∷ []) [] w)) ∙ sym more_is))
