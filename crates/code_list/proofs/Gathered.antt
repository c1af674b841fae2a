-- The valid codes of one more entry.
use Rattle.std.proofs.Common.{◌≡◌, ℕ, ◌+◌, ◌<◌, true, false, cond, List, [], ◌∷◌, ◌++◌, length, get_or, take, filter, refl, ap, ◌∙◌, arith}
use Rattle.std.proofs.lemmas.List.Elements.{filter-append}
use Rattle.std.proofs.lemmas.List.{map_more, append-nil}
use Rattle.std.proofs.lemmas.Bool.{cond-true, cond-false}
use Rattle.plmn.specs.Codes.{valid_code}
use Rattle.plmn.specs.declared.code.Code.{Code}
use Rattle.entry_list.specs.declared.listed.Listed.{Listed}
use Rattle.code_list.specs.Codes.{codes_of, valid_codes, or_alone}

valid_more : (es : List Listed) (i : ℕ) (d : Listed) → i < length es →
    valid_codes (take (i + 1) es) ≡ valid_codes (take i es) ++ cond (valid_code (get_or es i d).code) ((get_or es i d).code ∷ []) []
valid_more es i d l =
    ap (filter valid_code) (map_more (λ (e : Listed). e.code) es i d l)
    ∙ filter-append valid_code (codes_of (take i es)) ((get_or es i d).code ∷ [])

pub valid_more_yes : (es : List Listed) (i : ℕ) (d : Listed) → i < length es → valid_code (get_or es i d).code ≡ true →
    valid_codes (take (i + 1) es) ≡ valid_codes (take i es) ++ (get_or es i d).code ∷ []
valid_more_yes es i d l v = valid_more es i d l ∙ ap (λ (cs : List Code). valid_codes (take i es) ++ cs) (cond-true (valid_code (get_or es i d).code) ((get_or es i d).code ∷ []) [] v)

pub valid_more_no : (es : List Listed) (i : ℕ) (d : Listed) → i < length es → valid_code (get_or es i d).code ≡ false → valid_codes (take (i + 1) es) ≡ valid_codes (take i es)
valid_more_no es i d l v =
    valid_more es i d l
    ∙ (ap (λ (cs : List Code). valid_codes (take i es) ++ cs) (cond-false (valid_code (get_or es i d).code) ((get_or es i d).code ∷ []) [] v) ∙ append-nil (valid_codes (take i es)))

-- where there are valid codes, they are the home codes
pub some_not_alone : (cs : List Code) (imsi : Code) → 0 < length cs → cs ≡ or_alone cs imsi
some_not_alone [] imsi h = absurd (omega arith)
some_not_alone (c ∷ cs) imsi h = refl
