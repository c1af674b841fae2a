-- The first match in a reader's words: no hole ends a list, and no entry that serves is passed over.
use Rattle.std.specs.Prelude.{◌≡◌, ℕ, ◌<◌, true, List, length, Some, None, Option, slice_index_or}
use Rattle.plmn.specs.Codes.{valid_code}
use Rattle.plmn.specs.Technologies.{common}
use Rattle.plmn.specs.declared.code.Code.{Code}
use Rattle.entry_list.specs.declared.listed.Listed.{Listed}

-- the entry counts, and has this code and one of these technologies
pub record Serves (supported : ℕ) (code : Code) (wanted : ℕ) (e : Listed) : Type 0 where
  pub is_valid : valid_code code ≡ true
  pub has_code : e.code ≡ code
  pub is_supported : common e.technologies.bits supported ≡ true
  pub is_wanted : common e.technologies.bits wanted ≡ true

-- the first entry that serves, or no entry of the whole list does
abbrev pub Matching : ℕ → Code → ℕ → List Listed → Option ℕ → Type 0
Matching supported code wanted es None = (k : ℕ) (d : Listed) → k < length es → Serves supported code wanted (slice_index_or es k d) → ⊥
Matching supported code wanted es (Some i) =
    (i < length es) × ((d : Listed) → Serves supported code wanted (slice_index_or es i d)) × ((k : ℕ) (d : Listed) → k < i → Serves supported code wanted (slice_index_or es k d) → ⊥)
