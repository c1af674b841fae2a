-- What the choice of rows depends on, and which rows are allowed.
use Rattle.std.specs.Prelude.{ℕ, Bool, not, ◌&&◌, List, Option}
use Rattle.std.specs.List.{list_any}
use Rattle.plmn.specs.Codes.{valid_code, same_code}
use Rattle.plmn.specs.Technologies.{has_number}
use Rattle.plmn.specs.declared.code.Code.{Code}
use Rattle.plmn.specs.declared.row.Row.{Row}
use Rattle.short_list.specs.Places.{held_in}
use Rattle.entry_list.specs.declared.listed.Listed.{Listed}

pub record Facts : Type 0 where
  pub supported : ℕ
  pub registered : Option Code
  pub equivalents : List Code
  pub home : List Code
  pub forbidden : List Code
  pub user : List Listed
  pub operator : List Listed

-- a row is allowed when its technology is supported and its code is valid and not forbidden
abbrev pub allowed : ℕ → List Code → Row → Bool
allowed supported forbidden r = has_number supported r.technology && (valid_code r.code && not (held_in same_code r.code forbidden))

-- some allowed row has this code
abbrev pub some_allowed : ℕ → List Code → Code → List Row → Bool
some_allowed supported forbidden c rs = list_any (λ r. same_code r.code c && allowed supported forbidden r) rs
