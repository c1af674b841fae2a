-- The codes that an acceptance brings.
use Rattle.std.specs.Prelude.{ℕ, List, map, filter}
use Rattle.std.specs.List.{range_with_len}
use Rattle.plmn.specs.Codes.{valid_code}
use Rattle.plmn.specs.declared.code.Code.{Code}
use Rattle.radio.specs.Airs.{Cell, code_at}

-- the valid ones of the first n codes that the row at a place answered with
abbrev pub accepted_codes : List Cell → ℕ → ℕ → List Code
accepted_codes cells place n = filter valid_code (map (code_at cells place) (range_with_len 0 n))
