-- Codes gathered from lists: all of them, the valid ones, and the home codes.
use Rattle.std.specs.Prelude.{List, [], ◌∷◌, map, filter}
use Rattle.bounded.specs.Held.{held}
use Rattle.plmn.specs.Codes.{valid_code}
use Rattle.plmn.specs.declared.code.Code.{Code}
use Rattle.entry_list.specs.declared.listed.Listed.{Listed}
use Rattle.code_list.specs.declared.codes.CodeList.{CodeList}

-- what a `CodeList` holds
abbrev pub codes_in : CodeList → List Code
codes_in l = held l.held

-- the code of every entry, holes included
abbrev pub codes_of : List Listed → List Code
codes_of es = map (λ e. e.code) es

-- the valid codes, in order
abbrev pub valid_codes : List Listed → List Code
valid_codes es = filter valid_code (codes_of es)

abbrev pub or_alone : List Code → Code → List Code
or_alone [] code = code ∷ []
or_alone (c ∷ cs) code = c ∷ cs

-- the valid codes of the home list, or the IMSI code alone where there are none
abbrev pub home_codes : List Listed → Code → List Code
home_codes es imsi = or_alone (valid_codes es) imsi
