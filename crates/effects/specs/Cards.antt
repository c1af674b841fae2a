-- What is written to the card.
use Rattle.std.specs.Prelude.{ℕ, ◌/◌, ◌%◌, List, [], ◌∷◌, ◌++◌}
use Rattle.std.specs.List.{flat_map}
use Rattle.plmn.specs.declared.code.Code.{Code}
use Rattle.card.specs.Files.{Files, written, location_file}

abbrev pub code_bytes : Code → List ℕ
code_bytes c = c.first ∷ c.second ∷ c.third ∷ []

-- codes one after another, as they stand in a list of the short kind
abbrev pub codes_bytes : List Code → List ℕ
codes_bytes cs = flat_map code_bytes cs

-- bytes 5 to 9 of the location, and its byte 11
abbrev pub located : List ℕ → ℕ → Files → Files
located place status fs = written location_file 10 (status ∷ []) (written location_file 4 place fs)

-- an acceptance: the code, then the area's number, high byte first, and 00
abbrev pub registered_at : Code → ℕ → Files → Files
registered_at code area fs = located (code_bytes code ++ (area / 256 ∷ area % 256 ∷ [])) 0 fs

-- no acceptance: FF FF FF FF FE, and 01
abbrev pub unregistered : Files → Files
unregistered fs = located (0xFF ∷ 0xFF ∷ 0xFF ∷ 0xFF ∷ 0xFE ∷ []) 1 fs
