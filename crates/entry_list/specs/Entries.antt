-- What the entries of a list mean, and the first one that serves a code and technologies.
use Rattle.std.specs.Prelude.{ℕ, ◌+◌, ◌*◌, ◌/◌, Bool, cond, ◌&&◌, List, map, length, take, drop, Option, ◌==◌, slice_index}
use Rattle.std.specs.List.{range_with_len, position}
use Rattle.plmn.specs.Codes.{valid_code, same_code}
use Rattle.plmn.specs.Technologies.{common}
use Rattle.plmn.specs.declared.code.Code.{Code}
use Rattle.entry_list.specs.declared.listed.Listed.{Listed}

-- the first three bytes
abbrev pub code_in : List ℕ → Code
code_in bs = record { first = slice_index bs 0; second = slice_index bs 1; third = slice_index bs 2 }

-- the fourth and fifth bytes, high byte first
abbrev pub set_in : List ℕ → ℕ
set_in bs = slice_index bs 3 * 256 + slice_index bs 4

-- every bit
abbrev pub every_technology : ℕ
every_technology = 0xFFFF

-- a set of 0000 means every technology
abbrev pub every_if_none : ℕ → ℕ
every_if_none bits = cond (bits == 0) every_technology bits

-- the short kind, of three bytes
abbrev pub short_entry : List ℕ → Listed
short_entry bs = record { code = code_in bs; technologies = record { bits = every_technology } }

-- the full kind, of five bytes
abbrev pub full_entry : List ℕ → Listed
full_entry bs = record { code = code_in bs; technologies = record { bits = every_if_none (set_in bs) } }

-- the bytes of the entry at a position
abbrev pub entry_bytes : ℕ → List ℕ → ℕ → List ℕ
entry_bytes size bs i = take size (drop (i * size) bs)

-- every whole entry of a file, in order; bytes after the last whole entry are none
abbrev pub entries : ℕ → (List ℕ → Listed) → List ℕ → List Listed
entries size meaning bs = map (λ i. meaning (entry_bytes size bs i)) (range_with_len 0 (length bs / size))

-- an entry counts if its code is valid and one of its technologies is supported
abbrev pub usable : ℕ → Listed → Bool
usable supported e = valid_code e.code && common e.technologies.bits supported

-- it serves a code and technologies if it counts, has that code, and one of those technologies
abbrev pub serves : ℕ → Code → ℕ → Listed → Bool
serves supported code wanted e = usable supported e && (same_code e.code code && common e.technologies.bits wanted)

abbrev pub first_match : ℕ → Code → ℕ → List Listed → Option ℕ
first_match supported code wanted es = position (serves supported code wanted) es
