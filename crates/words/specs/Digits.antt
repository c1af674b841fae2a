-- Digits and numbers as a scenario writes them: which bytes are digits, and what they are worth.
use Rattle.std.specs.Prelude.{ℕ, ◌+◌, ◌-◌, ◌*◌, Bool, cond, ◌&&◌, List, [], ◌∷◌, length, drop, ℤ, pos, ◌-ℤ◌, Some, None, Option, ◌==◌, nat_le, nat_lt, slice_index}
use Rattle.plmn.specs.declared.code.Code.{Code}

-- the byte b is one of those from low to high
abbrev pub among : ℕ → ℕ → ℕ → Bool
among low high b = nat_le low b && nat_le b high

-- 0 to 9, A to F, a to f
abbrev pub hex_value : ℕ → Option ℕ
hex_value b = cond (among 48 57 b) (Some (b - 48)) (cond (among 65 70 b) (Some (b - 55)) (cond (among 97 102 b) (Some (b - 87)) None))

-- the number with these two digits in a base
abbrev pub joined_by : ℕ → Option ℕ → Option ℕ → Option ℕ
joined_by base None low = None
joined_by base (Some h) None = None
joined_by base (Some h) (Some l) = Some (h * base + l)

abbrev pub pair_value : ℕ → ℕ → Option ℕ
pair_value high low = joined_by 16 (hex_value high) (hex_value low)

-- the byte that stands at a place of a word, as two digits
abbrev pub byte_at : List ℕ → ℕ → Option ℕ
byte_at w i = pair_value (slice_index w i) (slice_index w (i + 1))

-- exactly four digits
abbrev pub four_value : List ℕ → Option ℕ
four_value w = cond (length w == 4) (joined_by 256 (byte_at w 0) (byte_at w 2)) None

-- exactly six digits
abbrev pub code_by : Option ℕ → Option ℕ → Option ℕ → Option Code
code_by None s t = None
code_by (Some f) None t = None
code_by (Some f) (Some s) None = None
code_by (Some f) (Some s) (Some t) = Some (record { first = f; second = s; third = t })

abbrev pub six_value : List ℕ → Option Code
six_value w = cond (length w == 6) (code_by (byte_at w 0) (byte_at w 2) (byte_at w 4)) None

-- one more decimal digit behind a number, where it is one and the number stays at most most
abbrev pub digit_more : ℕ → ℕ → ℕ → Option ℕ
digit_more most a b = cond (among 48 57 b && nat_le (a * 10 + (b - 48)) most) (Some (a * 10 + (b - 48))) None

abbrev pub digits_from : ℕ → Option ℕ → List ℕ → Option ℕ
digits_from most None bs = None
digits_from most (Some a) [] = Some a
digits_from most (Some a) (b ∷ bs) = digits_from most (digit_more most a b) bs

-- one or more digits, worth at most most
abbrev pub number_up_to : ℕ → List ℕ → Option ℕ
number_up_to most w = cond (length w == 0) None (digits_from most (Some 0) w)

abbrev pub above : Option ℕ → Option ℤ
above None = None
above (Some n) = Some (pos n)

abbrev pub below : Option ℕ → Option ℤ
below None = None
below (Some n) = Some (pos 0 -ℤ pos n)

-- a minus sign may stand before the digits of a level
abbrev pub level_value : List ℕ → Option ℤ
level_value w = cond (nat_lt 0 (length w) && slice_index w 0 == 45) (below (number_up_to 32768 (drop 1 w))) (above (number_up_to 32767 w))
