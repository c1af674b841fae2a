-- Network codes: which half byte holds which digit, and which codes are valid.
use Rattle.std.specs.Prelude.{ℕ, ◌+◌, ◌*◌, ◌/◌, ◌%◌, Bool, ◌&&◌, ◌||◌, ◌==◌, nat_lt}
use Rattle.plmn.specs.declared.code.Code.{Code}
use Rattle.plmn.specs.declared.code.Digits.{Digits}

abbrev pub low : ℕ → ℕ
low byte = byte % 16

abbrev pub high : ℕ → ℕ
high byte = byte / 16

abbrev pub digit : ℕ → Bool
digit half = nat_lt half 10

-- low half first: MCC digits 1 and 2, MCC digit 3 and MNC digit 3, MNC digits 1 and 2
abbrev pub digits_of : Code → Digits
digits_of c = record {
  mcc1 = low c.first;
  mcc2 = high c.first;
  mcc3 = low c.second;
  mnc1 = low c.third;
  mnc2 = high c.third;
  mnc3 = high c.second;
}

abbrev pub code_of : Digits → Code
code_of d = record {
  first = low d.mcc2 * 16 + low d.mcc1;
  second = low d.mnc3 * 16 + low d.mcc3;
  third = low d.mnc2 * 16 + low d.mnc1;
}

-- a two-digit MNC has F as its third digit
abbrev pub valid_digits : Digits → Bool
valid_digits d =
    digit d.mcc1 && (digit d.mcc2 && (digit d.mcc3 && (digit d.mnc1 && (digit d.mnc2 && (digit d.mnc3 || d.mnc3 == 15)))))

abbrev pub valid_code : Code → Bool
valid_code c = valid_digits (digits_of c)

abbrev pub empty_code : Code
empty_code = record { first = 255; second = 255; third = 255 }

-- equality is equality of bytes
abbrev pub same_code : Code → Code → Bool
same_code a b = a.first == b.first && (a.second == b.second && a.third == b.third)

-- an invalid code matches nothing
abbrev pub matching : Code → Code → Bool
matching a b = valid_code a && same_code a b
