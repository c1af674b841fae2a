-- The IMSI code and the registered code.
use Rattle.std.specs.Prelude.{ℕ, ◌+◌, ◌-◌, ◌/◌, ◌%◌, Bool, cond, ◌&&◌, List, Some, None, Option, ◌==◌, slice_index}
use Rattle.plmn.specs.Codes.{low, high, digit, code_of, valid_code}
use Rattle.plmn.specs.declared.code.Code.{Code}
use Rattle.plmn.specs.declared.code.Digits.{Digits}

-- a byte by its number, counted from 1; 0 where there is none
abbrev pub byte_number : List ℕ → ℕ → ℕ
byte_number bs n = cond (n == 0) 0 (slice_index bs (n - 1))

-- digit 1 is the high half of byte 2, digits 2 and 3 are the low and the high half of byte 3, and so on
abbrev pub imsi_digit : List ℕ → ℕ → ℕ
imsi_digit imsi n = cond (n % 2 == 0) (low (byte_number imsi (n / 2 + 2))) (high (byte_number imsi (n / 2 + 2)))

-- MCC digits 1 to 3, then MNC digits 1 and 2; the third MNC digit is given
abbrev pub imsi_digits : List ℕ → ℕ → Digits
imsi_digits imsi mnc3 = record {
  mcc1 = imsi_digit imsi 1;
  mcc2 = imsi_digit imsi 2;
  mcc3 = imsi_digit imsi 3;
  mnc1 = imsi_digit imsi 4;
  mnc2 = imsi_digit imsi 5;
  mnc3 = mnc3;
}

-- the first five digits are 0 to 9
abbrev pub five_digits : Digits → Bool
five_digits d = digit d.mcc1 && (digit d.mcc2 && (digit d.mcc3 && (digit d.mnc1 && digit d.mnc2)))

-- the low half of byte 4 of the administrative data
abbrev pub mnc_length_of : List ℕ → ℕ
mnc_length_of admin = low (byte_number admin 4)

-- the third digit of the MNC: F where the MNC has two digits, none where the length is wrong or the digit above 9
abbrev pub third_digit : List ℕ → ℕ → Option ℕ
third_digit imsi n = cond (n == 2) (Some 15) (cond (n == 3 && digit (imsi_digit imsi 6)) (Some (imsi_digit imsi 6)) None)

abbrev pub code_with : List ℕ → Option ℕ → Option Code
code_with imsi None = None
code_with imsi (Some mnc3) = cond (five_digits (imsi_digits imsi mnc3)) (Some (code_of (imsi_digits imsi mnc3))) None

-- the IMSI code, from the bytes of the IMSI and of the administrative data; none where the MNC length is neither 2 nor 3 or
-- a digit is above 9
abbrev pub code_of_imsi : List ℕ → List ℕ → Option Code
code_of_imsi imsi admin = code_with imsi (third_digit imsi (mnc_length_of admin))

-- bytes 5 to 7 of the location
abbrev pub location_code : List ℕ → Code
location_code location = record { first = byte_number location 5; second = byte_number location 6; third = byte_number location 7 }

-- the registered code: bytes 5 to 7 of the location, if they are a valid code
abbrev pub registered_in : List ℕ → Option Code
registered_in location = cond (valid_code (location_code location)) (Some (location_code location)) None
