-- What a call prints: every byte of the answer.
use Rattle.std.specs.Prelude.{ℕ, ◌+◌, ◌/◌, ◌%◌, cond, List, [], ◌∷◌, ◌++◌, length, codes, decimal, nat_lt}
use Rattle.std.specs.List.{flat_map}
use Rattle.card.specs.Files.{Files, bytes_of}
use Rattle.plmn.specs.declared.code.Code.{Code}
use Rattle.refusal.specs.Numbers.{number_of}
use Rattle.refusal.specs.declared.FileFault.{FileFault}
use Rattle.refusal.specs.declared.FileFault.TheVariants.{Absent, Short}
use Rattle.refusal.specs.declared.Refusal.{Refusal}
use Rattle.refusal.specs.declared.Refusal.TheVariants.{Technologies, NeededFile, HomeDigits, ShortTrail, WrongMode, Locked, Registered, UnusableRow, NoPlaces, NoFile, OutsideFile, NoRow}

-- the capital digit of a value below 16
abbrev pub hex_digit : ℕ → ℕ
hex_digit v = cond (nat_lt v 10) (48 + v) (55 + v)

-- two capital digits
abbrev pub byte_text : ℕ → List ℕ
byte_text b = hex_digit (b / 16) ∷ hex_digit (b % 16) ∷ []

-- four capital digits
abbrev pub number_text : ℕ → List ℕ
number_text n = byte_text (n / 256) ++ byte_text (n % 256)

-- a network code as bytes
abbrev pub code_bytes : Code → List ℕ
code_bytes c = c.first ∷ c.second ∷ c.third ∷ []

-- the digits of all bytes, or a dash where there is none
abbrev pub bytes_text : List ℕ → List ℕ
bytes_text [] = codes "-"
bytes_text (b ∷ bs) = flat_map byte_text (b ∷ bs)

abbrev pub file_text : ℕ → List ℕ → List ℕ
file_text number bytes = number_text number ++ (codes " " ++ (bytes_text bytes ++ codes "\n"))

abbrev pub card_head : ℕ → List ℕ
card_head count = codes "card: " ++ (decimal count ++ codes " files\n")

abbrev pub file_line : Files → ℕ → List ℕ
file_line files number = file_text number (bytes_of (files number))

-- the files of these numbers
abbrev pub card_text : Files → List ℕ → List ℕ
card_text files numbers = card_head (length numbers) ++ flat_map (file_line files) numbers

abbrev pub fault_word : FileFault → List ℕ
fault_word Absent = codes "absent"
fault_word Short = codes "short"

abbrev pub plain_word : Refusal → List ℕ
plain_word Technologies = codes "technologies"
plain_word (NeededFile file fault) = []
plain_word HomeDigits = codes "home-digits"
plain_word ShortTrail = codes "short-trail"
plain_word WrongMode = codes "wrong-mode"
plain_word Locked = codes "locked"
plain_word Registered = codes "registered"
plain_word UnusableRow = codes "unusable-row"
plain_word NoPlaces = codes "no-places"
plain_word NoFile = codes "no-file"
plain_word OutsideFile = codes "outside-file"
plain_word NoRow = codes "no-row"

abbrev pub refusal_word : Refusal → List ℕ
refusal_word Technologies = plain_word Technologies
refusal_word (NeededFile file fault) = number_text file ++ (codes " " ++ fault_word fault)
refusal_word HomeDigits = plain_word HomeDigits
refusal_word ShortTrail = plain_word ShortTrail
refusal_word WrongMode = plain_word WrongMode
refusal_word Locked = plain_word Locked
refusal_word Registered = plain_word Registered
refusal_word UnusableRow = plain_word UnusableRow
refusal_word NoPlaces = plain_word NoPlaces
refusal_word NoFile = plain_word NoFile
refusal_word OutsideFile = plain_word OutsideFile
refusal_word NoRow = plain_word NoRow

abbrev pub refused_head : ℕ → List ℕ
refused_head number = codes "refused " ++ (decimal number ++ codes " ")

-- a refusal by its number and its word
abbrev pub refusal_text : Refusal → List ℕ
refusal_text r = refused_head (number_of r) ++ refusal_word r

abbrev pub settings_text : List ℕ
settings_text = codes "settings: " ++ (refusal_text Technologies ++ codes "\n")
