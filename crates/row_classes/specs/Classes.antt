-- The class of an allowed row: the first that fits.
use Rattle.std.specs.Prelude.{ℕ, Bool, false, cond, not, List, ℤ, negsuc, Some, None, Option, int_lt}
use Rattle.std.specs.List.{find, position}
use Rattle.plmn.specs.Codes.{same_code}
use Rattle.plmn.specs.Technologies.{with_number, bit_of}
use Rattle.plmn.specs.declared.code.Code.{Code}
use Rattle.plmn.specs.declared.row.Row.{Row}
use Rattle.plmn.specs.declared.technology.Technology.{Technology}
use Rattle.plmn.specs.declared.technology.Technology.TheVariants.{Gsm, Utran, Eutran}
use Rattle.entry_list.specs.Entries.{first_match}
use Rattle.entry_list.specs.declared.listed.Listed.{Listed}
use Rattle.row_classes.specs.Facts.{Facts, some_allowed}
use Rattle.row_classes.specs.declared.class.Class.{Class}
use Rattle.row_classes.specs.declared.class.Class.TheVariants.{Registered, Equivalent, Home, User, Operator, HighQuality, Rest}

-- the number of each class, and its position where it goes by a list
abbrev pub class_number : Class → ℕ
class_number Registered = 1
class_number (Equivalent p) = 2
class_number Home = 3
class_number (User p) = 4
class_number (Operator p) = 5
class_number HighQuality = 6
class_number Rest = 7

abbrev pub class_position : Class → ℕ
class_position Registered = 0
class_position (Equivalent p) = p
class_position Home = 0
class_position (User p) = p
class_position (Operator p) = p
class_position HighQuality = 0
class_position Rest = 0

-- the least level of high quality, in dBm: -110 in E-UTRAN, -95 in UTRAN, -85 in GSM
abbrev pub high_from : Technology → ℤ
high_from Eutran = negsuc 109
high_from Utran = negsuc 94
high_from Gsm = negsuc 84

abbrev pub high_at : Option Technology → ℤ → Bool
high_at None level = false
high_at (Some t) level = not (int_lt level (high_from t))

abbrev pub high_quality : Row → Bool
high_quality r = high_at (with_number r.technology) r.level

abbrev pub bit_at : Option Technology → ℕ
bit_at None = 0
bit_at (Some t) = bit_of t

-- the position of a row in a list: the first entry that counts with its code and technology
abbrev pub list_position : ℕ → Row → List Listed → Option ℕ
list_position supported r es = first_match supported r.code (bit_at (with_number r.technology)) es

-- the position of a code among codes
abbrev pub code_position : Code → List Code → Option ℕ
code_position c cs = position (λ d. same_code d c) cs

abbrev pub is_code : Option Code → Code → Bool
is_code None c = false
is_code (Some d) c = same_code d c

-- the first home code that has an allowed row
abbrev pub served_home : ℕ → List Code → List Row → List Code → Option Code
served_home supported forbidden rows cs = find (λ c. some_allowed supported forbidden c rows) cs

abbrev pub home_served : Facts → List Row → Option Code
home_served f rows = served_home f.supported f.forbidden rows f.home

abbrev pub by_position : (ℕ → Class) → Option ℕ → Class → Class
by_position class None later = later
by_position class (Some p) later = class p

-- the class of a row of neither the registered code nor an equivalent one nor the served home code
abbrev pub listed_class : Facts → Row → Class
listed_class f r =
    by_position User (list_position f.supported r f.user)
    (by_position Operator (list_position f.supported r f.operator)
    (cond (high_quality r) HighQuality Rest))

-- the class of an allowed row, where `home` is the home code that is served
abbrev pub class_of : Facts → Option Code → Row → Class
class_of f home r =
    cond (is_code f.registered r.code) Registered
    (by_position Equivalent (code_position r.code f.equivalents)
    (cond (is_code home r.code) Home
    (listed_class f r)))
