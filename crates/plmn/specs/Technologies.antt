-- The technologies by number and by bit, and the sets that a selector can support.
use Rattle.std.specs.Prelude.{ℕ, Bool, false, cond, not, ◌&&◌, Some, None, Option, Result, MatchResult, ◌≡◌, ◌==◌, bit_and}
use Rattle.plmn.specs.declared.technology.Technology.{Technology}
use Rattle.plmn.specs.declared.technology.UnknownTechnology.{UnknownTechnology}
use Rattle.plmn.specs.declared.technology.Technology.TheVariants.{Gsm, Utran, Eutran}

abbrev pub number_of : Technology → ℕ
number_of Gsm = 0
number_of Utran = 2
number_of Eutran = 7

abbrev pub with_number : ℕ → Option Technology
with_number n = cond (n == 0) (Some Gsm) (cond (n == 2) (Some Utran) (cond (n == 7) (Some Eutran) None))

-- a number gives its technology, or else itself as one that stands for none
abbrev pub Numbers : ℕ → Result Technology UnknownTechnology → Type 0
Numbers n r = MatchResult r (λ t. with_number n ≡ Some t) (λ e. (with_number n ≡ None) × (e.0 ≡ n))

abbrev pub bit_of : Technology → ℕ
bit_of Gsm = 0x0080
bit_of Utran = 0x8000
bit_of Eutran = 0x4000

-- every technology's bit, and no other
abbrev pub all_three : ℕ
all_three = 0xC080

-- some bit is in both sets
abbrev pub common : ℕ → ℕ → Bool
common a b = not (bit_and a b == 0)

abbrev pub has_technology : ℕ → Technology → Bool
has_technology set t = common set (bit_of t)

abbrev pub has_known : ℕ → Option Technology → Bool
has_known set None = false
has_known set (Some t) = has_technology set t

-- a number that stands for no technology is in no set
abbrev pub has_number : ℕ → ℕ → Bool
has_number set n = has_known set (with_number n)

-- not empty, and no bit but those of the three technologies
abbrev pub supportable : ℕ → Bool
supportable set = not (set == 0) && (bit_and set all_three) == set
