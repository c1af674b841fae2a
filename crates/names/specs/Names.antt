-- The names of technologies and of sets of them.
use Rattle.std.specs.Prelude.{ℕ, Bool, true, false, List, ◌++◌, Some, None, codes, decimal, Option}
use Rattle.plmn.specs.Technologies.{has_technology, with_number}
use Rattle.plmn.specs.declared.technology.Technology.{Technology}
use Rattle.plmn.specs.declared.technology.Technology.TheVariants.{Gsm, Utran, Eutran}

abbrev pub known_name : Technology → List ℕ
known_name Gsm = codes "GSM"
known_name Utran = codes "UTRAN"
known_name Eutran = codes "E-UTRAN"

-- the name of a technology; a number that stands for none is written out
abbrev pub name_by : Option Technology → ℕ → List ℕ
name_by (Some technology) number = known_name technology
name_by None number = codes "technology " ++ decimal number

abbrev pub name_of : ℕ → List ℕ
name_of number = name_by (with_number number) number

-- the names of the technologies that are there: UTRAN, E-UTRAN, GSM
abbrev pub names_of : Bool → Bool → Bool → List ℕ
names_of true true true = codes "every technology"
names_of true true false = codes "UTRAN, E-UTRAN"
names_of true false true = codes "UTRAN, GSM"
names_of true false false = codes "UTRAN"
names_of false true true = codes "E-UTRAN, GSM"
names_of false true false = codes "E-UTRAN"
names_of false false true = codes "GSM"
names_of false false false = codes "no known technology"

abbrev pub set_names : ℕ → List ℕ
set_names set = names_of (has_technology set Utran) (has_technology set Eutran) (has_technology set Gsm)
