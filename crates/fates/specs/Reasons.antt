-- Why a row is not tried in a run.
use Rattle.std.specs.Prelude.{◌≡◌, ℕ, ◌<◌, Bool, true, false, ◌||◌, List, [], ◌∷◌, length}
use Rattle.causes.specs.Closing.{ends, closes}
use Rattle.causes.specs.declared.heard.Heard.{Heard}
use Rattle.plmn.specs.Areas.{same_area, area_of}
use Rattle.plmn.specs.Codes.{valid_code, same_code}
use Rattle.plmn.specs.Technologies.{has_number}
use Rattle.plmn.specs.declared.area.Area.{Area}
use Rattle.plmn.specs.declared.code.Code.{Code}
use Rattle.plmn.specs.declared.row.Row.{Row}
use Rattle.short_list.specs.Places.{held_in}
use Rattle.tries.specs.Turns.{at}
use Rattle.fates.specs.declared.reason.Hindrance.{Hindrance}
use Rattle.fates.specs.declared.reason.Hindrance.TheVariants.{Technology, InvalidCode, Forbidden}
use Rattle.fates.specs.declared.reason.Reason.{Reason}
use Rattle.fates.specs.declared.reason.Reason.TheVariants.{NotReached, RoamingArea, RegionalArea, Closed}

-- this keeps a row from being allowed
abbrev pub Hinders : ℕ → List Code → Row → Hindrance → Type 0
Hinders supported forbidden r Technology = has_number supported r.technology ≡ false
Hinders supported forbidden r InvalidCode = valid_code r.code ≡ false
Hinders supported forbidden r Forbidden = held_in same_code r.code forbidden ≡ true

-- what was heard at this index closes a row
abbrev pub Closer : List Heard → Row → ℕ → Type 0
Closer done r i = (i < length done) × (closes (at done i) r ≡ true)

-- what was heard at this index ended the run
abbrev pub Ender : List Heard → ℕ → Type 0
Ender done i = (i < length done) × (ends (at done i).answer ≡ true)

-- some of what was heard ended the run
abbrev pub ended : List Heard → Bool
ended [] = false
ended (h ∷ hs) = ends h.answer || ended hs

-- this keeps an allowed row from being tried at its turn, after the rows that were heard
abbrev pub Keeps : List Area → List Area → List Heard → Row → Reason → Type 0
Keeps roaming regional done r (NotReached i) = Ender done i
Keeps roaming regional done r RoamingArea = held_in same_area (area_of r) roaming ≡ true
Keeps roaming regional done r RegionalArea = held_in same_area (area_of r) regional ≡ true
Keeps roaming regional done r (Closed i) = Closer done r i
