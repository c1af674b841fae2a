-- Worked examples, each by computation from the definitions that the contracts cite.
use Rattle.std.specs.Prelude.{◌≡◌, ℕ, true, false, cond, List, [], ◌∷◌, ℤ, negsuc, Some, None, ◌==◌}
use Rattle.plmn.specs.Codes.{code_of, valid_code, empty_code, same_code}
use Rattle.plmn.specs.declared.code.Code.{Code}
use Rattle.plmn.specs.declared.code.Digits.{Digits}
use Rattle.plmn.specs.declared.row.Row.{Row}
use Rattle.order.specs.Classes.{class_number, class_of}
use Rattle.order.specs.Facts.{Facts}
use Rattle.order.specs.Keys.{order_of, places_of}
use Rattle.card.specs.Files.{Files, bare_files, user_file, forbidden_file, location_file}
use Rattle.radio.specs.Airs.{Air, Offer, Reply, rejected, silent}
use Rattle.states.specs.Checks.{run_refusal}
use Rattle.selector.specs.Runs.{run_places, run_standing, run_files}
use Rattle.states.specs.Standings.{Standing, fresh, switched_on}
use Rattle.states.specs.States.{serving_of}
use Rattle.states.specs.declared.state.State.TheVariants.{Limited, NoService}
use Rattle.ranking.specs.Draws.{draw_order}
use Rattle.ranking.specs.declared.key.Key.{Key}
use Rattle.short_list.specs.Places.{stored}
use Rattle.subscriber.specs.Identities.{code_of_imsi}

abbrev pub code : ℕ → ℕ → ℕ → Code
code a b c = record { first = a; second = b; third = c }

abbrev pub digits : ℕ → ℕ → ℕ → ℕ → ℕ → ℕ → Digits
digits mcc1 mcc2 mcc3 mnc1 mnc2 mnc3 = record { mcc1 = mcc1; mcc2 = mcc2; mcc3 = mcc3; mnc1 = mnc1; mnc2 = mnc2; mnc3 = mnc3 }

-- 001/01 is 00 F1 10, 001/011 is 00 11 10, 262/02 is 62 F2 20; all are valid, and FF FF FF is not
pub record Codes : Type 0 where
  pub two_digit_mnc : code_of (digits 0 0 1 0 1 15) ≡ code 0x00 0xF1 0x10
  pub three_digit_mnc : code_of (digits 0 0 1 0 1 1) ≡ code 0x00 0x11 0x10
  pub of_262_02 : code_of (digits 2 6 2 0 2 15) ≡ code 0x62 0xF2 0x20
  pub valid : (valid_code (code 0x00 0xF1 0x10) ≡ true) × (valid_code (code 0x00 0x11 0x10) ≡ true) × (valid_code (code 0x62 0xF2 0x20) ≡ true)
  pub empty : valid_code empty_code ≡ false

-- the IMSI bytes 08 09 10 10 10 32 54 76 98
abbrev imsi : List ℕ
imsi = 0x08 ∷ 0x09 ∷ 0x10 ∷ 0x10 ∷ 0x10 ∷ 0x32 ∷ 0x54 ∷ 0x76 ∷ 0x98 ∷ []

-- administrative data with this MNC length
abbrev admin : ℕ → List ℕ
admin n = 0 ∷ 0 ∷ 0 ∷ n ∷ []

-- they give 00 F1 10 with an MNC length of 2 and 00 01 10 with 3; another length gives no code
pub record ImsiCodes : Type 0 where
  pub two : code_of_imsi imsi (admin 2) ≡ Some (code 0x00 0xF1 0x10)
  pub three : code_of_imsi imsi (admin 3) ≡ Some (code 0x00 0x01 0x10)
  pub other : code_of_imsi imsi (admin 4) ≡ None

-- five codes that differ
abbrev a : Code
a = code 0x00 0xF1 0x10

abbrev b : Code
b = code 0x62 0xF2 0x20

abbrev c : Code
c = code 0x22 0xF8 0x10

abbrev d : Code
d = code 0x00 0x11 0x10

abbrev e : Code
e = code 0x02 0xF8 0x01

-- A B C D storing E gives B C D E; A, empty, C, D gives A E C D
pub record Stores : Type 0 where
  pub full : stored same_code empty_code e (a ∷ b ∷ c ∷ d ∷ []) ≡ b ∷ c ∷ d ∷ e ∷ []
  pub with_room : stored same_code empty_code e (a ∷ empty_code ∷ c ∷ d ∷ []) ≡ a ∷ e ∷ c ∷ d ∷ []

-- all three technologies supported, home code 001/01, one user entry 262/02 for UTRAN, nothing registered, listed or forbidden
abbrev facts : Facts
facts = record {
  supported = 0xC080;
  registered = None;
  equivalents = [];
  home = a ∷ [];
  forbidden = [];
  user = record { code = b; technologies = record { bits = 0x8000 } } ∷ [];
  operator = [];
}

abbrev row : Code → ℕ → ℤ → Row
row code technology level = record { code = code; technology = technology; area = 1; level = level }

-- UTRAN at -95 dBm is class 6, at -96 class 7
pub record Levels : Type 0 where
  pub at_95 : class_number (class_of facts None (row c 2 (negsuc 94))) ≡ 6
  pub at_96 : class_number (class_of facts None (row c 2 (negsuc 95))) ≡ 7

-- rows P Q R in class 6: draw 5 gives R Q P, draw 3 gives P R Q
pub record DrawsOfThree : Type 0 where
  pub draw_5 : (p q r : Key) → draw_order 3 5 (p ∷ q ∷ r ∷ []) ≡ r ∷ q ∷ p ∷ []
  pub draw_3 : (p q r : Key) → draw_order 3 3 (p ∷ q ∷ r ∷ []) ≡ p ∷ r ∷ q ∷ []

-- row 0 is 262/02 GSM -60, row 1 262/02 UTRAN -100, row 2 228/01 E-UTRAN -100
abbrev sky : List Row
sky = row b 0 (negsuc 59) ∷ row b 2 (negsuc 99) ∷ row c 7 (negsuc 99) ∷ []

-- with draw 1 the order is 1, 2, 0
pub record Turns : Type 0 where
  pub order : places_of (order_of facts sky 1) ≡ 1 ∷ 2 ∷ 0 ∷ []

-- the card of the example: no forbidden code, no location
abbrev none : List ℕ
none = 0xFF ∷ 0xFF ∷ 0xFF ∷ 0xFF ∷ 0xFF ∷ 0xFF ∷ 0xFF ∷ 0xFF ∷ 0xFF ∷ 0xFF ∷ 0xFF ∷ 0xFF ∷ []

abbrev location : List ℕ
location = 0xFF ∷ 0xFF ∷ 0xFF ∷ 0xFF ∷ 0xFF ∷ 0xFF ∷ 0xFF ∷ 0xFF ∷ 0xFE ∷ 0xFF ∷ 0x01 ∷ []

abbrev files : Files
files n = cond (n == user_file) (Some (0x62 ∷ 0xF2 ∷ 0x20 ∷ 0x80 ∷ 0x00 ∷ [])) (bare_files imsi (admin 2) none location n)

abbrev just_on : Standing
just_on = switched_on (fresh 0xC080)

abbrev offered : Row → Reply → Offer
offered r reply = record { row = r; reply = reply }

-- row 1 answers 11, and the others are silent
abbrev air : Air
air = record { here = []; coming = (offered (row b 0 (negsuc 59)) silent ∷ offered (row b 2 (negsuc 99)) (rejected 11) ∷ offered (row c 7 (negsuc 99)) silent ∷ []) ∷ [] }

-- the trail is 1, 2; row 0 is closed; the state is limited on row 1; 6F7B gains 62 F2 20
pub record Run : Type 0 where
  pub accepted : run_refusal just_on files 20 ≡ None
  pub trail : run_places just_on files air 1 ≡ 1 ∷ 2 ∷ []
  pub state : (run_standing just_on files air 1).state ≡ Limited (serving_of (row b 2 (negsuc 99)))
  pub forbidden : run_files just_on files air 1 forbidden_file ≡ Some (0x62 ∷ 0xF2 ∷ 0x20 ∷ 0xFF ∷ 0xFF ∷ 0xFF ∷ 0xFF ∷ 0xFF ∷ 0xFF ∷ 0xFF ∷ 0xFF ∷ 0xFF ∷ [])

abbrev nothing : Air
nothing = record { here = []; coming = [] }

-- an empty sky gives no service, no tries, and the location as before
pub record EmptySky : Type 0 where
  pub trail : run_places just_on files nothing 0 ≡ []
  pub state : (run_standing just_on files nothing 0).state ≡ NoService
  pub location_stays : run_files just_on files nothing 0 location_file ≡ Some location

pub record Examples : Type 0 where
  pub codes : Codes
  pub imsi_codes : ImsiCodes
  pub stores : Stores
  pub levels : Levels
  pub draws : DrawsOfThree
  pub turns : Turns
  pub run : Run
  pub empty_sky : EmptySky
