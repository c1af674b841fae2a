-- What a card says of its subscriber.
use Rattle.std.specs.Prelude.{◌≡◌, ℕ, List, Some, None, Option}
use Rattle.refusal.specs.declared.Refusal.{Refusal}
use Rattle.refusal.specs.declared.Refusal.TheVariants.{HomeDigits}
use Rattle.plmn.specs.declared.code.Code.{Code}
use Rattle.card.specs.Files.{Files, bytes_of, imsi_file, admin_file, forbidden_file, location_file, home_file, user_file, operator_file}
use Rattle.card.specs.Images.{image_of}
use Rattle.entry_list.specs.Entries.{entries, short_entry, full_entry}
use Rattle.entry_list.specs.Lists.{list_of}
use Rattle.entry_list.specs.declared.listed.Listed.{Listed}
use Rattle.code_list.specs.Codes.{codes_in, codes_of, home_codes}
use Rattle.imsi.specs.Identities.{code_of_imsi, registered_in}
use Rattle.subscriber.specs.Needed.{first_of, missing}
use Rattle.subscriber.specs.declared.identity.Identity.{Identity}
use Rattle.subscriber.specs.declared.identity.Subscriber.{Subscriber}

-- the IMSI code of a card
abbrev pub imsi_code_of : Files → Option Code
imsi_code_of fs = code_of_imsi (bytes_of (fs imsi_file)) (bytes_of (fs admin_file))

abbrev pub digits_refusal : Option Code → Option Refusal
digits_refusal None = Some HomeDigits
digits_refusal (Some code) = None

-- the needed files are checked first, then the digits
abbrev pub identity_refusal : Files → Option Refusal
identity_refusal fs = first_of (missing fs) (digits_refusal (imsi_code_of fs))

-- what the needed files of a card say
pub record Identified (fs : Files) (i : Identity) : Type 0 where
  pub accepted : identity_refusal fs ≡ None
  pub imsi_code : imsi_code_of fs ≡ Some i.imsi_code
  pub forbidden : image_of i.forbidden ≡ fs forbidden_file
  pub location : image_of i.location ≡ fs location_file

-- the lists of a card: the forbidden and the home list are of the short kind, the user and the operator list of the full
abbrev pub short_kind_list : Files → ℕ → List Listed
short_kind_list fs file = entries 3 short_entry (bytes_of (fs file))

abbrev pub full_kind_list : Files → ℕ → List Listed
full_kind_list fs file = entries 5 full_entry (bytes_of (fs file))

-- what a run takes from a card whose needed files say i
pub record Reads (fs : Files) (i : Identity) (s : Subscriber) : Type 0 where
  pub registered : s.registered ≡ registered_in (bytes_of (image_of i.location))
  pub home : codes_in s.home ≡ home_codes (short_kind_list fs home_file) i.imsi_code
  pub forbidden : codes_in s.forbidden ≡ codes_of (entries 3 short_entry (bytes_of (image_of i.forbidden)))
  pub user : list_of s.user ≡ full_kind_list fs user_file
  pub operator : list_of s.operator ≡ full_kind_list fs operator_file
