-- What the order of a run depends on.
use Rattle.std.specs.Prelude.{◌≡◌, ◌≢◌, List, None}
use Rattle.card.specs.Files.{Files}
use Rattle.code_list.specs.Codes.{codes_in}
use Rattle.code_list.specs.declared.codes.CodeList.{CodeList}
use Rattle.plmn.specs.declared.code.Code.{Code}
use Rattle.subscriber.specs.Subscribers.{Identified, Reads, identity_refusal}
use Rattle.subscriber.specs.declared.identity.Identity.{Identity}
use Rattle.subscriber.specs.declared.identity.Subscriber.{Subscriber}

-- the card refuses
abbrev pub Refused : Files → Type 0
Refused fs = identity_refusal fs ≢ None

-- these are the lists of the card and these codes
pub record Wished (fs : Files) (equivalents : List Code) (lists : Subscriber) (kept : CodeList) : Type 0 where
  pub card : (i : Identity) × Identified fs i × Reads fs i lists
  pub codes : codes_in kept ≡ equivalents
