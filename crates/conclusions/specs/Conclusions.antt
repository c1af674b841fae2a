-- What the answers of tried rows make of a selector and its card.
use Rattle.std.specs.Prelude.{ℕ, min, Bool, true, false, cond, List, [], length, Some, None, fold, Option, nat_lt}
use Rattle.std.specs.List.{list_any}
use Rattle.plmn.specs.declared.code.Code.{Code}
use Rattle.plmn.specs.declared.row.Row.{Row}
use Rattle.card.specs.Files.{Files, written, forbidden_file}
use Rattle.radio.specs.Airs.{Cell}
use Rattle.radio.specs.declared.answer.Answer.{Answer}
use Rattle.radio.specs.declared.answer.Answer.TheVariants.{Acceptance, Rejection, Silence}
use Rattle.causes.specs.Causes.{effect_of}
use Rattle.causes.specs.declared.cause.Effect.{Effect}
use Rattle.causes.specs.declared.cause.Effect.TheVariants.{Nothing, Lock, Forbid, Regional, Roaming}
use Rattle.causes.specs.declared.heard.Heard.{Heard}
use Rattle.effects.specs.Accepted.{accepted_codes}
use Rattle.effects.specs.Cards.{codes_bytes, registered_at, unregistered}
use Rattle.effects.specs.Kept.{Kept, affected}
use Rattle.states.specs.Standings.{Standing}
use Rattle.states.specs.States.{serving_of}
use Rattle.states.specs.declared.state.State.{State}
use Rattle.states.specs.declared.state.State.TheVariants.{Registered, Limited, Locked}

-- the state after an answer that ends a run or a pick: registered on an acceptance, locked by cause 2, 3 or 6, else limited, on that row
abbrev pub by_effect : Effect → Row → State
by_effect Lock r = Locked
by_effect Nothing r = Limited (serving_of r)
by_effect Forbid r = Limited (serving_of r)
by_effect Regional r = Limited (serving_of r)
by_effect Roaming r = Limited (serving_of r)

abbrev pub by_answer : Answer → Row → State
by_answer (Acceptance n) r = Registered (serving_of r)
by_answer (Rejection cause) r = by_effect (effect_of cause) r
by_answer Silence r = Limited (serving_of r)

abbrev pub state_by : Option Heard → State → State
state_by None otherwise = otherwise
state_by (Some h) otherwise = by_answer h.answer h.row

-- an answer that can change the forbidden list
abbrev pub touches_by : Effect → Bool
touches_by Forbid = true
touches_by Nothing = false
touches_by Lock = false
touches_by Regional = false
touches_by Roaming = false

abbrev pub touches : Answer → Bool
touches (Acceptance n) = true
touches (Rejection cause) = touches_by (effect_of cause)
touches Silence = false

abbrev pub any_touches : List Heard → Bool
any_touches hs = list_any (λ h. touches h.answer) hs

-- the equivalents and the location after tries that ended with this answer
abbrev pub equivalents_by : List Cell → ℕ → Answer → List Code
equivalents_by cells place (Acceptance n) = accepted_codes cells place (min n 5)
equivalents_by cells place (Rejection cause) = []
equivalents_by cells place Silence = []

abbrev pub equivalents_after : List Cell → ℕ → Option Heard → List Code
equivalents_after cells place None = []
equivalents_after cells place (Some h) = equivalents_by cells place h.answer

abbrev pub location_by : Answer → Row → Files → Files
location_by (Acceptance n) r fs = registered_at r.code r.area fs
location_by (Rejection cause) r fs = unregistered fs
location_by Silence r fs = unregistered fs

abbrev pub location_after : Option Heard → Files → Files
location_after None fs = unregistered fs
location_after (Some h) fs = location_by h.answer h.row fs

abbrev pub forbidden_after : List Heard → List Code → Files → Files
forbidden_after heard forbidden fs = cond (any_touches heard) (written forbidden_file 0 (codes_bytes forbidden) fs) fs

-- the lists after the tries
abbrev pub kept_after : Standing → List Code → List Code → List Heard → Kept
kept_after s home forbidden heard = fold (affected home) (record { forbidden = forbidden; roaming = s.roaming; regional = s.regional }) heard

-- without a try equivalents and location remain
abbrev pub if_tried : {X : Type 0} → List Heard → X → X → X
if_tried heard after before = cond (nat_lt 0 (length heard)) after before

-- the selector after the tries: `cells` is the sky after them, `place` the last place tried, `otherwise` the state where no answer ended them
abbrev pub concluded : Standing → List Code → List Code → List Cell → ℕ → List Heard → Option Heard → State → Standing
concluded s home forbidden cells place heard end otherwise = record {
  supported = s.supported;
  mode = s.mode;
  state = state_by end otherwise;
  equivalents = if_tried heard (equivalents_after cells place end) s.equivalents;
  roaming = (kept_after s home forbidden heard).roaming;
  regional = (kept_after s home forbidden heard).regional;
}

-- the card after them
abbrev pub files_after : Standing → List Code → List Code → List Heard → Option Heard → Files → Files
files_after s home forbidden heard end fs = if_tried heard (location_after end (forbidden_after heard (kept_after s home forbidden heard).forbidden fs)) fs
