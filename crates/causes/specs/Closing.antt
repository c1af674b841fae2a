-- Which answers end a run, and which rows an answer closes for the rest of the run.
use Rattle.std.specs.Prelude.{Bool, true, false, ◌&&◌, List, eqb}
use Rattle.std.specs.List.{list_any}
use Rattle.plmn.specs.Codes.{same_code}
use Rattle.plmn.specs.declared.row.Row.{Row}
use Rattle.radio.specs.declared.answer.Answer.{Answer}
use Rattle.radio.specs.declared.answer.Answer.TheVariants.{Acceptance, Rejection, Silence}
use Rattle.causes.specs.Causes.{effect_of, ends_of}
use Rattle.causes.specs.declared.cause.Effect.{Effect}
use Rattle.causes.specs.declared.cause.Effect.TheVariants.{Nothing, Lock, Forbid, Regional, Roaming}
use Rattle.causes.specs.declared.heard.Heard.{Heard}

-- an acceptance ends a run, and so do some causes
abbrev pub ends : Answer → Bool
ends (Acceptance n) = true
ends (Rejection cause) = ends_of cause
ends Silence = false

-- a forbidden code closes its rows, a roaming area the rows of its code and area
abbrev pub shuts : Effect → Row → Row → Bool
shuts Forbid a b = same_code a.code b.code
shuts Roaming a b = same_code a.code b.code && eqb a.area b.area
shuts Nothing a b = false
shuts Lock a b = false
shuts Regional a b = false

abbrev pub closes_by : Answer → Row → Row → Bool
closes_by (Acceptance n) a b = false
closes_by (Rejection cause) a b = shuts (effect_of cause) a b
closes_by Silence a b = false

-- what was heard of one row closes another
abbrev pub closes : Heard → Row → Bool
closes h b = closes_by h.answer h.row b

-- some of what was heard closes the row
abbrev pub closed : List Heard → Row → Bool
closed hs b = list_any (λ h. closes h b) hs
