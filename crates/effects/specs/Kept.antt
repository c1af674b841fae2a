-- What the answers of tried networks do to the lists.
use Rattle.std.specs.Prelude.{cond, List}
use Rattle.plmn.specs.Areas.{same_area, empty_area, area_of}
use Rattle.plmn.specs.Codes.{same_code, empty_code}
use Rattle.plmn.specs.declared.area.Area.{Area}
use Rattle.plmn.specs.declared.code.Code.{Code}
use Rattle.plmn.specs.declared.row.Row.{Row}
use Rattle.short_list.specs.Places.{held_in, stored, removed}
use Rattle.radio.specs.declared.answer.Answer.{Answer}
use Rattle.radio.specs.declared.answer.Answer.TheVariants.{Acceptance, Rejection, Silence}
use Rattle.causes.specs.Causes.{effect_of}
use Rattle.causes.specs.declared.cause.Effect.{Effect}
use Rattle.causes.specs.declared.cause.Effect.TheVariants.{Nothing, Lock, Forbid, Regional, Roaming}
use Rattle.causes.specs.declared.heard.Heard.{Heard}

-- the forbidden list, the roaming list and the regional list
pub record Kept : Type 0 where
  pub forbidden : List Code
  pub roaming : List Area
  pub regional : List Area

-- a rejection: the code is forbidden unless it is a home code, or the area is listed
abbrev pub by_effect : List Code → Kept → Row → Effect → Kept
by_effect home k r Nothing = k
by_effect home k r Lock = k
by_effect home k r Forbid =
    record { forbidden = cond (held_in same_code r.code home) k.forbidden (stored same_code empty_code r.code k.forbidden); roaming = k.roaming; regional = k.regional }
by_effect home k r Regional = record { forbidden = k.forbidden; roaming = k.roaming; regional = stored same_area empty_area (area_of r) k.regional }
by_effect home k r Roaming = record { forbidden = k.forbidden; roaming = stored same_area empty_area (area_of r) k.roaming; regional = k.regional }

abbrev pub by_answer : List Code → Kept → Row → Answer → Kept
by_answer home k r (Acceptance n) = record { forbidden = removed same_code empty_code r.code k.forbidden; roaming = k.roaming; regional = k.regional }
by_answer home k r (Rejection cause) = by_effect home k r (effect_of cause)
by_answer home k r Silence = k

-- what one answer does to the lists
abbrev pub affected : List Code → Kept → Heard → Kept
affected home k h = by_answer home k h.row h.answer
