-- What a selector means, off and on, and what switching and a mode change make of it.
use Rattle.std.specs.Prelude.{ℕ, List, [], replicate}
use Rattle.plmn.specs.Areas.{empty_area}
use Rattle.plmn.specs.declared.area.Area.{Area}
use Rattle.plmn.specs.declared.code.Code.{Code}
use Rattle.states.specs.States.{state_after}
use Rattle.states.specs.declared.state.Event.TheVariants.{Loss}
use Rattle.states.specs.declared.state.Mode.{Mode}
use Rattle.states.specs.declared.state.Mode.TheVariants.{Automatic, Manual}
use Rattle.states.specs.declared.state.State.{State}
use Rattle.states.specs.declared.state.State.TheVariants.{JustOn}

-- off
pub record Resting : Type 0 where
  pub supported : ℕ
  pub mode : Mode
  pub equivalents : List Code

-- on
pub record Standing : Type 0 where
  pub supported : ℕ
  pub mode : Mode
  pub state : State
  pub equivalents : List Code
  pub roaming : List Area
  pub regional : List Area

-- a new selector is off, automatic, without equivalents
abbrev pub fresh : ℕ → Resting
fresh supported = record { supported = supported; mode = Automatic; equivalents = [] }

-- switched on it is just on, with ten empty places in each area list
abbrev pub switched_on : Resting → Standing
switched_on r = record { supported = r.supported; mode = r.mode; state = JustOn; equivalents = r.equivalents; roaming = replicate 10 empty_area; regional = replicate 10 empty_area }

-- switched off it keeps settings, mode and equivalents
abbrev pub switched_off : Standing → Resting
switched_off s = record { supported = s.supported; mode = s.mode; equivalents = s.equivalents }

abbrev pub other_mode : Mode → Mode
other_mode Automatic = Manual
other_mode Manual = Automatic

abbrev pub turned : Standing → Standing
turned s = record { supported = s.supported; mode = other_mode s.mode; state = s.state; equivalents = s.equivalents; roaming = s.roaming; regional = s.regional }

-- the same selector in another state
abbrev pub in_state : State → Standing → Standing
in_state t s = record { supported = s.supported; mode = s.mode; state = t; equivalents = s.equivalents; roaming = s.roaming; regional = s.regional }

-- the network is lost
abbrev pub loss_of : Standing → Standing
loss_of s = in_state (state_after Loss s.state) s
