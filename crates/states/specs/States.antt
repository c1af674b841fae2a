-- The states by number, with the network that each is about.
use Rattle.std.specs.Prelude.{ℕ}
use Rattle.plmn.specs.Codes.{empty_code}
use Rattle.plmn.specs.declared.row.Row.{Row}
use Rattle.states.specs.declared.state.Event.{Event}
use Rattle.states.specs.declared.state.Event.TheVariants.{Tries, Loss}
use Rattle.states.specs.declared.state.Serving.{Serving}
use Rattle.states.specs.declared.state.State.{State}
use Rattle.states.specs.declared.state.State.TheVariants.{JustOn, Registered, Limited, NoService, Locked, Lost}

abbrev pub state_number : State → ℕ
state_number JustOn = 0
state_number (Registered s) = 1
state_number (Limited s) = 2
state_number NoService = 3
state_number Locked = 4
state_number (Lost s) = 5

-- the state after an event: the tries end in their own state; a loss turns registered into lost and leaves every other state
abbrev pub state_after : Event → State → State
state_after (Tries t) s = t
state_after Loss JustOn = JustOn
state_after Loss (Registered v) = Lost v
state_after Loss (Limited v) = Limited v
state_after Loss NoService = NoService
state_after Loss Locked = Locked
state_after Loss (Lost v) = Lost v

-- the network of a row
abbrev pub serving_of : Row → Serving
serving_of r = record { code = r.code; technology = r.technology; area = r.area }

-- the empty code, 0 and 0
abbrev pub no_serving : Serving
no_serving = record { code = empty_code; technology = 0; area = 0 }

abbrev pub serving : State → Serving
serving JustOn = no_serving
serving (Registered s) = s
serving (Limited s) = s
serving NoService = no_serving
serving Locked = no_serving
serving (Lost s) = s
