-- What each answer of a selector prints.
use Rattle.std.specs.Prelude.{ℕ, List, [], ◌∷◌, ◌++◌, Ok, Err, codes, decimal, Result}
use Rattle.std.specs.List.{flat_map}
use Rattle.answers.specs.Printed.{byte_text, code_bytes, refusal_text}
use Rattle.refusal.specs.declared.Refusal.{Refusal}
use Rattle.states.specs.States.{state_number, serving}
use Rattle.states.specs.declared.state.Mode.{Mode}
use Rattle.states.specs.declared.state.Mode.TheVariants.{Automatic, Manual}
use Rattle.states.specs.declared.state.RunAnswer.{RunAnswer}
use Rattle.states.specs.declared.state.Serving.{Serving}
use Rattle.states.specs.declared.state.State.{State}
use Rattle.states.specs.declared.state.State.TheVariants.{JustOn, Registered, Limited, NoService, Locked, Lost}

-- a number, with a space before it
abbrev pub spaced : ℕ → List ℕ
spaced n = codes " " ++ decimal n

abbrev pub state_name : State → List ℕ
state_name JustOn = codes "just-on"
state_name (Registered s) = codes "registered"
state_name (Limited s) = codes "limited"
state_name NoService = codes "no-service"
state_name Locked = codes "locked"
state_name (Lost s) = codes "lost"

-- a state: its number, its name, and the code, the technology and the area that it is about
abbrev pub state_head : State → List ℕ
state_head s = decimal (state_number s) ++ (codes " " ++ (state_name s ++ codes " "))

abbrev pub serving_text : Serving → List ℕ
serving_text v = flat_map byte_text (code_bytes v.code) ++ (spaced v.technology ++ spaced v.area)

abbrev pub state_text : State → List ℕ
state_text s = state_head s ++ serving_text (serving s)

-- places, each with a space before it, or `none`
abbrev pub places_text : List ℕ → List ℕ
places_text [] = codes " none"
places_text (p ∷ ps) = flat_map spaced (p ∷ ps)

-- what a run answers, and the places that it tried
abbrev pub carried_out_text : State → List ℕ → List ℕ
carried_out_text s places = state_text s ++ (codes "; tried" ++ places_text places)

abbrev pub ran_text : Result RunAnswer Refusal → List ℕ → List ℕ
ran_text (Ok a) places = carried_out_text a.state places
ran_text (Err e) places = refusal_text e

abbrev pub looked_text : Result ℕ Refusal → List ℕ
looked_text (Ok n) = decimal n ++ codes " rows"
looked_text (Err e) = refusal_text e

abbrev pub picked_text : Result State Refusal → List ℕ
picked_text (Ok s) = state_text s
picked_text (Err e) = refusal_text e

abbrev pub mode_text : Mode → List ℕ
mode_text Automatic = codes "was automatic"
mode_text Manual = codes "was manual"
