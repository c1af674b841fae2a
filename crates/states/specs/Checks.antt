-- When a call is not carried out: the checks of each call, in their order.
use Rattle.std.specs.Prelude.{ℕ, Bool, cond, ◌&&◌, List, Some, None, Option, nat_lt}
use Rattle.std.specs.List.{slice_get}
use Rattle.refusal.specs.declared.Refusal.{Refusal}
use Rattle.refusal.specs.declared.Refusal.TheVariants.{ShortTrail, WrongMode, UnusableRow}
use Rattle.refusal.specs.declared.Refusal.TheVariants.{Locked as LockedRefused, Registered as RegisteredRefused}
use Rattle.plmn.specs.Codes.{valid_code}
use Rattle.plmn.specs.Technologies.{has_number}
use Rattle.plmn.specs.declared.row.Row.{Row}
use Rattle.card.specs.Files.{Files}
use Rattle.radio.specs.Airs.{Cell}
use Rattle.subscriber.specs.Needed.{first_of}
use Rattle.subscriber.specs.Subscribers.{identity_refusal}
use Rattle.states.specs.Standings.{Standing}
use Rattle.states.specs.declared.state.Mode.{Mode}
use Rattle.states.specs.declared.state.Mode.TheVariants.{Automatic, Manual}
use Rattle.states.specs.declared.state.State.{State}
use Rattle.states.specs.declared.state.State.TheVariants.{JustOn, Registered, Limited, NoService, Locked, Lost}

-- a trail under twenty numbers
abbrev pub trail_refusal : ℕ → Option Refusal
trail_refusal room = cond (nat_lt room 20) (Some ShortTrail) None

-- a run is for automatic mode, a look or a pick for manual mode
abbrev pub manual_refusal : Mode → Option Refusal
manual_refusal Automatic = None
manual_refusal Manual = Some WrongMode

abbrev pub automatic_refusal : Mode → Option Refusal
automatic_refusal Automatic = Some WrongMode
automatic_refusal Manual = None

abbrev pub locked_refusal : State → Option Refusal
locked_refusal JustOn = None
locked_refusal (Registered s) = None
locked_refusal (Limited s) = None
locked_refusal NoService = None
locked_refusal Locked = Some LockedRefused
locked_refusal (Lost s) = None

abbrev pub registered_refusal : State → Option Refusal
registered_refusal JustOn = None
registered_refusal (Registered s) = Some RegisteredRefused
registered_refusal (Limited s) = None
registered_refusal NoService = None
registered_refusal Locked = None
registered_refusal (Lost s) = None

-- the selector's own checks of a run, after those of the card
abbrev pub run_checks : Standing → ℕ → Option Refusal
run_checks s room = first_of (trail_refusal room) (first_of (manual_refusal s.mode) (first_of (locked_refusal s.state) (registered_refusal s.state)))

-- the same, by mode and state alone
abbrev pub run_checks_by : Mode → State → ℕ → Option Refusal
run_checks_by mode state room = first_of (trail_refusal room) (first_of (manual_refusal mode) (first_of (locked_refusal state) (registered_refusal state)))

abbrev pub run_refusal : Standing → Files → ℕ → Option Refusal
run_refusal s fs room = first_of (identity_refusal fs) (run_checks s room)

abbrev pub look_refusal : Standing → Option Refusal
look_refusal s = first_of (automatic_refusal s.mode) (locked_refusal s.state)

-- the same, by mode and state alone
abbrev pub look_checks_by : Mode → State → Option Refusal
look_checks_by mode state = first_of (automatic_refusal mode) (locked_refusal state)

-- a row that can be picked: it is there, with a valid code and a supported technology
abbrev pub usable : ℕ → Row → Bool
usable supported r = valid_code r.code && has_number supported r.technology

abbrev pub row_refusal : ℕ → Option Cell → Option Refusal
row_refusal supported None = Some UnusableRow
row_refusal supported (Some c) = cond (usable supported c.offer.row) None (Some UnusableRow)

abbrev pub pick_refusal : Standing → Files → List Cell → ℕ → Option Refusal
pick_refusal s fs cells place = first_of (identity_refusal fs) (first_of (look_refusal s) (row_refusal s.supported (slice_get cells place)))
