-- A run, a pick and a look, as rules on what the selector, the radio and the card mean.
use Rattle.std.specs.Prelude.{ℕ, ◌-◌, List, [], ◌∷◌, ◌++◌, map, length, drop, Some, None, Ok, Err, fold, Option, Result, slice_index}
use Rattle.std.specs.Option.{unwrap_or}
use Rattle.refusal.specs.declared.Refusal.{Refusal}
use Rattle.plmn.specs.Codes.{empty_code}
use Rattle.plmn.specs.declared.code.Code.{Code}
use Rattle.card.specs.Files.{Files, bytes_of, home_file, forbidden_file, user_file, operator_file, location_file}
use Rattle.radio.specs.Airs.{Air, row_in, sought, attempted}
use Rattle.subscriber.specs.Codes.{codes_of, home_codes}
use Rattle.subscriber.specs.Identities.{registered_in}
use Rattle.subscriber.specs.Subscribers.{imsi_code_of, short_kind_list, full_kind_list}
use Rattle.ranking.specs.declared.key.Key.{Key}
use Rattle.order.specs.Facts.{Facts}
use Rattle.order.specs.Keys.{order_of}
use Rattle.causes.specs.declared.heard.Heard.{Heard}
use Rattle.tries.specs.Turns.{heard_sky, at, barred}
use Rattle.tries.specs.Walks.{trail_of, end_of}
use Rattle.conclusions.specs.Conclusions.{concluded, files_after}
use Rattle.states.specs.Standings.{Standing}
use Rattle.states.specs.States.{serving_of}
use Rattle.states.specs.declared.state.RunAnswer.{RunAnswer}
use Rattle.states.specs.declared.state.State.{State}
use Rattle.states.specs.declared.state.State.TheVariants.{Limited, NoService}

-- the home codes and the forbidden list of a card
abbrev pub home_of : Files → List Code
home_of fs = home_codes (short_kind_list fs home_file) (unwrap_or (imsi_code_of fs) empty_code)

abbrev pub forbidden_of : Files → List Code
forbidden_of fs = codes_of (short_kind_list fs forbidden_file)

-- what the choice of rows depends on
abbrev pub facts_in : Standing → Files → Facts
facts_in s fs = record {
  supported = s.supported;
  registered = registered_in (bytes_of (fs location_file));
  equivalents = s.equivalents;
  home = home_of fs;
  forbidden = forbidden_of fs;
  user = full_kind_list fs user_file;
  operator = full_kind_list fs operator_file;
}

-- the order of turns over the rows of the sky now
abbrev pub run_order : Standing → Files → Air → ℕ → List Key
run_order s fs a draw = order_of (facts_in s fs) (map row_in a.here) draw

-- the tries over an order: their places, what is heard, what ends them, the air after them
abbrev pub tried_places : Standing → List Key → Air → List ℕ
tried_places s order a = trail_of (barred s.roaming s.regional) (heard_sky a.here) [] order

abbrev pub heard_there : Air → List ℕ → List Heard
heard_there a places = map (at (heard_sky a.here)) places

abbrev pub tries_end : Standing → List Key → Air → Option Heard
tries_end s order a = end_of (barred s.roaming s.regional) (heard_sky a.here) [] order

abbrev pub tried_air : Air → List ℕ → Air
tried_air a places = fold attempted a places

-- where nothing ended the run: limited on the first allowed row in the order, or no service if none was allowed
abbrev pub unended : Air → List Key → State
unended a [] = NoService
unended a (k ∷ ks) = Limited (serving_of (at (heard_sky a.here) k.place).row)

-- the last place tried
abbrev pub last_of : List ℕ → ℕ
last_of ps = slice_index ps (length ps - 1)

-- the selector and the card after the tries over an order
abbrev pub tried_standing : Standing → List Code → List Code → List Key → Air → Standing
tried_standing s home forbidden order a =
    concluded s home forbidden (tried_air a (tried_places s order a)).here (last_of (tried_places s order a)) (heard_there a (tried_places s order a)) (tries_end s order a) (unended a order)

abbrev pub tried_files : Standing → List Code → List Code → List Key → Air → Files → Files
tried_files s home forbidden order a fs = files_after s home forbidden (heard_there a (tried_places s order a)) (tries_end s order a) fs

-- a run that is carried out: it searches first
abbrev pub run_places : Standing → Files → Air → ℕ → List ℕ
run_places s fs a draw = tried_places s (run_order s fs (sought a) draw) (sought a)

abbrev pub run_standing : Standing → Files → Air → ℕ → Standing
run_standing s fs a draw = tried_standing s (home_of fs) (forbidden_of fs) (run_order s fs (sought a) draw) (sought a)

abbrev pub run_files : Standing → Files → Air → ℕ → Files
run_files s fs a draw = tried_files s (home_of fs) (forbidden_of fs) (run_order s fs (sought a) draw) (sought a) fs

abbrev pub run_air : Standing → Files → Air → ℕ → Air
run_air s fs a draw = tried_air (sought a) (run_places s fs a draw)

abbrev pub run_answer : Standing → Files → Air → ℕ → RunAnswer
run_answer s fs a draw = record { state = (run_standing s fs a draw).state; tries = length (run_places s fs a draw) }

-- the places are written to the front of the trail, and nothing past them
abbrev pub trailed : List ℕ → List ℕ → List ℕ
trailed places before = places ++ drop (length places) before

-- what a call leaves: where it is refused, what was before
abbrev pub unless : {X : Type 0} → Option Refusal → X → X → X
unless None before after = after
unless (Some e) before after = before

-- what a call answers
abbrev pub answered : {X : Type 0} → Option Refusal → X → Result X Refusal
answered None x = Ok x
answered (Some e) x = Err e

-- a pick: the row at a place of the sky now is tried
abbrev pub pick_heard : Air → ℕ → Heard
pick_heard a place = at (heard_sky a.here) place

abbrev pub pick_air : Air → ℕ → Air
pick_air a place = attempted a place

abbrev pub pick_standing : Standing → Files → Air → ℕ → Standing
pick_standing s fs a place = concluded s (home_of fs) (forbidden_of fs) (pick_air a place).here place (pick_heard a place ∷ []) (Some (pick_heard a place)) NoService

abbrev pub pick_files : Standing → Files → Air → ℕ → Files
pick_files s fs a place = files_after s (home_of fs) (forbidden_of fs) (pick_heard a place ∷ []) (Some (pick_heard a place)) fs
