-- What every run that is carried out does, in the subject's words. `s`, `fs` and `a` are the selector, the card's files and the
-- air before the run, and `draw` is its draw.
use Rattle.std.specs.Prelude.{◌≡◌, ℕ, true, List, [], ◌∷◌, ◌++◌, map, Some, ◌≢◌}
use Rattle.std.specs.List.{slice_get}
use Rattle.plmn.specs.Codes.{valid_code}
use Rattle.plmn.specs.Technologies.{has_number}
use Rattle.plmn.specs.declared.code.Code.{Code}
use Rattle.plmn.specs.declared.row.Row.{Row}
use Rattle.short_list.specs.Laws.{Held}
use Rattle.card.specs.Files.{Files}
use Rattle.radio.specs.Airs.{Air, Cell, row_in, sought}
use Rattle.radio.specs.Skies.{Few}
use Rattle.radio.specs.declared.answer.Answer.TheVariants.{Acceptance, Rejection}
use Rattle.causes.specs.declared.heard.Heard.{Heard}
use Rattle.ranking.specs.Orders.{Ordered}
use Rattle.ranking.specs.declared.key.Key.{Key}
use Rattle.order.specs.Keys.{keys_of, places_of}
use Rattle.tries.specs.Laws.{In, Tries}
use Rattle.tries.specs.Turns.{heard_sky, at, barred}
use Rattle.selector.specs.Runs.{facts_in, forbidden_of, run_air, run_order, run_places, run_standing}
use Rattle.states.specs.Standings.{Standing}
use Rattle.states.specs.States.{serving_of}
use Rattle.states.specs.declared.state.Serving.{Serving}
use Rattle.states.specs.declared.state.State.{State}
use Rattle.states.specs.declared.state.State.TheVariants.{NoService, Registered}

-- a row may be tried: its technology is supported, its code is valid, and the forbidden list does not hold the code
pub record Allowed (supported : ℕ) (forbidden : List Code) (r : Row) : Type 0 where
  pub technology_supported : has_number supported r.technology ≡ true
  pub code_valid : valid_code r.code ≡ true
  pub not_forbidden : Held r.code forbidden → ⊥

-- the rows that the run's search finds, and the same with the answers of their networks
abbrev pub rows_found : Air → List Row
rows_found a = map row_in (sought a).here

abbrev pub found_sky : Air → List Heard
found_sky a = heard_sky (sought a).here

-- at this place the search finds a row that may be tried
abbrev pub AllowedAt : Standing → Files → Air → ℕ → Type 0
AllowedAt s fs a p = (r : Row) × (slice_get (rows_found a) p ≡ Some r) × Allowed s.supported (forbidden_of fs) r

-- each place stands in the list once
abbrev pub Once : List ℕ → Type 0
Once [] = Unit {0}
Once (p ∷ ps) = (In p ps → ⊥) × Once ps

-- a place is the last of a trail
abbrev pub LastOf : ℕ → List ℕ → Type 0
LastOf p trail = (earlier : List ℕ) × (trail ≡ earlier ++ (p ∷ []))

-- a run tries the rows open at their turn, in the order, until an answer ends it
abbrev pub TriesThoseOpen : Type 0
TriesThoseOpen = (s : Standing) (fs : Files) (a : Air) (draw : ℕ) → Tries (barred s.roaming s.regional) (heard_sky (sought a).here) [] (run_order s fs (sought a) draw) (run_places s fs a draw)

-- a run ends without service exactly when its order has no turn
abbrev pub NoServiceIfOrderEmpty : Type 0
NoServiceIfOrderEmpty = (s : Standing) (fs : Files) (a : Air) (draw : ℕ) →
    (((run_standing s fs a draw).state ≡ NoService) → run_order s fs (sought a) draw ≡ []) × ((run_order s fs (sought a) draw ≡ []) → (run_standing s fs a draw).state ≡ NoService)

-- a run registers exactly when the last network that it tried accepts, and on that row
abbrev pub RegistersOnLastTried : Type 0
RegistersOnLastTried = (s : Standing) (fs : Files) (a : Air) (draw : ℕ) →
    ((v : Serving) → (run_standing s fs a draw).state ≡ Registered v → (p : ℕ) × LastOf p (run_places s fs a draw) × ((n : ℕ) × ((at (heard_sky (sought a).here) p).answer ≡ Acceptance n)) × (serving_of (at (heard_sky (sought a).here) p).row ≡ v))
    × ((p n : ℕ) → LastOf p (run_places s fs a draw) → (at (heard_sky (sought a).here) p).answer ≡ Acceptance n → (run_standing s fs a draw).state ≡ Registered (serving_of (at (heard_sky (sought a).here) p).row))

-- The tries of a run with this trail, which leaves this state and this air.
pub record Tried (s : Standing) (fs : Files) (a : Air) (draw : ℕ) (trail : List ℕ) (state : State) (left : Air) : Type 0 where
  -- the turns: the allowed rows that were found, ranked, with class 6 in the order of the draw
  pub order : List Key
  pub in_order : Ordered (keys_of (facts_in s fs) (rows_found a)) draw order
  pub turns_are_allowed : (p : ℕ) → In p (places_of order) → AllowedAt s fs a p
  pub allowed_have_turns : (p : ℕ) → AllowedAt s fs a p → In p (places_of order)
  -- each row open at its turn is tried, in that order, until an answer ends the run
  pub tries_open_rows_in_order : Tries (barred s.roaming s.regional) (found_sky a) [] order trail
  pub tries_each_once : Once trail
  -- the tried rows are marked, and no other
  pub marks_the_tried : (p : ℕ) (c : Cell) → slice_get left.here p ≡ Some c → In p trail → c.tried ≡ true
  pub marks_only_the_tried : (p : ℕ) (c : Cell) → slice_get left.here p ≡ Some c → c.tried ≡ true → In p trail
  -- it registers exactly when the last network that it tried accepts, and on that row
  pub registered_on_last : (v : Serving) → state ≡ Registered v →
      (p : ℕ) × LastOf p trail × ((n : ℕ) × ((at (found_sky a) p).answer ≡ Acceptance n)) × (serving_of (at (found_sky a) p).row ≡ v)
  pub registers_if_last_accepts : (p n : ℕ) → LastOf p trail → (at (found_sky a) p).answer ≡ Acceptance n → state ≡ Registered (serving_of (at (found_sky a) p).row)

-- What the forbidden list keeps a run from, and when it finds no service.
pub record KeptOff (s : Standing) (fs : Files) (a : Air) (trail : List ℕ) (state : State) : Type 0 where
  -- no row is tried whose code the forbidden list held at the start
  pub never_tries_forbidden : (p : ℕ) → In p trail → Held (at (found_sky a) p).row.code (forbidden_of fs) → ⊥
  -- nor one whose code got cause 11 earlier in the run
  pub never_tries_rejected : (earlier later : List ℕ) (p q : ℕ) → trail ≡ earlier ++ (p ∷ later) → In q earlier → (at (found_sky a) q).answer ≡ Rejection 11 →
      (at (found_sky a) q).row.code ≢ (at (found_sky a) p).row.code
  -- no service: exactly when no found row was allowed at the start
  pub no_service_none_allowed : state ≡ NoService → (p : ℕ) → AllowedAt s fs a p → ⊥
  pub none_allowed_no_service : ((p : ℕ) → AllowedAt s fs a p → ⊥) → state ≡ NoService

-- the rules of a run, as the contract of a run cites them, satisfy both; a search finds at most twenty rows
abbrev pub RunsTry : Type 0
RunsTry = (s : Standing) (fs : Files) (a : Air) (draw : ℕ) → Few (sought a).here → Tried s fs a draw (run_places s fs a draw) (run_standing s fs a draw).state (run_air s fs a draw)

abbrev pub RunsKeepOff : Type 0
RunsKeepOff = (s : Standing) (fs : Files) (a : Air) (draw : ℕ) → Few (sought a).here → KeptOff s fs a (run_places s fs a draw) (run_standing s fs a draw).state

-- what the record of tries says leaves one trail only, whatever state and air it is said of
abbrev pub TrailIsFixed : Type 0
TrailIsFixed = (s : Standing) (fs : Files) (a : Air) (draw : ℕ) (t u : List ℕ) (state other : State) (left gone : Air) → Tried s fs a draw t state left → Tried s fs a draw u other gone → t ≡ u
