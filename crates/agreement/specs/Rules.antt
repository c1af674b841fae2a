-- What each call answers, which places it tries, and what it leaves. `room` is how many numbers the trail has that a run is lent.
use Rattle.std.specs.Prelude.{ℕ, List, [], length, Ok, Err, Option, Result}
use Rattle.refusal.specs.declared.Refusal.{Refusal}
use Rattle.radio.specs.Airs.{sought}
use Rattle.states.specs.Checks.{run_refusal, look_refusal, pick_refusal}
use Rattle.selector.specs.Runs.{run_places, run_standing, run_files, run_air, run_answer, pick_standing, pick_files, pick_air, unless, answered}
use Rattle.states.specs.Standings.{switched_on, switched_off, turned, loss_of}
use Rattle.states.specs.declared.state.RunAnswer.{RunAnswer}
use Rattle.agreement.specs.Worlds.{World, world}
use Rattle.agreement.specs.declared.call.Call.{Call}
use Rattle.agreement.specs.declared.call.Call.TheVariants.{Run, Look, Pick, Loss, ChangeMode, Restart}
use Rattle.agreement.specs.declared.call.Reply.{Reply}
use Rattle.agreement.specs.declared.call.Reply.TheVariants.{Ran, Looked, Picked, Lost, Changed, Restarted}

-- why a run, a look or a pick is refused
abbrev pub refused_run : ℕ → World → Option Refusal
refused_run room w = run_refusal w.standing w.files room

abbrev pub refused_look : World → Option Refusal
refused_look w = look_refusal w.standing

abbrev pub refused_pick : ℕ → World → Option Refusal
refused_pick place w = pick_refusal w.standing w.files w.air.here place

abbrev pub reply_of : Call → ℕ → World → Reply
reply_of (Run draw) room w = Ran (answered (refused_run room w) (run_answer w.standing w.files w.air draw))
reply_of Look room w = Looked (answered (refused_look w) (length (sought w.air).here))
reply_of (Pick place) room w = Picked (answered (refused_pick place w) (pick_standing w.standing w.files w.air place).state)
reply_of Loss room w = Lost (loss_of w.standing).state
reply_of ChangeMode room w = Changed w.standing.mode
reply_of Restart room w = Restarted

abbrev pub places_of : Call → ℕ → World → List ℕ
places_of (Run draw) room w = unless (refused_run room w) [] (run_places w.standing w.files w.air draw)
places_of Look room w = []
places_of (Pick place) room w = []
places_of Loss room w = []
places_of ChangeMode room w = []
places_of Restart room w = []

-- how many rows a run tried, by its answer
abbrev pub tries_in : Result RunAnswer Refusal → ℕ
tries_in (Ok a) = a.tries
tries_in (Err e) = 0

abbrev pub left_by : Call → ℕ → World → World
left_by (Run draw) room w = world
    (unless (refused_run room w) w.standing (run_standing w.standing w.files w.air draw))
    (unless (refused_run room w) w.air (run_air w.standing w.files w.air draw))
    (unless (refused_run room w) w.files (run_files w.standing w.files w.air draw))
left_by Look room w = world w.standing (unless (refused_look w) w.air (sought w.air)) w.files
left_by (Pick place) room w = world
    (unless (refused_pick place w) w.standing (pick_standing w.standing w.files w.air place))
    (unless (refused_pick place w) w.air (pick_air w.air place))
    (unless (refused_pick place w) w.files (pick_files w.standing w.files w.air place))
left_by Loss room w = world (loss_of w.standing) w.air w.files
left_by ChangeMode room w = world (turned w.standing) w.air w.files
left_by Restart room w = world (switched_on (switched_off w.standing)) w.air w.files
