-- Trails that both have at least twenty numbers, or both fewer, make no difference to what is seen.
use Rattle.std.proofs.Common.{◌≡◌, ℕ, ◌≤◌, Bool, cond, ltb, List, [], ◌∷◌, Some, None, Option, refl, ap, ◌∙◌, arith}
use Rattle.std.proofs.lemmas.Bool.Decides.{nat_tests}
use Rattle.refusal.specs.declared.Refusal.{Refusal}
use Rattle.refusal.specs.declared.Refusal.TheVariants.{ShortTrail}
use Rattle.subscriber.specs.Needed.{first_of}
use Rattle.subscriber.specs.Subscribers.{identity_refusal}
use Rattle.states.specs.Checks.{manual_refusal, locked_refusal, registered_refusal}
use Rattle.selector.specs.Runs.{run_places, run_standing, run_files, run_air, run_answer, unless, answered}
use Rattle.agreement.specs.Histories.{Seen, seen, seen_after, next, later, history, finally, AlikeFor, AlikeTrails}
use Rattle.agreement.specs.Rules.{refused_run, left_by}
use Rattle.agreement.specs.Worlds.{World, world}
use Rattle.agreement.specs.declared.call.Call.{Call}
use Rattle.agreement.specs.declared.call.Call.TheVariants.{Run, Look, Pick, Loss, ChangeMode, Restart}
use Rattle.agreement.specs.declared.call.Reply.TheVariants.{Ran}

short : (m n : ℕ) → (20 ≤ m → 20 ≤ n) × (20 ≤ n → 20 ≤ m) → ltb m 20 ≡ ltb n 20
short m n h = let p = h.0 in let q = h.1 in grind (arith, nat_tests)

refused_alike : (m n : ℕ) (w : World) → (20 ≤ m → 20 ≤ n) × (20 ≤ n → 20 ≤ m) → refused_run m w ≡ refused_run n w
refused_alike m n w h =
    ap (λ (b : Bool). first_of (identity_refusal w.files) (first_of (cond b (Some ShortTrail) None) (first_of (manual_refusal w.standing.mode) (first_of (locked_refusal w.standing.state) (registered_refusal w.standing.state)))))
    (short m n h)

seen_alike : (c : Call) (m n : ℕ) (w : World) → AlikeFor c m n → seen_after c m w ≡ seen_after c n w
seen_alike (Run draw) m n w h =
    ap (λ (r : Option Refusal). seen (Run draw) (Ran (answered r (run_answer w.standing w.files w.air draw))) (unless r [] (run_places w.standing w.files w.air draw))
    (world (unless r w.standing (run_standing w.standing w.files w.air draw)) (unless r w.air (run_air w.standing w.files w.air draw)) (unless r w.files (run_files w.standing w.files w.air draw))))
    (refused_alike m n w h)
seen_alike Look m n w h = refl
seen_alike (Pick place) m n w h = refl
seen_alike Loss m n w h = refl
seen_alike ChangeMode m n w h = refl
seen_alike Restart m n w h = refl

pub history_alike : (cs : List Call) (ms ns : List ℕ) (w : World) → AlikeTrails cs ms ns → history cs ms w ≡ history cs ns w
history_alike [] ms ns w h = refl
history_alike (c ∷ cs) ms ns w h =
    ap (λ (s : Seen). s ∷ history cs (later ms) s.left) (seen_alike c (next ms) (next ns) w h.0)
    ∙ ap (λ (l : List Seen). seen_after c (next ns) w ∷ l) (history_alike cs (later ms) (later ns) (left_by c (next ns) w) h.1)

pub finally_alike : (cs : List Call) (ms ns : List ℕ) (w : World) → AlikeTrails cs ms ns → finally cs ms w ≡ finally cs ns w
finally_alike [] ms ns w h = refl
finally_alike (c ∷ cs) ms ns w h =
    ap (λ (s : Seen). finally cs (later ms) s.left) (seen_alike c (next ms) (next ns) w h.0) ∙ finally_alike cs (later ms) (later ns) (left_by c (next ns) w) h.1
