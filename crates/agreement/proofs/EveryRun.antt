-- The laws of a run hold of every run in a sequence.
use Rattle.std.proofs.Common.{◌≡◌, ℕ, ◌≤◌, List, [], ◌∷◌, length, Some, None, Ok, fold, Option, sym, refl, subst, arith}
use Rattle.std.specs.List.{AllByRecursion}
use Rattle.std.proofs.lemmas.List.{length-map}
use Rattle.refusal.specs.declared.Refusal.{Refusal}
use Rattle.radio.specs.Airs.{Air, Offer, fresh, sought, attempted}
use Rattle.radio.specs.Skies.{Few, front, later as laterSkies}
use Rattle.run_laws.specs.Laws.{Tried, KeptOff}
use Rattle.run_laws.proofs.Lawful.{runs_try, runs_keep_off}
use Rattle.selector.specs.Runs.{run_places, run_air, run_answer, unless, answered}
use Rattle.states.specs.declared.state.RunAnswer.{RunAnswer}
use Rattle.agreement.specs.Histories.{seen_after, next, later, history}
use Rattle.agreement.specs.Laws.{RunLaw, IfRun, EveryRun, TriesOpenRowsInOrder, NeverTriesForbidden}
use Rattle.agreement.specs.Rules.{refused_run, refused_look, refused_pick, left_by}
use Rattle.agreement.specs.Worlds.{World}
use Rattle.agreement.specs.declared.call.Call.{Call}
use Rattle.agreement.specs.declared.call.Call.TheVariants.{Run, Look, Pick, Loss, ChangeMode, Restart}
use Rattle.agreement.specs.declared.call.Reply.TheVariants.{Ran}

-- no sky to come has more than twenty rows
abbrev FewComing : Air → Type 0
FewComing a = AllByRecursion Few a.coming

later_few : (skies : List (List Offer)) → AllByRecursion Few skies → AllByRecursion Few (laterSkies skies)
later_few [] h = tt
later_few (s ∷ t) h = h.1

tries_leave_coming : (places : List ℕ) (a : Air) → (fold attempted a places).coming ≡ a.coming
tries_leave_coming [] a = refl
tries_leave_coming (p ∷ ps) a = tries_leave_coming ps (attempted a p)

either : (r : Option Refusal) (a b : Air) → FewComing a → FewComing b → FewComing (unless r a b)
either None a b p q = q
either (Some e) a b p q = p

-- no call brings a sky of more rows
few_after : (c : Call) (n : ℕ) (w : World) → FewComing w.air → FewComing (left_by c n w).air
few_after (Run draw) n w h =
    either (refused_run n w) w.air (run_air w.standing w.files w.air draw) h
    (subst (AllByRecursion Few) (sym (tries_leave_coming (run_places w.standing w.files w.air draw) (sought w.air))) (later_few w.air.coming h))
few_after Look n w h = either (refused_look w) w.air (sought w.air) h (later_few w.air.coming h)
few_after (Pick place) n w h = either (refused_pick place w) w.air (attempted w.air place) h h
few_after Loss n w h = h
few_after ChangeMode n w h = h
few_after Restart n w h = h

front_few : (skies : List (List Offer)) → AllByRecursion Few skies → Few (front skies)
front_few [] h = omega arith
front_few (s ∷ t) h = h.0

found_few : (a : Air) → FewComing a → Few (sought a).here
found_few a h = subst (λ (n : ℕ). n ≤ 20) (sym (length-map (front a.coming) fresh)) (front_few a.coming h)

-- where a run answers, it was not refused
carried_out : (law : RunAnswer → List ℕ → Air → Type 0) (r : Option Refusal) (x : RunAnswer) (places : List ℕ) (before after : Air) → law x places after →
    (a : RunAnswer) → Ran (answered r x) ≡ Ran (Ok a) → law a (unless r [] places) (unless r before after)
carried_out law None x places before after h a e = subst (λ (y : RunAnswer). law y places after) (let same : x ≡ a = cc in same) h
carried_out law (Some refusal) x places before after h a e = let z : ◌≡◌ {A = ℕ} 0 1 = cc in absurd (omega arith)

-- a law that holds of each run of the rules, where the search finds at most twenty rows
module _ (law : RunLaw) (holds : (draw n : ℕ) (w : World) → Few (sought w.air).here → IfRun law w (Run draw) (seen_after (Run draw) n w)) where
  at_call : (c : Call) (n : ℕ) (w : World) → FewComing w.air → IfRun law w c (seen_after c n w)
  at_call (Run draw) n w few = holds draw n w (found_few w.air few)
  at_call Look n w few = tt
  at_call (Pick place) n w few = tt
  at_call Loss n w few = tt
  at_call ChangeMode n w few = tt
  at_call Restart n w few = tt

  every_run : (cs : List Call) (ns : List ℕ) (w : World) → FewComing w.air → EveryRun law w cs (history cs ns w)
  every_run [] ns w few = tt
  every_run (c ∷ cs) ns w few = (at_call c (next ns) w few, every_run cs (later ns) (left_by c (next ns) w) (few_after c (next ns) w few))

pub every_run_tries : (cs : List Call) (ns : List ℕ) (w : World) → AllByRecursion Few w.air.coming → EveryRun TriesOpenRowsInOrder w cs (history cs ns w)
every_run_tries =
    every_run TriesOpenRowsInOrder
    (λ draw n w few.
    carried_out (λ a places air. Tried w.standing w.files w.air draw places a.state air × (a.tries ≡ length places)) (refused_run n w)
    (run_answer w.standing w.files w.air draw) (run_places w.standing w.files w.air draw) w.air (run_air w.standing w.files w.air draw)
    (runs_try w.standing w.files w.air draw few, refl))

pub every_run_keeps_off : (cs : List Call) (ns : List ℕ) (w : World) → AllByRecursion Few w.air.coming → EveryRun NeverTriesForbidden w cs (history cs ns w)
every_run_keeps_off =
    every_run NeverTriesForbidden
    (λ draw n w few.
    carried_out (λ a places air. KeptOff w.standing w.files w.air places a.state) (refused_run n w)
    (run_answer w.standing w.files w.air draw) (run_places w.standing w.files w.air draw) w.air (run_air w.standing w.files w.air draw)
    (runs_keep_off w.standing w.files w.air draw few))
