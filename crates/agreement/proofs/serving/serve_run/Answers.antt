use Rattle.std.proofs.Common.{◌≡◌, ℕ, ◌-◌, ◌≤◌, min, List, [], ◌++◌, length, take, drop, Option, Result, sym, refl, ap, ◌∙◌, arith, length-append, length-drop}
use Rattle.std.proofs.lemmas.List.{length-take-le}
use Rattle.refusal.specs.declared.Refusal.{Refusal}
use Rattle.card.specs.Files.{Files}
use Rattle.radio.specs.Airs.{Air}
use Rattle.states.specs.Checks.{run_refusal}
use Rattle.selector.specs.Runs.{run_places, run_standing, run_files, run_air, run_answer, trailed, unless, answered}
use Rattle.states.specs.Standings.{Standing}
use Rattle.selector.specs.Views.{standing}
use Rattle.states.specs.declared.state.RunAnswer.{RunAnswer}
use Rattle.agreement.specs.declared.call.Reply.TheVariants.{Ran}
use Rattle.agreement.specs.Rules.{tries_in}
use Rattle.agreement.proofs.Trails.{few, lent_part, tries_are}
use Rattle.agreement.proofs.Worlds.{same_world}
use Rattle.agreement.proofs.serving.serve_run.Goals as goal

pub returns : goal.returns
returns g c =
    let t : Standing = standing c.args.on.now in
    let fs : Files = g.C.Card.files c.args.card.now in
    let a : Air = g.R.Registrar.air c.args.radio.now in
    let draw : ℕ = c.args.draw in
    let before : List ℕ = c.args.trail.now in
    let part : List ℕ = c.run.new.trail in
    let places : List ℕ = run_places t fs a draw in
    let m : ℕ = c.min-n.result - 0 in
    let n : ℕ = min c.args.room (length before) in
    let em : m ≡ n = omega (arith, c.min-n.ensures) in
    let fits : n ≤ length before = omega arith in
    let size : length (take m before) ≡ n = ap (λ (k : ℕ). length (take k before)) em ∙ length-take-le n before fits in
    let r : ℕ → Option Refusal = λ k. run_refusal t fs k in
    let tries : tries_in c.run.result ≡ length (unless (r n) [] places) =
    ap tries_in (c.run.ensures.answer ∙ ap (λ (k : ℕ). answered (r k) (run_answer t fs a draw)) size) ∙ tries_are (r n) (run_answer t fs a draw) places refl in
    let trail : part ++ drop m before ≡ trailed (unless (r n) [] places) before =
    ap (λ (k : ℕ). part ++ drop k before) em
    ∙ lent_part (r n) places before part n fits
    (c.run.ensures.trail ∙ (ap (λ (k : ℕ). unless (r k) (take m before) (trailed places (take m before))) size ∙ ap (λ (k : ℕ). unless (r n) (take k before) (trailed places (take k before))) em))
    (c.run.auto.trail ∙ size) in
    let whole : length (part ++ drop m before) ≡ length before = omega (arith, length-append part (drop m before), length-drop m before, c.run.auto.trail, size, em) in
    let within : length (unless (r n) [] places) ≤ length before = few (unless (r n) [] places) before (length before) refl (sym (ap length trail) ∙ whole) in
    record {
      tries = tries;
      within = omega (arith, tries, within);
      trail = trail;
      reply = ap (λ (x : Result RunAnswer Refusal). Ran x) (c.run.ensures.answer ∙ ap (λ (k : ℕ). answered (r k) (run_answer t fs a draw)) size);
      left = same_world (standing c.run.new.self) (unless (r n) t (run_standing t fs a draw)) (g.R.Registrar.air c.run.new.radio) (unless (r n) a (run_air t fs a draw))
          (g.C.Card.files c.run.new.card) (unless (r n) fs (run_files t fs a draw))
          (c.run.ensures.after ∙ ap (λ (k : ℕ). unless (r k) t (run_standing t fs a draw)) size)
          (c.run.ensures.air ∙ ap (λ (k : ℕ). unless (r k) a (run_air t fs a draw)) size)
          (c.run.ensures.files ∙ ap (λ (k : ℕ). unless (r k) fs (run_files t fs a draw)) size);
    }
