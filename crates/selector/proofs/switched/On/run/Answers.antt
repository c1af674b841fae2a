use Rattle.std.proofs.Common.{◌≡◌, ℕ, List, length, None, Ok, Option, sym, ap, ◌∙◌}
use Rattle.refusal.specs.declared.Refusal.{Refusal}
use Rattle.card.specs.Files.{Files}
use Rattle.radio.specs.Airs.{Air}
use Rattle.subscriber.specs.Needed.{first_of}
use Rattle.states.specs.Checks.{run_checks, run_refusal}
use Rattle.selector.specs.Runs.{run_places, run_standing, run_files, run_air, run_answer, trailed, unless, answered}
use Rattle.states.specs.Standings.{Standing}
use Rattle.selector.specs.Views.{standing}
use Rattle.states.specs.declared.state.RunAnswer.{RunAnswer}
use Rattle.selector.proofs.switched.On.run.Goals as goal

pub returns : goal.returns
returns g c =
    let t : Standing = standing c.args.self.now in
    let fs : Files = g.C.Card.files c.args.card.now in
    let a : Air = g.R.Registrar.air c.args.radio.now in
    let draw : ℕ = c.args.draw in
    let before : List ℕ = c.args.trail.now in
    let same : g.C.Card.files c.read.new.card ≡ fs = c.read.ensures.same in
    let refusal : Option Refusal = run_refusal t fs (length before) in
    let go : refusal ≡ None =
    ap (λ (o : Option Refusal). first_of o (run_checks t (length before))) c.in_ok-identity.ensures.answer.accepted ∙ c.in_ok-may_run.ensures in
    record {
      answer = ap (λ (x : RunAnswer). Ok x) (c.run_checked.ensures.value ∙ ap (λ (f : Files). run_answer t f a draw) same) ∙ sym (ap (λ (o : Option Refusal). answered o (run_answer t fs a draw)) go);
      trail = c.run_checked.ensures.trail ∙ (ap (λ (f : Files). trailed (run_places t f a draw) before) same ∙ sym (ap (λ (o : Option Refusal). unless o before (trailed (run_places t fs a draw) before)) go));
      after = c.run_checked.ensures.after ∙ (ap (λ (f : Files). run_standing t f a draw) same ∙ sym (ap (λ (o : Option Refusal). unless o t (run_standing t fs a draw)) go));
      files = c.run_checked.ensures.files ∙ (ap (λ (f : Files). run_files t f a draw) same ∙ sym (ap (λ (o : Option Refusal). unless o fs (run_files t fs a draw)) go));
      air = c.run_checked.ensures.air ∙ (ap (λ (f : Files). run_air t f a draw) same ∙ sym (ap (λ (o : Option Refusal). unless o a (run_air t fs a draw)) go));
    }
