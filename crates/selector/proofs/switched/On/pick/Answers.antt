use Rattle.std.proofs.Common.{◌≡◌, ℕ, None, Ok, Option, sym, ap, ◌∙◌}
use Rattle.std.specs.List.{slice_get}
use Rattle.refusal.specs.declared.Refusal.{Refusal}
use Rattle.card.specs.Files.{Files}
use Rattle.radio.specs.Airs.{Air}
use Rattle.subscriber.specs.Needed.{first_of}
use Rattle.states.specs.Checks.{look_refusal, row_refusal, pick_refusal}
use Rattle.selector.specs.Runs.{pick_air, pick_standing, pick_files, unless, answered}
use Rattle.states.specs.Standings.{Standing}
use Rattle.selector.specs.Views.{standing}
use Rattle.states.specs.declared.state.State.{State}
use Rattle.selector.proofs.switched.On.pick.Goals as goal

pub returns : goal.returns
returns g c =
    let t : Standing = standing c.args.self.now in
    let fs : Files = g.C.Card.files c.args.card.now in
    let gs : Files = g.C.Card.files c.read.new.card in
    let a : Air = g.R.Registrar.air c.args.radio.now in
    let b : Air = g.R.Registrar.air c.usable_row.new.radio in
    let place : ℕ = c.args.place in
    let same : gs ≡ fs = c.read.ensures.same in
    let still : b ≡ a = c.usable_row.ensures.air in
    let row : Option Refusal = row_refusal t.supported (slice_get a.here place) in
    let refusal : Option Refusal = pick_refusal t fs a.here place in
    let there : row ≡ None = ap (λ (n : ℕ). row_refusal n (slice_get a.here place)) (sym c.supported.ensures) ∙ c.in_ok-row.ensures.answer.0 in
    let go : refusal ≡ None =
    ap (λ (o : Option Refusal). first_of o (first_of (look_refusal t) row)) c.in_ok-identity.ensures.answer.accepted
    ∙ (ap (λ (o : Option Refusal). first_of o row) c.in_ok-may_look.ensures ∙ there) in
    let standing_is = ap (λ (f : Files). pick_standing t f b place) same ∙ ap (λ (x : Air). pick_standing t fs x place) still in
    record {
      answer = ap (λ (x : State). Ok x) (c.pick_checked.ensures.value ∙ ap (λ (s : Standing). s.state) standing_is) ∙ sym (ap (λ (o : Option Refusal). answered o (pick_standing t fs a place).state) go);
      after = c.pick_checked.ensures.after ∙ (standing_is ∙ sym (ap (λ (o : Option Refusal). unless o t (pick_standing t fs a place)) go));
      files = c.pick_checked.ensures.files ∙ (ap (λ (f : Files). pick_files t f b place) same ∙ (ap (λ (x : Air). pick_files t fs x place) still ∙ sym (ap (λ (o : Option Refusal). unless o fs (pick_files t fs a place)) go)));
      air = c.pick_checked.ensures.air ∙ (ap (λ (x : Air). pick_air x place) still ∙ sym (ap (λ (o : Option Refusal). unless o a (pick_air a place)) go));
    }
