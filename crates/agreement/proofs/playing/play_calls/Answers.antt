use Rattle.std.proofs.Common.{◌≡◌, ℕ, ◌<◌, ◌≤◌, min, List, ◌++◌, length, drop, sym, refl, ap, ◌∙◌, subst}
use Rattle.std.proofs.lemmas.List.{at_drop_all, append-nil}
use Rattle.card.specs.Files.{Files}
use Rattle.radio.specs.Airs.{Air}
use Rattle.states.specs.Standings.{Standing, fresh, switched_on, switched_off}
use Rattle.selector.specs.Views.{standing}
use Rattle.agreement.specs.Histories.{lengths, next, history, finally, overwritten}
use Rattle.agreement.specs.Worlds.{World, world, started}
use Rattle.agreement.specs.declared.call.Call.{Call}
use Rattle.agreement.proofs.Steps.{next_length, step_finally, step_heard, step_trail}
use Rattle.agreement.proofs.playing.play_calls.Goals as goal

pub loop-i-init : goal.loop-i-init
loop-i-init g c = ((λ s h. (s, h, refl)), refl, refl, refl)

pub loop-i-preserved : goal.loop-i-preserved
loop-i-preserved g c =
    let calls : List Call = c.args.calls.now in
    let ns : List ℕ = lengths c.args.rooms.now c.args.trail.now in
    let i : ℕ = c.loop-i.i in
    let w : World = world (standing c.loop-i.on) (g.R.Registrar.air c.loop-i.radio) (g.C.Card.files c.loop-i.card) in
    let more : i < length calls = c.loop-i-test.true in
    let n : ℕ = min c.room_at.result (length c.loop-i.trail) in
    let lent : next (drop i ns) ≡ n =
    next_length c.args.rooms.now c.args.trail.now i
    ∙ (ap (λ (k : ℕ). min k (length c.args.trail.now)) (sym c.room_at.ensures) ∙ ap (λ (k : ℕ). min c.room_at.result k) (sym c.loop-i.invariant.3)) in (
      (λ s h. let q = c.loop-i.invariant.0 s h in (
        _,
        c.serve_and_tell-on.ensures.told q.0 q.1,
        step_heard calls ns i _ n w _ more lent c.serve_and_tell-on.ensures.left q.0 ∙ q.2,
      )),
      sym (step_finally calls ns i _ n w _ more lent c.serve_and_tell-on.ensures.left) ∙ c.loop-i.invariant.1,
      step_trail calls ns i _ n w _ more lent c.serve_and_tell-on.ensures.left c.loop-i.trail c.serve_and_tell-on.new.trail c.serve_and_tell-on.ensures.trail ∙ c.loop-i.invariant.2,
      c.serve_and_tell-on.auto.trail ∙ c.loop-i.invariant.3,
    )

pub returns : goal.returns
returns g c =
    let calls : List Call = c.args.calls.now in
    let ns : List ℕ = lengths c.args.rooms.now c.args.trail.now in
    let i : ℕ = c.loop-i.i in
    let a : Air = g.R.Registrar.air c.args.radio.now in
    let fs : Files = g.C.Card.files c.args.card.now in
    let w : World = world (standing c.loop-i.on) (g.R.Registrar.air c.loop-i.radio) (g.C.Card.files c.loop-i.card) in
    let done : length calls ≤ i = c.loop-i-test.false in
    let start : standing c.switch_on-on.result ≡ switched_on (fresh c.args.settings.supported.bits) = c.switch_on-on.ensures ∙ ap switched_on c.new.ensures in
    let end : w ≡ finally calls ns (started c.args.settings.supported.bits a fs) =
    sym (at_drop_all (λ (cs : List Call). finally cs (drop i ns) w) calls i done) ∙ (c.loop-i.invariant.1 ∙ ap (λ (s : Standing). finally calls ns (world s a fs)) start) in
    record {
      told = λ l h.
          let q = c.loop-i.invariant.0 l h in
          subst (g.W.Recorder.heard c.loop-i.recorder)
          (sym (at_drop_all (λ (cs : List Call). q.0 ++ history cs (drop i ns) w) calls i done ∙ append-nil q.0) ∙ (q.2 ∙ ap (λ (s : Standing). l ++ history calls ns (world s a fs)) start))
          q.1;
      trail = sym (at_drop_all (λ (cs : List Call). overwritten (history cs (drop i ns) w) c.loop-i.trail) calls i done)
          ∙ (c.loop-i.invariant.2 ∙ ap (λ (s : Standing). overwritten (history calls ns (world s a fs)) c.args.trail.now) start);
      left_by_the_rules = record {
        selector = c.switch_off.ensures ∙ ap (λ (v : World). switched_off v.standing) end;
        air = ap (λ (v : World). v.air) end;
        files = ap (λ (v : World). v.files) end;
      };
    }
