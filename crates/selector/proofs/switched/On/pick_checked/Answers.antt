use Rattle.std.proofs.Common.{◌≡◌, ℕ, ap, ◌∙◌}
use Rattle.card.specs.Files.{Files}
use Rattle.radio.specs.Airs.{Air}
use Rattle.causes.specs.declared.heard.Heard.{Heard}
use Rattle.subscriber.specs.Codes.{codes_in}
use Rattle.subscriber.specs.declared.identity.Subscriber.{Subscriber}
use Rattle.selector.specs.Runs.{pick_heard, pick_standing}
use Rattle.states.specs.Standings.{Standing}
use Rattle.selector.specs.Views.{standing}
use Rattle.selector.proofs.Picked.{heard_is, picked_standing, picked_files}
use Rattle.selector.proofs.Started.{home_is, forbidden_is}
use Rattle.selector.proofs.switched.On.pick_checked.Goals as goal

pub returns : goal.returns
returns g c =
    let t : Standing = standing c.args.self.now in
    let fs : Files = g.C.Card.files c.args.card.now in
    let a : Air = g.R.Registrar.air c.args.radio.now in
    let b : Air = g.R.Registrar.air c.answer_at-answer.new.radio in
    let place : ℕ = c.args.place in
    let s : Subscriber = c.read-subscriber.result in
    let h : Heard = record { row = c.args.row; answer = c.answer_at-answer.result } in
    let eh = home_is fs c.args.identity.now s c.requires.known c.read-subscriber.ensures.value in
    let ef = forbidden_is fs c.args.identity.now s c.requires.known c.read-subscriber.ensures.value in
    let ek : h ≡ pick_heard a place = heard_is a place c.args.row c.answer_at-answer.result c.requires.there c.answer_at-answer.ensures.value in
    let after : standing c.conclude.new.self ≡ pick_standing t fs a place =
    c.conclude.ensures.after ∙ picked_standing t fs a b place h (codes_in s.home) (codes_in s.forbidden) ek c.answer_at-answer.ensures.air eh ef in
    record {
      value = ap (λ (x : Standing). x.state) after;
      after = after;
      files = c.conclude.ensures.files ∙ picked_files t fs a b place h (codes_in s.home) (codes_in s.forbidden) ek c.answer_at-answer.ensures.air eh ef (g.C.Card.files c.read-subscriber.new.card) c.read-subscriber.ensures.same;
      air = c.conclude.ensures.air ∙ c.answer_at-answer.ensures.air;
    }
