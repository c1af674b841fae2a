use Rattle.std.proofs.Common.{◌≡◌, ℕ, List, sym, ap, ◌∙◌}
use Rattle.card.specs.Files.{Files}
use Rattle.radio.specs.Airs.{Air}
use Rattle.states.specs.Standings.{switched_off}
use Rattle.agreement.specs.Histories.{lengths, history, finally, AlikeTrails}
use Rattle.agreement.specs.Worlds.{World, started}
use Rattle.agreement.specs.declared.call.Call.{Call}
use Rattle.agreement.proofs.Alike.{history_alike, finally_alike}
use Rattle.agreement.proofs.EveryRun.{every_run_tries, every_run_keeps_off}
use Rattle.agreement.proofs.both.play_on_both.Goals as goal

pub returns : goal.returns
returns g c =
    let calls : List Call = c.args.calls.now in
    let ms : List ℕ = lengths c.args.first_rooms.now c.args.first_trail.now in
    let ns : List ℕ = lengths c.args.second_rooms.now c.args.second_trail.now in
    let bits : ℕ = c.args.settings.supported.bits in
    let a : Air = g.R.Registrar.air c.args.first_radio.now in
    let b : Air = g.S.Registrar.air c.args.second_radio.now in
    let fs : Files = g.C.Card.files c.args.first_card.now in
    let gs : Files = g.D.Card.files c.args.second_card.now in
    let same_start : a ≡ b → fs ≡ gs → started bits a fs ≡ started bits b gs = λ p q. ap (λ (x : Air). started bits x fs) p ∙ ap (λ (f : Files). started bits b f) q in
    let same_end : a ≡ b → fs ≡ gs → AlikeTrails calls ms ns → finally calls ms (started bits a fs) ≡ finally calls ns (started bits b gs) =
    λ p q h. ap (finally calls ms) (same_start p q) ∙ finally_alike calls ms ns (started bits b gs) h in
    let first = c.play_calls-first.ensures.left_by_the_rules in
    let second = c.play_calls-second.ensures.left_by_the_rules in
    record {
      tells_first = c.play_calls-first.ensures.told;
      tells_second = c.play_calls-second.ensures.told;
      same_after_every_call = λ p q h. ap (history calls ms) (same_start p q) ∙ history_alike calls ms ns (started bits b gs) h;
      same_at_the_end = λ p q h. (
        first.selector ∙ (ap (λ (w : World). switched_off w.standing) (same_end p q h) ∙ sym second.selector),
        first.air ∙ (ap (λ (w : World). w.air) (same_end p q h) ∙ sym second.air),
        first.files ∙ (ap (λ (w : World). w.files) (same_end p q h) ∙ sym second.files),
      );
      first_left_by_the_rules = first;
      second_left_by_the_rules = second;
      first_trail = c.play_calls-first.ensures.trail;
      second_trail = c.play_calls-second.ensures.trail;
      tries_open_rows_in_order = (every_run_tries calls ms (started bits a fs) (g.R.Registrar.brief c.args.first_radio.now).few_coming, every_run_tries calls ns (started bits b gs) (g.S.Registrar.brief c.args.second_radio.now).few_coming);
      never_tries_forbidden = (every_run_keeps_off calls ms (started bits a fs) (g.R.Registrar.brief c.args.first_radio.now).few_coming, every_run_keeps_off calls ns (started bits b gs) (g.S.Registrar.brief c.args.second_radio.now).few_coming);
    }
