use Rattle.std.proofs.Common.{◌≡◌, ℕ, ◌-◌, min, List, [], ◌∷◌, ◌++◌, length, take, refl, ap, ◌∙◌, subst, arith}
use Rattle.selector.specs.Views.{standing}
use Rattle.agreement.specs.Histories.{Seen, seen, seen_after}
use Rattle.agreement.specs.Rules.{reply_of, places_of, left_by}
use Rattle.agreement.specs.Worlds.{World, world}
use Rattle.agreement.specs.declared.call.Call.{Call}
use Rattle.agreement.specs.declared.call.Reply.{Reply}
use Rattle.agreement.proofs.Trails.{front}
use Rattle.agreement.proofs.Worlds.{same_world}
use Rattle.agreement.proofs.playing.serve_and_tell.Goals as goal

same_seen : (c : Call) (r s : Reply) (t u : List ℕ) (w v : World) → r ≡ s → t ≡ u → w ≡ v → seen c r t w ≡ seen c s u v
same_seen c r s t u w v p q e = cc

pub returns : goal.returns
returns g c =
    let w : World = world (standing c.args.on) (g.R.Registrar.air c.args.radio.now) (g.C.Card.files c.args.card.now) in
    let n : ℕ = min c.args.room (length c.args.trail.now) in
    let k : ℕ = c.serve-served.result.tries - 0 in
    let places : List ℕ = places_of c.args.call n w in
    let after : List ℕ = c.serve-served.new.trail in
    let left : World = world (standing c.serve-served.result.on) (g.R.Registrar.air c.serve-served.new.radio) (g.C.Card.files c.serve-served.new.card) in
    let count : k ≡ length places = omega (arith, c.serve-served.ensures.tries) in
    let tried : take k after ≡ places = ap (take k) c.serve-served.ensures.trail ∙ front places c.args.trail.now k count in
    let is : seen c.args.call c.serve-served.result.reply (take k after) left ≡ seen_after c.args.call n w =
    same_seen c.args.call c.serve-served.result.reply (reply_of c.args.call n w) (take k after) places left (left_by c.args.call n w) c.serve-served.ensures.reply tried c.serve-served.ensures.left in
    record {
      told = λ l h. subst (λ (s : Seen). g.W.Recorder.heard c.told.new.self (l ++ (s ∷ []))) is (c.told.ensures.after l h);
      trail = c.serve-served.ensures.trail;
      left = same_world (standing c.serve-served.result.on) (standing c.serve-served.result.on) (g.R.Registrar.air c.told.new.radio) (g.R.Registrar.air c.serve-served.new.radio)
          (g.C.Card.files c.told.new.card) (g.C.Card.files c.serve-served.new.card) refl c.told.ensures.air c.told.ensures.files
          ∙ c.serve-served.ensures.left;
    }
