use Rattle.std.proofs.Common.{◌≡◌, ℕ, ◌+◌, ◌<◌, ◌++◌, ◌∷◌, [], List, length, set, get_or, Some, sym, ap, ◌∙◌, subst, arith}
use Rattle.std.proofs.lemmas.List.{length_push}
use Rattle.bounded.specs.Held.{held}
use Rattle.causes.specs.declared.heard.Heard.{Heard}
use Rattle.ranking.specs.Draws.{no_key}
use Rattle.tries.specs.Turns.{barred}
use Rattle.tries.specs.Walks.{Walked}
use Rattle.tries.proofs.Turning.{pass, next, last, moved}
use Rattle.tries.proofs.walk.walk.Goals as goal
use Rattle.tries.proofs.walk.walk.Goals.{in-Some+else-ends_run, in_default}

pub returns-then-ends_run : goal.returns-then-ends_run
returns-then-ends_run g c =
    let mid = c.loop-k.invariant in
    let done : List Heard = held c.loop-k.heard in
    let few : length done < 20 = omega (arith, mid.few, c.loop-k-test.true, c.requires.few) in
    let more = c.push.ensures.room few in
    let n : length (held c.push.new.self) ≡ length done + 1 = ap length more ∙ length_push done c.in-Some.h in
    subst (λ (k : ℕ). Walked (barred c.args.areas.now.roaming.now c.args.areas.now.regional.now) (g.R.Registrar.air c.args.radio.now) c.args.order.now c.args.trail.now k (held c.push.new.self) (Some c.in-Some.h) c.write_place.new.trail (g.R.Registrar.air c.try_open.new.radio)) (sym n)
    (subst (λ (t : List ℕ). Walked (barred c.args.areas.now.roaming.now c.args.areas.now.regional.now) (g.R.Registrar.air c.args.radio.now) c.args.order.now c.args.trail.now (length done + 1) (held c.push.new.self) (Some c.in-Some.h) t (g.R.Registrar.air c.try_open.new.radio))
    (sym (c.write_place.ensures ∙ ap (λ (d : List Heard). set c.loop-k.trail (length d) (get_or c.args.order.now c.loop-k.k-index no_key).place) c.as_slice-done.ensures.value))
    (last (barred c.args.areas.now.roaming.now c.args.areas.now.regional.now) (g.R.Registrar.air c.args.radio.now) c.args.order.now c.args.trail.now c.loop-k.k-index (length done) done c.loop-k.trail (g.R.Registrar.air c.loop-k.radio) mid
    c.loop-k-test.true c.requires.few (omega arith) c.as_slice-done.result.now c.as_slice-done.ensures.value c.in-Some.h (g.R.Registrar.air c.try_open.new.radio) c.in-Some.ensures.value c.try_open.ensures.air (held c.push.new.self) more (sym c.if-ends_run.ensures)))

pub loop-k-preserved : goal.loop-k-preserved
loop-k-preserved g c =
    let mid = c.loop-k.invariant in
    let done : List Heard = held c.loop-k.heard in
    let few : length done < 20 = omega (arith, mid.few, c.loop-k-test.true, c.requires.few) in
    elim c.match-try_open.branch [
      | in-Some+else-ends_run w ↦
          let more = w.push.ensures.room few in
          let n : length (held w.push.new.self) ≡ length done + 1 = ap length more ∙ length_push done w.in-Some.h in
          moved (length (held c.match-try_open.heard)) (held c.match-try_open.heard) c.match-try_open.trail (ap (λ h. length (held h)) w.heard-is ∙ n) (ap held w.heard-is) (w.trail-is ∙ w.write_place.ensures ∙ ap (λ (d : List Heard). set c.loop-k.trail (length d) (get_or c.args.order.now c.loop-k.k-index no_key).place) c.as_slice-done.ensures.value)
          (next (barred c.args.areas.now.roaming.now c.args.areas.now.regional.now) (g.R.Registrar.air c.args.radio.now) c.args.order.now c.args.trail.now c.loop-k.k-index (length done) done c.loop-k.trail (g.R.Registrar.air c.loop-k.radio) mid
          c.loop-k-test.true c.requires.few (omega arith) c.as_slice-done.result.now c.as_slice-done.ensures.value w.in-Some.h (g.R.Registrar.air c.try_open.new.radio) w.in-Some.ensures.value c.try_open.ensures.air (held w.push.new.self) more (sym w.if-ends_run.ensures))
      | in_default w ↦
          moved (length (held c.match-try_open.heard)) (held c.match-try_open.heard) c.match-try_open.trail (ap (λ h. length (held h)) w.heard-is) (ap held w.heard-is) w.trail-is
          (pass (barred c.args.areas.now.roaming.now c.args.areas.now.regional.now) (g.R.Registrar.air c.args.radio.now) c.args.order.now c.args.trail.now c.loop-k.k-index (length done) done c.loop-k.trail (g.R.Registrar.air c.loop-k.radio) mid
          c.loop-k-test.true c.as_slice-done.result.now (g.R.Registrar.air c.try_open.new.radio) c.as_slice-done.ensures.value w.in_default.ensures.value c.try_open.ensures.air)
    ]
