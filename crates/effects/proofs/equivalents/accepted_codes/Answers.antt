use Rattle.std.proofs.Common.{◌≡◌, ℕ, ◌<◌, min, length, sym, ap, ◌∙◌, arith}
use Rattle.radio.specs.Airs.{Air, code_at}
use Rattle.subscriber.specs.Codes.{codes_in}
use Rattle.effects.specs.Accepted.{accepted_codes}
use Rattle.effects.proofs.Valid.{valid_more, invalid_more}
use Rattle.effects.proofs.equivalents.accepted_codes.Goals as goal
use Rattle.effects.proofs.equivalents.accepted_codes.Goals.{then-is_valid, else-is_valid}

pub loop-i-preserved : goal.loop-i-preserved
loop-i-preserved g c =
    let a : Air = g.R.Registrar.air c.args.radio.now in
    let i : ℕ = c.loop-i.i in
    let few : i < 80 = omega (arith, c.loop-i-test.true, c.min-i-end.ensures) in
    let e : c.accepted_code-code.result ≡ code_at a.here c.args.place i =
    c.accepted_code-code.ensures.value ∙ ap (λ (b : Air). code_at b.here c.args.place i) c.loop-i.invariant.2 in
    let air = c.accepted_code-code.ensures.air ∙ c.loop-i.invariant.2 in
    let sky = c.accepted_code-code.ensures.sky ∙ c.loop-i.invariant.3 in
    elim c.if-is_valid.branch [
      | then-is_valid w ↦
          let m = valid_more a.here c.args.place i (codes_in c.loop-i.codes) (codes_in w.add.new.self) c.accepted_code-code.result e (sym c.is_valid.ensures ∙ w.if-is_valid.true)
          c.loop-i.invariant.0 c.loop-i.invariant.1 few w.add.ensures in
          (ap codes_in w.codes-is ∙ m.0, (let q = ap (λ l. length (codes_in l)) w.codes-is in omega (arith, q, m.1)), air, sky)
      | else-is_valid w ↦ (
        ap codes_in w.codes-is ∙ invalid_more a.here c.args.place i (codes_in c.loop-i.codes) c.accepted_code-code.result e (sym c.is_valid.ensures ∙ w.if-is_valid.false) c.loop-i.invariant.0,
        (let q = ap (λ l. length (codes_in l)) w.codes-is in omega (arith, q, c.loop-i.invariant.1)),
        air,
        sky,
      )
    ]

pub returns : goal.returns
returns g c =
    let n : c.loop-i.i ≡ min c.args.count 5 = omega (arith, c.loop-i-test.false, c.loop-i.auto.i-end, c.min-i-end.ensures) in
    record {
      value = c.loop-i.invariant.0 ∙ ap (accepted_codes (g.R.Registrar.air c.args.radio.now).here c.args.place) n;
      air = c.loop-i.invariant.2;
      sky = c.loop-i.invariant.3;
    }
