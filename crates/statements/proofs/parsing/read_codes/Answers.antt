use Rattle.std.proofs.Common.{◌≡◌, ℕ, ◌+◌, ◌-◌, List, length, Ok, Err, Result, rules, sym, ap, ◌∙◌, arith}
use Rattle.std.proofs.lemmas.List.{length-set}
use Rattle.plmn.specs.declared.code.Code.{Code}
use Rattle.statements.specs.Statements.{codes_from, with_code, added}
use Rattle.words.specs.Words.{past_word}
use Rattle.statements.specs.declared.fault.Reason.{Reason}
use Rattle.statements.specs.declared.statement.Codes.{Codes}
use Rattle.statements.proofs.Sentences.{codes_more, codes_bad, codes_end, codes_full}
use Rattle.statements.proofs.parsing.read_codes.Goals as goal

pub returns-then-is_bare : goal.returns-then-is_bare
returns-then-is_bare c = sym (codes_end (5 - c.loop-i._i) c.loop-i.codes c.loop-i.words.rest.now (sym c.if-is_bare.ensures)) ∙ c.loop-i.invariant.2

pub returns-in_err-next : goal.returns-in_err-next
returns-in_err-next c =
    let line : List ℕ = c.loop-i.words.rest.now in
    let m : ℕ = 5 - (c.loop-i._i + 1) in
    let told : c.from_residual.result ≡ Err c.in_err-next.field-0.0 = search rules in
    told ∙ sym (codes_bad m c.in_err-next.field-0.0 (past_word line))
    ∙ (ap (λ (r : Result Code Reason). codes_from m (with_code c.loop-i.codes r) (past_word line)) c.in_err-next.ensures.value
    ∙ (sym (codes_more (5 - c.loop-i._i) m c.loop-i.codes line (omega arith) (sym c.if-is_bare.ensures)) ∙ c.loop-i.invariant.2))

pub loop-i-preserved : goal.loop-i-preserved
loop-i-preserved c =
    let line : List ℕ = c.loop-i.words.rest.now in
    let m : ℕ = 5 - (c.loop-i._i + 1) in
    let made : c.with_code-codes.result ≡ added c.loop-i.codes c.in_ok-next.next = c.with_code-codes.ensures in (
      ap (λ (cs : Codes). cs.count) made ∙ ap (λ (n : ℕ). n + 1) c.loop-i.invariant.0,
      ap (λ (cs : Codes). length cs.codes) made ∙ (length-set c.loop-i.codes.codes c.loop-i.codes.count c.in_ok-next.next ∙ c.loop-i.invariant.1),
      (λ i. codes_from m (Ok (made i)) (c.in_ok-next.ensures.after i))
          ∙ (ap (λ (r : Result Code Reason). codes_from m (with_code c.loop-i.codes r) (past_word line)) c.in_ok-next.ensures.value
          ∙ (sym (codes_more (5 - c.loop-i._i) m c.loop-i.codes line (omega arith) (sym c.if-is_bare.ensures)) ∙ c.loop-i.invariant.2)),
    )

pub returns-then-is_bare-2 : goal.returns-then-is_bare-2
returns-then-is_bare-2 c = sym (codes_end (5 - c.loop-i._i) c.loop-i.codes c.loop-i.words.rest.now (sym c.if-is_bare-2.ensures)) ∙ c.loop-i.invariant.2

pub returns-else-is_bare-2 : goal.returns-else-is_bare-2
returns-else-is_bare-2 c = sym (codes_full (5 - c.loop-i._i) c.loop-i.codes c.loop-i.words.rest.now (omega arith) (sym c.if-is_bare-2.ensures)) ∙ c.loop-i.invariant.2
