use Rattle.std.proofs.Common.{◌≡◌, ℕ, List, Ok, Err, rules, subst, sym, ap, ◌∙◌}
use Rattle.statements.specs.Statements.{Means, row_at, answer_at, row_sentence}
use Rattle.words.specs.Words.{past_word}
use Rattle.statements.proofs.parsing.parse_row.Goals as goal

pub returns : goal.returns
returns c =
    let line : List ℕ = c.args.words.rest.now in
    let p : row_at line ≡ Ok c.in_ok-row.row = sym c.in_ok-row.ensures.value in
    let q : answer_at (past_word (past_word (past_word (past_word line)))) ≡ Ok c.in_ok-answer.answer = ap answer_at (sym c.in_ok-row.ensures.after) ∙ sym c.in_ok-answer.ensures in
    λ i. row_sentence (p i) (q i)

pub returns-in_err-answer : goal.returns-in_err-answer
returns-in_err-answer c =
    let line : List ℕ = c.args.words.rest.now in
    let p : row_at line ≡ Ok c.in_ok-row.row = sym c.in_ok-row.ensures.value in
    let q : answer_at (past_word (past_word (past_word (past_word line)))) ≡ Err c.in_err-answer.field-0.0 =
    ap answer_at (sym c.in_ok-row.ensures.after) ∙ sym c.in_err-answer.ensures in
    let told : c.from_residual-in_err-answer.result ≡ Err c.in_err-answer.field-0.0 = search rules in
    subst (Means (row_sentence (row_at line) (answer_at (past_word (past_word (past_word (past_word line))))))) (sym told) (λ i. row_sentence (p i) (q i))
