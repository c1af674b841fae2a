use Rattle.std.proofs.Common.{◌≡◌, ℕ, false, eqb, List, length, Some, Result, sym, ap, ◌∙◌, subst}
use Rattle.statements.specs.Statements.{Sentence, Means, keyword_of, sentence_by}
use Rattle.words.specs.Words.{word_of, past_word, bare}
use Rattle.statements.specs.declared.fault.Reason.{Reason}
use Rattle.statements.proofs.Sentences.{said}
use Rattle.statements.proofs.parsing.parse.Goals as goal

pub returns : goal.returns
returns c =
    let line : List ℕ = c.args.line.now in
    let first : c.next-first.result.now ≡ word_of line = c.next-first.ensures.value ∙ ap word_of c.of-words.ensures in
    let rest : c.next-first.new.self.rest.now ≡ past_word line = c.next-first.ensures.after ∙ ap past_word c.of-words.ensures in
    let some : bare line ≡ false = ap (λ (w : List ℕ). eqb (length w) 0) (sym first) ∙ sym c.is_empty.ensures ∙ c.if-is_empty.false in
    let k : keyword_of (word_of line) ≡ Some c.in-Some.word = ap keyword_of (sym first) ∙ sym c.in-Some.ensures in
    subst (λ (due : Result Sentence Reason). Means due c.parse_rest.result) (ap (sentence_by c.in-Some.word) rest ∙ said line c.in-Some.word some k) c.parse_rest.ensures
