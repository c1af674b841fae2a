-- Statements of several words: what their parts say, the whole line says.
use Rattle.std.proofs.Common.{◌≡◌, ℕ, zero, suc, true, false, List, Some, Ok, Err, Option, sym, refl, ap, ◌∙◌}
use Rattle.std.proofs.lemmas.Bool.{cond-true, cond-false}
use Rattle.statements.specs.Statements.{nothing, with_code, codes_from, code_at, sentence_by, known, keyword_of, sentence_of}
use Rattle.words.specs.Words.{word_of, past_word, bare}
use Rattle.statements.specs.declared.fault.Reason.{Reason}
use Rattle.statements.specs.declared.fault.Reason.TheVariants.{TooManyCodes}
use Rattle.statements.specs.declared.statement.Codes.{Codes}
use Rattle.statements.specs.declared.statement.Keyword.{Keyword}

-- one code more
pub codes_more : (n m : ℕ) (cs : Codes) (line : List ℕ) → n ≡ suc m → bare line ≡ false → codes_from n (Ok cs) line ≡ codes_from m (with_code cs (code_at line)) (past_word line)
codes_more n m cs line e h =
    ap (λ (k : ℕ). codes_from k (Ok cs) line) e ∙ cond-false (bare line) (Ok cs) (codes_from m (with_code cs (code_at line)) (past_word line)) h

-- a word that is no code
pub codes_bad : (m : ℕ) (e : Reason) (line : List ℕ) → codes_from m (Err e) line ≡ Err e
codes_bad zero e line = refl
codes_bad (suc m) e line = refl

-- no code more
pub codes_end : (n : ℕ) (cs : Codes) (line : List ℕ) → bare line ≡ true → codes_from n (Ok cs) line ≡ Ok cs
codes_end zero cs line h = cond-true (bare line) (Ok cs) (Err TooManyCodes) h
codes_end (suc n) cs line h = cond-true (bare line) (Ok cs) (codes_from n (with_code cs (code_at line)) (past_word line)) h

-- no place for a further code
pub codes_full : (n : ℕ) (cs : Codes) (line : List ℕ) → n ≡ 0 → bare line ≡ false → codes_from n (Ok cs) line ≡ Err TooManyCodes
codes_full n cs line e h = ap (λ (k : ℕ). codes_from k (Ok cs) line) e ∙ cond-false (bare line) (Ok cs) (Err TooManyCodes) h

pub said : (line : List ℕ) (k : Keyword) → bare line ≡ false → keyword_of (word_of line) ≡ Some k → sentence_by k (past_word line) ≡ sentence_of line
said line k b e = sym (cond-false (bare line) (Ok nothing) (known (keyword_of (word_of line)) (past_word line)) b ∙ ap (λ (o : Option Keyword). known o (past_word line)) e)
