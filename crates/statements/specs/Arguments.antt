-- The words behind a statement's first: what each has to be, and why it is refused.
use Rattle.std.specs.Prelude.{ℕ, cond, List, Ok, Err, Option, Result}
use Rattle.std.specs.Option.{ok_or}
use Rattle.words.specs.Words.{word_of, bare}
use Rattle.statements.specs.declared.fault.Reason.{Reason}
use Rattle.statements.specs.declared.fault.Reason.TheVariants.{MissingWord, ExtraWord}

-- the next word by a reader; refused where there is none, and for a reason where the reader does not take it
abbrev pub asked : {X : Type 0} → Reason → (List ℕ → Option X) → List ℕ → Result X Reason
asked reason reader line = cond (bare line) (Err MissingWord) (ok_or (reader (word_of line)) reason)

abbrev pub end_answer : List ℕ → Result (Unit {0}) Reason
end_answer line = cond (bare line) (Ok tt) (Err ExtraWord)
