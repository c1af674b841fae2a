-- Bytes as a line writes them: pairs of hexadecimal digits, together or with white between pairs, up to a comment.
use Rattle.std.specs.Prelude.{ℕ, cond, List, [], ◌∷◌, ◌++◌, take, Some, None, Ok, Err, Option, Result}
use Rattle.std.specs.List.{prefix_len}
use Rattle.words.specs.Digits.{pair_value}
use Rattle.words.specs.Words.{white, of_run}
use Rattle.statements.specs.declared.fault.Reason.{Reason}
use Rattle.statements.specs.declared.fault.Reason.TheVariants.{NotAByte}
use Rattle.words.specs.declared.runs.Run.TheVariants.{Uncommented}

-- the bytes so far, and the digit that waits for the second of its pair
pub record Pairing : Type 0 where
  pub bytes : List ℕ
  pub waiting : Option ℕ

abbrev pub begun : List ℕ → Pairing
begun bytes = record { bytes = bytes; waiting = None }

abbrev pub completed : List ℕ → Option ℕ → Result Pairing Reason
completed bytes None = Err NotAByte
completed bytes (Some value) = Ok (begun (bytes ++ value ∷ []))

-- one more byte of text
abbrev pub paired : List ℕ → Option ℕ → ℕ → Result Pairing Reason
paired bytes None b = Ok (record { bytes = bytes; waiting = cond (white b) None (Some b) })
paired bytes (Some high) b = completed bytes (pair_value high b)

abbrev pub whole_pairs : List ℕ → Option ℕ → Result (List ℕ) Reason
whole_pairs bytes None = Ok bytes
whole_pairs bytes (Some high) = Err NotAByte

abbrev pub pairs_from : Result Pairing Reason → List ℕ → Result (List ℕ) Reason
pairs_from (Err e) bs = Err e
pairs_from (Ok p) [] = whole_pairs p.bytes p.waiting
pairs_from (Ok p) (b ∷ bs) = pairs_from (paired p.bytes p.waiting b) bs

-- the bytes of a line behind those that are there
abbrev pub with_bytes : List ℕ → List ℕ → Result (List ℕ) Reason
with_bytes bytes line = pairs_from (Ok (begun bytes)) (take (prefix_len (of_run Uncommented) line) line)
