use Rattle.std.proofs.Common.{string_bytes, ◌∙◌, arith, rules}
use Rattle.answers.specs.Printed.{byte_text}
use Rattle.answers.proofs.Pieces.{pieces_more, pieces_all}
use Rattle.answers.proofs.printing.push_digits.Goals as goal

pub loop-byte-preserved : goal.loop-byte-preserved
loop-byte-preserved c = let e = pieces_more byte_text (string_bytes c.args.out.now) c.args.bytes.now c.loop-byte.byte-index 0 (omega arith) in search rules

pub returns : goal.returns
returns c = c.loop-byte.invariant ∙ pieces_all byte_text (string_bytes c.args.out.now) c.args.bytes.now c.loop-byte.byte-index (omega arith)
