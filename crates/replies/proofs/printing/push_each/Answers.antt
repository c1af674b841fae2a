use Rattle.std.proofs.Common.{string_bytes, ◌∙◌, arith, rules}
use Rattle.answers.proofs.Pieces.{pieces_more, pieces_all}
use Rattle.replies.specs.Texts.{spaced}
use Rattle.replies.proofs.printing.push_each.Goals as goal

pub loop-place-preserved : goal.loop-place-preserved
loop-place-preserved c = let e = pieces_more spaced (string_bytes c.args.out.now) c.args.places.now c.loop-place.place-index 0 (omega arith) in search rules

pub returns : goal.returns
returns c = c.loop-place.invariant ∙ pieces_all spaced (string_bytes c.args.out.now) c.args.places.now c.loop-place.place-index (omega arith)
