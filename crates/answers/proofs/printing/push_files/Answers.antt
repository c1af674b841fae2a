use Rattle.std.proofs.Common.{ℕ, List, ◌++◌, get_or, string_bytes, ◌∙◌, arith}
use Rattle.card.specs.Files.{Files}
use Rattle.answers.specs.Printed.{file_line}
use Rattle.answers.proofs.Pieces.{pieces_more, pieces_all}
use Rattle.answers.proofs.printing.push_files.Goals as goal

pub loop-file-preserved : goal.loop-file-preserved
loop-file-preserved g c =
    let files : Files = g.C.Card.files c.args.card.now in
    let numbers : List ℕ = c.args.numbers.now in
    let i : ℕ = c.loop-file.file-index in (
      c.push_taken.ensures.same ∙ c.loop-file.invariant.0,
      c.in_ok-push_taken.ensures.after
          ∙ ((λ k. c.loop-file.invariant.1 k ++ file_line (c.loop-file.invariant.0 k) (get_or numbers i 0)) ∙ pieces_more (file_line files) (string_bytes c.args.out.now) numbers i 0 (omega arith)),
    )

pub returns : goal.returns
returns g c = record {
  after = c.loop-file.invariant.1 ∙ pieces_all (file_line (g.C.Card.files c.args.card.now)) (string_bytes c.args.out.now) c.args.numbers.now c.loop-file.file-index (omega arith);
  same = c.loop-file.invariant.0;
}
