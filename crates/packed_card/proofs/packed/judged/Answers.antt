use Rattle.packed_card.specs.Packed.{listed}
use Rattle.packed_card.proofs.Apart.{files_in_packed}
use Rattle.packed_card.proofs.packed.judged.Goals as goal

pub returns : goal.returns
returns c = record {
  listed = c.good_entries.ensures;
  files = files_in_packed c.args.image.now (listed c.good_entries.result) c.args.directory.now c.good_entries.ensures;
}
