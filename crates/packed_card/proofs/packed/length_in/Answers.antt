use Rattle.packed_card.specs.Packed.{listed}
use Rattle.packed_card.specs.Small.{packed_small}
use Rattle.packed_card.proofs.packed.length_in.Goals as goal

pub returns-clause-small : goal.returns-clause-small
returns-clause-small c = packed_small c.args.image.now (listed c.args.good.now) c.args.good.now.apart c.args.file
