use Rattle.std.proofs.Common.{rules}
use Rattle.card.proofs.Bytes.{patched_is}
use Rattle.card.proofs.stretch.write_in.Goals as goal

pub returns : goal.returns
returns c = record { answer = search rules; after = search (rules, patched_is) }
