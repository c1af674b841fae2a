use Rattle.std.proofs.Common.{◌≡◌}
use Rattle.std.specs.Slice.Iter.{chunks_exact_rest, chunks_exact_size}
use Rattle.bounded.specs.Held.{held}
use Rattle.entry_list.proofs.Wholes.{ReadTo}
use Rattle.entry_list.proofs.reading.read_bytes.Given as goal

abbrev pub invariant-loop-entry : goal.invariant-loop-entry
invariant-loop-entry g l =
    ReadTo g.K.EntryKind.LENGTH g.K.EntryKind.meaning l.bytes (held l.held) (chunks_exact_rest l.entry-iterator) × (chunks_exact_size l.entry-iterator ≡ g.K.EntryKind.LENGTH)
