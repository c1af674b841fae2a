use Rattle.std.proofs.Common.{◌≡◌, ◌≤◌, drop, Ok, vec_items, vec_len}
use Rattle.scenario.specs.Bytes.{begun, pairs_from}
use Rattle.scenario.proofs.building.append_pairs.Given as goal

abbrev pub invariant-loop-byte : goal.invariant-loop-byte
invariant-loop-byte l = (vec_len l.initial.image ≤ vec_len l.image)
    × (pairs_from (Ok (record { bytes = vec_items l.image; waiting = l.waiting })) (drop l.byte-index l.text) ≡ pairs_from (Ok (begun (vec_items l.initial.image))) l.text)
