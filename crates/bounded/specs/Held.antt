-- The elements that a bounded list holds.
use Rattle.std.specs.Prelude.{ℕ, List, take}
use Rattle.bounded.specs.declared.bounded.Bounded.{Bounded}

unfoldable pub held : {T : Type 0} {N : ℕ} → Bounded T N → List T
held b = take b.count b.places
