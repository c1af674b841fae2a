-- The bare card's files have at most 240 bytes. It stands here since the card's meaning names it.
use Rattle.std.specs.Prelude.{◌≡◌, ℕ, ◌≤◌, Bool, cond, List, length, Some, None, ◌==◌}
use Rattle.std.proofs.Common.{arith}
use Rattle.std.proofs.lemmas.Bool.{cond_both}
use Rattle.card.specs.Files.{File, size_of, bare_files, imsi_file, admin_file, forbidden_file, location_file}

either_small : (b : Bool) (f g : File) → size_of f ≤ 240 → size_of g ≤ 240 → size_of (cond b f g) ≤ 240
either_small b f g p q = cond_both b f g (λ (h : File). size_of h ≤ 240) (λ _. p) (λ _. q)

pub bare_small : (imsi admin forbidden location : List ℕ) (n : ℕ) → (length imsi ≡ 9) × (length admin ≡ 4) × (length forbidden ≡ 12) × (length location ≡ 11) →
    size_of (bare_files imsi admin forbidden location n) ≤ 240
bare_small imsi admin forbidden location n h =
    either_small (n == imsi_file) (Some imsi) _ (omega arith) (either_small (n == admin_file) (Some admin) _ (omega arith)
    (either_small (n == forbidden_file) (Some forbidden) _ (omega arith) (either_small (n == location_file) (Some location) None (omega arith) (omega arith))))
