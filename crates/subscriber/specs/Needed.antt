-- The files that every run needs, in the order in which they are checked.
use Rattle.std.specs.Prelude.{ℕ, cond, length, Some, None, Option, nat_lt}
use Rattle.refusal.specs.declared.FileFault.{FileFault}
use Rattle.refusal.specs.declared.FileFault.TheVariants.{Absent, Short}
use Rattle.refusal.specs.declared.Refusal.{Refusal}
use Rattle.refusal.specs.declared.Refusal.TheVariants.{NeededFile}
use Rattle.card.specs.Files.{File, Files, imsi_file, admin_file, forbidden_file, location_file}

-- a needed file is absent, or shorter than its least length
abbrev pub fault_of : ℕ → File → Option FileFault
fault_of least None = Some Absent
fault_of least (Some bs) = cond (nat_lt (length bs) least) (Some Short) None

abbrev pub refusal_of : ℕ → Option FileFault → Option Refusal
refusal_of file None = None
refusal_of file (Some fault) = Some (NeededFile file fault)

abbrev pub refusal_for : ℕ → ℕ → Files → Option Refusal
refusal_for file least fs = refusal_of file (fault_of least (fs file))

-- the first refusal of two checks
abbrev pub first_of : Option Refusal → Option Refusal → Option Refusal
first_of None later = later
first_of (Some e) later = Some e

-- the first needed file that is absent or short
abbrev pub missing : Files → Option Refusal
missing fs = first_of (refusal_for imsi_file 9 fs) (first_of (refusal_for admin_file 4 fs) (first_of (refusal_for forbidden_file 12 fs) (refusal_for location_file 11 fs)))
