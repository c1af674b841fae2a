-- How often each byte of the known files was asked.
use Rattle.std.specs.Prelude.{ℕ, ◌+◌, min, cond, List, Some, None, Option, ◌==◌, nat_lt, slice_index, slice_set}
use Rattle.card.specs.Files.{imsi_file, admin_file, forbidden_file, location_file, home_file, user_file, operator_file}

-- where the counts of a file's bytes begin; only the known files are counted
abbrev pub slot_of : ℕ → Option ℕ
slot_of file =
    cond (file == imsi_file) (Some 0) (cond (file == admin_file) (Some 240) (cond (file == forbidden_file) (Some 480) (cond (file == location_file) (Some 720)
    (cond (file == home_file) (Some 960) (cond (file == user_file) (Some 1200) (cond (file == operator_file) (Some 1440) None))))))

-- one more question for a byte; a count stops at 255
abbrev pub noted : Option ℕ → ℕ → List ℕ → List ℕ
noted None at times = times
noted (Some start) at times = cond (nat_lt at 240) (slice_set times (start + at) (min (slice_index times (start + at) + 1) 255)) times
