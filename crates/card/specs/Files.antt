-- What a card means: its files, what a question answers, and what an update leaves.
use Rattle.std.specs.Prelude.{ℕ, ◌+◌, Bool, cond, List, [], ◌++◌, length, take, drop, Some, None, Ok, Err, Option, Result, ◌==◌, nat_le, nat_lt, slice_index}
use Rattle.refusal.specs.declared.Refusal.{Refusal}
use Rattle.refusal.specs.declared.Refusal.TheVariants.{NoFile, OutsideFile}

-- a file is absent, or has bytes
abbrev pub File : Type 0
File = Option (List ℕ)

-- a card by file number
abbrev pub Files : Type 0
Files = ℕ → File

-- the numbers of the files that the selector knows (3GPP TS 31.102)
abbrev pub imsi_file : ℕ
imsi_file = 0x6F07

abbrev pub admin_file : ℕ
admin_file = 0x6FAD

abbrev pub forbidden_file : ℕ
forbidden_file = 0x6F7B

abbrev pub location_file : ℕ
location_file = 0x6F7E

abbrev pub home_file : ℕ
home_file = 0x6FD9

abbrev pub user_file : ℕ
user_file = 0x6F60

abbrev pub operator_file : ℕ
operator_file = 0x6F61

-- the bytes of a file, and none where it is absent
abbrev pub bytes_of : File → List ℕ
bytes_of None = []
bytes_of (Some xs) = xs

-- the answer to the question for a length
abbrev pub length_of : File → Option ℕ
length_of None = None
length_of (Some xs) = Some (length xs)

abbrev pub size_of : File → ℕ
size_of f = length (bytes_of f)

-- the answer to the question for one byte
abbrev pub read_in : List ℕ → ℕ → Result ℕ Refusal
read_in xs at = cond (nat_lt at (length xs)) (Ok (slice_index xs at)) (Err OutsideFile)

abbrev pub byte_of : File → ℕ → Result ℕ Refusal
byte_of None at = Err NoFile
byte_of (Some xs) at = read_in xs at

-- a stretch of n bytes from start lies in xs; an empty one at the end does
abbrev pub inside : List ℕ → ℕ → ℕ → Bool
inside xs start n = nat_le (start + n) (length xs)

-- bs in the place of as many bytes of xs from start on; a stretch that leaves xs changes nothing
abbrev pub patched : ℕ → List ℕ → List ℕ → List ℕ
patched start bs xs = cond (inside xs start (length bs)) (take start xs ++ (bs ++ drop (start + length bs) xs)) xs

abbrev pub patch_answer : ℕ → List ℕ → List ℕ → Result (Unit {0}) Refusal
patch_answer start bs xs = cond (inside xs start (length bs)) (Ok tt) (Err OutsideFile)

abbrev pub patched_file : ℕ → List ℕ → File → File
patched_file start bs None = None
patched_file start bs (Some xs) = Some (patched start bs xs)

-- the answer to an update
abbrev pub update_answer : ℕ → List ℕ → File → Result (Unit {0}) Refusal
update_answer start bs None = Err NoFile
update_answer start bs (Some xs) = patch_answer start bs xs

-- the files after an update of one of them
abbrev pub written : ℕ → ℕ → List ℕ → Files → Files
written file start bs fs = λ n. cond (n == file) (patched_file start bs (fs n)) (fs n)

-- the four needed files, and no other
abbrev pub bare_files : List ℕ → List ℕ → List ℕ → List ℕ → Files
bare_files imsi admin forbidden location = λ n.
    cond (n == imsi_file) (Some imsi) (cond (n == admin_file) (Some admin) (cond (n == forbidden_file) (Some forbidden) (cond (n == location_file) (Some location) None)))
