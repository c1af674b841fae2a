-- How the line of a run begins.
use Rattle.std.specs.Prelude.{ℕ, List, ◌++◌, Some, None, Option, codes, decimal}

abbrev pub run_head : ℕ → Option ℕ → List ℕ
run_head draw None = codes "run " ++ (decimal draw ++ codes ": ")
run_head draw (Some room) = codes "run " ++ (decimal draw ++ (codes " " ++ (decimal room ++ codes ": ")))
