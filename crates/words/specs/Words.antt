-- The words of a line, and other runs at the front of a text.
use Rattle.std.specs.Prelude.{ℕ, Bool, not, ◌&&◌, ◌||◌, List, length, take, drop, ◌==◌}
use Rattle.std.specs.List.{prefix_len}
use Rattle.words.specs.declared.runs.Run.{Run}
use Rattle.words.specs.declared.runs.Run.TheVariants.{White, Word, Line, Uncommented}

-- a space or a tab
abbrev pub white : ℕ → Bool
white b = b == 32 || b == 9

-- a word has neither white nor the beginning of a comment, a line no end of a line
abbrev pub of_run : Run → ℕ → Bool
of_run White b = white b
of_run Word b = not (white b) && not (b == 35)
of_run Line b = not (b == 10)
of_run Uncommented b = not (b == 35)

-- a line from its first byte that is not white
abbrev pub unspaced : List ℕ → List ℕ
unspaced line = drop (prefix_len (of_run White) line) line

-- the longest word there; a line without one, and a comment, give the empty word
abbrev pub word_of : List ℕ → List ℕ
word_of line = take (prefix_len (of_run Word) (unspaced line)) (unspaced line)

abbrev pub past_word : List ℕ → List ℕ
past_word line = drop (prefix_len (of_run Word) (unspaced line)) (unspaced line)

-- no further word is on the line
abbrev pub bare : List ℕ → Bool
bare line = length (word_of line) == 0
