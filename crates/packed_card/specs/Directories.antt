-- Which entries of a card image's directory are good.
use Rattle.std.specs.Prelude.{ℕ, ◌+◌, min, max, Bool, true, cond, not, ◌&&◌, ◌||◌, List, [], ◌∷◌, ◌++◌, length, take, Some, None, fold, Option, ◌==◌, nat_le, nat_lt, slice_index_or}
use Rattle.std.specs.List.{list_any, find}
use Rattle.packed_card.specs.declared.entry.Entry.{Entry}

-- the entry's stretch lies in size bytes and has at most 240
abbrev pub fits : ℕ → Entry → Bool
fits size e = nat_le (e.start + e.length) size && nat_le e.length 240

-- some byte is in both stretches
abbrev pub overlap : Entry → Entry → Bool
overlap e f = nat_lt (max e.start f.start) (min (e.start + e.length) (f.start + f.length))

-- the same number, or a byte in common
abbrev pub clash : Entry → Entry → Bool
clash e f = e.file == f.file || overlap e f

abbrev pub clashes : Entry → List Entry → Bool
clashes e fs = list_any (clash e) fs

-- a further entry beside the good ones so far
abbrev pub admitted : ℕ → List Entry → Entry → List Entry
admitted size good e = cond (fits size e && not (clashes e good)) (good ++ e ∷ []) good

-- the good ones of the first twelve entries, for an image of size bytes
abbrev pub goods : ℕ → List Entry → List Entry
goods size directory = fold (admitted size) [] (take 12 directory)

abbrev pub found : ℕ → List Entry → Option Entry
found n es = find (λ e. e.file == n) es

-- no entry clashes with a later one, and none has more than 240 bytes
abbrev pub sound : List Entry → Bool
sound [] = true
sound (e ∷ es) = nat_le e.length 240 && (not (clashes e es) && sound es)

-- the file number of the entry at a place
abbrev pub file_at : ℕ → List Entry → Option ℕ
file_at place es = cond (nat_lt place (length es)) (Some (slice_index_or es place (record { file = 0; start = 0; length = 0 })).file) None
