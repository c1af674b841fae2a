-- Sequences of calls: what is seen after each of them.
use Rattle.std.specs.Prelude.{◌≡◌, ℕ, ◌≤◌, min, List, [], ◌∷◌, ◌++◌, map, length}
use Rattle.selector.specs.Runs.{trailed}
use Rattle.states.specs.Standings.{Resting, switched_off}
use Rattle.agreement.specs.Rules.{reply_of, places_of, left_by}
use Rattle.card.specs.Files.{Files}
use Rattle.radio.specs.Airs.{Air}
use Rattle.agreement.specs.Worlds.{World, started}
use Rattle.agreement.specs.declared.call.Call.{Call}
use Rattle.agreement.specs.declared.call.Call.TheVariants.{Run, Look, Pick, Loss, ChangeMode, Restart}
use Rattle.agreement.specs.declared.call.Reply.{Reply}

-- what is seen of a call: which it is, its answer, the places it tried, and what it leaves
pub record Seen : Type 0 where
  pub call : Call
  pub reply : Reply
  pub trail : List ℕ
  pub left : World

abbrev pub seen : Call → Reply → List ℕ → World → Seen
seen call reply trail left = record { call = call; reply = reply; trail = trail; left = left }

abbrev pub seen_after : Call → ℕ → World → Seen
seen_after c room w = seen c (reply_of c room w) (places_of c room w) (left_by c room w)

-- how many numbers of a trail each call is lent: as many as are asked for, if the trail has so many
abbrev pub lengths : List ℕ → List ℕ → List ℕ
lengths rooms trail = map (λ room. min room (length trail)) rooms

-- the length for the next call, and those for the calls after it; none is asked for past the list's end
abbrev pub next : List ℕ → ℕ
next [] = 0
next (n ∷ ns) = n

abbrev pub later : List ℕ → List ℕ
later [] = []
later (n ∷ ns) = ns

-- what is seen after each of the calls, one after the other
abbrev pub history : List Call → List ℕ → World → List Seen
history [] ns w = []
history (c ∷ cs) ns w = seen_after c (next ns) w ∷ history cs (later ns) (left_by c (next ns) w)

-- what all the calls leave
abbrev pub finally : List Call → List ℕ → World → World
finally [] ns w = w
finally (c ∷ cs) ns w = finally cs (later ns) (left_by c (next ns) w)

-- what is seen of calls on a new selector with this supported set, and what they leave
abbrev pub played : ℕ → List Call → List ℕ → Air → Files → List Seen
played supported calls ns a fs = history calls ns (started supported a fs)

abbrev pub left_at_end : ℕ → List Call → List ℕ → Air → Files → World
left_at_end supported calls ns a fs = finally calls ns (started supported a fs)

-- after the calls and a switch-off: the selector, the air and the files that the rules leave
pub record LeftByRules (w : World) (off : Resting) (a : Air) (fs : Files) : Type 0 where
  pub selector : off ≡ switched_off w.standing
  pub air : a ≡ w.air
  pub files : fs ≡ w.files

-- one who may have heard of what was seen so far has then heard of more
abbrev pub Hears : (List Seen → Type 0) → (List Seen → Type 0) → List Seen → Type 0
Hears before after more = (l : List Seen) → before l → after (l ++ more)

-- a trail that is lent to one call after the other
abbrev pub overwritten : List Seen → List ℕ → List ℕ
overwritten [] before = before
overwritten (s ∷ ss) before = overwritten ss (trailed s.trail before)

-- for each run both trails have at least twenty numbers, or both have fewer
abbrev pub AlikeFor : Call → ℕ → ℕ → Type 0
AlikeFor (Run draw) m n = (20 ≤ m → 20 ≤ n) × (20 ≤ n → 20 ≤ m)
AlikeFor Look m n = Unit {0}
AlikeFor (Pick place) m n = Unit {0}
AlikeFor Loss m n = Unit {0}
AlikeFor ChangeMode m n = Unit {0}
AlikeFor Restart m n = Unit {0}

abbrev pub AlikeTrails : List Call → List ℕ → List ℕ → Type 0
AlikeTrails [] ms ns = Unit {0}
AlikeTrails (c ∷ cs) ms ns = AlikeFor c (next ms) (next ns) × AlikeTrails cs (later ms) (later ns)
