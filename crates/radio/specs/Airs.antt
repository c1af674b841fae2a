-- What a registrar means: the rows of every sky with the answers of their networks, and which rows of the sky now were tried.
use Rattle.std.specs.Prelude.{ℕ, zero, suc, ◌≤◌, Bool, true, false, cond, List, [], ◌∷◌, map, length, Some, None, Ok, Err, Option, Result, slice_index_or}
use Rattle.std.specs.Option.{ok_or, option_map}
use Rattle.std.specs.List.{AllByRecursion, slice_get}
use Rattle.refusal.specs.declared.Refusal.{Refusal}
use Rattle.refusal.specs.declared.Refusal.TheVariants.{NoRow}
use Rattle.plmn.specs.declared.code.Code.{Code}
use Rattle.plmn.specs.declared.row.Row.{Row}
use Rattle.plmn.specs.Codes.{empty_code}
use Rattle.radio.specs.declared.answer.Answer.{Answer}
use Rattle.radio.specs.declared.answer.Answer.TheVariants.{Acceptance, Rejection, Silence}
use Rattle.radio.specs.Skies.{Sky, Few, front, later}

-- what the network of a row replies to a try: it accepts with codes, rejects with a cause, or stays silent
pub data Reply : Type 0 where
  accepted : List Code → Reply
  rejected : ℕ → Reply
  silent : Reply

-- a row with the reply of its network
pub record Offer : Type 0 where
  pub row : Row
  pub reply : Reply

-- an offer of the sky now, and whether its row was tried
pub record Cell : Type 0 where
  pub offer : Offer
  pub tried : Bool

pub record Air : Type 0 where
  pub here : List Cell
  pub coming : List (List Offer)

-- the rows alone: what the registrar means as a finder
abbrev pub row_in : Cell → Row
row_in c = c.offer.row

abbrev pub sky_of : Air → Sky
sky_of a = record { here = map row_in a.here; coming = map (map (λ o. o.row)) a.coming }

-- an untried row, and the same row tried
abbrev pub fresh : Offer → Cell
fresh o = record { offer = o; tried = false }

abbrev pub marked : Cell → Cell
marked c = record { offer = c.offer; tried = true }

-- a search makes the first sky to come the sky now, with no row tried
abbrev pub sought : Air → Air
sought a = record { here = map fresh (front a.coming); coming = later a.coming }

-- the element at a place changed; with none there nothing
abbrev pub changed : {X : Type 0} → (X → X) → List X → ℕ → List X
changed f [] _ = []
changed f (x ∷ xs) zero = f x ∷ xs
changed f (x ∷ xs) (suc n) = x ∷ changed f xs n

-- a try marks the row at the place
abbrev pub attempted : Air → ℕ → Air
attempted a place = record { here = changed marked a.here place; coming = a.coming }

-- the codes of a reply; only an acceptance has any
abbrev pub codes_in : Reply → List Code
codes_in (accepted codes) = codes
codes_in (rejected _) = []
codes_in silent = []

abbrev pub answer_of : Reply → Answer
answer_of (accepted codes) = Acceptance (length codes)
answer_of (rejected cause) = Rejection cause
answer_of silent = Silence

abbrev pub code_count : Answer → ℕ
code_count (Acceptance n) = n
code_count (Rejection _) = 0
code_count Silence = 0

-- the row at a place
abbrev pub entry_at : List Cell → ℕ → Result Row Refusal
entry_at cells place = ok_or (option_map row_in (slice_get cells place)) NoRow

-- what a try of the row at a place gives
abbrev pub answer_at : List Cell → ℕ → Result Answer Refusal
answer_at cells place = ok_or (option_map (λ c. answer_of c.offer.reply) (slice_get cells place)) NoRow

-- a code of a row's acceptance can be read once the row was tried
abbrev pub code_of : Option Cell → ℕ → Code
code_of None _ = empty_code
code_of (Some c) i = cond c.tried (slice_index_or (codes_in c.offer.reply) i empty_code) empty_code

abbrev pub code_at : List Cell → ℕ → ℕ → Code
code_at cells place i = code_of (slice_get cells place) i

-- at most five codes
abbrev pub Brief : Offer → Type 0
Brief o = length (codes_in o.reply) ≤ 5

abbrev pub BriefResult : Result Answer Refusal → Type 0
BriefResult (Ok answer) = code_count answer ≤ 5
BriefResult (Err _) = Unit {0}

-- every sky, now or to come, has at most twenty rows, and every acceptance at most five codes
pub record SmallAir (a : Air) : Type 0 where
  pub few : Few a.here
  pub few_coming : AllByRecursion Few a.coming
  pub brief : AllByRecursion (λ c. Brief c.offer) a.here
  pub brief_coming : AllByRecursion (AllByRecursion Brief) a.coming
