-- What holds of every run that is carried out in a sequence of calls.
use Rattle.std.specs.Prelude.{◌≡◌, ℕ, List, [], ◌∷◌, length, Ok}
use Rattle.run_laws.specs.Laws.{Tried, KeptOff}
use Rattle.states.specs.declared.state.RunAnswer.{RunAnswer}
use Rattle.agreement.specs.Histories.{Seen}
use Rattle.agreement.specs.Worlds.{World}
use Rattle.agreement.specs.declared.call.Call.{Call}
use Rattle.agreement.specs.declared.call.Call.TheVariants.{Run, Look, Pick, Loss, ChangeMode, Restart}
use Rattle.agreement.specs.declared.call.Reply.TheVariants.{Ran}

-- a statement about a run: what was before it, its draw, its answer, and what is seen after it
abbrev pub RunLaw : Type 1
RunLaw = World → ℕ → RunAnswer → Seen → Type 0

-- if the call is a run that is carried out, the statement holds of it
abbrev pub IfRun : RunLaw → World → Call → Seen → Type 0
IfRun law w (Run draw) s = (a : RunAnswer) → s.reply ≡ Ran (Ok a) → law w draw a s
IfRun law w Look s = Unit {0}
IfRun law w (Pick place) s = Unit {0}
IfRun law w Loss s = Unit {0}
IfRun law w ChangeMode s = Unit {0}
IfRun law w Restart s = Unit {0}

-- it holds of every such run in a sequence of calls, each made where the one before it left off
abbrev pub EveryRun : RunLaw → World → List Call → List Seen → Type 0
EveryRun law w [] seen = Unit {0}
EveryRun law w (c ∷ cs) [] = ⊥
EveryRun law w (c ∷ cs) (s ∷ ss) = IfRun law w c s × EveryRun law s.left cs ss

-- it tries exactly the rows open at their turn, in the order, once each, until one ends it; its trail lists these in turn; no other
-- row is marked after it; it registers exactly when the last network that it tried accepts, and on that row
abbrev pub TriesOpenRowsInOrder : RunLaw
TriesOpenRowsInOrder w draw a s = Tried w.standing w.files w.air draw s.trail a.state s.left.air × (a.tries ≡ length s.trail)

-- it tries no row whose code was forbidden at its start or got cause 11 earlier in it, and answers "no service" exactly when no
-- found row was allowed at its start
abbrev pub NeverTriesForbidden : RunLaw
NeverTriesForbidden w draw a s = KeptOff w.standing w.files w.air s.trail a.state
