use Rattle.std.proofs.Common.{rules}
use Rattle.std.proofs.lemmas.List.{append_assoc}
use Rattle.replies.proofs.states_text.push_state.Goals as goal

pub returns : goal.returns
returns c = search (rules, append_assoc)
