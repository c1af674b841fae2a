use Rattle.std.proofs.Common.{◌≡◌, ℕ, List, [], ◌∷◌, ◌++◌, refl, ap, ◌∙◌}
use Rattle.std.proofs.lemmas.List.{flat_map_more}
use Rattle.selector.specs.Views.{standing}
use Rattle.agreement.specs.Histories.{Seen, seen}
use Rattle.agreement.specs.Worlds.{world}
use Rattle.transcript.specs.Lines.{seen_text, line_text}
use Rattle.transcript.proofs.recording.TranscriptRecorder.told.Goals as goal

pub returns-in_default : goal.returns-in_default
returns-in_default g c =
    let s : Seen = seen c.args.call c.args.reply c.args.trail.now (world (standing c.args.on.now) (g.R.Registrar.air c.args.radio.now) (g.C.Card.files c.args.card.now)) in
    record {
      after = λ l h whole. c.in_default.ensures ∙ (ap (λ (z : List ℕ). z ++ seen_text s) (h whole) ∙ flat_map_more seen_text [] l s);
      air = refl;
      files = refl;
    }
