use Rattle.std.proofs.Common.{◌≡◌, ℕ, ◌+◌, ◌-◌, List, ◌∷◌, length, take, drop, sym, ap, ◌∙◌, arith}
use Rattle.std.proofs.lemmas.List.{length-drop}
use Rattle.words.specs.Lines.{lines_of}
use Rattle.words.proofs.Cuts.{first_length, lines_more}
use Rattle.words.proofs.lines.first_line.Goals as goal

pub returns : goal.returns
returns c =
    let text : List ℕ = c.args.text.now in
    let n : ℕ = c.front-length.result in
    let e : first_length text ≡ n = sym c.front-length.ensures.value in
    let w : n ≡ n - 0 = omega arith in
    let rest : c.past_line.result.now ≡ drop (n + 1) text = c.past_line.ensures in
    let tail : drop (first_length text + 1) text ≡ c.past_line.result.now = ap (λ (k : ℕ). drop (k + 1) text) e ∙ sym rest in
    record {
      lines = λ h. lines_more text h ∙ (λ i. take ((e ∙ w) i) text ∷ lines_of (tail i));
      small = λ h. omega (arith, ap length rest ∙ length-drop (n + 1) text, h);
    }
