use Rattle.std.proofs.Common.{◌≡◌, ℕ, ◌+◌, ◌-◌, List, length, take, drop, sym, ap, ◌∙◌, subst, arith}
use borrow.Rule.Slice.PartMut.{put_mid}
use Rattle.card.specs.Files.{patched, patch_answer, update_answer, written}
use Rattle.packed_card.specs.Packed.{part, files_in, listed}
use Rattle.packed_card.specs.Small.{sound_spread}
use Rattle.packed_card.specs.declared.entry.Entry.{Entry}
use Rattle.packed_card.proofs.Stretches.{part_length, files_written, files_refused}
use Rattle.packed_card.proofs.packed.update_in.Goals as goal

pub returns : goal.returns
returns c =
    let s : ℕ = c.in-Some.e.start in
    let n : ℕ = c.in-Some.e.length in
    let xs : List ℕ = c.args.image.now in
    let ys : List ℕ = c.write_in.new.target in
    let bs : List ℕ = c.args.bytes.now in
    let good : List Entry = listed c.args.good.now in
    let w : (s + n) - s ≡ n = omega arith in
    let ly : length ys ≡ n = c.write_in.auto.target ∙ (ap (λ (k : ℕ). length (take k (drop s xs))) w ∙ part_length c.in-Some.e xs c.in-Some.ensures.within) in
    let is : ys ≡ patched c.args.start bs (take n (drop s xs)) = c.write_in.ensures.after ∙ ap (λ (k : ℕ). patched c.args.start bs (take k (drop s xs))) w in
    record {
      answer = c.write_in.ensures.answer
          ∙ (ap (λ (k : ℕ). patch_answer c.args.start bs (take k (drop s xs))) w
          ∙ ap (λ o. update_answer c.args.start bs (part xs o)) c.in-Some.ensures.value);
      after = subst (λ (k : ℕ). files_in (put_mid s k xs ys) good ≡ written c.args.file c.args.start bs (files_in xs good)) (sym w)
          (files_written c.args.file c.args.start bs good xs ys c.in-Some.e (sound_spread good c.args.good.now.apart).0 (sym c.in-Some.ensures.value) ly is);
    }

pub returns-in_default : goal.returns-in_default
returns-in_default c =
    let xs : List ℕ = c.args.image.now in
    let good : List Entry = listed c.args.good.now in
    let e = sym c.in_default.is ∙ c.lookup.ensures.value in
    record {
      answer = ap (λ o. update_answer c.args.start c.args.bytes.now (part xs o)) e;
      after = files_refused c.args.file c.args.start c.args.bytes.now (files_in xs good) (sym (ap (part xs) e));
    }
