-- The numbers of a card's files, taken one place after another.
use Rattle.std.proofs.Common.{◌≡◌, ℕ, ◌+◌, ◌<◌, ◌≤◌, ltb, List, [], ◌∷◌, ◌++◌, length, get_or, take, Some, None, sym, ap, ◌∙◌, ⊎_elim, arith}
use Rattle.std.proofs.lemmas.List.{map_more, take_all}
use Rattle.std.proofs.lemmas.Bool.{cases_lt, lt-ltb, le-ltb, cond-true, cond-false}
use Rattle.packed_card.specs.Directories.{file_at}
use Rattle.packed_card.specs.declared.entry.Entry.{Entry}
use Rattle.board.specs.Numbers.{numbers_of}

abbrev unused : Entry
unused = record { file = 0; start = 0; length = 0 }

some_none : (f : ℕ) → Some f ≡ None → ⊥
some_none f h = let z : ◌≡◌ {A = ℕ} 0 1 = cc in omega arith

same_some : (f g : ℕ) → Some f ≡ Some g → f ≡ g
same_some f g h = cc

within : (i : ℕ) (es : List Entry) → i < length es → file_at i es ≡ Some (get_or es i unused).file
within i es h = cond-true (ltb i (length es)) (Some (get_or es i unused).file) None (lt-ltb i (length es) h)

past : (i : ℕ) (es : List Entry) → length es ≤ i → file_at i es ≡ None
past i es h = cond-false (ltb i (length es)) (Some (get_or es i unused).file) None (le-ltb i (length es) h)

-- one number more
pub numbers_more : (i : ℕ) (es : List Entry) (f : ℕ) → Some f ≡ file_at i es → numbers_of (take i es) ++ f ∷ [] ≡ numbers_of (take (i + 1) es)
numbers_more i es f h =
    ⊎_elim
    (λ (l : i < length es). ap (λ (n : ℕ). numbers_of (take i es) ++ n ∷ []) (same_some f (get_or es i unused).file (h ∙ within i es l)) ∙ sym (map_more (λ e. e.file) es i unused l))
    (λ (l : length es ≤ i). absurd (some_none f (h ∙ past i es l)))
    (cases_lt i (length es))

-- no number more
pub numbers_end : (i : ℕ) (es : List Entry) → None ≡ file_at i es → numbers_of (take i es) ≡ numbers_of es
numbers_end i es h =
    ⊎_elim
    (λ (l : i < length es). absurd (some_none (get_or es i unused).file (sym (h ∙ within i es l))))
    (λ (l : length es ≤ i). ap numbers_of (take_all i es l))
    (cases_lt i (length es))
