-- Rows of words: how the last of them and the ones before come about.
use Rattle.std.proofs.Common.{◌≡◌, ◌∙◌, ℕ, suc, zero, ◌+◌, ◌<◌, ◌==◌, Bool, true, false, cond, List, [], ◌∷◌, ◌++◌, length}
use Rattle.std.proofs.Common.{take, drop, refl, sym, ap, arith, append_assoc}
use Rattle.std.specs.Prelude.{nat_lt}
use Rattle.std.proofs.lemmas.Bool.Decides.{nat_tests}
use Rattle.ps_view.specs.Rows.{fitting, through_last_blank, break_of, row_before_break, rows_of_words, wrapped}

-- a text is broken after its last blank
pub broken_after_word : (columns room word : ℕ) (text front : List ℕ) → room ≡ fitting columns text →
    front ≡ take (room + 1) text → word ≡ through_last_blank front → 0 < word → word ≡ break_of columns text
broken_after_word columns room word text front fits is last some =
    let test : nat_lt 0 word ≡ true = grind (arith, nat_tests) in
    let which : cond (nat_lt 0 word) word room ≡ word = ap (λ (b : Bool). cond b word room) test in
    sym which ∙ rw (last, is, fits) refl

-- or where the row is full
pub broken_within_word : (columns room : ℕ) (text front : List ℕ) → room ≡ fitting columns text →
    front ≡ take (room + 1) text → 0 ≡ through_last_blank front → room ≡ break_of columns text
broken_within_word columns room text front fits is last =
    let word : ℕ = through_last_blank front in
    let which : cond (nat_lt 0 word) word room ≡ room = ap (λ (n : ℕ). cond (nat_lt 0 n) n room) (sym last) in
    sym which ∙ rw (is, fits) refl

-- before the first row all are still to come
pub none_yet : (columns most : ℕ) (text : List ℕ) (rows : List (List ℕ)) → rows ≡ [] → most ≡ suc (length text) →
    rows ++ rows_of_words most columns text ≡ wrapped columns text
none_yet columns most text rows none all = rw (none, all) refl

-- a text that fits is the last row
last_row : (most columns : ℕ) (text : List ℕ) → 0 < most → (fitting columns text == length text) ≡ true →
    rows_of_words most columns text ≡ text ∷ []
last_row zero columns text some fits = absurd (omega arith)
last_row (suc most) columns text some fits =
    ap (λ (b : Bool). elim b [
      | true ↦ text ∷ []
      | false ↦ row_before_break columns text ∷ rows_of_words most columns (drop (break_of columns text) text)
    ]) fits

pub all_rows : (most columns : ℕ) (text : List ℕ) (rows all shown : List (List ℕ)) → 0 < most →
    fitting columns text ≡ length text → rows ++ rows_of_words most columns text ≡ shown → all ≡ rows ++ text ∷ [] →
    all ≡ shown
all_rows most columns text rows all shown some fits so_far is =
    let test : (fitting columns text == length text) ≡ true = grind (arith, nat_tests) in
    is ∙ ap (λ (l : List (List ℕ)). rows ++ l) (sym (last_row most columns text some test)) ∙ so_far

-- one that doesn't fit is broken
next_row : (most columns : ℕ) (text : List ℕ) → (fitting columns text == length text) ≡ false →
    rows_of_words (suc most) columns text
    ≡ row_before_break columns text ∷ rows_of_words most columns (drop (break_of columns text) text)
next_row most columns text fits =
    ap (λ (b : Bool). elim b [
      | true ↦ text ∷ []
      | false ↦ row_before_break columns text ∷ rows_of_words most columns (drop (break_of columns text) text)
    ]) fits

pub one_row_more : (most fewer columns : ℕ) (text row rest : List ℕ) (rows more shown : List (List ℕ)) →
    most ≡ suc fewer → fitting columns text < length text → row ≡ row_before_break columns text →
    rest ≡ drop (break_of columns text) text → rows ++ rows_of_words most columns text ≡ shown →
    more ≡ rows ++ row ∷ [] → more ++ rows_of_words fewer columns rest ≡ shown
one_row_more most fewer columns text row rest rows more shown one_less long row_is rest_is so_far is =
    let test : (fitting columns text == length text) ≡ false = grind (arith, nat_tests) in
    let others : List (List ℕ) = rows_of_words fewer columns (drop (break_of columns text) text) in
    ap (λ (l : List (List ℕ)). l ++ rows_of_words fewer columns rest) (is ∙ ap (λ (r : List ℕ). rows ++ r ∷ []) row_is)
    ∙ ap (λ (r : List ℕ). (rows ++ row_before_break columns text ∷ []) ++ rows_of_words fewer columns r) rest_is
    ∙ append_assoc rows (row_before_break columns text ∷ []) others
    ∙ ap (λ (l : List (List ℕ)). rows ++ l) (sym (next_row fewer columns text test))
    ∙ ap (λ (n : ℕ). rows ++ rows_of_words n columns text) (sym one_less) ∙ so_far
