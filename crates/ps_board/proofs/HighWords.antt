-- The words of a set without the columns below a number.
use Rattle.std.proofs.Common.{◌≡◌, ◌∙◌, ℕ, ◌*◌, ◌<◌, ◌≤◌, ◌&&◌, not, Bool, true, false}
use Rattle.std.proofs.Common.{List, length, refl, sym, ap, ap₂, arith}
use Rattle.std.specs.Prelude.{nat_lt}
use Rattle.std.proofs.lemmas.Bool.Decides.{nat_tests}
use Rattle.ps_board.specs.ColumnSets.{bit_is_set, column_at, columns_below, columns_without}
use Rattle.ps_board.specs.WordLists.{word_at, words_columns, words_have, AreWords}
use Rattle.ps_board.specs.WordSteps.{AreMade, TellsAt}
use Rattle.ps_board.proofs.ColumnLaws.{column_at-where, columns-agree}
use Rattle.ps_board.proofs.WordSteps.{have_at, have_past, made-all}

pub high_tells : (words : List ℕ) (index count word low : ℕ) →
    ((x : ℕ) → x < 64 → bit_is_set word x ≡ (bit_is_set (word_at words index) x && not (bit_is_set low x))) →
    TellsAt (λ x. nat_lt x count) index low →
    TellsAt (λ x. words_have words x && not (nat_lt x count)) index word
high_tells words index count word low bits below x small within =
    bits x small ∙ ap₂ (λ (p q : Bool). p && not q) (sym (have_at words index x small)) (below x small within)

high_by : (limit : ℕ) (words : List ℕ) (count x : ℕ) (low : Bool) → nat_lt x (64 * limit) ≡ low →
    length words ≡ limit →
    (low && (words_have words x && not (nat_lt x count))) ≡ (words_have words x && not (nat_lt x count))
high_by limit words count x true t long = refl
high_by limit words count x false t long =
    let far : 64 * limit ≤ x = grind (arith, nat_tests) in
    sym (ap (λ (b : Bool). b && not (nat_lt x count)) (have_past words x (rw long far)))

pub high_words : (limit index count : ℕ) (words made : List ℕ) → AreWords limit words →
    AreMade (λ x. words_have words x && not (nat_lt x count)) limit index made → limit ≤ index →
    words_columns made ≡ columns_without (words_columns words) (columns_below count)
high_words limit index count words made sound so end =
    made-all (λ x. words_have words x && not (nat_lt x count)) limit index made so end
    ∙ columns-agree (λ x. nat_lt x (64 * limit) && (words_have words x && not (nat_lt x count)))
    (λ x. column_at (words_columns words) x && not (column_at (columns_below count) x))
    (λ x low. high_by limit words count x (nat_lt x (64 * limit)) refl sound.long
    ∙ sym (ap₂ (λ (p q : Bool). p && not q) (column_at-where (words_have words) x low)
    (column_at-where (λ y. nat_lt y count) x low)))
