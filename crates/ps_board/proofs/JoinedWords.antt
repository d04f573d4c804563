-- The words of two sets joined to one.
use Rattle.std.proofs.Common.{◌≡◌, ◌∙◌, ℕ, ◌*◌, ◌<◌, ◌≤◌, ◌&&◌, Bool}
use Rattle.std.proofs.Common.{true, false, List, length, refl, sym, ap₂, arith}
use Rattle.std.specs.Prelude.{nat_lt}
use Rattle.std.proofs.lemmas.Bool.Decides.{nat_tests}
use Rattle.ps_board.specs.declared.many_words.Joining.{Joining}
use Rattle.ps_board.specs.declared.many_words.Joining.TheVariants.{Both, Either, Without, Unlike}
use Rattle.ps_board.specs.ColumnSets.{bit_is_set, column_at}
use Rattle.ps_board.specs.WordLists.{word_at, words_columns, words_have}
use Rattle.ps_board.specs.Joinings.{joined, joined_columns, words_joined}
use Rattle.ps_board.specs.WordSteps.{TellsAt, AreMade}
use Rattle.ps_board.proofs.ColumnLaws.{column_at-where, columns-agree}
use Rattle.ps_board.proofs.WordSteps.{have_at, have_past, made-all}

joined-none : (joining : Joining) → joined joining false false ≡ false
joined-none Both = refl
joined-none Either = refl
joined-none Without = refl
joined-none Unlike = refl

pub joined_tells : (joining : Joining) (words others : List ℕ) (index word : ℕ) →
    ((x : ℕ) → x < 64 → bit_is_set word x
    ≡ joined joining (bit_is_set (word_at words index) x) (bit_is_set (word_at others index) x)) →
    TellsAt (words_joined joining words others) index word
joined_tells joining words others index word bits x small within =
    bits x small ∙ sym (ap₂ (joined joining) (have_at words index x small) (have_at others index x small))

joined_by : (joining : Joining) (count : ℕ) (words others : List ℕ) (x : ℕ) (low : Bool) → nat_lt x (64 * count) ≡ low →
    length words ≡ count → length others ≡ count →
    (low && words_joined joining words others x) ≡ words_joined joining words others x
joined_by joining count words others x true t long same = refl
joined_by joining count words others x false t long same =
    let far : 64 * count ≤ x = grind (arith, nat_tests) in
    sym (ap₂ (joined joining) (have_past words x (rw long far)) (have_past others x (rw same far))
    ∙ joined-none joining)

pub joined_words : (joining : Joining) (count index : ℕ) (words others made : List ℕ) →
    AreMade (words_joined joining words others) count index made → count ≤ index →
    length words ≡ count → length others ≡ count →
    words_columns made ≡ joined_columns joining (words_columns words) (words_columns others)
joined_words joining count index words others made so end long same =
    made-all (words_joined joining words others) count index made so end
    ∙ columns-agree (λ x. nat_lt x (64 * count) && words_joined joining words others x)
    (λ x. joined joining (column_at (words_columns words) x) (column_at (words_columns others) x))
    (λ x low. joined_by joining count words others x (nat_lt x (64 * count)) refl long same
    ∙ sym (ap₂ (joined joining) (column_at-where (words_have words) x low) (column_at-where (words_have others) x low)))
