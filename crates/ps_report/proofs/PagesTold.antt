-- Lines on faults of a text, one after the other, and how many they are.
use Rattle.std.proofs.Common.{◌≡◌, ◌≢◌, ◌∙◌, ℕ, ◌+◌, ◌≤◌, ◌<◌, ◌++◌, ◌∷◌, List, [], length, suc, zero, Bool}
use Rattle.std.proofs.Common.{take, get_or, true, false, refl, sym, ap, append_assoc, arith}
use Rattle.std.specs.Prelude.{nat_eq, nat_lt, codes, if◌then◌else◌}
use Rattle.std.specs.Fmt.{decimal}
use Rattle.std.proofs.lemmas.Bool.Decides.{nat_tests}
use Rattle.std.proofs.lemmas.List.{append-nil}
use Rattle.ps_model.specs.declared.faults.Fault.{Fault}
use Rattle.ps_report.specs.Pages.{StandFor, StandsFirst, count_words, told_words}

-- what stands for one fault more
pub stand_more : {X : Type 0} (Is : Fault → List X → Type 0) (faults : List Fault) (fault : Fault) (whole own : List X) →
    StandFor Is faults whole → Is fault own → StandFor Is (faults ++ fault ∷ []) (whole ++ own)
stand_more {X} Is [] fault whole own none is =
    record {
      own = own;
      rest = [];
      first = is;
      others = refl;
      are = ap (λ (items : List X). items ++ own) none ∙ sym (append-nil own);
    }
stand_more {X} Is (first ∷ faults) fault whole own was more =
    let last : StandFor Is (faults ++ fault ∷ []) (was.rest ++ own) =
    stand_more Is faults fault was.rest own was.others more in
    record {
      own = was.own;
      rest = was.rest ++ own;
      first = was.first;
      others = last;
      are = ap (λ (items : List X). items ++ own) was.are ∙ append_assoc was.own was.rest own;
    }

pub fronts_more : (faults : List Fault) (k : ℕ) (default : Fault) → k < length faults →
    take (k + 1) faults ≡ take k faults ++ get_or faults k default ∷ []
fronts_more [] k default few = absurd (omega (arith, few))
fronts_more (fault ∷ faults) zero default few = refl
fronts_more (fault ∷ faults) (suc k) default few =
    let next : suc k + 1 ≡ suc (k + 1) = omega arith in
    ap (λ (n : ℕ). take n (fault ∷ faults)) next
    ∙ ap (λ (front : List Fault). fault ∷ front) (fronts_more faults k default (omega (arith, few)))

-- one more fault is passed by
pub stand_passed : {X : Type 0} (Is : Fault → List X → Type 0) (faults : List Fault) (k : ℕ) (whole : List X) →
    k < length faults → (default : Fault) → StandFor Is (take k faults ++ get_or faults k default ∷ []) whole →
    StandFor Is (take (k + 1) faults) whole
stand_passed Is faults k whole inside default was = rw (fronts_more faults k default inside) was

-- the word after a number of faults
word_cases : (count : ℕ) (one : Bool) (word : List ℕ) → nat_eq count 1 ≡ one → (count ≡ 1 → word ≡ codes " fault") →
    (count ≢ 1 → word ≡ codes " faults") → word ≡ codes (if one then " fault" else " faults")
word_cases count true word e single several =
    let is : count ≡ 1 = grind (arith, nat_tests) in
    single is
word_cases count false word e single several =
    let is : count ≢ 1 = grind (arith, nat_tests) in
    several is

pub counted : (count : ℕ) (word words : List ℕ) → (count ≡ 1 → word ≡ codes " fault") →
    (count ≢ 1 → word ≡ codes " faults") → words ≡ decimal count ++ word → words ≡ count_words count
counted count word words single several e =
    e ∙ ap (λ (w : List ℕ). decimal count ++ w) (word_cases count (nat_eq count 1) word refl single several)

-- how many faults were told
pub more_counted : (most count : ℕ) (told : List Fault) (inner words : List ℕ) → length told ≡ count → most < count →
    inner ≡ count_words most → words ≡ codes "more than " ++ inner → words ≡ told_words most told
more_counted most count told inner words long over own e =
    let more : nat_lt most (length told) ≡ true = grind (arith, nat_tests) in
    e ∙ ap (λ (ws : List ℕ). codes "more than " ++ ws) own
    ∙ sym (ap (λ (b : Bool). if b then codes "more than " ++ count_words most else count_words (length told)) more)

pub all_counted : (most count : ℕ) (told : List Fault) (words : List ℕ) → length told ≡ count → count ≤ most →
    words ≡ count_words count → words ≡ told_words most told
all_counted most count told words long within e =
    let more : nat_lt most (length told) ≡ false = grind (arith, nat_tests) in
    e ∙ ap count_words (sym long)
    ∙ sym (ap (λ (b : Bool). if b then codes "more than " ++ count_words most else count_words (length told)) more)
