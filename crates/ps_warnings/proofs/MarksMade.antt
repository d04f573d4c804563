-- Marks at the numbers of a list, number by number, and what is marked at the end.
use Rattle.std.proofs.Common.{◌≡◌, ◌∙◌, ◌++◌, ◌+◌, ◌<◌, ◌≤◌, ◌||◌, ℕ, Bool, true, false, List, [], ◌∷◌, length, get_or}
use Rattle.std.proofs.Common.{add-one, append_assoc, drop, replicate, take, refl, sym, ap, arith}
use Rattle.std.specs.Prelude.{nat_eq, slice_set}
use Rattle.std.specs.List.{flat_map}
use Rattle.std.proofs.lemmas.List.{append-nil, drop_all, take_all}
use Rattle.std.proofs.lemmas.List.{get_or-set_same, get_or-set_other, get_or-replicate, length-set, length-replicate}
use Rattle.std.proofs.lemmas.Bool.Decides.{nat_tests}
use Rattle.ps_model.specs.text.Lines.{Line, lines_of}
use Rattle.ps_model.specs.text.LineNumbers.{here, lines_between}
use Rattle.ps_laws.proofs.common.LinesInOrder.{between-step, between-end}
use Rattle.ps_names.proofs.common.Elements.{element-first}
use Rattle.std.proofs.lemmas.Grind.{flat_map-append}
use Rattle.ps_warnings.specs.Marks.{is_marked, is_one_of, marked}

-- some numbers, and then others
pub marked_more : (marks : List Bool) (numbers others : List ℕ) →
    marked marks (numbers ++ others) ≡ marked (marked marks numbers) others
marked_more marks [] others = refl
marked_more marks (number ∷ numbers) others = marked_more (slice_set marks number true) numbers others

-- marks that are lent as a whole come back as they are
pub written_back : (count : ℕ) (marks back : List Bool) → count ≡ length marks → length back ≡ length marks →
    take count (back ++ drop (length back) marks) ≡ back
written_back count marks back c b =
    ap (λ (rest : List Bool). take count (back ++ rest)) (drop_all (length back) marks (omega arith))
    ∙ ap (take count) (append-nil back) ∙ take_all count back (omega arith)

-- two lists, and then two others
pub marked_four : (fresh first last : List Bool) (a b c d : List ℕ) → first ≡ marked fresh (a ++ b) →
    last ≡ marked first (c ++ d) → last ≡ marked fresh (a ++ (b ++ (c ++ d)))
marked_four fresh first last a b c d f l =
    l ∙ ap (λ (marks : List Bool). marked marks (c ++ d)) f ∙ sym (marked_more fresh (a ++ b) (c ++ d))
    ∙ ap (marked fresh) (append_assoc a b (c ++ d))

-- one turn more of a loop that marks what comes of a list
pub marked_step : {A : Type 0} (made : List A → List ℕ) (marks next whole : List Bool) (one : List ℕ) (xs : List A)
    (i : ℕ) (x d : A) → next ≡ marked marks one → i < length xs → x ≡ get_or xs i d →
    made (x ∷ drop (i + 1) xs) ≡ one ++ made (drop (i + 1) xs) → marked marks (made (drop i xs)) ≡ whole →
    marked next (made (drop (i + 1) xs)) ≡ whole
marked_step made marks next whole one xs i x d e less is step so_far =
    ap (λ (m : List Bool). marked m (made (drop (i + 1) xs))) e
    ∙ sym (marked_more marks one (made (drop (i + 1) xs)))
    ∙ ap (marked marks) (sym step)
    ∙ ap (λ ys. marked marks (made ys)) (sym (element-first xs i (i + 1) x d less (add-one i) is))
    ∙ so_far

-- as many marks as before
pub length-marked : (marks : List Bool) (numbers : List ℕ) → length (marked marks numbers) ≡ length marks
length-marked marks [] = refl
length-marked marks (number ∷ numbers) =
    length-marked (slice_set marks number true) numbers ∙ length-set marks number true

pub or_true : (b : Bool) → (b || true) ≡ true
or_true true = refl
or_true false = refl

or_false : (b : Bool) → (b || false) ≡ b
or_false true = refl
or_false false = refl

one_more : (marks : List Bool) (number other : ℕ) (same later : Bool) → nat_eq other number ≡ same →
    other < length marks →
    (later || get_or (slice_set marks number true) other false) ≡ ((same || later) || get_or marks other false)
one_more marks number other true later e within =
    let is : other ≡ number = grind (arith, nat_tests) in
    ap (λ (mark : Bool). later || mark)
    (rw (← is) (get_or-set_same marks other true false within)) ∙ or_true later
one_more marks number other false later e within =
    ap (λ (mark : Bool). later || mark)
    (get_or-set_other marks number other true false (grind (arith, nat_tests)))

-- one more is marked, or was before
pub marked_one : (marks : List Bool) (number other : ℕ) → other < length marks →
    is_marked (marked marks (number ∷ [])) other ≡ (nat_eq other number || is_marked marks other)
marked_one marks number other within =
    one_more marks number other (nat_eq other number) false refl within
    ∙ ap (λ (same : Bool). same || is_marked marks other) (or_false (nat_eq other number))

-- those are marked that are of the list, or were before
pub marked_or : (marks : List Bool) (numbers : List ℕ) (other : ℕ) → other < length marks →
    is_marked (marked marks numbers) other ≡ (is_one_of numbers other || is_marked marks other)
marked_or marks [] other within = refl
marked_or marks (number ∷ numbers) other within =
    marked_or (slice_set marks number true) numbers other (rw length-set within)
    ∙ one_more marks number other (nat_eq other number) (is_one_of numbers other) refl within

-- where none were before, those of the list are
pub marked_are : (count : ℕ) (numbers : List ℕ) (other : ℕ) → other < count →
    is_marked (marked (replicate count false) numbers) other ≡ is_one_of numbers other
marked_are count numbers other within =
    marked_or (replicate count false) numbers other (rw length-replicate within)
    ∙ ap (λ (mark : Bool). is_one_of numbers other || mark) (get_or-replicate count other false false within)
    ∙ or_false (is_one_of numbers other)

-- lines ---------------------------------------------------------------------------------------------------------------

-- a line is passed by, and what comes of it is marked
pub marked_passed : (made : Line → List ℕ) (text : List ℕ) (line end : ℕ) (before after whole : List Bool) →
    1 ≤ line → line < end → end ≤ length (lines_of text) + 1 → after ≡ marked before (flat_map made (here text line)) →
    marked before (flat_map made (lines_between text line end)) ≡ whole →
    marked after (flat_map made (lines_between text (line + 1) end)) ≡ whole
marked_passed made text line end before after whole one less within e was =
    let rest : List Line = lines_between text (line + 1) end in
    ap (λ (marks : List Bool). marked marks (flat_map made rest)) e
    ∙ sym (marked_more before (flat_map made (here text line)) (flat_map made rest))
    ∙ sym (ap (marked before) (flat_map-append made (here text line) rest))
    ∙ sym (ap (λ (lines : List Line). marked before (flat_map made lines))
    (between-step text line (line + 1) end one less within refl))
    ∙ was

-- no line is left
pub all_marked : (made : Line → List ℕ) (text : List ℕ) (line end : ℕ) (marks whole : List Bool) → end ≤ line →
    marked marks (flat_map made (lines_between text line end)) ≡ whole → marks ≡ whole
all_marked made text line end marks whole past was =
    sym (ap (λ (lines : List Line). marked marks (flat_map made lines)) (between-end text line end past)) ∙ was
