-- The names of OBJECTS, line by line.
use Rattle.std.proofs.Common.{◌≡◌, ℕ, zero, suc, ◌+◌, ◌-◌, Bool, true, false, List, [], ◌∷◌, ◌++◌, refl, sym, ap, ◌∙◌}
use Rattle.std.proofs.Common.{take, arith}
use Rattle.std.specs.Prelude.{nat_lt}
use Rattle.std.proofs.lemmas.Bool.Decides.{nat_tests}
use Rattle.std.specs.List.{flat_map, prefix_len}
use Rattle.ps_model.specs.text.Lines.{Line, is_blank_line, words_of_line}
use Rattle.ps_model.specs.names.ObjectLines.{is_sprite_row, lines_below, objects_below, object_texts}
use Rattle.ps_facts.specs.declared.objects.Place.TheVariants.{Between, BelowName, BelowColours}
use Rattle.ps_facts.specs.Declarations.{Declared, names_of_object, declared_in}
use Rattle.ps_facts.specs.Objects.{names_from}

-- the names of lines at each place are those of their objects
record AreThose (lines : List Line) : Type 0 where
  between : names_from Between lines ≡ flat_map names_of_object (objects_below 0 lines)
  below_name : names_from BelowName lines ≡ flat_map names_of_object (objects_below (lines_below lines) lines)
  below_colours : (rows : ℕ) → names_from (BelowColours rows) lines ≡ flat_map names_of_object
      (objects_below (prefix_len is_sprite_row (take rows lines)) lines)

-- a blank line between objects
skips : (line : Line) (others : List Line) → is_blank_line line ≡ true → objects_below 0 (line ∷ others) ≡ objects_below
    0 others
skips line others e = rw (e, objects_below) refl

-- a line that names an object
names : (line : Line) (others : List Line) → is_blank_line line ≡ false →
    flat_map names_of_object (objects_below 0 (line ∷ others)) ≡ declared_in line.number (words_of_line line)
    ++ flat_map names_of_object (objects_below (lines_below others) others)
names line others e = rw (e, objects_below) refl

between-by : (line : Line) (others : List Line) (blank : Bool) → is_blank_line line ≡ blank → AreThose others →
    names_from Between (line ∷ others) ≡ flat_map names_of_object (objects_below 0 (line ∷ others))
between-by line others true e ih = rw (e, objects_below) ih.between
between-by line others false e ih = rw (e, objects_below) (ap (λ (names : List Declared).
    declared_in line.number (words_of_line line) ++ names) ih.below_name)

below_name-by : (line : Line) (others : List Line) (blank : Bool) → is_blank_line line ≡ blank → AreThose others →
    names_from BelowName (line ∷ others) ≡ flat_map names_of_object
    (objects_below (lines_below (line ∷ others)) (line ∷ others))
below_name-by line others true e ih = rw e (ih.between ∙ sym (ap (flat_map names_of_object) (skips line others e)))
below_name-by line others false e ih = rw e (ih.below_colours 5)

-- a line that belongs to the object above
taken : (line : Line) (others : List Line) (n : ℕ) → objects_below (1 + n) (line ∷ others) ≡ objects_below n others
taken line others n = let e : 1 + n ≡ suc n = omega arith in rw e refl

some : (rows : ℕ) → nat_lt 0 (suc rows) ≡ true
some rows = grind (arith, nat_tests)

below_colours-by : (line : Line) (others : List Line) (rows : ℕ) (row blank : Bool) → is_sprite_row line ≡ row →
    is_blank_line line ≡ blank → AreThose others →
    names_from (BelowColours rows) (line ∷ others) ≡ flat_map names_of_object
    (objects_below (prefix_len is_sprite_row (take rows (line ∷ others))) (line ∷ others))
below_colours-by line others zero row true r e ih = rw (e, objects_below) ih.between
below_colours-by line others zero row false r e ih = rw (e, objects_below) (ap (λ (names : List Declared).
    declared_in line.number (words_of_line line) ++ names) ih.below_name)
below_colours-by line others (suc rows) true blank r e ih =
    let less : suc rows - 1 ≡ rows = omega arith in rw (r, some rows, less)
    (ih.below_colours rows ∙ sym (ap (flat_map names_of_object) (taken line others (prefix_len is_sprite_row
    (take rows others)))))
below_colours-by line others (suc rows) false true r e ih = rw (r, some rows, e) (ih.between ∙ sym
    (ap (flat_map names_of_object) (skips line others e)))
below_colours-by line others (suc rows) false false r e ih = rw (r, some rows, e) (ap (λ (names : List Declared).
    declared_in line.number (words_of_line line) ++ names) ih.below_name ∙ sym (names line others e))

are_those : (lines : List Line) → AreThose lines
are_those [] = record { between = refl; below_name = refl; below_colours = none } where
  none : (rows : ℕ) → names_from (BelowColours rows) [] ≡ flat_map names_of_object
      (objects_below (prefix_len is_sprite_row (take rows [])) [])
  none zero = refl
  none (suc rows) = refl
are_those (line ∷ others) =
    let ih : AreThose others = are_those others in
    record {
      between = between-by line others _ refl ih;
      below_name = below_name-by line others _ refl ih;
      below_colours = λ rows. below_colours-by line others rows _ _ refl refl ih;
    }

-- the names of OBJECTS, line by line
pub objects-line_by_line : (lines : List Line) →
    names_from Between lines ≡ flat_map names_of_object (object_texts lines)
objects-line_by_line lines = (are_those lines).between
