-- Grids that differ in nothing that rules ask about: the rules have the same combinations on both.
use Rattle.std.proofs.Common.{◌≡◌, ◌∙◌, ℕ, ◌<◌, ◌&&◌, inl, inr, Bool, true, false, not}
use Rattle.std.proofs.Common.{Option}
use Rattle.std.proofs.Common.{List, [], ◌∷◌, length, map, get_or, refl, sym, ap, ap₂, subst, arith}
use Rattle.std.specs.Prelude.{All, slice_get}
use Rattle.std.specs.List.{list_all, list_any}
use Rattle.std.proofs.lemmas.Bool.{cases_lt}
use Rattle.std.proofs.lemmas.Option.{slice_get-get_or, slice_get_past}
use Rattle.std.proofs.lemmas.List.Elements.{All-head, All-tail}
use mathlib.Core.Path.{fun_ext}
use Rattle.ps_model.specs.declared.limits.TheConstants.{SIDE_LIMIT}
use Rattle.ps_model.specs.declared.pieces.Direction.{Direction}
use Rattle.ps_model.specs.declared.pieces.Direction.TheVariants.{Up, Down, Left, Right}
use Rattle.ps_model.specs.declared.pieces.Slot.{Slot}
use Rattle.ps_model.specs.declared.compiled.LayeredObject.{LayeredObject}
use Rattle.ps_model.specs.declared.compiled.MotionTest.{MotionTest}
use Rattle.ps_model.specs.board.Grid.{Grid, cell_at}
use Rattle.ps_model.specs.board.Attempts.{combinations}
use Rattle.ps_model.specs.board.Places.{cells_in, fits_along, fits_there, places}
use Rattle.ps_model.specs.meaning.Compiled.{is_held_in, mask_fits, moves_as_asked}
use Rattle.ps_model.specs.meaning.RuleMeanings.{CellMeaning}
use Rattle.ps_laws.proofs.common.Everywhere.{All-joined}
use Rattle.ps_program.specs.declared.cells.CellMask.{CellMask}
use Rattle.ps_program.specs.declared.cells.CompiledCell.{CompiledCell}
use Rattle.ps_program.specs.declared.rows.CompiledRow.{CompiledRow}
use Rattle.ps_program.specs.declared.rules.CompiledRule.{CompiledRule}
use Rattle.ps_program.specs.declared.program.CompiledSection.{CompiledSection}
use Rattle.ps_program.specs.Axes.{direction_of}
use Rattle.ps_program.specs.ProgramShown.{mask_shown}
use Rattle.ps_board.specs.ColumnSets.{both_columns, column_at, set_columns}
use Rattle.ps_board.proofs.ColumnLaws.{column_at-where, none_in}
use Rattle.ps_match.specs.Topics.{DifferOnlyAbout, motion_topic, object_topic}
use Rattle.ps_match.proofs.TopicSets.{motion_low, object_low}
use Rattle.ps_places.specs.Lines.{cell_meaning}
use Rattle.ps_places.specs.RowPlaces.{row_meaning}
use Rattle.ps_engine.specs.TopicsAsked.{HasGroup, HasMask, HasMotion, HasObject, HasPart, HasParts, HasRows, HasRules}
use Rattle.ps_engine.specs.QuietGroups.{AreIdleOn, IsIdleOn}
use Rattle.ps_engine.proofs.Absent.{all_cells, cells_meaning-all}
use Rattle.ps_engine.proofs.Choosing.{cells_in-meant}

-- tests that agree on the elements of a list
all_same : {X : Type 0} (p q : X → Bool) (xs : List X) → All (λ x. p x ≡ q x) xs → list_all p xs ≡ list_all q xs
all_same p q [] same = refl
all_same p q (x ∷ xs) same =
    rw (All-head (λ y. p y ≡ q y) x xs same, all_same p q xs (All-tail (λ y. p y ≡ q y) x xs same)) refl

any_same : {X : Type 0} (p q : X → Bool) (xs : List X) → All (λ x. p x ≡ q x) xs → list_any p xs ≡ list_any q xs
any_same p q [] same = refl
any_same p q (x ∷ xs) same =
    rw (All-head (λ y. p y ≡ q y) x xs same, any_same p q xs (All-tail (λ y. p y ≡ q y) x xs same)) refl

pub each_of : {X : Type 0} (P Q : X → Type 0) (xs : List X) → ((x : X) → P x → Q x) → All P xs → All Q xs
each_of P Q xs so all = λ k d low. so (get_or xs k d) (all k d low)

-- a topic that is asked about isn't among those that meet nothing of what is asked about
pub apart_at : (topics stirred : List Bool) → set_columns (both_columns topics stirred) ≡ [] → (topic : ℕ) →
    topic < SIDE_LIMIT → column_at topics topic ≡ true → column_at stirred topic ≡ false
apart_at topics stirred none topic low on =
    ap (λ (b : Bool). b && column_at stirred topic) (sym on)
    ∙ sym (column_at-where (λ x. column_at topics x && column_at stirred x) topic low)
    ∙ none_in (both_columns topics stirred) topic none low

module _ (g h : Grid) (topics stirred : List Bool) (differ : DifferOnlyAbout stirred g h)
    (apart : set_columns (both_columns topics stirred) ≡ []) (wide : g.width ≡ h.width) (high : g.height ≡ h.height)
    (long : length g.cells ≡ length h.cells) where
  held_same : (n : ℕ) (object : LayeredObject) → HasObject topics object →
      is_held_in (cell_at g n) object ≡ is_held_in (cell_at h n) object
  held_same n object has = differ.objects object (apart_at topics stirred apart (object_topic (object.object).0)
      (object_low (object.object).0) has) n

  moves_same : (n : ℕ) (test : MotionTest) → HasMotion topics test →
      moves_as_asked (cell_at g n) test ≡ moves_as_asked (cell_at h n) test
  moves_same n test has = differ.motions test (apart_at topics stirred apart (motion_topic (test.layer).0)
      (motion_low (test.layer).0) has) n

  listed_same : (n : ℕ) (objects : List LayeredObject) → All (HasObject topics) objects →
      list_any (is_held_in (cell_at g n)) objects ≡ list_any (is_held_in (cell_at h n)) objects
  listed_same n objects has = any_same (is_held_in (cell_at g n)) (is_held_in (cell_at h n)) objects
      (each_of (HasObject topics) (λ x. is_held_in (cell_at g n) x ≡ is_held_in (cell_at h n) x) objects
      (held_same n) has)

  mask_same : (n : ℕ) (mask : CellMask) → HasMask topics mask →
      mask_fits (mask_shown mask) (cell_at g n) ≡ mask_fits (mask_shown mask) (cell_at h n)
  mask_same n mask has =
      let a : List Slot = cell_at g n in
      let b : List Slot = cell_at h n in
      let needed : list_all (is_held_in a) mask.needed ≡ list_all (is_held_in b) mask.needed =
      all_same (is_held_in a) (is_held_in b) mask.needed
      (each_of (HasObject topics) (λ x. is_held_in a x ≡ is_held_in b x) mask.needed (held_same n) has.0) in
      let barred : list_any (is_held_in a) mask.barred ≡ list_any (is_held_in b) mask.barred =
      listed_same n mask.barred has.1 in
      let lists : list_all (λ objects. list_any (is_held_in a) objects) mask.one_of
      ≡ list_all (λ objects. list_any (is_held_in b) objects) mask.one_of =
      all_same (λ objects. list_any (is_held_in a) objects) (λ objects. list_any (is_held_in b) objects) mask.one_of
      (each_of (All (HasObject topics)) (λ objects. list_any (is_held_in a) objects
      ≡ list_any (is_held_in b) objects) mask.one_of (listed_same n) has.2) in
      let motions : list_all (moves_as_asked a) mask.motions ≡ list_all (moves_as_asked b) mask.motions =
      all_same (moves_as_asked a) (moves_as_asked b) mask.motions
      (each_of (HasMotion topics) (λ x. moves_as_asked a x ≡ moves_as_asked b x) mask.motions (moves_same n)
      has.3) in
      ap (λ (x : Bool). x && (not (list_any (is_held_in a) mask.barred) && (list_all (λ objects.
      list_any (is_held_in a) objects) mask.one_of && list_all (moves_as_asked a) mask.motions))) needed
      ∙ ap (λ (x : Bool). list_all (is_held_in b) mask.needed && (not x && (list_all (λ objects.
      list_any (is_held_in a) objects) mask.one_of && list_all (moves_as_asked a) mask.motions))) barred
      ∙ ap (λ (x : Bool). list_all (is_held_in b) mask.needed && (not (list_any (is_held_in b) mask.barred) && (x
      && list_all (moves_as_asked a) mask.motions))) lists
      ∙ ap (λ (x : Bool). list_all (is_held_in b) mask.needed && (not (list_any (is_held_in b) mask.barred)
      && (list_all (λ objects. list_any (is_held_in b) objects) mask.one_of && x))) motions

  there_same : (table : Option (List ℕ)) (n : ℕ) (cell : CompiledCell) → HasMask topics cell.mask →
      fits_there (cell_meaning table cell) (slice_get g.cells n) ≡ fits_there (cell_meaning table cell)
      (slice_get h.cells n)
  there_same table n cell has = elim (cases_lt n (length g.cells)) [
    | inl inside ↦
        ap (fits_there (cell_meaning table cell)) (slice_get-get_or g.cells n [] inside)
        ∙ mask_same n cell.mask has
        ∙ ap (fits_there (cell_meaning table cell)) (sym (slice_get-get_or h.cells n [] (omega (arith, inside, long))))
    | inr beyond ↦
        ap (fits_there (cell_meaning table cell)) (slice_get_past g.cells n beyond
        ∙ sym (slice_get_past h.cells n (omega (arith, beyond, long))))
  ]

  along_same : (table : Option (List ℕ)) (cells : List CompiledCell) → HasPart topics cells → (ns : List ℕ) →
      fits_along g (map (cell_meaning table) cells) ns ≡ fits_along h (map (cell_meaning table) cells) ns
  along_same table [] has [] = refl
  along_same table [] has (n ∷ ns) = refl
  along_same table (cell ∷ cells) has [] = refl
  along_same table (cell ∷ cells) has (n ∷ ns) =
      let Has : CompiledCell → Type 0 = λ each. HasMask topics each.mask in
      ap₂ (λ (here others : Bool). elim here [ true ↦ others | false ↦ false ])
      (there_same table n cell (All-head Has cell cells has))
      (along_same table cells (All-tail Has cell cells has) ns)

  row_same : (table : Option (List ℕ)) (row : CompiledRow) → HasParts topics row.parts → (ns : List ℕ) →
      fits_along g (cells_in (row_meaning table row)) ns ≡ fits_along h (cells_in (row_meaning table row)) ns
  row_same table row has ns =
      let are : cells_in (row_meaning table row) ≡ map (cell_meaning table) (all_cells row.parts) =
      cells_in-meant table row.parts ∙ cells_meaning-all table row.parts in
      rw are (along_same table (all_cells row.parts) (All-joined (λ cell. HasMask topics cell.mask) row.parts has) ns)

  -- the places of a row, by how they fit
  places_by : (direction : Direction) (row : List (List CellMeaning)) →
      fits_along g (cells_in row) ≡ fits_along h (cells_in row) → places g direction row ≡ places h direction row
  places_by Up row fits = rw (fits, wide, high) refl
  places_by Down row fits = rw (fits, wide, high) refl
  places_by Left row fits = rw (fits, wide, high) refl
  places_by Right row fits = rw (fits, wide, high) refl

  rows_same : (table : Option (List ℕ)) (direction : Direction) (rows : List CompiledRow) → HasRows topics rows →
      map (places g direction) (map (row_meaning table) rows) ≡ map (places h direction) (map (row_meaning table) rows)
  rows_same table direction [] has = refl
  rows_same table direction (row ∷ rows) has =
      let Has : CompiledRow → Type 0 = λ each. HasParts topics each.parts in
      rw (
        places_by direction (row_meaning table row) (fun_ext (row_same table row (All-head Has row rows has))),
        rows_same table direction rows (All-tail Has row rows has),
      ) refl

  rules_idle : (table : Option (List ℕ)) (rules : List CompiledRule) → HasRules topics rules →
      AreIdleOn g table rules → AreIdleOn h table rules
  rules_idle table rules has idle = λ k d low.
      let rule : CompiledRule = get_or rules k d in
      ap combinations (sym (rows_same table (direction_of rule.axis) rule.rows (has k d low))) ∙ idle k d low

  -- a section that is idle on the one is so on the other
  pub section_idle : (table : Option (List ℕ)) (section : CompiledSection) → HasGroup topics section →
      IsIdleOn g table section → IsIdleOn h table section
  section_idle table section has idle = record {
    rules = idle.rules;
    group = idle.group;
    idle = rules_idle table idle.rules (has idle.rules idle.group) idle.idle;
  }

-- the other way round
pub differ_back : (stirred : List Bool) (g h : Grid) → DifferOnlyAbout stirred g h → DifferOnlyAbout stirred h g
differ_back stirred g h differ = record {
  objects = λ object none cell. sym (differ.objects object none cell);
  motions = λ test none cell. sym (differ.motions test none cell);
}

-- a grid differs from itself in nothing
from_itself : (stirred : List Bool) (g : Grid) → DifferOnlyAbout stirred g g
from_itself stirred g = record {
  objects = λ object none cell. refl;
  motions = λ test none cell. refl;
}

-- and from an equal one
pub differ_none : (stirred : List Bool) (g h : Grid) → g ≡ h → DifferOnlyAbout stirred g h
differ_none stirred g h same = subst (DifferOnlyAbout stirred g) same (from_itself stirred g)
