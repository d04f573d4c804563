-- What a level, an entry, a line of RULES and the sides of a grid have to be, on small cases worked by hand.
use Rattle.std.proofs.Common.{◌≡◌, ℕ, ◌<◌, List, [], ◌∷◌, refl, Some, None, arith}
use Rattle.std.specs.Prelude.{codes, option_map}
use Rattle.std.specs.Str.{chars, is_utf8}
use Rattle.std.specs.Str.Lossy.{utf8_valid_len}
use Rattle.std.proofs.Math.Utf8.{encode}
use Rattle.std.proofs.lemmas.List.Elements.{All-nil, All-cons, All-head}
use Rattle.ps_model.specs.declared.pieces.ObjectId.{ObjectId}
use Rattle.ps_model.specs.declared.texts.Section.TheVariants.{Levels}
use Rattle.ps_model.specs.text.Lines.{lines_of}
use Rattle.ps_model.specs.text.Sections.{section_lines}
use Rattle.ps_model.specs.names.Names.{Names, One, object_count}
use Rattle.ps_model.specs.rules.SourceRules.{Is}
use Rattle.ps_model.specs.board.Grid.{empty_grid}
use Rattle.ps_model.specs.meaning.GameRules.{IsItemOf}
use Rattle.ps_model.specs.board.Levels.{Level}
use Rattle.ps_model.specs.session.LevelLines.{LevelEntry, entries_read}
use Rattle.ps_model.specs.session.GameLevels.{AreObjectsOf, IsLevelOf, IsWithinLimits}
use Rattle.ps_laws.specs.SameSides.{SameSides}
use Rattle.ps_model.specs.game.Games.{game}
use Rattle.ps_examples.proofs.games.BaseText.{base_game}

abbrev object : ℕ → ObjectId
object number = record { 0 = number }

-- names of two objects on two layers, and names without an object
abbrev two_objects : Names
two_objects = record { entries = (codes "background", One (object 0)) ∷ (codes "player", One (object 1)) ∷ (codes "p", One (object 1)) ∷ []; layers = 0 ∷ 1 ∷ []; layer_count = 2; glyphs = [] }

abbrev no_objects : Names
no_objects = record { entries = []; layers = []; layer_count = 0; glyphs = [] }

-- levels -----------------------------------------------------------------------------------------------------------------

-- a level of one cell with these objects, `width` columns wide
abbrev one_cell : ℕ → List ObjectId → Level
one_cell width objects = record { width = width; height = 1; cells = objects ∷ [] }

of_the_game : IsLevelOf two_objects (one_cell 1 (object 1 ∷ object 0 ∷ []))
of_the_game = record {
  objects = All-cons (AreObjectsOf two_objects) (object 1 ∷ object 0 ∷ []) []
      (All-cons (λ (each : ObjectId). each.0 < 2) (object 1) (object 0 ∷ []) (omega arith) (All-cons (λ (each : ObjectId). each.0 < 2) (object 0) [] (omega arith) (All-nil (λ (each : ObjectId). each.0 < 2))))
      (All-nil (AreObjectsOf two_objects));
  shape = refl;
}

-- one cell can't have two columns
cell_missing : IsLevelOf two_objects (one_cell 2 (object 0 ∷ [])) → ⊥
cell_missing h = omega (arith, h.shape)

-- a third object isn't one of two
foreign_object : IsLevelOf two_objects (one_cell 1 (object 2 ∷ [])) → ⊥
foreign_object h =
    let cell : AreObjectsOf two_objects (object 2 ∷ []) = All-head (AreObjectsOf two_objects) (object 2 ∷ []) [] h.objects in
    omega (arith, All-head (λ (each : ObjectId). each.0 < 2) (object 2) [] cell)

-- a level of one cell is within the limits; one without a row, or with 257 columns, isn't
small : IsWithinLimits (one_cell 1 [])
small = record { columns = omega arith; some_row = omega arith; rows = omega arith }

rowless : IsWithinLimits (record { width = 1; height = 0; cells = [] }) → ⊥
rowless h = omega (arith, h.some_row)

wide : IsWithinLimits (one_cell 257 []) → ⊥
wide h = omega (arith, h.columns)

-- a row is read with the background below
read_with_objects : entries_read two_objects (section_lines (lines_of (codes "LEVELS\nP")) Levels) ≡ LevelEntry (one_cell 1 (object 1 ∷ object 0 ∷ [])) ∷ []
unfolding chars encode
read_with_objects = refl

-- without an object it would have one that isn't the game's: that an object is there is needed
read_without_objects : entries_read no_objects (section_lines (lines_of (codes "LEVELS\nP")) Levels) ≡ LevelEntry (one_cell 1 (object 0 ∷ [])) ∷ []
unfolding chars encode
read_without_objects = refl

-- objects ----------------------------------------------------------------------------------------------------------------

-- the base game has nine objects and four layers
base_counts : option_map {U = ℕ × ℕ} (λ read. (object_count read.names, read.names.layer_count)) (game (base_game [] [] (codes "P"))) ≡ Some (9, 4)
unfolding chars is_utf8 encode utf8_valid_len
base_counts = refl

-- rules ------------------------------------------------------------------------------------------------------------------

-- an item that names an object of two, and one that names a third
own_item : IsItemOf two_objects (Is 0 None (One (object 1)))
own_item = All-cons (λ (each : ObjectId). each.0 < 2) (object 1) [] (omega arith) (All-nil (λ (each : ObjectId). each.0 < 2))

foreign_item : IsItemOf two_objects (Is 0 None (One (object 2))) → ⊥
foreign_item h = omega (arith, All-head (λ (each : ObjectId). each.0 < 2) (object 2) [] h)

-- sides ------------------------------------------------------------------------------------------------------------------

same_sides : SameSides (empty_grid 2 3 4) (record { width = 2; height = 3; layers = 4; cells = [] })
same_sides = record { width = refl; height = refl; layers = refl }

-- a board that is turned has other sides
other_sides : SameSides (empty_grid 2 3 4) (empty_grid 3 2 4) → ⊥
other_sides h = omega (arith, h.width)
