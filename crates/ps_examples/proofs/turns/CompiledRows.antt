-- Compiled rules beside their sources, worked by hand: masks and writes mean what the readings of the source mean.
use Rattle.std.proofs.Common.{◌≡◌, Bool, List, [], ◌∷◌, ◌++◌, ℕ, map, refl, Some, None, true, false}
use Rattle.std.specs.Prelude.{codes}
use Rattle.std.specs.List.{flat_map, filter_map}
use Rattle.std.specs.Str.{chars}
use Rattle.ps_model.specs.declared.pieces.Direction.{Direction}
use Rattle.ps_model.specs.declared.pieces.Direction.TheVariants.{Up, Down, Left, Right}
use Rattle.ps_model.specs.declared.pieces.Motion.{Motion}
use Rattle.ps_model.specs.declared.pieces.Motion.TheVariants.{Still, Going, Acting}
use Rattle.ps_model.specs.declared.pieces.Slot.{Slot}
use Rattle.ps_model.specs.declared.pieces.Slot.TheVariants.{Bare, Holds}
use Rattle.ps_model.specs.board.Grid.{Grid}
use Rattle.ps_model.specs.names.Names.{Names}
use Rattle.ps_model.specs.rules.SourceRules.{no_commands}
use Rattle.ps_model.specs.rules.RuleLines.{rules_read}
use Rattle.ps_model.specs.meaning.RuleMeanings.{CellMeaning, RuleMeaning}
use Rattle.ps_model.specs.meaning.ReadingMeanings.{meanings}
use Rattle.ps_model.specs.board.RulePrograms.{rule_in}
use Rattle.ps_model.specs.board.Places.{cells_in}
use Rattle.ps_model.specs.board.Attempts.{Result, attempt}
use Rattle.ps_model.specs.meaning.Compiled.{CompiledCell, CompiledRule, meaning_of_rule}
use Rattle.ps_model.specs.declared.compiled.ObjectWrite.TheVariants.{Put, Leave, Clear}
use Rattle.ps_model.specs.meaning.CompiledRules.{compiled_rules}
use Rattle.ps_examples.proofs.rules.RuleTexts.{base_names, with_name, lines_below, object, layer_id, placed, ac}

-- the readings of a rule
abbrev readings_of : Names → List ℕ → List RuleMeaning
readings_of names rule = flat_map (meanings names) (filter_map rule_in (rules_read names (lines_below rule)))

-- the cells of a rule
abbrev cells_of : RuleMeaning → List CellMeaning
cells_of rule = flat_map cells_in rule.rows

-- which of these cells of a board each cell of a rule fits
abbrev fitting : List (List Slot) → RuleMeaning → List (List Bool)
fitting cells rule = map (λ meaning. map meaning.fits cells) (cells_of rule)

-- what each cell of a rule makes of each of these cells of a board
abbrev rewriting : List (List Slot) → RuleMeaning → List (List (List Slot))
rewriting cells rule = map (λ meaning. map meaning.rewritten cells) (cells_of rule)

-- a rule that pushes --------------------------------------------------------------------------------------------------

-- its readings
abbrev source : List RuleMeaning
source = readings_of base_names (codes "[ > Player | Crate ] -> [ > Player | > Crate ]\n")

-- its cells compiled, in a direction: Player, who goes there, goes on; Crate, however it moves, goes there
abbrev player_cell : Direction → CompiledCell
player_cell direction = record {
  mask = record {
    needed = placed 2 2 ∷ [];
    barred = [];
    one_of = [];
    motions =
        record { layer = layer_id 2; motion = Going direction } ∷ [];
  };
  write = record {
    gone = [];
    layers = record {
      layer = layer_id 2;
      object = Put (object 2);
      motion =
          Some (Going direction);
    } ∷ [];
  };
}

abbrev crate_cell : Direction → CompiledCell
crate_cell direction = record {
  mask = record { needed = placed 3 2 ∷ []; barred = []; one_of = []; motions = [] };
  write = record {
    gone = [];
    layers = record {
      layer = layer_id 2;
      object = Put (object 3);
      motion =
          Some (Going direction);
    } ∷ [];
  };
}

abbrev pushing : Direction → CompiledRule
pushing direction = record {
  direction = direction;
  rows =
      ((player_cell direction ∷ crate_cell direction ∷ []) ∷ []) ∷ [];
  rewrites = true;
  commands = no_commands;
}

-- this is what its source compiles to
made_of_source : flat_map (compiled_rules base_names)
    (filter_map rule_in (rules_read base_names
    (lines_below (codes "[ > Player | Crate ] -> [ > Player | > Crate ]\n"))))
    ≡ map pushing (Up ∷ Down ∷ Left ∷ Right ∷ [])
unfolding chars
made_of_source = refl

-- the rule compiled, in each direction
abbrev compiled : List RuleMeaning
compiled = map (λ direction. meaning_of_rule (pushing direction)) (Up ∷ Down ∷ Left ∷ Right ∷ [])

-- a cell with what stands on the layer of Player and Crate
abbrev cell_with : Slot → List Slot
cell_with slot = Holds (object 0) Still ∷ Bare ∷ slot ∷ Bare ∷ []

-- the board `P*.`, with these motions of Player and Crate
abbrev board : Motion → Motion → Grid
board player crate = record {
  width = 3;
  height = 1;
  layers = 4;
  cells = cell_with (Holds (object 2) player) ∷ cell_with (Holds (object 3) crate) ∷ cell_with Bare ∷ [];
}

-- its cells with each motion of Player and Crate; and a Crate on a Target
abbrev some_cells : List (List Slot)
some_cells = flat_map (λ motion. (board motion motion).cells)
    (Still ∷ Going Up ∷ Going Down ∷ Going Left ∷ Going Right ∷ Acting ∷ [])
    ++ (Holds (object 0) Still ∷ Holds (object 4) Still ∷ Holds (object 3) (Going Left) ∷ Bare ∷ []) ∷ []

-- masks fit what the readings fit
masks : map (fitting some_cells) compiled ≡ map (fitting some_cells) source
unfolding chars
masks = refl

-- writes make what the readings make
writes : map (rewriting some_cells) compiled ≡ map (rewriting some_cells) source
unfolding chars
writes = refl

-- what each rule makes of the board on which Player goes right
abbrev attempts : List RuleMeaning → List Result
attempts rules = map (λ rule. attempt rule (record { grid = board (Going Right) Still; queue = no_commands })) rules

-- only the rule that goes right changes it: Crate goes right too
by_hand : attempts compiled ≡ map (λ changed. record {
  state =
      record { grid = board (Going Right) Still; queue = no_commands };
  changed = changed;
}) (false ∷ false ∷ false ∷ [])
    ++ record { state = record { grid = board (Going Right) (Going Right); queue = no_commands }; changed = true } ∷ []
by_hand = refl

by_source : attempts compiled ≡ attempts source
unfolding chars
by_source = refl

-- a rule with all else that masks and writes say ----------------------------------------------------------------------

-- its one reading; AC is A or C, which lie on one layer
abbrev other_source : List RuleMeaning
other_source = readings_of (with_name (codes "ac") ac)
    (codes "right [ AC | Crate no Target | | > Player | Wall ] -> [ > AC | | no Crate | Player | Wall ]\n")

-- its cells compiled: A or C is left and goes right; Crate is cleared away where no Target is; Crate goes, whatever
-- stands there; Player, who goes right, rests; and Wall keeps its motion
abbrev other_cells : List CompiledCell
other_cells = record {
  mask = record { needed = []; barred = []; one_of = (placed 5 3 ∷ placed 7 3 ∷ []) ∷ []; motions = [] };
  write = record {
    gone = [];
    layers = record {
      layer = layer_id 3;
      object = Leave;
      motion =
          Some (Going Right);
    } ∷ [];
  };
} ∷ record {
  mask = record { needed = placed 3 2 ∷ []; barred = placed 4 1 ∷ []; one_of = []; motions = [] };
  write = record { gone = []; layers = record { layer = layer_id 2; object = Clear; motion = None } ∷ [] };
} ∷ record {
  mask = record { needed = []; barred = []; one_of = []; motions = [] };
  write = record { gone = placed 3 2 ∷ []; layers = [] };
} ∷ record {
  mask = record {
    needed = placed 2 2 ∷ [];
    barred = [];
    one_of = [];
    motions =
        record { layer = layer_id 2; motion = Going Right } ∷ [];
  };
  write = record {
    gone = [];
    layers = record {
      layer = layer_id 2;
      object = Put (object 2);
      motion =
          Some Still;
    } ∷ [];
  };
} ∷ record {
  mask = record { needed = placed 1 2 ∷ []; barred = []; one_of = []; motions = [] };
  write = record { gone = []; layers = record { layer = layer_id 2; object = Put (object 1); motion = None } ∷ [] };
} ∷ []

abbrev other_compiled : List RuleMeaning
other_compiled = meaning_of_rule (record {
  direction = Right;
  rows = (other_cells ∷ []) ∷ [];
  rewrites =
      true;
  commands = no_commands;
}) ∷ []

-- these are what their source compiles to
other_made_of_source : map (λ (rule : CompiledRule).
    rule.rows) (flat_map (compiled_rules (with_name (codes "ac") ac))
    (filter_map rule_in (rules_read (with_name (codes "ac") ac)
    (lines_below (codes "right [ AC | Crate no Target | | > Player | Wall ] -> [ > AC | | no Crate | Player | Wall ]\n"))))) ≡ ((other_cells ∷ []) ∷ []) ∷ []
unfolding chars
other_made_of_source = refl

-- cells with nothing, Wall, Player or Crate, each beside nothing, A, B or C, on a Target and elsewhere; all that may
-- move goes the same way or rests
abbrev cells_moving : Motion → List (List Slot)
cells_moving motion = flat_map (λ target. flat_map (λ middle.
    map (λ top. Holds (object 0) Still ∷ target ∷ middle ∷ top ∷ [])
    (Bare ∷ Holds (object 5) motion ∷ Holds (object 6) motion ∷ Holds (object 7) motion ∷ []))
    (Bare ∷ Holds (object 1) motion ∷ Holds (object 2) motion ∷ Holds (object 3) motion ∷ []))
    (Bare ∷ Holds (object 4) motion ∷ [])

abbrev many_cells : List (List Slot)
many_cells = flat_map cells_moving (Still ∷ Going Up ∷ Going Right ∷ Acting ∷ [])

other_masks : map (fitting many_cells) other_compiled ≡ map (fitting many_cells) other_source
unfolding chars
other_masks = refl

other_writes : map (rewriting many_cells) other_compiled ≡ map (rewriting many_cells) other_source
unfolding chars
other_writes = refl
