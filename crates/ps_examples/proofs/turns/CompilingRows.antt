-- Masks, writes and compiled programs as their sources make them, worked by hand.
use Rattle.std.proofs.Common.{◌≡◌, List, [], ◌∷◌, ℕ, map, refl, Some, None, true, false}
use Rattle.std.specs.Prelude.{codes}
use Rattle.std.specs.List.{flat_map, filter_map, list_all}
use Rattle.std.specs.Str.{chars}
use Rattle.ps_model.specs.declared.pieces.ObjectId.{ObjectId}
use Rattle.ps_model.specs.declared.pieces.Direction.TheVariants.{Up, Right}
use Rattle.ps_model.specs.declared.pieces.Motion.TheVariants.{Still, Going, Acting}
use Rattle.ps_model.specs.declared.pieces.Slot.{Slot}
use Rattle.ps_model.specs.declared.pieces.Slot.TheVariants.{Bare, Holds}
use Rattle.ps_model.specs.declared.rules.Part.TheVariants.{Plain, Late}
use Rattle.ps_model.specs.rules.SourceRules.{RuleLine, no_commands}
use Rattle.ps_model.specs.rules.RuleLines.{rules_read}
use Rattle.ps_model.specs.board.RuleSections.{Group, Loop}
use Rattle.ps_model.specs.board.RulePrograms.{rule_in}
use Rattle.ps_model.specs.meaning.Wanted.{Wanted, Each, Any, Without}
use Rattle.ps_model.specs.meaning.Fitting.{has}
use Rattle.ps_model.specs.meaning.Rewriting.{rewritten_from}
use Rattle.ps_model.specs.meaning.Compiled.{CellMask, CompiledCell, CompiledRule, mask_fits, cell_written}
use Rattle.ps_model.specs.declared.compiled.LayeredObject.{LayeredObject}
use Rattle.ps_model.specs.declared.compiled.ObjectWrite.TheVariants.{Put, Leave, Clear}
use Rattle.ps_model.specs.meaning.CompiledCells.{mask_of, write_of}
use Rattle.ps_model.specs.meaning.CompiledRules.{compiled_rules, compiled_program}
use Rattle.ps_examples.proofs.rules.RuleTexts.{base_names, lines_below, object, layer_id, placed}

-- masks ---------------------------------------------------------------------------------------------------------------

-- all that an item can ask: a word asks the layer of each object for its motion, that of a loose property once
all_asked : mask_of base_names (
    Each (object 3 ∷ object 4 ∷ []) (Some Acting)
    ∷ Any (object 5 ∷ object 7 ∷ []) (Some (Going Up))
    ∷ Without (object 1 ∷ object 2 ∷ [])
    ∷ Each (object 0 ∷ []) None
    ∷ Any (object 6 ∷ []) None
    ∷ []
    ) ≡ record {
      needed = placed 3 2 ∷ placed 4 1 ∷ placed 0 0 ∷ [];
      barred = placed 1 2 ∷ placed 2 2 ∷ [];
      one_of = (placed 5 3 ∷ placed 7 3 ∷ []) ∷ (placed 6 3 ∷ []) ∷ [];
      motions = record { layer = layer_id 2; motion = Acting } ∷ record {
        layer = layer_id 1;
        motion =
            Acting;
      } ∷ record { layer = layer_id 3; motion = Going Up } ∷ [];
    }
all_asked = refl

-- one of no objects is never there, with a word or without one
none_asked : mask_of base_names (Any [] (Some Still) ∷ []) ≡ record {
  needed = [];
  barred = [];
  one_of =
      [] ∷ [];
  motions = [];
}
none_asked = refl

-- a cell of no game: Crate lies on the layer of Background
abbrev misplaced : List Slot
misplaced = Holds (object 3) Still ∷ Bare ∷ Bare ∷ Bare ∷ []

-- there neither a mask nor its source finds it: each looks at its own layer alone
not_fitted_there : mask_fits (mask_of base_names (Each (object 3 ∷ []) None ∷ [])) misplaced ≡ false
not_fitted_there = refl

not_found_there : list_all (has base_names misplaced) (Each (object 3 ∷ []) None ∷ []) ≡ false
not_found_there = refl

-- a property of two layers, A and Target, that is asked to act: Target does, and A doesn't
abbrev two_layers : List Wanted
two_layers = Any (object 5 ∷ object 4 ∷ []) (Some Acting) ∷ []

abbrev both_there : List Slot
both_there = Bare ∷ Holds (object 4) Acting ∷ Bare ∷ Holds (object 5) Still ∷ []

-- a mask asks one layer alone, so it isn't its source's
one_layer_asked : mask_fits (mask_of base_names two_layers) both_there ≡ false
one_layer_asked = refl

either_layer_asked : list_all (has base_names both_there) two_layers ≡ true
either_layer_asked = refl

-- writes --------------------------------------------------------------------------------------------------------------

-- on a layer that both sides claim, the motion is kept where neither has a word; where the left alone has one, it
-- rests. What the right claims twice is written twice, and the first write counts; what the left alone claims is
-- cleared
all_written : write_of base_names (
    Each (object 2 ∷ []) None ∷ Any (object 5 ∷ object 7 ∷ []) (Some Acting) ∷ Each (object 4 ∷ []) None ∷ Without
    (object 8 ∷ []) ∷ []
    ) (
    Any (object 5 ∷ object 7 ∷ []) None ∷ Each (object 3 ∷ []) None ∷ Each (object 1 ∷ []) (Some Acting) ∷ Without
    (object 6 ∷ object 8 ∷ []) ∷ []
    ) ≡ record {
      gone = placed 6 3 ∷ placed 8 3 ∷ [];
      layers =
          record { layer = layer_id 3; object = Leave; motion = Some Still }
          ∷ record { layer = layer_id 2; object = Put (object 3); motion = None }
          ∷ record { layer = layer_id 2; object = Put (object 1); motion = Some Acting }
          ∷ record { layer = layer_id 1; object = Clear; motion = None }
          ∷ [];
    }
all_written = refl

-- what is new rests, or goes as its word says
new_written : write_of base_names [] (Each (object 5 ∷ []) None ∷ Each (object 3 ∷ object 4 ∷ []) (Some (Going Up)) ∷
    []) ≡ record {
      gone = [];
      layers =
          record { layer = layer_id 3; object = Put (object 5); motion = Some Still }
          ∷ record { layer = layer_id 2; object = Put (object 3); motion = Some (Going Up) }
          ∷ record { layer = layer_id 1; object = Put (object 4); motion = Some (Going Up) }
          ∷ [];
    }
new_written = refl

-- an object that goes is looked for on its own layer alone, where the source takes it away wherever it stands: so a
-- write is its source's on the cells of a game alone
left_there : cell_written (write_of base_names [] (Without (object 3 ∷ []) ∷ [])) misplaced ≡ misplaced
left_there = refl

taken_from_there : rewritten_from [] [] (object 3 ∷ []) 0 misplaced ≡ Bare ∷ Bare ∷ Bare ∷ Bare ∷ []
taken_from_there = refl

-- readings ------------------------------------------------------------------------------------------------------------

-- the compiled rules of a rule of the base text
abbrev rules_compiled : List ℕ → List CompiledRule
rules_compiled rule = flat_map (compiled_rules base_names)
    (filter_map rule_in (rules_read base_names (lines_below rule)))

-- the masks of a rule's cells
abbrev masks_of : CompiledRule → List CellMask
masks_of rule = flat_map (flat_map (map (λ (cell : CompiledCell). cell.mask))) rule.rows

abbrev needs : List LayeredObject → CellMask
needs objects = record { needed = objects; barred = []; one_of = []; motions = [] }

-- AT, A or Target, is a fixed property: a rule for each member
members_in_order : map masks_of (rules_compiled (codes "right [ AT | Crate ] -> [ | AT ]\n"))
    ≡ (needs (placed 5 3 ∷ []) ∷ needs (placed 3 2 ∷ []) ∷ []) ∷
    (needs (placed 4 1 ∷ []) ∷ needs (placed 3 2 ∷ []) ∷ []) ∷ []
unfolding chars
members_in_order = refl

-- a reading that names a layer twice on one side of a cell is none: with B, AT is Target
only_possible : map masks_of (rules_compiled (codes "right [ AT B ] -> [ ]\n")) ≡
    (needs (placed 4 1 ∷ placed 6 3 ∷ []) ∷ []) ∷ []
unfolding chars
only_possible = refl

-- programs ------------------------------------------------------------------------------------------------------------

abbrev some_lines : List RuleLine
some_lines = rules_read base_names (lines_below
    (codes "right [ Player ] -> [ > Player ]\nlate right [ Crate ] -> [ ]\nstartloop\nright [ Wall ] -> [ ]\n+ right [ A ] -> [ B ]\nright [ ] -> again\nendloop\n"))

-- a rule to the right, of one cell
abbrev rule_on : CompiledCell → CompiledRule
rule_on cell = record { direction = Right; rows = ((cell ∷ []) ∷ []) ∷ []; rewrites = true; commands = no_commands }

abbrev player_rule : CompiledRule
player_rule = rule_on (record {
  mask = needs (placed 2 2 ∷ []);
  write = record {
    gone = [];
    layers = record {
      layer = layer_id 2;
      object = Put (object 2);
      motion =
          Some (Going Right);
    } ∷ [];
  };
})

abbrev clearing_rule : ℕ → CompiledRule
clearing_rule number = rule_on (record {
  mask = needs (placed number 2 ∷ []);
  write = record { gone = []; layers = record { layer = layer_id 2; object = Clear; motion = None } ∷ [] };
})

abbrev a_rule : CompiledRule
a_rule = rule_on (record {
  mask = needs (placed 5 3 ∷ []);
  write = record { gone = []; layers = record { layer = layer_id 3; object = Put (object 6); motion = None } ∷ [] };
})

abbrev again_rule : CompiledRule
again_rule = record {
  direction = Right;
  rows = ((record { mask = needs []; write = record { gone = []; layers = [] } } ∷ []) ∷ []) ∷ [];
  rewrites = false;
  commands = record no_commands { again = true };
}

-- groups, and a loop over groups; the late program has the loop too, with nothing in it
plain_program : compiled_program base_names Plain some_lines ≡ Group (player_rule ∷ []) ∷ Loop
    ((clearing_rule 1 ∷ a_rule ∷ []) ∷ (again_rule ∷ []) ∷ []) ∷ []
unfolding chars
plain_program = refl

late_program : compiled_program base_names Late some_lines ≡ Group (clearing_rule 3 ∷ []) ∷ Loop [] ∷ []
unfolding chars
late_program = refl
