-- Sets of motions: each motion of a layer has a place in them, which layers that are as many apart as there are places share.
use Rattle.std.specs.Prelude.{◌+◌, ◌*◌, ◌%◌, ℕ, Bool, true, false, List, Option, Some, None, option_map, nat_eq}
use Rattle.std.specs.List.{list_any}
use Rattle.ps_model.specs.declared.pieces.Direction.TheVariants.{Up, Down, Left, Right}
use Rattle.ps_model.specs.declared.pieces.Motion.{Motion}
use Rattle.ps_model.specs.declared.pieces.Motion.TheVariants.{Still, Going, Acting}
use Rattle.ps_model.specs.declared.compiled.MotionTest.{MotionTest}
use Rattle.ps_board.specs.ColumnSets.{columns_where, with_column}
use Rattle.ps_program.specs.declared.motion_sets.TheConstants.{MOTIONS, PLACED_LAYERS}

-- the place of a motion among those of its layer; none, of rest
abbrev pub place_on_layer : Motion → Option ℕ
place_on_layer Still = None
place_on_layer (Going Up) = Some 0
place_on_layer (Going Down) = Some 1
place_on_layer (Going Left) = Some 2
place_on_layer (Going Right) = Some 3
place_on_layer Acting = Some 4

-- the place of a motion of a layer; none, of rest
abbrev pub motion_place : ℕ → Motion → Option ℕ
motion_place layer motion = option_map (λ place. MOTIONS * (layer % PLACED_LAYERS) + place) (place_on_layer motion)

-- a set with a place in it, if there is one
abbrev pub with_place : List Bool → Option ℕ → List Bool
with_place motions None = motions
with_place motions (Some place) = with_column motions place true

-- whether a place is that one, if there is one
abbrev pub is_place : ℕ → Option ℕ → Bool
is_place place None = false
is_place place (Some own) = nat_eq place own

-- whether the motion with a place is asked for
abbrev pub asks_for : ℕ → MotionTest → Bool
asks_for place test = is_place place (motion_place test.layer.0 test.motion)

-- the places of the motions that are asked for
abbrev pub places_asked : List MotionTest → List Bool
places_asked tests = columns_where (λ place. list_any (asks_for place) tests)
