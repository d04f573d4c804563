-- What is wrong with the names as a whole, by the parts that the code keeps.
use Rattle.std.specs.Prelude.{ℕ, Bool, List, ◌++◌, Option, map, filter, codes}
use Rattle.std.specs.Option.{is_none}
use Rattle.std.specs.List.{flat_map, zip}
use Rattle.std.specs.Str.{bytes_eq}
use Rattle.std.specs.Map.{lookup}
use Rattle.ps_model.specs.declared.faults.Fault.{Fault}
use Rattle.ps_model.specs.declared.faults.FaultKind.{FaultKind}
use Rattle.ps_model.specs.declared.faults.FaultKind.TheVariants.{NoLayer, NoBackground, NoPlayer, SameLayerAggregate}
use Rattle.ps_model.specs.text.Faults.{when}
use Rattle.ps_model.specs.text.Lines.{folded}
use Rattle.ps_model.specs.names.Names.{Meaning}
use Rattle.ps_model.specs.names.ObjectLines.{ObjectText}
use Rattle.ps_model.specs.names.Meanings.{LegendName}
use Rattle.ps_model.specs.names.NameFaults.{shares_layer}

-- an object without a layer
abbrev pub no_layer_at : ObjectText × Option ℕ → List Fault
no_layer_at each = when (is_none each.1) NoLayer each.0.line

abbrev pub no_layers : List ObjectText → List (Option ℕ) → List Fault
no_layers objects places = flat_map no_layer_at (zip objects places)

-- a legend name that is the one given
abbrev pub declares : List ℕ → LegendName → Bool
declares name declared = bytes_eq name (folded declared.name)

-- the lines of the legend that declare a name
abbrev pub lines_of_name : List LegendName → List ℕ → List ℕ
lines_of_name legend name = map (λ declared. declared.line) (filter (declares name) legend)

-- a fault at each of the lines that declare a name
abbrev pub faults_of_lines : Bool → FaultKind → List ℕ → List Fault
faults_of_lines bad kind lines = flat_map (λ line. when bad kind line) lines

-- an aggregate with two objects on one layer
abbrev pub shared_at : List ℕ → LegendName × Option Meaning → List Fault
shared_at layers each = when (shares_layer layers each.0.joiner each.1) SameLayerAggregate each.0.line

abbrev pub shared_layers : List ℕ → List LegendName → List (Option Meaning) → List Fault
shared_layers layers legend meanings = flat_map (shared_at layers) (zip legend meanings)

-- names that must be there
abbrev pub missing : ℕ → List (List ℕ × Meaning) → List Fault
missing header entries =
    when (is_none (lookup (bytes_eq (codes "background")) entries)) NoBackground header ++ when
    (is_none (lookup (bytes_eq (codes "player")) entries)) NoPlayer header
