-- What the sections give, by the parts that the code keeps.
use Rattle.std.specs.Prelude.{ℕ, List, [], ◌++◌, Option, map, length}
use Rattle.std.specs.List.{enumerate_from}
use Rattle.std.specs.Str.{bytes_eq}
use Rattle.std.specs.Map.{lookup}
use Rattle.std.specs.Prelude.{codes}
use Rattle.ps_model.specs.declared.faults.Fault.{Fault}
use Rattle.ps_model.specs.declared.faults.FaultKind.TheVariants.{BadBackground, BadPlayer}
use Rattle.ps_model.specs.names.Names.{Meaning}
use Rattle.ps_model.specs.text.WrittenLines.{WrittenLine}
use Rattle.ps_model.specs.names.ObjectLines.{ObjectText, object_names}
use Rattle.ps_model.specs.names.LegendLines.{declarations}
use Rattle.ps_model.specs.names.Meanings.{LegendName, legend_name, legend_names, legend_meanings, is_aggregate}
use Rattle.ps_model.specs.names.LayerLines.{Layer, layers_found}
use Rattle.ps_model.specs.names.DeclarationFaults.{object_faults, form_faults, naming_faults}
use Rattle.ps_model.specs.names.NameFaults.{folded_names, is_bad_background}
use Rattle.ps_names.specs.Known.{Named, mentions_of_names, named_object}
use Rattle.ps_names.specs.LegendShown.{named_line}
use Rattle.ps_names.specs.Wholes.{no_layers, missing, faults_of_lines, lines_of_name, shared_layers}

-- names that are known, and after them those that legend lines declare
abbrev pub known_with : List Named → List WrittenLine → List Named
known_with known lines = known ++ map named_line (enumerate_from 0 (declarations lines))

-- the names that objects and legend lines declare
abbrev pub known_of : List ObjectText → List WrittenLine → List Named
known_of objects lines = known_with (map named_object (object_names objects)) lines

-- the names of the legend where these names are known
abbrev pub legend_among : List Named → List WrittenLine → List LegendName
legend_among known lines = map (legend_name (mentions_of_names known)) (declarations lines)

-- the names of the legend
abbrev pub legend_of : List ObjectText → List WrittenLine → List LegendName
legend_of objects lines = legend_names (object_names objects) (declarations lines)

-- names of the legend, and what each stands for
abbrev pub legend_with : List LegendName → List LegendName × List (Option Meaning)
legend_with legend = (legend, legend_meanings legend)

-- the faults of names of the legend by what they name
abbrev pub legend_faults : List LegendName → List Fault
legend_faults legend = naming_faults legend (legend_meanings legend)

-- what objects and legend lines declare: the names, and those of the legend with what each stands for
abbrev pub declared_of : List ObjectText → List WrittenLine → List Named × (List LegendName × List (Option Meaning))
declared_of objects lines = (known_of objects lines, legend_with (legend_of objects lines))

-- the faults of OBJECTS and LEGEND line by line
abbrev pub declaring_faults : List ObjectText → List WrittenLine → List Fault
declaring_faults objects lines = object_faults 0 [] objects ++
    (form_faults (folded_names objects) lines ++ legend_faults (legend_of objects lines))

-- the layer of each of `count` objects, if one names it, and how many layers there are
abbrev pub layering_of : ℕ → List Layer → List (Option ℕ) × ℕ
layering_of count layers = (layers_found count layers, length layers)

-- the faults of the whole
abbrev pub faults_of_whole : ℕ → List ObjectText → List (Option ℕ) → List LegendName → List (Option Meaning) →
    List (List ℕ × Meaning) → List ℕ → List Fault
faults_of_whole header objects places legend meanings entries layers =
    no_layers objects places
    ++ (missing header entries
    ++ (faults_of_lines (is_bad_background layers (lookup (bytes_eq (codes "background")) entries)) BadBackground
    (lines_of_name legend (codes "background"))
    ++ (faults_of_lines (is_aggregate (lookup (bytes_eq (codes "player")) entries)) BadPlayer
    (lines_of_name legend (codes "player")) ++ shared_layers layers legend meanings)))
