-- The faults of the lines of OBJECTS, LEGEND and COLLISIONLAYERS, line by line: of OBJECTS, of LEGEND by the form of
-- its lines, of LEGEND again by what they name, and of COLLISIONLAYERS. Within a line they stand in the order of their
-- codes.
use Rattle.std.specs.Prelude.{ℕ, suc, ◌==◌, Bool, false, ◌||◌, not, Option, List, [], ◌∷◌, ◌++◌, length, map, flat_map}
use Rattle.std.specs.Prelude.{option_to_list}
use Rattle.std.specs.Option.{is_none}
use Rattle.std.specs.List.{list_any, enumerate_from}
use Rattle.std.specs.Str.{bytes_eq}
use Rattle.ps_model.specs.declared.texts.Joiner.{Joiner}
use Rattle.ps_model.specs.declared.texts.Joiner.TheVariants.{Alone, And, Or}
use Rattle.ps_model.specs.declared.faults.Fault.{Fault}
use Rattle.ps_model.specs.declared.faults.FaultKind.TheVariants.{BadObject, Twice, MixedAndOr, UnknownName, Cycle}
use Rattle.ps_model.specs.declared.faults.FaultKind.TheVariants.{AggregateInProperty, PropertyInAggregate}
use Rattle.ps_model.specs.declared.faults.FaultKind.TheVariants.{AggregateInLayer, TooManyNames, BadLine}
use Rattle.ps_model.specs.declared.limits.TheConstants.{OBJECT_LIMIT, LAYER_LIMIT}
use Rattle.ps_model.specs.text.Faults.{when}
use Rattle.ps_model.specs.text.Lines.{folded}
use Rattle.ps_model.specs.text.WrittenLines.{WrittenLine}
use Rattle.ps_model.specs.names.Names.{Meaning}
use Rattle.ps_model.specs.names.ObjectLines.{ObjectText, names_well, is_whole}
use Rattle.ps_model.specs.names.LegendLines.{name_declared, declared_by, is_mixed}
use Rattle.ps_model.specs.names.Meanings.{LegendName, is_on_cycle, meaning_of_mention, is_aggregate, is_property}
use Rattle.ps_model.specs.names.LayerLines.{Layer}

-- names that are declared again, NA2: one is among those before, or stands twice among these, letters folded
abbrev pub are_declared_again : List (List ℕ) → List (List ℕ) → Bool
are_declared_again before [] = false
are_declared_again before (name ∷ names) = list_any (bytes_eq (folded name)) before || are_declared_again
    (before ++ folded name ∷ []) names

-- OBJECTS -------------------------------------------------------------------------------------------------------------

-- a bad object, NA1. Its name line has over two words, or a second name of over one character. Or no colours stand
-- right below, or one to four rows of a sprite do
abbrev pub is_bad_object : ObjectText → Bool
is_bad_object object = not (names_well object.words) || not (is_whole object)

-- the faults of the object of a number, above which these names are declared; one object over the limit is NA14
abbrev pub faults_of_object : ℕ → List (List ℕ) → ObjectText → List Fault
faults_of_object number before object =
    when (is_bad_object object) BadObject object.line
    ++ (when (are_declared_again before object.words) Twice object.line ++ when (number ==
    OBJECT_LIMIT) TooManyNames object.line)

-- the faults of the lines of OBJECTS, the objects numbered from a number on
abbrev pub object_faults : ℕ → List (List ℕ) → List ObjectText → List Fault
object_faults number before [] = []
object_faults number before (object ∷ others) =
    faults_of_object number before object ++ object_faults (suc number) (before ++ map folded object.words) others

-- the lines of LEGEND by their form -----------------------------------------------------------------------------------

-- a line of no form, NA16
abbrev pub is_bad_line : WrittenLine → Bool
is_bad_line line = is_none (declared_by line)

-- the faults of a line's form, above which these names are declared; `and` and `or` in one line is NA3
abbrev pub legend_form_faults : List (List ℕ) → WrittenLine → List Fault
legend_form_faults before line =
    when (are_declared_again before (option_to_list (name_declared line.words))) Twice line.number
    ++ (when (is_mixed line) MixedAndOr line.number ++ when (is_bad_line line) BadLine line.number)

-- the faults of the lines of LEGEND by their form
abbrev pub form_faults : List (List ℕ) → List WrittenLine → List Fault
form_faults before [] = []
form_faults before (line ∷ others) = legend_form_faults before line ++ form_faults
    (before ++ map folded (option_to_list (name_declared line.words))) others

-- the lines of LEGEND by what they name -------------------------------------------------------------------------------

-- a property that names an aggregate, NA6
abbrev pub puts_aggregate_in_property : Joiner → List (Option Meaning) → Bool
puts_aggregate_in_property Alone meanings = false
puts_aggregate_in_property And meanings = false
puts_aggregate_in_property Or meanings = list_any is_aggregate meanings

-- an aggregate that names a property, NA7
abbrev pub puts_property_in_aggregate : Joiner → List (Option Meaning) → Bool
puts_property_in_aggregate Alone meanings = false
puts_property_in_aggregate And meanings = list_any is_property meanings
puts_property_in_aggregate Or meanings = false

-- the faults of the legend name at a place, whose mentions mean this; a name that nothing declares is NA4, a name that
-- stands for itself NA5
abbrev pub faults_of_legend_name : List LegendName → ℕ → LegendName → List (Option Meaning) → List Fault
faults_of_legend_name legend place name meanings =
    when (not name.all_declared) UnknownName name.line
    ++ (when (is_on_cycle legend place name) Cycle name.line
    ++ (when (puts_aggregate_in_property name.joiner meanings) AggregateInProperty name.line
    ++ when (puts_property_in_aggregate name.joiner meanings) PropertyInAggregate name.line))

-- the faults of the lines of LEGEND by what they name
abbrev pub naming_faults : List LegendName → List (Option Meaning) → List Fault
naming_faults legend meanings =
    flat_map (λ numbered. faults_of_legend_name legend numbered.0 numbered.1
    (map (meaning_of_mention meanings) numbered.1.mentions)) (enumerate_from 0 legend)

-- COLLISIONLAYERS -----------------------------------------------------------------------------------------------------

-- the faults of the layer of a number: a name that nothing declares, NA4; an aggregate, NA8; one layer over the limit,
-- NA14; and a line without a name, NA16
abbrev pub faults_of_layer : ℕ × Layer → List Fault
faults_of_layer numbered =
    let layer : Layer = numbered.1 in
    when (list_any is_none layer.named) UnknownName layer.line
    ++ (when (list_any is_aggregate layer.named) AggregateInLayer layer.line
    ++ (when (numbered.0 == LAYER_LIMIT) TooManyNames layer.line ++ when (length layer.named == 0) BadLine layer.line))

-- the faults of the lines of COLLISIONLAYERS
abbrev pub layer_faults : List Layer → List Fault
layer_faults layers = flat_map faults_of_layer (enumerate_from 0 layers)
