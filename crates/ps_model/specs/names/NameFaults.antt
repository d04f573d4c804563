-- The faults of the names of a text, in the order in which they are told: the lines of OBJECTS, LEGEND and
-- COLLISIONLAYERS, one by one; then what is wrong with the whole, kind by kind, and each kind by its lines.
use Rattle.std.specs.Prelude.{ℕ, nat_eq, Bool, false, ◌||◌, not, Option, List, [], ◌∷◌, ◌++◌, map, flat_map, filter}
use Rattle.std.specs.Prelude.{zip, slice_index_or, codes}
use Rattle.std.specs.Option.{is_none}
use Rattle.std.specs.List.{list_any, list_all}
use Rattle.std.specs.Str.{bytes_eq}
use Rattle.std.specs.Map.{lookup}
use Rattle.ps_model.specs.declared.pieces.ObjectId.{ObjectId}
use Rattle.ps_model.specs.declared.texts.Joiner.{Joiner}
use Rattle.ps_model.specs.declared.texts.Joiner.TheVariants.{Alone, And, Or}
use Rattle.ps_model.specs.declared.faults.Fault.{Fault}
use Rattle.ps_model.specs.declared.faults.FaultKind.TheVariants.{NoLayer, NoBackground, NoPlayer, BadBackground}
use Rattle.ps_model.specs.declared.faults.FaultKind.TheVariants.{BadPlayer, SameLayerAggregate}
use Rattle.ps_model.specs.text.Faults.{when}
use Rattle.ps_model.specs.text.Lines.{Line, folded}
use Rattle.ps_model.specs.names.Names.{Meaning, members_if}
use Rattle.ps_model.specs.names.ObjectLines.{ObjectText}
use Rattle.ps_model.specs.names.Meanings.{is_aggregate}
use Rattle.ps_model.specs.names.NamesRead.{NameSections, name_sections, entries_of, layer_numbers}
use Rattle.ps_model.specs.names.DeclarationFaults.{object_faults, form_faults, naming_faults, layer_faults}

-- an object on no layer, NA9
abbrev pub no_layer_faults : NameSections → List Fault
no_layer_faults sections = flat_map (λ each. when (is_none each.1) NoLayer each.0.line)
    (zip sections.objects sections.object_layers)

-- what a name, its letters folded, stands for
abbrev pub meaning_named : NameSections → List ℕ → Option Meaning
meaning_named sections name = lookup (bytes_eq name) (entries_of sections.declared)

-- Background isn't declared, NA10, or Player isn't, NA11: at the header OBJECTS
abbrev pub missing_faults : ℕ → NameSections → List Fault
missing_faults header sections =
    when (is_none (meaning_named sections (codes "background"))) NoBackground header ++ when
    (is_none (meaning_named sections (codes "player"))) NoPlayer header

-- the numbers of the legend lines that declare a name
abbrev pub lines_declaring : NameSections → List ℕ → List ℕ
lines_declaring sections name = map (λ declared.
    declared.line) (filter (λ declared. bytes_eq name (folded declared.name)) sections.legend)

-- the layers of objects
abbrev pub layers_among : List ℕ → List ObjectId → List ℕ
layers_among layers objects = map (λ object. slice_index_or layers object.0 0) objects

-- numbers that aren't all the same
abbrev pub differ : List ℕ → Bool
differ [] = false
differ (number ∷ others) = not (list_all (nat_eq number) others)

-- numbers of which two are the same
abbrev pub repeat : List ℕ → Bool
repeat [] = false
repeat (number ∷ others) = list_any (nat_eq number) others || repeat others

-- a bad Background, NA12: an aggregate, or members on several layers
abbrev pub is_bad_background : List ℕ → Option Meaning → Bool
is_bad_background layers meaning = is_aggregate meaning || differ (layers_among layers (members_if meaning))

-- it is told at the line that declares the name; that line is one of LEGEND, as an object is a good one
abbrev pub background_faults : NameSections → List ℕ → List Fault
background_faults sections layers =
    let bad : Bool = is_bad_background layers (meaning_named sections (codes "background")) in
    flat_map (λ line. when bad BadBackground line) (lines_declaring sections (codes "background"))

-- a bad Player, NA13, an aggregate, at the line that declares the name
abbrev pub player_faults : NameSections → List Fault
player_faults sections =
    let bad : Bool = is_aggregate (meaning_named sections (codes "player")) in
    flat_map (λ line. when bad BadPlayer line) (lines_declaring sections (codes "player"))

-- a line that declares an aggregate with two objects of one layer, NA15
abbrev pub shares_layer : List ℕ → Joiner → Option Meaning → Bool
shares_layer layers Alone meaning = false
shares_layer layers And meaning = repeat (layers_among layers (members_if meaning))
shares_layer layers Or meaning = false

-- those lines, each with its fault
abbrev pub shared_layer_faults : NameSections → List ℕ → List Fault
shared_layer_faults sections layers =
    flat_map (λ each. when (shares_layer layers each.0.joiner each.1) SameLayerAggregate each.0.line)
    (zip sections.legend sections.meanings)

-- what is wrong with the whole
abbrev pub whole_faults : ℕ → NameSections → List Fault
whole_faults header sections =
    let layers : List ℕ = layer_numbers sections.object_layers in
    no_layer_faults sections
    ++ (missing_faults header sections ++ (background_faults sections layers ++
    (player_faults sections ++ shared_layer_faults sections layers)))

-- all together --------------------------------------------------------------------------------------------------------

-- the names that the objects declare, letters folded
abbrev pub folded_names : List ObjectText → List (List ℕ)
folded_names objects = flat_map (λ object. map folded object.words) objects

-- the faults of these sections, whose header OBJECTS has that number
abbrev pub faults_of_sections : ℕ → NameSections → List Fault
faults_of_sections header sections =
    object_faults 0 [] sections.objects
    ++ (form_faults (folded_names sections.objects) sections.legend_lines
    ++ (naming_faults sections.legend sections.meanings ++
    (layer_faults sections.layers ++ whole_faults header sections)))

-- the faults of the lines of OBJECTS, whose header has that number, LEGEND and COLLISIONLAYERS
abbrev pub name_faults : ℕ → List Line → List Line → List Line → List Fault
name_faults header object_lines legend_lines layer_lines =
    faults_of_sections header (name_sections object_lines legend_lines layer_lines)
