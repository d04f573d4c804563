-- Lines of COLLISIONLAYERS that name an object which is on another layer: a later line names it, too, and an object is on
-- the last layer that names it. Each such line is told once, with the line that is the layer of its first such object.
use Rattle.std.specs.Prelude.{ℕ, nat_eq, Bool, not, Option, Some, None, List, [], ◌∷◌, filter, find, option_map}
use Rattle.std.specs.Prelude.{slice_index_or}
use Rattle.std.specs.List.{enumerate_from, flat_map}
use Rattle.ps_model.specs.declared.pieces.ObjectId.{ObjectId}
use Rattle.ps_model.specs.declared.texts.Cut.TheVariants.{Layers}
use Rattle.ps_model.specs.text.Lines.{Line, is_blank_line}
use Rattle.ps_model.specs.names.Names.{Names, layer_of, members_named}
use Rattle.ps_text.specs.WordViews.{texts_under}
use Rattle.ps_warnings.specs.declared.kinds.Warning.{Warning}
use Rattle.ps_warnings.specs.declared.kinds.WarningKind.TheVariants.{LayerTwice}
use Rattle.ps_warnings.specs.Numbers.{number_if}

-- the objects that words name, and those that a line names
abbrev pub objects_of_words : Names → List (List ℕ) → List ObjectId
objects_of_words names words = flat_map (members_named names) words

abbrev pub objects_on_line : Names → Line → List ObjectId
objects_on_line names line = objects_of_words names (texts_under Layers line.bytes)

-- an object is on another layer than that of the number
abbrev pub is_elsewhere : Names → ℕ → ObjectId → Bool
is_elsewhere names layer object = not (nat_eq (layer_of names object) layer)

-- the line that is the layer of an object, where the layers are lines of these numbers
abbrev pub line_of_object : Names → List ℕ → ObjectId → ℕ
line_of_object names numbers object = slice_index_or numbers (layer_of names object) 0

-- a line that names an object of another line's layer, if it does
abbrev pub warned_of_other : ℕ → Option ℕ → List Warning
warned_of_other line None = []
warned_of_other line (Some other) = record { line = line; kind = LayerTwice other } ∷ []

-- a line that is the layer of that number, and names these objects
abbrev pub warned_of_objects : Names → List ℕ → ℕ → ℕ → List ObjectId → List Warning
warned_of_objects names numbers layer line objects =
    warned_of_other line (option_map (line_of_object names numbers) (find (is_elsewhere names layer) objects))

-- a line with the number of the layer that it is
abbrev pub warnings_of_layer : Names → List ℕ → ℕ × Line → List Warning
warnings_of_layer names numbers layer =
    warned_of_objects names numbers layer.0 layer.1.number (objects_on_line names layer.1)

-- the lines that are layers, from the lowest: those that aren't blank
abbrev pub layers_in : List Line → List Line
layers_in lines = filter (λ line. not (is_blank_line line)) lines

-- the number of a line that is a layer
abbrev pub layer_number : Line → List ℕ
layer_number line = number_if (not (is_blank_line line)) line.number

-- the numbers of all of them
abbrev pub layer_numbers : List Line → List ℕ
layer_numbers lines = flat_map layer_number lines

-- the warnings of lines of which the first that is a layer is that of the number, where all layers are lines of these
-- numbers
abbrev pub layers_from : Names → List ℕ → ℕ → List Line → List Warning
layers_from names numbers layer lines =
    flat_map (warnings_of_layer names numbers) (enumerate_from layer (layers_in lines))

-- those of all lines of COLLISIONLAYERS
abbrev pub layer_warnings : Names → List Line → List Warning
layer_warnings names lines = layers_from names (layer_numbers lines) 0 lines
