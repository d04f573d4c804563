-- The names of whole texts, and small texts of which one section is given, for worked rows.
use Rattle.std.proofs.Common.{ℕ, List, [], ◌∷◌, ◌++◌, Option, map}
use Rattle.std.specs.Prelude.{codes, ◌+◌, ◌/◌, ◌%◌}
use Rattle.ps_model.specs.declared.pieces.ObjectId.{ObjectId}
use Rattle.ps_model.specs.declared.texts.Section.TheVariants.{Objects, Legend, Layers}
use Rattle.ps_model.specs.declared.faults.Fault.{Fault}
use Rattle.ps_model.specs.text.Faults.{first_fault}
use Rattle.ps_model.specs.text.Lines.{Line, lines_of}
use Rattle.ps_model.specs.names.Names.{Meaning, Names, meaning_of}
use Rattle.ps_model.specs.names.NamesRead.{names_read}
use Rattle.ps_model.specs.names.NameFaults.{name_faults}
use Rattle.ps_model.specs.text.Sections.{section_lines, header_number}

-- whole texts ---------------------------------------------------------------------------------------------------------

abbrev pub names_of_lines : List Line → Names
names_of_lines lines = names_read (section_lines lines Objects) (section_lines lines Legend)
    (section_lines lines Layers)

-- the names of a text
abbrev pub names_of_text : List ℕ → Names
names_of_text text = names_of_lines (lines_of text)

abbrev pub first_fault_of_lines : List Line → Option Fault
first_fault_of_lines lines = first_fault (name_faults (header_number lines Objects) (section_lines lines Objects)
    (section_lines lines Legend) (section_lines lines Layers))

-- the first fault of the names of a text
abbrev pub first_name_fault : List ℕ → Option Fault
first_name_fault text = first_fault_of_lines (lines_of text)

-- what names stand for in a text
abbrev pub meanings_in : List ℕ → List (List ℕ) → List (Option Meaning)
meanings_in text names = let read : Names = names_of_text text in map (meaning_of read) names

abbrev pub object : ℕ → ObjectId
object number = record { 0 = number }

-- small texts ---------------------------------------------------------------------------------------------------------

-- a text whose lines of OBJECTS end with these, from line 6 on, below Background and Player; with these layers
abbrev pub with_objects : List ℕ → List ℕ → List ℕ
with_objects objects layers = codes "OBJECTS\nBackground .\nx\nPlayer\nx\n" ++
    (objects ++ (codes "\nCOLLISIONLAYERS\nBackground\nPlayer\n" ++ layers))

-- five objects, in 11 lines
abbrev pub five_objects : List ℕ
five_objects = codes "OBJECTS\nBackground\nx\nPlayer\nx\nA\nx\nB #\nx\nC\nx\n"

-- a text with five objects, each on a layer of its own, and with these lines of LEGEND, from line 13 on
abbrev pub with_legend : List ℕ → List ℕ
with_legend legend = five_objects ++ (codes "LEGEND\n" ++
    (legend ++ codes "\nCOLLISIONLAYERS\nBackground\nPlayer\nA\nB\nC"))

-- a text with five objects and these lines of COLLISIONLAYERS, from line 13 on
abbrev pub with_layers : List ℕ → List ℕ
with_layers layers = five_objects ++ (codes "COLLISIONLAYERS\n" ++ layers)

-- a text with five objects, these lines of LEGEND, from line 13 on, and these of COLLISIONLAYERS
abbrev pub with_both : List ℕ → List ℕ → List ℕ
with_both legend layers = five_objects ++ (codes "LEGEND\n" ++ (legend ++ (codes "\nCOLLISIONLAYERS\n" ++ layers)))

-- a number below 100 as a name
abbrev pub two_digits : ℕ → List ℕ
two_digits number = (48 + number / 10) ∷ (48 + number % 10) ∷ []
