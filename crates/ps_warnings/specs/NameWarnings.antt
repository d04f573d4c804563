-- Properties and aggregates that nothing uses: the game doesn't speak of one, and no line of COLLISIONLAYERS and no
-- other property or aggregate of LEGEND names it. A synonym is one and the same as what it stands for. An aggregate
-- that has a name of one character is let be, as that shows it in levels and in frames.
use Rattle.std.specs.Prelude.{ℕ, nat_eq, Bool, not, if◌then◌else◌, Option, Some, None, List, [], ◌∷◌, ◌++◌, filter}
use Rattle.std.specs.List.{flat_map}
use Rattle.ps_model.specs.declared.texts.Cut.{Cut}
use Rattle.ps_model.specs.declared.texts.Cut.TheVariants.{Legend, Layers}
use Rattle.ps_model.specs.text.Lines.{Line}
use Rattle.ps_model.specs.names.Names.{Glyph, Meaning, One, AllOf, AnyOf, Names, meaning_of}
use Rattle.ps_text.specs.WordViews.{texts_under}
use Rattle.ps_warnings.specs.declared.kinds.Warning.{Warning}
use Rattle.ps_warnings.specs.declared.kinds.WarningKind.TheVariants.{UnusedName}
use Rattle.ps_warnings.specs.Marks.{is_one_of}
use Rattle.ps_warnings.specs.Numbers.{number_if}

-- the line of LEGEND that declares a property or an aggregate; of an object, none
abbrev pub line_of : Meaning → List ℕ
line_of (One object) = []
line_of (AllOf line objects) = line ∷ []
line_of (AnyOf line objects) = line ∷ []

abbrev pub line_if : Option Meaning → List ℕ
line_if None = []
line_if (Some meaning) = line_of meaning

-- the lines of meanings, and those of glyphs
abbrev pub lines_meant : List Meaning → List ℕ
lines_meant meanings = flat_map line_of meanings

abbrev pub lines_of_glyphs : List Glyph → List ℕ
lines_of_glyphs glyphs = flat_map (λ glyph. line_of glyph.meaning) glyphs

-- the line of what a word names
abbrev pub line_named : Names → List ℕ → List ℕ
line_named names word = line_if (meaning_of names word)

-- those of the words of a line
abbrev pub lines_named : Names → Cut → Line → List ℕ
lines_named names cut line = flat_map (line_named names) (texts_under cut line.bytes)

-- a line of LEGEND of that number declares a property or an aggregate, where its words name those of these lines: its
-- own is one of them
abbrev pub declares : ℕ → List ℕ → Bool
declares own named = is_one_of named own

-- lines but for one
abbrev pub others_than : ℕ → List ℕ → List ℕ
others_than own lines = filter (λ line. not (nat_eq line own)) lines

-- the lines of the other properties and aggregates that such a line names
abbrev pub others_by : ℕ → List ℕ → List ℕ
others_by own named = if declares own named then others_than own named else []

abbrev pub others_named : Names → Line → List ℕ
others_named names line = others_by line.number (lines_named names Legend line)

-- the lines of the properties and aggregates that are used. The game has these names and speaks of this; the lines of
-- its LEGEND and COLLISIONLAYERS are these
abbrev pub used_lines : Names → List Meaning → List Line → List Line → List ℕ
used_lines names spoken legend layers =
    lines_meant spoken
    ++ (lines_of_glyphs names.glyphs
    ++ (flat_map (lines_named names Layers) layers ++ flat_map (others_named names) legend))

-- the lines of LEGEND that declare one
abbrev pub declaring_line : Names → Line → List ℕ
declaring_line names line = number_if (declares line.number (lines_named names Legend line)) line.number

abbrev pub declaring_lines : Names → List Line → List ℕ
declaring_lines names legend = flat_map (declaring_line names) legend

-- one that a line declares, unless it is used
abbrev pub warned_of_name : Bool → ℕ → List Warning
warned_of_name used line = if used then [] else record { line = line; kind = UnusedName } ∷ []

-- those that lines declare
abbrev pub warned_of_names : (ℕ → Bool) → List ℕ → List Warning
warned_of_names used lines = flat_map (λ line. warned_of_name (used line) line) lines

-- all of them, from the lines of LEGEND and COLLISIONLAYERS that are there
abbrev pub name_warnings : Names → List Meaning → List Line → List Line → List Warning
name_warnings names spoken legend layers =
    warned_of_names (is_one_of (used_lines names spoken legend layers)) (declaring_lines names legend)
