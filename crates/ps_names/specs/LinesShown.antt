-- The lines of the code as the lines of the definitions.
use Rattle.std.specs.Prelude.{ℕ, List, ◌≡◌, map}
use Rattle.ps_model.specs.declared.texts.Cut.{Cut}
use Rattle.ps_model.specs.text.WrittenLines as model
use Rattle.ps_model.specs.names.ObjectLines as objects
use Rattle.ps_model.specs.text.Words.{word_texts}
use Rattle.ps_text.specs.WordViews.{text_of, texts_under}
use Rattle.ps_names.specs.declared.lines.WrittenLine.{WrittenLine}
use Rattle.ps_names.specs.declared.objects.ObjectText.{ObjectText}

-- a cut whose words are found without looking ahead
abbrev pub IsPlainCut : Cut → Type 0
IsPlainCut cut = (bytes : List ℕ) → texts_under cut bytes ≡ word_texts cut bytes

abbrev pub line_shown : WrittenLine → model.WrittenLine
line_shown line = record { number = line.number; words = map text_of line.words.items }

abbrev pub lines_shown : List WrittenLine → List model.WrittenLine
lines_shown lines = map line_shown lines

abbrev pub object_shown : ObjectText → objects.ObjectText
object_shown object = record { line = object.line; words = map text_of object.words.items; below = object.below }

abbrev pub objects_shown : List ObjectText → List objects.ObjectText
objects_shown objects = map object_shown objects
