-- What the marks of a cause stand below.
use Rattle.std.specs.Prelude.{ℕ, suc, ◌+◌, ◌-◌, ◌==◌, if◌then◌else◌, Option, Some, None, List, [], ◌∷◌}
use Rattle.ps_text.specs.declared.cutting.Word.{Word}
use Rattle.ps_causes.specs.declared.causes.Cause.{Cause}
use Rattle.ps_causes.specs.declared.causes.Cause.TheVariants.{Untold, Undeclared, Meaningless, Unlayered, UnknownGlyph}
use Rattle.ps_causes.specs.declared.causes.Cause.TheVariants.{BrokenRow, LateHeader, MissingSection, Twice, Slip}
use Rattle.ps_causes.specs.declared.causes.Cause.TheVariants.{Slashes, LikeHeader, OpenGlyph, BelowLike, Utf16}
use Rattle.ps_causes.specs.declared.causes.Cause.TheVariants.{InRule, InLoop, InWhole, InObject, OnlyCommas}
use Rattle.ps_causes.specs.declared.causes.Cause.TheVariants.{BrokenByte}
use Rattle.ps_causes.specs.declared.causes.LoopCause.{LoopCause}
use Rattle.ps_causes.specs.declared.causes.LoopCause.TheVariants.{Nested, Unbegun, Unended}
use Rattle.ps_causes.specs.declared.causes.ObjectCause.{ObjectCause}
use Rattle.ps_causes.specs.declared.causes.ObjectCause.TheVariants.{RowName, Colourless, ShortSprite}
use Rattle.ps_causes.specs.declared.causes.RuleCause.{RuleCause}
use Rattle.ps_causes.specs.declared.causes.RuleCause.TheVariants.{BrokenArrow, Pair, Several, Unbound, Rows, Cells, GoesOn}
use Rattle.ps_causes.specs.declared.causes.WholeCause.{WholeCause}
use Rattle.ps_causes.specs.declared.causes.WholeCause.TheVariants.{AllAtOnce, AnyOfThem, OnTwoLayers, OnOneLayer}
use Rattle.ps_why.specs.declared.marks.Mark.{Mark}
use Rattle.ps_why.specs.declared.marks.Marks.{Marks}
use Rattle.ps_why.specs.Lines.{goes_on}

-- one word or place ---------------------------------------------------------------------------------------------------

-- a mark below the bytes of a word
abbrev pub below : Word → Mark
below word = record { from = word.span.start; to = word.span.end }

-- a mark alone
abbrev pub alone : Mark → Option Marks
alone mark = Some (record { mark = mark; other = None })

-- below a word
abbrev pub mark_of_word : Word → Option Marks
mark_of_word word = alone (below word)

-- below a word and another one before it
abbrev pub marks_of_two : Word → Word → Option Marks
marks_of_two word other = Some (record { mark = below word; other = Some (below other) })

-- below the blank after a word
abbrev pub mark_behind : Word → Option Marks
mark_behind word = alone (record { from = word.span.end; to = suc word.span.end })

-- the place of the first byte of a character, counted from 1 among those of bytes of which the first has this place
abbrev pub character_place : ℕ → ℕ → List ℕ → Option ℕ
character_place place column [] = None
character_place place column (byte ∷ bytes) =
    if goes_on byte then character_place (suc place) column bytes
    else (if column == 1 then Some place else character_place (suc place) (column - 1) bytes)

-- below one byte
abbrev pub mark_at : ℕ → Option Marks
mark_at place = alone (record { from = place; to = suc place })

-- below a character of a word, counted from 1
abbrev pub mark_of_character : Word → ℕ → Option Marks
mark_of_character word column = elim (character_place 0 column word.text.now)
    [ None ↦ None | Some at ↦ mark_at (word.span.start + at) ]

-- causes of several kinds ---------------------------------------------------------------------------------------------

-- the word of a rule
abbrev pub marked_in_rule : RuleCause → Word
marked_in_rule (Pair word other shared) = word
marked_in_rule (Several word declared) = word
marked_in_rule (Unbound word times could) = word
marked_in_rule (Rows arrow left right) = arrow
marked_in_rule (Cells arrow row left right) = arrow
marked_in_rule (BrokenArrow word other) = word
marked_in_rule (GoesOn word further) = word

-- of two names both, and of the two words of an arrow
abbrev pub marks_in_rule : RuleCause → Option Marks
marks_in_rule (Pair word other shared) = marks_of_two word other
marks_in_rule (Several word declared) = mark_of_word word
marks_in_rule (Unbound word times could) = mark_of_word word
marks_in_rule (Rows arrow left right) = mark_of_word arrow
marks_in_rule (Cells arrow row left right) = mark_of_word arrow
marks_in_rule (BrokenArrow word other) = marks_of_two word other
marks_in_rule (GoesOn word further) = mark_of_word word

-- the word of a line that begins or ends a loop
abbrev pub marked_in_loop : LoopCause → Word
marked_in_loop (Nested word line) = word
marked_in_loop (Unbegun word ended) = word
marked_in_loop (Unended word) = word

-- the word of a line of LEGEND: of two that lie apart, the second
abbrev pub marked_in_whole : WholeCause → Word
marked_in_whole (AllAtOnce word first) = word
marked_in_whole (AnyOfThem word first) = word
marked_in_whole (OnTwoLayers word layer other other_layer) = other
marked_in_whole (OnOneLayer word other layer) = word

-- of two words on one layer both
abbrev pub marks_in_whole : WholeCause → Option Marks
marks_in_whole (AllAtOnce word first) = mark_of_word word
marks_in_whole (AnyOfThem word first) = mark_of_word word
marks_in_whole (OnTwoLayers word layer other other_layer) = mark_of_word other
marks_in_whole (OnOneLayer word other layer) = marks_of_two word other

-- the word of an object's line
abbrev pub marked_in_object : ObjectCause → Word
marked_in_object (RowName word) = word
marked_in_object (Colourless name line) = name
marked_in_object (ShortSprite name rows line) = name

-- what the marks of a cause stand below, if it has any
abbrev pub marks_of : Cause → Option Marks
marks_of Untold = None
marks_of (Undeclared word hint) = mark_of_word word
marks_of (Meaningless word hint) = mark_of_word word
marks_of (Unlayered word) = mark_of_word word
marks_of (UnknownGlyph row character column) = mark_of_character row column
marks_of (BrokenRow row blank) = mark_behind row
marks_of (LateHeader header section above other) = mark_of_word header
marks_of (MissingSection section clue) = None
marks_of (Twice word first) = mark_of_word word
marks_of (Slashes word) = mark_of_word word
marks_of (LikeHeader word section) = mark_of_word word
marks_of (Slip word slip) = mark_of_word word
marks_of (InRule cause) = marks_in_rule cause
marks_of (InLoop cause) = mark_of_word (marked_in_loop cause)
marks_of (InWhole cause) = marks_in_whole cause
marks_of (InObject cause) = mark_of_word (marked_in_object cause)
marks_of (OnlyCommas place) = alone (record { from = place - 1; to = place })
marks_of (OpenGlyph row character column open_name) = mark_of_character row column
marks_of (BelowLike word section above) = mark_of_word word
marks_of (Utf16 order) = None
marks_of (BrokenByte place byte) = alone (record { from = place - 1; to = place })
