-- Lines and words of texts, worked by hand.
use Rattle.std.proofs.Common.{◌≡◌, [], ◌∷◌, map, length, refl, Some, None, true, false}
use Rattle.std.specs.Prelude.{codes}
use Rattle.ps_model.specs.declared.texts.Cut.TheVariants.{Blanks, Legend, Layers}
use Rattle.ps_model.specs.declared.texts.Section.TheVariants.{Prelude, Objects, Layers as LayersSection, Rules, Levels}
use Rattle.ps_model.specs.text.Words.{word_texts}
use Rattle.ps_model.specs.text.Lines.{raw_lines, lines_of}
use Rattle.ps_model.specs.text.LineNumbers.{line_at}
use Rattle.ps_examples.proofs.games.BaseText.{base_text}

-- an empty text has one empty line, a final line feed begins no further line, an empty line in between is one
no_text : raw_lines [] ≡ [] ∷ []
no_text = refl

one_feed : raw_lines (codes "\n") ≡ [] ∷ []
one_feed = refl

final_feed : raw_lines (codes "a\n\nb\n") ≡ codes "a" ∷ [] ∷ codes "b" ∷ []
final_feed = refl

two_feeds : raw_lines (codes "a\n\n") ≡ codes "a" ∷ [] ∷ []
two_feeds = refl

-- line 27 of the base text is a layer of three names
layer_words : word_texts Layers (line_at (base_text (codes "P..")) 27).bytes ≡ codes "Player" ∷ codes "Wall" ∷ codes
    "Crate" ∷ []
layer_words = refl

-- `=` is a word by itself in a legend, also without blanks round it, and not elsewhere
legend_words : word_texts Legend (codes "@=Crate and\tTarget\r") ≡ codes "@" ∷ codes "=" ∷ codes "Crate" ∷ codes "and"
    ∷ codes "Target" ∷ []
legend_words = refl

plain_words : word_texts Blanks (codes " a=b  c,d ") ≡ codes "a=b" ∷ codes "c,d" ∷ []
plain_words = refl

-- sections by the last header at or above a line, whatever the case of its letters
sections : map (λ line. line.section) (lines_of (codes "title x\nobjects\nA\nred\nCollisionLayers\nA\nLEVELS\n")) ≡
    Prelude ∷ Objects ∷ Objects ∷ Objects ∷ LayersSection ∷ LayersSection ∷ Levels ∷ []
sections = refl

-- a header has no other word beside it
no_header : map (λ line. line.section) (lines_of (codes "objects x\nrules")) ≡ Prelude ∷ Rules ∷ []
no_header = refl

line_count : length (lines_of (base_text (codes "P.."))) ≡ 32
line_count = refl

-- a byte order mark is read past: the first line begins after it
mark : (line_at (239 ∷ 187 ∷ 191 ∷ codes "title x") 1).start ≡ 3
mark = refl

-- the title is taken as it stands, blanks at its ends left out; `message` begins a text in LEVELS alone
title : (line_at (codes "\n  Title  A  b \r\n") 2).taken ≡ Some (record { start = 10; bytes = codes "A  b" })
title = refl

no_title : (line_at (codes "titles A") 1).taken ≡ None
no_title = refl

empty_title : (line_at (codes "title  ") 1).taken ≡ Some (record { start = 7; bytes = [] })
empty_title = refl

message : (line_at (codes "LEVELS\nmessage Hi  you") 2).taken ≡ Some (record { start = 15; bytes = codes "Hi  you" })
message = refl

-- a line of `=` and blanks isn't there; a blank line is
divider : (line_at (codes "= == \n") 1).is_there ≡ false
divider = refl

blank : (line_at (codes "  \n") 1).is_there ≡ true
blank = refl
