-- Texts with layers, good and bad, and what is wrong with the names as a whole, worked by hand. The lines of
-- COLLISIONLAYERS are those from line 13 on. They are those from line 15 on where there is a LEGEND of one line, from
-- line 16 on where it has two.
use Rattle.std.proofs.Common.{◌≡◌, ℕ, List, [], ◌∷◌, ◌++◌, map, refl, Option, Some, None}
use Rattle.std.specs.Prelude.{codes, flat_map}
use Rattle.std.specs.List.{range_with_len}
use Rattle.std.specs.Str.{chars}
use Rattle.ps_model.specs.declared.faults.Fault.{Fault}
use Rattle.ps_model.specs.declared.faults.FaultKind.{FaultKind}
use Rattle.ps_model.specs.declared.faults.FaultKind.TheVariants.{UnknownName, AggregateInLayer, NoLayer, NoBackground}
use Rattle.ps_model.specs.declared.faults.FaultKind.TheVariants.{NoPlayer, BadBackground, BadPlayer, TooManyNames}
use Rattle.ps_model.specs.declared.faults.FaultKind.TheVariants.{SameLayerAggregate, BadLine}
use Rattle.ps_model.specs.names.Names.{One, AllOf, AnyOf}
use Rattle.ps_examples.proofs.games.BaseText.{base_head}
use Rattle.ps_examples.proofs.names.NameTexts.{names_of_text, first_name_fault, with_layers, with_both, meanings_in}
use Rattle.ps_examples.proofs.names.NameTexts.{object}

abbrev at : FaultKind → ℕ → Option Fault
at kind line = Some (record { kind = kind; line = line })

-- the first fault of a text with these lines of COLLISIONLAYERS
abbrev fault : List ℕ → Option Fault
fault layers = first_name_fault (with_layers layers)

-- the first fault of a text with these lines of LEGEND and of COLLISIONLAYERS
abbrev fault_with : List ℕ → List ℕ → Option Fault
fault_with legend layers = first_name_fault (with_both legend layers)

-- the names of the base text ------------------------------------------------------------------------------------------

-- nine objects on four layers; the layers of Background, Wall, Player, Crate, Target, A, B, C and D
base_layers : (names_of_text base_head).layers ≡ 0 ∷ 2 ∷ 2 ∷ 2 ∷ 1 ∷ 3 ∷ 3 ∷ 3 ∷ 3 ∷ []
unfolding chars
base_layers = refl

base_layer_count : (names_of_text base_head).layer_count ≡ 4
unfolding chars
base_layer_count = refl

-- glyphs are the names of one character, but for properties, in order of declaration, as they are written
base_glyphs : map (λ glyph. glyph.character) (names_of_text base_head).glyphs ≡ codes ".#P*OABCD@"
unfolding chars
base_glyphs = refl

base_names : map (λ entry. entry.0) (names_of_text base_head).entries
    ≡ codes "background" ∷ codes "." ∷ codes "wall" ∷ codes "#" ∷ codes "player" ∷ codes "p" ∷ codes "crate" ∷ codes
    "*" ∷ codes "target" ∷ codes "o"
    ∷ codes "a" ∷ codes "b" ∷ codes "c" ∷ codes "d" ∷ codes "@" ∷ codes "at" ∷ []
unfolding chars
base_names = refl

base_meanings : meanings_in base_head (codes "CRATE" ∷ codes "*" ∷ codes "@" ∷ codes "at" ∷ codes "x" ∷ [])
    ≡ Some (One (object 3)) ∷ Some (One (object 3)) ∷ Some (AllOf 22 (object 3 ∷ object 4 ∷ [])) ∷ Some
    (AnyOf 23 (object 5 ∷ object 4 ∷ [])) ∷ None ∷ []
unfolding chars
base_meanings = refl

base_fault : first_name_fault base_head ≡ None
unfolding chars
base_fault = refl

-- names of the legend are glyphs too where they stand for an object or an aggregate, through synonyms as well
glyphs_of_legend : map (λ glyph. glyph.character)
    (names_of_text (with_both (codes "x = Player\ny = A or C\nZ = A and B\n") (codes "\nA\nB\nPlayer y"))).glyphs ≡
    codes "AB#CxZ"
unfolding chars
glyphs_of_legend = refl

-- layers --------------------------------------------------------------------------------------------------------------

-- a property stands for its members, a synonym for its object; the last layer that names an object counts; blank lines
-- are read past; commas and blanks part names
layers : (names_of_text (with_both (codes "P = A or B\nS = c") (codes "Background,C\n\n, s,,Player p\n \nB"))).layers ≡
    0 ∷ 1 ∷ 1 ∷ 2 ∷ 1 ∷ []
unfolding chars
layers = refl

layer_count : (names_of_text (with_both (codes "P = A or B\nS = c")
    (codes "Background,C\n\n, s,,Player p\n \nB"))).layer_count ≡ 3
unfolding chars
layer_count = refl

good_layers : first_name_fault (with_both (codes "P = A or B\nS = c") (codes "Background,C\n\n, s,,Player p\n \nB")) ≡
    None
unfolding chars
good_layers = refl

-- NA4, NA8, NA16 ------------------------------------------------------------------------------------------------------

unknown : fault (codes "Background\nPlayer A, Zed\nB C") ≡ at UnknownName 14
unfolding chars
unknown = refl

aggregate_on_layer : map (λ layers. fault_with (codes "X = A and A\nY = X") layers)
    (codes "Background\nPlayer A B C\nX" ∷ codes "Background\nPlayer A B Y C" ∷ []) ≡ at AggregateInLayer 18 ∷ at
    AggregateInLayer 17 ∷ []
unfolding chars
aggregate_on_layer = refl

no_name : fault (codes "Background\nPlayer A\n,\nB C") ≡ at BadLine 15
unfolding chars
no_name = refl

-- within a line the lesser code is told, and of two lines the earlier
unknown_before_aggregate : fault_with (codes "X = A and B") (codes "Background\nX Zed\nPlayer A B C") ≡ at UnknownName
    16
unfolding chars
unknown_before_aggregate = refl

by_line : fault_with (codes "X = A and B") (codes "Background\n,\nX Zed\nPlayer A B C") ≡ at BadLine 16
unfolding chars
by_line = refl

-- NA14 ----------------------------------------------------------------------------------------------------------------

-- as many layers, and below them another
abbrev many_layers : ℕ → List ℕ → List ℕ
many_layers count last = flat_map (λ number. codes "Background Player A B C\n") (range_with_len 0 count) ++ last

as_many_as_may_be : fault (many_layers 127 (codes "A\n\n")) ≡ None
unfolding chars
as_many_as_may_be = refl

one_over : map (λ last. fault (many_layers 128 last)) (codes "A" ∷ codes "," ∷ codes "Zed" ∷ []) ≡ at TooManyNames 141
    ∷ at TooManyNames 141 ∷ at UnknownName 141 ∷ []
unfolding chars
one_over = refl

-- NA9 to NA15 ---------------------------------------------------------------------------------------------------------

-- at the line of the first object on no layer
no_layer : fault (codes "Background\nPlayer B") ≡ at NoLayer 6
unfolding chars
no_layer = refl

-- at the header OBJECTS
no_background : first_name_fault (codes "\nOBJECTS\nPlayer\nx\nCOLLISIONLAYERS\nPlayer") ≡ at NoBackground 2
unfolding chars
no_background = refl

no_player : first_name_fault (codes "\n\nOBJECTS\nBackground\nx\nCOLLISIONLAYERS\nBackground") ≡ at NoPlayer 3
unfolding chars
no_player = refl

-- texts with these lines of LEGEND, from line 6 on, and of COLLISIONLAYERS; `Background` and `Player` are no objects
abbrev of_two : List ℕ → List ℕ → Option Fault
of_two legend layers = first_name_fault (codes "OBJECTS\nA\nx\nB\nx\nLEGEND\n" ++
    (legend ++ (codes "\nCOLLISIONLAYERS\n" ++ layers)))

-- Background and Player may be synonyms and properties; the members of Background lie on one layer, those of Player
-- anywhere
synonyms : of_two (codes "Player = background\nBackground = A") (codes "A\nB") ≡ None
unfolding chars
synonyms = refl

properties : of_two (codes "Background = P\nP = A or B\nPlayer = P") (codes "Background") ≡ None
unfolding chars
properties = refl

player_on_two_layers : of_two (codes "Background = A\nPlayer = A or B") (codes "A\nB") ≡ None
unfolding chars
player_on_two_layers = refl

-- at the line that declares the word
background_on_two_layers : of_two (codes "Player = A\nP = A or B\nBackground = Q\nQ = P") (codes "A\nB") ≡ at
    BadBackground 9
unfolding chars
background_on_two_layers = refl

aggregate_as_background : of_two (codes "Player = A\nBackground = P\nP = A and A") (codes "A\nB") ≡ at BadBackground 8
unfolding chars
aggregate_as_background = refl

aggregate_as_player : of_two (codes "Background = A\nX = A and B\nPLAYER = x") (codes "A\nB") ≡ at BadPlayer 9
unfolding chars
aggregate_as_player = refl

-- two objects of one layer in an aggregate, at the first line that declares such a one; a synonym declares none
one_layer : of_two (codes "Background = A\nPlayer = B\nS = X\nX = S2 and Background\nS2 = B and A") (codes "A B") ≡ at
    SameLayerAggregate 10
unfolding chars
one_layer = refl

one_object_twice : of_two (codes "Background = A\nPlayer = B\nX = A and a and Background") (codes "A B") ≡ None
unfolding chars
one_object_twice = refl

last_layer_counts : of_two (codes "Background = A\nPlayer = B\nX = A and B") (codes "A B\nB") ≡ None
unfolding chars
last_layer_counts = refl

-- kind by kind, whichever line comes first
kind_by_kind : map (λ legend. of_two legend (codes "A B"))
    (codes "Player = A and B" ∷ codes "X = A and B\nBackground = X" ∷ codes "X = A and B\nPlayer = X\nBackground = X" ∷
    codes "X = A and B\nPlayer = X\nBackground = A or B" ∷ codes "X = A and B\nPlayer = A\nBackground = B" ∷ [])
    ≡ at NoBackground 1 ∷ at NoPlayer 1 ∷ at BadBackground 9 ∷ at BadPlayer 8 ∷ at SameLayerAggregate 7 ∷ []
unfolding chars
kind_by_kind = refl

no_layer_first : of_two (codes "Player = A and A") (codes "A") ≡ at NoLayer 4
unfolding chars
no_layer_first = refl
