-- The names of texts, worked by hand.
use Rattle.std.proofs.Common.{◌≡◌, ℕ, List, [], ◌∷◌, map, refl, Some, None, true, false, Bool}
use Rattle.std.specs.Prelude.{codes, is_none}
use Rattle.std.specs.Str.{chars}
use Rattle.ps_model.specs.declared.pieces.ObjectId.{ObjectId}
use Rattle.ps_model.specs.names.Names.{Names, One, AllOf, AnyOf, meaning_of}
use Rattle.ps_model.specs.text.Faults.{first_fault}
use Rattle.ps_model.specs.text.LineNumbers.{lines_between}
use Rattle.ps_model.specs.names.NamesRead.{names_read}
use Rattle.ps_model.specs.names.NameFaults.{name_faults}
use Rattle.ps_examples.proofs.games.BaseText.{base_head}

abbrev object : ℕ → ObjectId
object number = record { 0 = number }

-- the names of the base text, whose sections begin right below lines 2, 21 and 24
abbrev base_names : Names
base_names = names_read (lines_between base_head 3 21) (lines_between base_head 22 24) (lines_between base_head 25 29)

-- nine objects, in order of declaration, on four layers
layers : base_names.layers ≡ 0 ∷ 2 ∷ 2 ∷ 2 ∷ 1 ∷ 3 ∷ 3 ∷ 3 ∷ 3 ∷ []
unfolding chars
layers = refl

layer_count : base_names.layer_count ≡ 4
unfolding chars
layer_count = refl

-- glyphs are the names of one character, but for properties, in order of declaration
glyphs : map (λ glyph. glyph.character) base_names.glyphs ≡ codes ".#P*OABCD@"
unfolding chars
glyphs = refl

-- a name is found whatever the case of its letters; an aggregate has all of its objects, a property any of them
meanings : map (meaning_of base_names) (codes "CRATE" ∷ codes "*" ∷ codes "@" ∷ codes "at" ∷ codes "x" ∷ [])
    ≡ Some (One (object 3)) ∷ Some (One (object 3)) ∷ Some (AllOf 22 (object 3 ∷ object 4 ∷ [])) ∷ Some
    (AnyOf 23 (object 5 ∷ object 4 ∷ [])) ∷ None ∷ []
unfolding chars
meanings = refl

-- whether three sections have no fault
abbrev has_names : List ℕ → List ℕ → List ℕ → Bool
has_names objects legend layers = is_none (first_fault
    (name_faults 0 (lines_between objects 1 99) (lines_between legend 1 99) (lines_between layers 1 99)))

abbrev two_objects : List ℕ
two_objects = codes "Background\nx\nPlayer p\ny\n00000\n.1234\n00000\n00000\n00000\n00000\nz\n"

-- after five sprite rows a further row of that kind names an object; a line of `=` isn't there
objects_good : has_names two_objects (codes "q = Player") (codes "Background, 00000\n===\nPlayer") ≡ true
unfolding chars
objects_good = refl

-- an object without a layer
no_layer : has_names two_objects (codes "q = Player") (codes "Background\nPlayer") ≡ false
unfolding chars
no_layer = refl

-- four sprite rows, then a blank line
short_sprite : has_names (codes "Background\nx\nPlayer p\ny\n00000\n.1234\n00000\n00000\n\n") []
    (codes "Background\nPlayer") ≡ false
unfolding chars
short_sprite = refl

-- no colours below the last name; a second name of two characters
no_colour : has_names (codes "Background\nx\nPlayer p\n") [] (codes "Background\nPlayer") ≡ false
unfolding chars
no_colour = refl

long_second : has_names (codes "Background\nx\nPlayer pp\ny") [] (codes "Background\nPlayer") ≡ false
unfolding chars
long_second = refl

-- one name twice, also by case alone
twice : has_names (codes "Background\nx\nPlayer P\ny\np\nz\n") [] (codes "Background p\nPlayer") ≡ false
unfolding chars
twice = refl

-- a property on a layer line stands for its members, and the last line that names an object counts; an aggregate needs
-- layers of their own for its objects
abbrev with_crates : List ℕ → List ℕ → Bool
with_crates legend layers = has_names (codes "Background\nx\nPlayer p\ny\nA\nz\nB\nz") legend layers

property_on_layer : with_crates (codes "AB = A or B") (codes "Background\nPlayer AB") ≡ true
unfolding chars
property_on_layer = refl

one_layer : with_crates (codes "AB = A and B") (codes "Background\nPlayer A B") ≡ false
unfolding chars
one_layer = refl

last_layer_counts : with_crates (codes "AB = A and B") (codes "Background\nPlayer A B\nA") ≡ true
unfolding chars
last_layer_counts = refl

aggregate_on_layer : with_crates (codes "AB = A and B") (codes "Background\nPlayer A\nAB") ≡ false
unfolding chars
aggregate_on_layer = refl

mixed : with_crates (codes "AB = A and B or A") (codes "Background\nPlayer A\nB") ≡ false
unfolding chars
mixed = refl

unknown : with_crates (codes "AB = A or C") (codes "Background\nPlayer A\nB") ≡ false
unfolding chars
unknown = refl

no_names_on_layer : with_crates [] (codes "Background\nPlayer A\nB\n,") ≡ false
unfolding chars
no_names_on_layer = refl
