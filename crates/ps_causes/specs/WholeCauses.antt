-- Why a name for several objects can't be that, and when that is true of the text.
use Rattle.std.specs.Prelude.{◌≡◌, ℕ, nat_eq, true, false, List}
use Rattle.ps_text.specs.declared.cutting.Word.{Word}
use Rattle.ps_facts.specs.declared.names.Named.{Named}
use Rattle.ps_facts.specs.declared.signs.Sign.{Sign}
use Rattle.ps_facts.specs.declared.signs.Sign.TheVariants.{And, Or}
use Rattle.ps_facts.specs.Declarations.{IsDeclaredAt}
use Rattle.ps_facts.specs.Joined.{IsJoinedAt}
use Rattle.ps_facts.specs.LayerWords.{IsInLayer}
use Rattle.ps_facts.specs.LineWords.{IsWordOf}
use Rattle.ps_facts.specs.Signs.{is_same}
use Rattle.ps_causes.specs.declared.causes.WholeCause.{WholeCause}
use Rattle.ps_causes.specs.declared.causes.WholeCause.TheVariants.{AllAtOnce, AnyOfThem, OnTwoLayers, OnOneLayer}

-- a word of a line that a line of LEGEND with that sign declares
pub record IsJoinedName (text : List ℕ) (line : ℕ) (word : Word) (first : Named) (sign : Sign) : Type 0 where
  pub stands : IsWordOf text line word
  pub declared_there : IsDeclaredAt text first.line first.name.now
  pub same : is_same word.text.now first.name.now ≡ true
  pub joined : IsJoinedAt text first.line sign

-- two words of a line that stand in two lines of COLLISIONLAYERS
pub record IsOnTwoLayers (text : List ℕ) (line : ℕ) (word : Word) (layer : ℕ) (other : Word) (other_layer : ℕ) :
    Type 0 where
  pub stands : IsWordOf text line word
  pub other_stands : IsWordOf text line other
  pub has_word : IsInLayer text word.text.now layer
  pub has_other : IsInLayer text other.text.now other_layer
  pub two : nat_eq layer other_layer ≡ false

-- two words of a line that stand in one line of COLLISIONLAYERS
pub record IsOnOneLayer (text : List ℕ) (line : ℕ) (word other : Word) (layer : ℕ) : Type 0 where
  pub stands : IsWordOf text line word
  pub other_stands : IsWordOf text line other
  pub has_word : IsInLayer text word.text.now layer
  pub has_other : IsInLayer text other.text.now layer
  pub two : is_same word.text.now other.text.now ≡ false

-- what is said about such a name is true
abbrev pub IsToldOfWhole : List ℕ → ℕ → WholeCause → Type 0
IsToldOfWhole text line (AllAtOnce word first) = IsJoinedName text line word first And
IsToldOfWhole text line (AnyOfThem word first) = IsJoinedName text line word first Or
IsToldOfWhole text line (OnTwoLayers word layer other other_layer) =
    IsOnTwoLayers text line word layer other other_layer
IsToldOfWhole text line (OnOneLayer word other layer) = IsOnOneLayer text line word other layer
