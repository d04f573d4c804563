-- Names and words of several moves on the right of a rule, and what of the left they could mean.
use Rattle.std.specs.Prelude.{◌≡◌, ℕ, ⊤, Bool, true, false, ◌+◌, ◌&&◌, ◌||◌, not, if◌then◌else◌, List}
use Rattle.std.specs.Prelude.{[], ◌∷◌, ◌++◌, codes}
use Rattle.ps_model.specs.names.Names.{Names}
use Rattle.ps_model.specs.names.Meanings.{is_property}
use Rattle.ps_text.specs.declared.cutting.Word.{Word}
use Rattle.ps_facts.specs.declared.signs.Sign.TheVariants.{Arrow, Without}
use Rattle.ps_facts.specs.Counts.{cells_begun}
use Rattle.ps_facts.specs.LineWords.{IsWordOf, texts_of}
use Rattle.ps_facts.specs.Places.{inside_behind, is_inside, is_barred}
use Rattle.ps_facts.specs.Signs.{is_sign, has_sign, is_any}
use Rattle.ps_causes.specs.declared.causes.Could.{Could}
use Rattle.ps_causes.specs.declared.causes.Could.TheVariants.{Nothing, Either, Other}
use Rattle.ps_causes.specs.declared.causes.Spot.{Spot}
use Rattle.ps_causes.specs.Meant.{names_in, meant, are_alike}

-- the word may mean several moves
abbrev pub is_of_several_moves : List ℕ → Bool
is_of_several_moves word =
    is_any (codes "moving" ∷ codes "orthogonal" ∷ codes "horizontal" ∷ codes "vertical" ∷ codes "parallel"
    ∷ codes "perpendicular" ∷ []) word

-- the word leaves something open: it may mean several moves, or several objects
abbrev pub is_open : Names → List ℕ → Bool
is_open names word = is_of_several_moves word || is_property (meant names word)

-- one more after a word in a cell that is like that one, unless `no` stands right before it
abbrev pub counted : Names → List ℕ → ℕ → Bool → Bool → List ℕ → ℕ
counted names word count inside barred other =
    if are_alike names word other && (inside && not barred) then count + 1 else count

-- how often words up to the arrow have one in a cell that is like that one and not after `no`. `count` have been before
-- them, brackets are open or aren't, and `no` stands right before them or doesn't
abbrev pub alike_from : Names → List ℕ → ℕ → Bool → Bool → List (List ℕ) → ℕ
alike_from names word count inside barred [] = count
alike_from names word count inside barred (other ∷ others) =
    if is_sign Arrow other then count else alike_from names word (counted names word count inside barred other)
    (inside_behind inside other) (is_sign Without other) others

-- how often the left of a rule has a word like that one, where these words begin its line
abbrev pub alike_on_left : Names → List ℕ → List (List ℕ) → ℕ
alike_on_left names word words = alike_from names word 0 false false words

-- a word of the left of a line's rule, in brackets and not after `no`, in the cell of that number
pub record IsSpot (text : List ℕ) (line : ℕ) (spot : Spot) : Type 0 where
  pub stands : IsWordOf text line spot.word
  pub before : List (List ℕ)
  pub behind : List (List ℕ)
  pub parts : texts_of text line ≡ before ++ spot.word.text.now ∷ behind
  pub on_the_left : has_sign Arrow before ≡ false
  pub in_a_cell : is_inside before ≡ true
  pub unbarred : is_barred before ≡ false
  pub counted : spot.cell ≡ cells_begun before

-- a word of the left that is like that one
abbrev pub IsAlikeSpot : List ℕ → ℕ → List ℕ → Spot → Type 0
IsAlikeSpot text line word spot =
    IsSpot text line spot × (are_alike (names_in text) word spot.word.text.now ≡ true)

-- what of the left could be meant
abbrev pub CouldBe : List ℕ → ℕ → List ℕ → Could → Type 0
CouldBe text line word Nothing = ⊤
CouldBe text line word (Either first second) = IsAlikeSpot text line word first × IsAlikeSpot text line word second
CouldBe text line word (Other spot) =
    IsSpot text line spot × (is_property (meant (names_in text) spot.word.text.now) ≡ true)

-- a word of a line that stands after the arrow and leaves something open; `times` like it stand before the arrow, and
-- some of these could be meant
pub record IsUnbound (text : List ℕ) (line : ℕ) (word : Word) (times : ℕ) (could : Could) : Type 0 where
  pub stands : IsWordOf text line word
  pub before : List (List ℕ)
  pub behind : List (List ℕ)
  pub parts : texts_of text line ≡ before ++ word.text.now ∷ behind
  pub on_the_right : has_sign Arrow before ≡ true
  pub left_open : is_open (names_in text) word.text.now ≡ true
  pub counted : times ≡ alike_on_left (names_in text) word.text.now before
  pub true_could : CouldBe text line word.text.now could
