-- The lines on the levels of a text.
use Rattle.std.specs.Prelude.{◌≡◌, ⊤, ℕ, ◌+◌, Bool, Option, Some, None, List, [], ◌∷◌, ◌++◌, length}
use Rattle.std.specs.List.{list_all}
use Rattle.ps_devices.specs.Devices.{Grows}
use Rattle.ps_answers.specs.SolvedLevels.{is_won}
use Rattle.ps_answers.specs.SolvedTexts.{HasLevels, IsSolvedLevel}
use Rattle.ps_answers.specs.declared.solved.Solved.{Solved}

-- how an answer about the level of a number is told
abbrev pub Telling : Type 0
Telling = ℕ → Solved → List ℕ

-- the line on a level: its answer is right, and told in this way
pub record IsLineOnLevel (text : List ℕ) (tell : Telling) (limit level : ℕ) (won : Bool) (line : List ℕ) : Type 0 where
  pub solved : Solved
  pub right : IsSolvedLevel text level limit solved
  pub answers : won ≡ is_won solved
  pub is : line ≡ tell level solved

-- the lines that tell answers, the first of which is about the level of this number
abbrev pub level_lines : Telling → ℕ → List Solved → List ℕ
level_lines tell level [] = []
level_lines tell level (solved ∷ rest) = tell level solved ++ level_lines tell (level + 1) rest

-- each answer is right: the first about the level of this number, the next about the next one
abbrev pub AreSolved : List ℕ → ℕ → ℕ → List Solved → Type 0
AreSolved text limit level [] = ⊤
AreSolved text limit level (solved ∷ rest) =
    IsSolvedLevel text level limit solved × AreSolved text limit (level + 1) rest

-- the lines on the first levels, of this number: each answer is right, and all are won or aren't
pub record AreLinesOnFirst (text : List ℕ) (tell : Telling) (limit count : ℕ) (all_won : Bool) (lines : List ℕ) :
    Type 0 where
  pub solved : List Solved
  pub many : length solved ≡ count
  pub right : AreSolved text limit 1 solved
  pub answers : all_won ≡ list_all is_won solved
  pub are : lines ≡ level_lines tell 1 solved

-- the lines on all levels of a text
pub record AreLinesOnLevels (text : List ℕ) (tell : Telling) (limit : ℕ) (all_won : Bool) (lines : List ℕ) : Type 0
  where
    pub levels : ℕ
    pub has : HasLevels text levels
    pub all : AreLinesOnFirst text tell limit levels all_won lines

-- the lines on all levels of a text, or on that of a number
abbrev pub AreLinesOn : Option ℕ → List ℕ → Telling → ℕ → Bool → List ℕ → Type 0
AreLinesOn None text tell limit won lines = AreLinesOnLevels text tell limit won lines
AreLinesOn (Some level) text tell limit won lines = IsLineOnLevel text tell limit level won lines

-- a writer has taken lines of this kind
pub record Tells (Are : List ℕ → Type 0) (before after : Option (List ℕ)) : Type 0 where
  pub lines : List ℕ
  pub are : Are lines
  pub wrote : Grows before after lines
