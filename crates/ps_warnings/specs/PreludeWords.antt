-- The words with which a line of the prelude begins that says something, and words that are written much like them.
use Rattle.std.specs.Prelude.{ℕ, Bool, if◌then◌else◌, Option, None, List, [], ◌∷◌, find, codes}
use Rattle.std.specs.List.{list_any}
use Rattle.std.specs.Str.{bytes_eq}
use Rattle.ps_warnings.specs.declared.kinds.PreludeWord.{PreludeWord}
use Rattle.ps_warnings.specs.declared.kinds.PreludeWord.TheVariants.{Title, Author, Homepage, NoAction, NoUndo}
use Rattle.ps_warnings.specs.declared.kinds.PreludeWord.TheVariants.{NoRestart, RequirePlayerMovement}
use Rattle.ps_warnings.specs.declared.kinds.PreludeWord.TheVariants.{RunRulesOnLevelStart, Flickscreen}
use Rattle.ps_warnings.specs.NearWords.{is_near}

-- the word, letters folded
abbrev pub word_text : PreludeWord → List ℕ
word_text Title = codes "title"
word_text Author = codes "author"
word_text Homepage = codes "homepage"
word_text NoAction = codes "noaction"
word_text NoUndo = codes "noundo"
word_text NoRestart = codes "norestart"
word_text RequirePlayerMovement = codes "require_player_movement"
word_text RunRulesOnLevelStart = codes "run_rules_on_level_start"
word_text Flickscreen = codes "flickscreen"

-- all of them
abbrev pub prelude_words : List PreludeWord
prelude_words =
    Title ∷ Author ∷ Homepage ∷ NoAction ∷ NoUndo ∷ NoRestart ∷ RequirePlayerMovement ∷ RunRulesOnLevelStart
    ∷ Flickscreen ∷ []

-- the word is one of them
abbrev pub is_prelude_word : List ℕ → Bool
is_prelude_word word = list_any (λ one. bytes_eq word (word_text one)) prelude_words

-- the first of them that a word is written much like
abbrev pub near_word : List ℕ → Option PreludeWord
near_word word = find (λ one. is_near word (word_text one)) prelude_words

-- the one that a word is surely meant to be: it is none of them, and is written much like this one
unfoldable pub misspelt : List ℕ → Option PreludeWord
misspelt word = if is_prelude_word word then None else near_word word
