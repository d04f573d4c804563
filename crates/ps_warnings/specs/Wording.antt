-- Warnings in words.
use Rattle.std.specs.Prelude.{ℕ, List, ◌++◌, codes}
use Rattle.std.specs.Fmt.{decimal}
use Rattle.ps_warnings.specs.declared.kinds.PreludeWord.{PreludeWord}
use Rattle.ps_warnings.specs.declared.kinds.WarningKind.{WarningKind}
use Rattle.ps_warnings.specs.declared.kinds.WarningKind.TheVariants.{NearWord, IdleRule, IdleWin, NoPlayer}
use Rattle.ps_warnings.specs.declared.kinds.WarningKind.TheVariants.{LongRow, RuleTwice, ShortRow, UnusedObject}
use Rattle.ps_warnings.specs.declared.kinds.WarningKind.TheVariants.{ApartWin, LackingRule, LackingWin, UnusedName}
use Rattle.ps_warnings.specs.declared.kinds.WarningKind.TheVariants.{IdleRooms, LateTwice, LayerTwice, NothingWins}
use Rattle.ps_warnings.specs.declared.kinds.WarningKind.TheVariants.{NoRoom, NoText}
use Rattle.ps_warnings.specs.PreludeWords.{word_text}

-- a line of the prelude is surely meant to begin with the word
abbrev pub near_sentence : PreludeWord → List ℕ
near_sentence word = codes "this line has no effect: did you mean `" ++ (word_text word ++ codes "`?")

-- a rule stands at another line, too
abbrev pub twice_sentence : ℕ → List ℕ
twice_sentence line = codes "this rule repeats line " ++ decimal line

-- an object of a line of COLLISIONLAYERS is on another line's layer
abbrev pub layer_sentence : ℕ → List ℕ
layer_sentence line =
    codes "this line names an object that line " ++ (decimal line ++
    codes " names too: it is on the layer of that line")

-- what is surely a mistake
abbrev pub sentence : WarningKind → List ℕ
sentence (NearWord word) = near_sentence word
sentence IdleRooms = codes "this line has no effect, as no level is larger than such a room"
sentence UnusedObject = codes "no level, rule or win condition uses this object"
sentence UnusedName = codes "no rule, win condition, layer or other name uses this name"
sentence (LayerTwice line) = layer_sentence line
sentence NoRoom =
    codes "an object that moves is on the layer of Background, where it has no room: put Background on a line of its own"
sentence IdleRule = codes "this rule has no effect"
sentence LackingRule = codes "this rule can never apply, as it needs an object that no level has and no rule makes"
sentence (RuleTwice line) = twice_sentence line
sentence LateTwice = codes "this rule says `late` twice"
sentence NoText = codes "this message has no text"
sentence IdleWin = codes "this win condition always holds"
sentence ApartWin = codes "the two names of this win condition share a layer, so no cell can have both"
sentence LackingWin = codes "this win condition names an object that no level has and no rule makes"
sentence NothingWins = codes "nothing wins these levels, as there is no win condition and no rule with `win`"
sentence NoPlayer = codes "this level has no Player"
sentence LongRow = codes "this row is longer than the first of its level, and is cut off"
sentence ShortRow = codes "this row is shorter than the first of its level, and is filled up"
