-- The words of the code as the words of the definitions.
use Rattle.std.specs.Prelude.{ℕ, List, [], ◌∷◌, map}
use Rattle.ps_model.specs.rules.RuleSymbols as model
use Rattle.ps_model.specs.names.Names.{Names}
use Rattle.ps_names.specs.Shown.{meaning_shown}
use Rattle.ps_rules.specs.declared.key_words.KeyWord.{KeyWord}
use Rattle.ps_rules.specs.declared.key_words.KeyWord.TheVariants as key
use Rattle.ps_rules.specs.declared.symbols.Command.{Command}
use Rattle.ps_rules.specs.declared.symbols.Command.TheVariants.{Cancel, Restart, Again, Checkpoint, Win, Message, Sound}
use Rattle.ps_rules.specs.declared.symbols.Symbol.{Symbol}
use Rattle.ps_rules.specs.declared.symbols.Symbol.TheVariants.{Open, Close, Bar, Arrow, Ellipsis, Plus, Late, Without}
use Rattle.ps_rules.specs.declared.symbols.Symbol.TheVariants.{Moves, Asks, StartsLoop, EndsLoop, LeftOut, Called}
use Rattle.ps_rules.specs.declared.symbols.Symbol.TheVariants.{Unknown}
use Rattle.ps_rules.specs.declared.symbols.Token.{Token}
use Rattle.ps_text.specs.declared.cutting.Word.{Word}

abbrev pub command_shown : Command → model.Command
command_shown Cancel = model.Cancel
command_shown Restart = model.Restart
command_shown Again = model.Again
command_shown Checkpoint = model.Checkpoint
command_shown Win = model.Win
command_shown Message = model.Message
command_shown Sound = model.Sound

abbrev pub key_word_shown : KeyWord → model.Symbol
key_word_shown key.Open = model.Open
key_word_shown key.Close = model.Close
key_word_shown key.Bar = model.Bar
key_word_shown key.Arrow = model.Arrow
key_word_shown key.Ellipsis = model.Ellipsis
key_word_shown key.Late = model.Late
key_word_shown key.Without = model.Without
key_word_shown (key.Moves word) = model.Moves word
key_word_shown (key.Asks command) = model.Asks (command_shown command)
key_word_shown key.StartsLoop = model.StartsLoop
key_word_shown key.EndsLoop = model.EndsLoop
key_word_shown key.LeftOut = model.LeftOut

abbrev pub symbol_shown : Symbol → model.Symbol
symbol_shown Open = model.Open
symbol_shown Close = model.Close
symbol_shown Bar = model.Bar
symbol_shown Arrow = model.Arrow
symbol_shown Ellipsis = model.Ellipsis
symbol_shown Plus = model.Plus
symbol_shown Late = model.Late
symbol_shown Without = model.Without
symbol_shown (Moves word) = model.Moves word
symbol_shown (Asks command) = model.Asks (command_shown command)
symbol_shown StartsLoop = model.StartsLoop
symbol_shown EndsLoop = model.EndsLoop
symbol_shown LeftOut = model.LeftOut
symbol_shown (Called meaning) = model.Called (meaning_shown meaning.now)
symbol_shown Unknown = model.Unknown

abbrev pub token_shown : Token → model.Token
token_shown token = record { at = token.at; symbol = symbol_shown token.symbol }

abbrev pub tokens_shown : List Token → List model.Token
tokens_shown tokens = map token_shown tokens

-- a word, by what a word's bytes are
abbrev pub token_of_word : (List ℕ → model.Symbol) → Word → model.Token
token_of_word symbol word = record { at = word.span.start; symbol = symbol word.text.now }

-- the words of a line by those that its source gives
abbrev pub tokens_of_words : Names → List Word → List model.Token
tokens_of_words names [] = []
tokens_of_words names (first ∷ words) = token_of_word (model.first_symbol names) first ∷ map
    (token_of_word (model.symbol_of names)) words
