-- Win conditions of the code as those of the definitions.
use Rattle.std.specs.Prelude.{List, Option, map, option_map}
use Rattle.ps_model.specs.board.Wins as model
use Rattle.ps_model.specs.text.OptionSteps.{◌>>=◌}
use Rattle.ps_model.specs.text.Lines.{Line}
use Rattle.ps_model.specs.names.Names.{Names}
use Rattle.ps_model.specs.board.WinLines.{WinText, win_text, win_read}
use Rattle.ps_names.specs.Shown.{meaning_shown}
use Rattle.ps_levels.specs.declared.wins.Win.{Win}
use Rattle.ps_levels.specs.declared.wins.WinWords.{WinWords}

-- a win condition by its names
abbrev pub words_shown : WinWords → WinText
words_shown words = record {
  quantifier = words.quantifier;
  subject = words.subject.now;
  place =
      option_map (λ name. name.now) words.place;
}

-- a win condition
abbrev pub win_shown : Win → model.Win
win_shown win = record {
  quantifier = win.quantifier;
  subject = meaning_shown win.subject;
  place =
      option_map meaning_shown win.place;
}

abbrev pub wins_shown : List Win → List model.Win
wins_shown wins = map win_shown wins

-- the win condition of a line
abbrev pub win_of_line : Names → Line → Option model.Win
win_of_line names line = win_text line >>= win_read names
