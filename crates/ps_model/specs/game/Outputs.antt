-- What a run writes: the title, what the entry writes at which the game begins, and then a text for each key up to an
-- ending. Where the keys end before the game does, that is said too.
use Rattle.std.specs.Prelude.{ℕ, Option, Some, None, List, [], ◌∷◌, ◌++◌, codes, take}
use Rattle.ps_model.specs.declared.play.Ending.{Ending}
use Rattle.ps_model.specs.declared.play.Ending.TheVariants.{EndOfKeys}
use Rattle.ps_model.specs.declared.play.Key.{Key}
use Rattle.ps_model.specs.session.Frames.{written_line}
use Rattle.ps_model.specs.session.Keys.{keys_of}
use Rattle.ps_model.specs.board.Turns.{Script}
use Rattle.ps_model.specs.session.Sessions.{Session, Playing, Waiting, AtMessage, Ended, Step, after}
use Rattle.ps_model.specs.session.StartSteps.{enter}
use Rattle.ps_model.specs.session.KeySteps.{key_step}

-- what is written, and how it ends
pub record Output : Type 0 where
  pub written : List ℕ
  pub ending : Ending

-- a text before an output
abbrev pub after_text : List ℕ → Output → Output
after_text text rest = record { written = text ++ rest.written; ending = rest.ending }

-- the line that says that the player quit
abbrev pub quit_line : List ℕ
quit_line = codes "* quit\n"

-- the line that says that the keys ended
abbrev pub end_of_keys_line : List ℕ
end_of_keys_line = codes "* end of keys\n"

-- how the session ended, if it has
abbrev pub ending_of : Session → Option Ending
ending_of (Playing play) = None
ending_of (Waiting play pending) = None
ending_of (AtMessage entry) = None
ending_of (Ended ending) = Some ending

-- the start of a run: the title, and what the entry writes at which the game begins
unfoldable pub opening_step : Script → Step
opening_step script = after (written_line (codes "= ") script.title) (enter script script.first_entry)

-- what the keys bring in a session that has ended so, or hasn't
abbrev pub output_of_keys : Script → Session → Option Ending → List Key → Output
output_of_keys script session (Some ending) keys = record { written = []; ending = ending }
output_of_keys script session None [] = record { written = end_of_keys_line; ending = EndOfKeys }
output_of_keys script session None (key ∷ keys) =
    let step : Step = key_step script session key in
    after_text step.text (output_of_keys script step.session (ending_of step.session) keys)

-- the output of a game on bytes
abbrev pub output : Script → List ℕ → Output
output script bytes =
    let start : Step = opening_step script in
    after_text start.text (output_of_keys script start.session (ending_of start.session) (keys_of bytes))

-- the texts of keys, up to an ending
abbrev pub texts_of_keys : Script → Session → List Key → List ℕ
texts_of_keys script session [] = []
texts_of_keys script session (key ∷ keys) = let step : Step = key_step script session key in
    step.text ++ texts_of_keys script step.session keys

-- the front of an output: the opening, and the texts of a number of first keys
abbrev pub front : Script → List ℕ → ℕ → List ℕ
front script bytes count = let start : Step = opening_step script in
    start.text ++ texts_of_keys script start.session (take count (keys_of bytes))
