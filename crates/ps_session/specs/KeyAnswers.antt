-- What a key does to a session: a change, or nothing where it is ignored.
use Rattle.std.specs.Prelude.{◌≡◌, ℕ, ⊤, Bool, true, Option, Some, None, List, Result, Ok, IfErr, IfOk}
use Rattle.ps_model.specs.board.Grid.{Grid}
use Rattle.ps_model.specs.declared.play.Key.{Key}
use Rattle.ps_model.specs.session.IgnoredKeys.{is_ignored}
use Rattle.ps_model.specs.session.KeySteps.{key_step}
use Rattle.ps_model.specs.session.Sessions.{Step, quietly}
use Rattle.ps_board.specs.Histories.{BoardShown}
use Rattle.ps_board.specs.declared.board.Board.{Ghosts as Board}
use Rattle.ps_turn.specs.declared.rules.Rules.{Ghosts as Rules}
use Rattle.ps_turn.specs.declared.rules.TurnRules.{TurnRules}
use Rattle.ps_stage.specs.Locations.{change_shown, location_shown, GoesOnBasis}
use Rattle.ps_stage.specs.Meanings.{script_by}
use Rattle.ps_stage.specs.OwnBoards.{ChangeFits, IsForOthers}
use Rattle.ps_stage.specs.Standings.{Basis, SessionParts, Standing, basis_of}
use Rattle.ps_stage.specs.StepsShown.{IsStopped, came}
use Rattle.ps_stage.specs.declared.stops.Stop.{Stop}
use Rattle.ps_stage.specs.Touched.{GoesAnew, GoesFrom}
use Rattle.ps_stage.specs.declared.locations.Change.{Change}
use Rattle.ps_stage.specs.declared.locations.Change.TheVariants.{Stays, Undoes, Goes}
use Rattle.ps_stage.specs.declared.locations.HistoryChange.{HistoryChange}
use Rattle.ps_stage.specs.declared.locations.HistoryChange.TheVariants.{Keeps, Adds, Clears}
use Rattle.ps_stage.specs.declared.locations.Location.{Location}
use Rattle.ps_stage.specs.declared.locations.Location.TheVariants.{Playing, Waiting, AtMessage, Ended}

-- what a key did there, with the text that it made; an ignored key does nothing
abbrev pub answer_step : List Grid → Location Standing → Option (Change Standing (List Bool)) → List ℕ → Step
answer_step history location None text = quietly (location_shown history location)
answer_step history location (Some change) text = came (change_shown history location change) text

-- the level that it goes to, if there is one, rests on this
abbrev pub AnswersOnBasis : Basis → Option (Change Standing (List Bool)) → Type 0
AnswersOnBasis basis None = ⊤
AnswersOnBasis basis (Some change) = GoesOnBasis basis change

-- the rows that come with a change there are such that its board shows the same outside of them, if some do; where
-- there is no board before, none do
abbrev pub GoesFromThere : Location Standing → Change Standing (List Bool) → Type 0
GoesFromThere (Playing level) change = GoesFrom level.board change
GoesFromThere (Waiting level pending) change = GoesFrom level.board change
GoesFromThere (AtMessage entry) change = GoesAnew change
GoesFromThere (Ended ending) change = GoesAnew change

abbrev pub AnswersFrom : Location Standing → Option (Change Standing (List Bool)) → Type 0
AnswersFrom location None = ⊤
AnswersFrom location (Some change) = GoesFromThere location change

-- the level that it goes to, if there is one, has the entry before, or one for which the boards are
abbrev pub AnswerFits : SessionParts → ℕ → Option (Change Standing (List Bool)) → Type 0
AnswerFits parts before None = ⊤
AnswerFits parts before (Some change) = ChangeFits parts before change

-- where no level was before, they are for it
abbrev pub AnswerFitsFrom : SessionParts → Location Standing → Option (Change Standing (List Bool)) → Type 0
AnswerFitsFrom parts (Playing level) answer = AnswerFits parts level.entry answer
AnswerFitsFrom parts (Waiting level pending) answer = AnswerFits parts level.entry answer
AnswerFitsFrom parts (AtMessage entry) answer = (before : ℕ) → AnswerFits parts before answer
AnswerFitsFrom parts (Ended ending) answer = (before : ℕ) → AnswerFits parts before answer

-- what a key comes to at a location of a game that is played on some boards by some rules, with the text that was made:
-- the key's step of the definitions, or a front of it where another kind of boards is wanted
pub record Answers {B Words R : Type 0} (boards : Board B Words) (kind : Rules R B Words) (game : SessionParts)
    (rules : TurnRules R) (history : List Grid) (location : Location Standing) (key : Key)
    (answer : Result (Option (Change Standing (List Bool))) Stop) (text : List ℕ) : Type 0 where
  pub came : IfOk answer (λ change. key_step (script_by boards kind game rules) (location_shown history location) key
      ≡ answer_step history location change text)
  pub stopped : IfErr answer (λ stop. IsStopped (script_by boards kind game rules) stop
      (key_step (script_by boards kind game rules) (location_shown history location) key) text)
  -- the level that it goes to rests on what the game gives, and the boards are for it; where it stops they aren't
  pub basis : IfOk answer (AnswersOnBasis (basis_of boards.table_for game.names))
  pub fits : IfOk answer (AnswerFitsFrom game location)
  pub elsewhere : IfErr answer (IsForOthers game)
  -- rows that come with it are such that the boards show the same outside of them
  pub touched : IfOk answer (AnswersFrom location)
  -- nothing comes of a key that is ignored
  pub ignored : is_ignored game.options (location_shown history location) key ≡ true → answer ≡ Ok None

-- the board of a location is the one that is ready to enter the history
abbrev pub IsReadyBehind : Option BoardShown → Location Standing → Type 0
IsReadyBehind ready (Playing level) = ready ≡ Some (record { table = level.basis.table; grid = level.board })
IsReadyBehind ready (Waiting level pending) = ready ≡ Some (record { table = level.basis.table; grid = level.board })
IsReadyBehind ready (AtMessage entry) = ⊤
IsReadyBehind ready (Ended ending) = ⊤

-- it is, where it enters the history
abbrev pub IsReadyTo : Option BoardShown → Location Standing → HistoryChange → Type 0
IsReadyTo ready location Adds = IsReadyBehind ready location
IsReadyTo ready location Keeps = ⊤
IsReadyTo ready location Clears = ⊤

-- before a change
abbrev pub IsReadyFor : Option BoardShown → Location Standing → Change Standing (List Bool) → Type 0
IsReadyFor ready location (Stays pending) = ⊤
IsReadyFor ready location (Undoes level) = ⊤
IsReadyFor ready location (Goes next history_change rows) = IsReadyTo ready location history_change
