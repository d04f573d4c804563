-- The parts of a turn one by one, worked by hand: the readings of rules, the places of rows, attempts, and what comes
-- of turns.
use Rattle.std.proofs.Common.{◌≡◌, ℕ, List, [], ◌∷◌, map, length, refl, Option, Some, None, true, false}
use Rattle.std.specs.Prelude.{codes, option_map}
use Rattle.std.specs.List.{flat_map, filter_map}
use Rattle.std.specs.Str.{chars, is_utf8}
use Rattle.std.specs.Str.Lossy.{utf8_valid_len}
use Rattle.std.proofs.Math.Utf8.{encode}
use Rattle.ps_model.specs.declared.pieces.Motion.TheVariants.{Still}
use Rattle.ps_model.specs.declared.pieces.Slot.TheVariants.{Bare, Holds}
use Rattle.ps_model.specs.declared.play.Input.{Input}
use Rattle.ps_model.specs.declared.play.Input.TheVariants.{Right, Action}
use Rattle.ps_model.specs.board.Grid.{Grid}
use Rattle.ps_model.specs.board.Levels.{loaded}
use Rattle.ps_model.specs.session.LevelLines.{Entry, MessageEntry, LevelEntry}
use Rattle.ps_model.specs.names.Names.{Names}
use Rattle.ps_model.specs.rules.SourceRules.{SourceRule, no_commands}
use Rattle.ps_model.specs.meaning.Readings.{Reading, readings, reading_count}
use Rattle.ps_model.specs.meaning.RuleMeanings.{RuleMeaning}
use Rattle.ps_model.specs.meaning.ReadingMeanings.{meanings}
use Rattle.ps_model.specs.board.Places.{places}
use Rattle.ps_model.specs.board.Attempts.{Result, attempt}
use Rattle.ps_model.specs.board.Programs.{group, program_run}
use Rattle.ps_model.specs.board.RulePrograms.{rule_in}
use Rattle.ps_model.specs.board.Turns.{Outcome, Blocked, Restarted, Finished, script_of, turn}
use Rattle.ps_model.specs.game.Games.{Game, game}
use Rattle.ps_examples.proofs.games.BaseText.{base_game}
use Rattle.ps_examples.proofs.names.NameTexts.{object}

-- the rules of a game
abbrev rules_in : Game → List SourceRule
rules_in found = filter_map rule_in found.rules

-- their possible readings
abbrev meanings_in : Game → List RuleMeaning
meanings_in found = flat_map (meanings found.names) (rules_in found)

-- the board of an entry, if it is a level
abbrev board_in : Names → Entry → List Grid
board_in names (MessageEntry text) = []
board_in names (LevelEntry level) = loaded names level ∷ []

-- the boards of a game's levels
abbrev boards_in : Game → List Grid
boards_in found = flat_map (board_in found.names) found.entries

-- readings ------------------------------------------------------------------------------------------------------------

-- rules whose readings are counted
abbrev some_rules : List ℕ
some_rules = base_game (codes "[ > Player | Crate ] -> [ > Player | > Crate ]\n[ A ] -> [ right A ]\n[ moving A ] -> [ moving A ]\nhorizontal [ > A | B ] -> [ A | B ]\n[ moving Player | Crate ] -> [ moving Player | moving Crate ]\n") [] (codes "P\n")

-- four directions; a rule that means the same in each; five moves; two directions; four directions with five moves each
counts : option_map (λ found. map (reading_count found.names) (rules_in found)) (game some_rules) ≡ Some
    (4 ∷ 1 ∷ 5 ∷ 2 ∷ 20 ∷ [])
unfolding chars is_utf8 utf8_valid_len encode
counts = refl

-- there are as many readings as are counted
listed : option_map (λ found. map (λ rule. length (readings found.names rule)) (rules_in found)) (game some_rules) ≡
    Some (4 ∷ 1 ∷ 5 ∷ 2 ∷ 20 ∷ [])
unfolding chars is_utf8 utf8_valid_len encode
listed = refl

-- the members that a reading chooses, by their numbers
abbrev chosen : Reading → List ℕ
chosen reading = map (λ choice. (choice.1).0) reading.members

-- members come in their order, A before Target, and the last occurrence varies fastest
order_of_members : option_map (λ found. flat_map (λ rule. map chosen (readings found.names rule)) (rules_in found))
    (game (base_game (codes "right [ AT | AT ] -> [ | ]\n") [] (codes "P\n")))
    ≡ Some ((5 ∷ 5 ∷ []) ∷ (5 ∷ 4 ∷ []) ∷ (4 ∷ 5 ∷ []) ∷ (4 ∷ 4 ∷ []) ∷ [])
unfolding chars is_utf8 utf8_valid_len encode
order_of_members = refl

-- places --------------------------------------------------------------------------------------------------------------

-- the places of each row of a game's rules on its boards
abbrev places_in : Game → List (List ℕ)
places_in found = flat_map (λ board. flat_map (λ rule.
    flat_map (places board rule.direction) rule.rows) (meanings_in found)) (boards_in found)

-- A and Target after it stand only in the first two cells
one_place : option_map places_in (game (base_game (codes "right [ A | Target ] -> [ | ]\n") [] (codes "AOA\n"))) ≡ Some
    ((0 ∷ 1 ∷ []) ∷ [])
unfolding chars is_utf8 utf8_valid_len encode
one_place = refl

-- attempts ------------------------------------------------------------------------------------------------------------

-- what an attempt of each rule of a game makes of each of its boards
abbrev attempts_in : Game → List Result
attempts_in found = flat_map (λ board. map (λ rule.
    attempt rule (record { grid = board; queue = no_commands })) (meanings_in found)) (boards_in found)

-- both rows lie on one cell: the first makes B of A, and the second, which fitted before, A of B
abbrev there_and_back : List ℕ
there_and_back = base_game (codes "[ A ] [ A ] -> [ B ] [ A ]\n") [] (codes "A\n")

-- cells were changed on the way
changed_on_the_way : option_map (λ found. map (λ result. result.changed) (attempts_in found)) (game there_and_back) ≡
    Some (true ∷ [])
unfolding chars is_utf8 utf8_valid_len encode
changed_on_the_way = refl

-- the board is as before
board_as_before : option_map (λ found. map (λ result. (result.state).grid) (attempts_in found)) (game there_and_back)
    ≡ Some (record {
      width = 1;
      height = 1;
      layers = 4;
      cells =
          (Holds (object 0) Still ∷ Bare ∷ Bare ∷ Holds (object 5) Still ∷ []) ∷ [];
    } ∷ [])
unfolding chars is_utf8 utf8_valid_len encode
board_as_before = refl

-- turns ---------------------------------------------------------------------------------------------------------------

-- what comes of a turn with that input on each board of a game with these rules and rows
abbrev outcomes : Input → List ℕ → List ℕ → Option (List Outcome)
outcomes input rules rows = option_map (λ found.
    map (turn (script_of found) (Some input)) (boards_in found)) (game (base_game rules [] rows))

-- `cancel` takes the place of `restart`
restart_and_cancel : outcomes Action (codes "[ action Player ] -> restart cancel\n") (codes "P\n") ≡ Some
    (Blocked None ∷ [])
unfolding chars is_utf8 utf8_valid_len encode group program_run turn
restart_and_cancel = refl

-- `restart` takes the place of a win
restart_and_win : outcomes Action (codes "[ action Player ] -> restart win\n") (codes "P\n") ≡ Some
    (Restarted None ∷ [])
unfolding chars is_utf8 utf8_valid_len encode group program_run turn
restart_and_win = refl

-- a turn that changes nothing doesn't come again; its message and its win count
again_and_win : outcomes Action (codes "[ action Player ] -> again win message Hi\n") (codes "P\n") ≡ Some
    (Finished (record {
      board = record {
        width = 1;
        height = 1;
        layers = 4;
        cells =
            (Holds (object 0) Still ∷ Bare ∷ Holds (object 2) Still ∷ Bare ∷ []) ∷ [];
      };
      changed = false;
      message = Some (codes "Hi");
      checkpoint = false;
      win = true;
      again = false;
    }) ∷ [])
unfolding chars is_utf8 utf8_valid_len encode group program_run turn
again_and_win = refl

-- a blocked turn keeps its rule's message
cancel_with_message : outcomes Right (codes "[ > Player | Wall ] -> cancel message Stop\n") (codes "P#\n") ≡ Some
    (Blocked (Some (codes "Stop")) ∷ [])
unfolding chars is_utf8 utf8_valid_len encode group program_run turn
cancel_with_message = refl
