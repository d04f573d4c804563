use Rattle.std.proofs.Common.{ap}
use Rattle.std.specs.Prelude.{option_map}
use Rattle.ps_model.specs.board.Turns.{script_of}
use Rattle.ps_model.specs.game.Headline.{script_of_text}
use Rattle.ps_laws.proofs.runs.RunsNotAllowed.{answers_are_true_of_texts}
use Rattle.ps_laws.proofs.texts.SizedRooms.{game-rooms}
use Rattle.ps_run.proofs.Rightly.{found_rightly, game_playable, runs_rightly, stops_reading}
use Rattle.ps_run.proofs.text_run.run.Goals as goal

pub returns-in-Err-clause-rightly : goal.returns-in-Err-clause-rightly
returns-in-Err-clause-rightly g c =
    runs_rightly c.args.text.now _ _ _ _ _
    (stops_reading (script_of_text c.args.text.now) c.args.text.now _ c.fault_of_refusal.result _ _
    c.fault_of_refusal.ensures c.requires.heard c.requires.well c.in-Err.ensures.read.1)

pub run_read-requires-clause-playable : goal.run_read-requires-clause-playable
run_read-requires-clause-playable g c =
    game_playable c.args.text.now c.in-Ok.game c.in-Ok.ensures.read.0 c.in-Ok.ensures.sized

pub run_read-requires-clause-rooms : goal.run_read-requires-clause-rooms
run_read-requires-clause-rooms g c = game-rooms c.args.text.now c.in-Ok.game c.in-Ok.ensures.read.0

pub returns-clause-rightly : goal.returns-clause-rightly
returns-clause-rightly g c =
    runs_rightly c.args.text.now _ _ _ _ _
    (found_rightly (script_of_text c.args.text.now) (script_of c.in-Ok.game) c.args.text.now _ _ _ _ _
    (ap (option_map script_of) c.in-Ok.ensures.read.0)
    (c.run_read.ensures.rightly c.args.text.now c.in-Ok.ensures.read.0))

pub returns-clause-true_of_text : goal.returns-clause-true_of_text
returns-clause-true_of_text g c =
    answers_are_true_of_texts c.args.text.now _ _ _ _ _ (returns-clause-rightly g c)
