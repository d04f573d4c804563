use Rattle.std.proofs.Common.{◌≡◌, ◌∙◌, ℕ, List, Some, filter, length, sym, ap}
use Rattle.ps_model.specs.board.Turns.{script_at}
use Rattle.ps_model.specs.game.Games.{Game, game}
use Rattle.ps_model.specs.game.LevelRuns.{level_entry, script_from_level}
use Rattle.ps_model.specs.session.LevelLines.{Entry}
use Rattle.ps_model.specs.session.Sessions.{is_level}
use Rattle.ps_levels.specs.EntriesShown.{entries_shown}
use Rattle.ps_laws.proofs.sessions.LevelNumbers.{answers_are_true_of_levels}
use Rattle.ps_laws.proofs.texts.SizedRooms.{game-rooms}
use Rattle.ps_run.proofs.Rightly.{found_rightly, game_playable, lacks_level, runs_rightly_from_level, script_found}
use Rattle.ps_run.proofs.Rightly.{stops_reading}
use Rattle.ps_run.proofs.text_run.run_from_level.Goals as goal

pub returns-in-Err-clause-rightly : goal.returns-in-Err-clause-rightly
returns-in-Err-clause-rightly g c =
    runs_rightly_from_level c.args.text.now c.args.level _ _ _ _ _
    (stops_reading (script_from_level c.args.text.now c.args.level) c.args.text.now _ c.fault_of_refusal.result _ _
    c.fault_of_refusal.ensures c.requires.heard c.requires.well c.in-Err.ensures.read.1)

pub returns-in_default-clause-rightly : goal.returns-in_default-clause-rightly
returns-in_default-clause-rightly g c =
    let entries : entries_shown c.deref.result.now ≡ c.in-Ok.game.entries =
    ap entries_shown c.deref.ensures.value ∙ ap (λ (r : Game). r.entries) c.game.view_is in
    let same : entries_shown c.deref-in_default.result.now ≡ c.in-Ok.game.entries =
    ap entries_shown c.deref-in_default.ensures.value ∙ ap (λ (r : Game). r.entries) c.game.view_is in
    lacks_level c.args.text.now c.args.level c.levels_among-levels.result _ _ c.requires.heard c.requires.well
    (record {
      read = c.in-Ok.game;
      is = c.in-Ok.ensures.read.0;
      lacks = ap (λ (es : List Entry). level_entry es c.args.level) (sym entries) ∙ sym c.in_default.ensures;
      counted = sym (c.levels_among-levels.ensures ∙ ap (λ (es : List Entry). length (filter is_level es)) same);
    })

pub run_read-requires-clause-playable : goal.run_read-requires-clause-playable
run_read-requires-clause-playable g c =
    game_playable c.args.text.now c.in-Ok.game c.in-Ok.ensures.read.0 c.in-Ok.ensures.sized

pub run_read-requires-clause-rooms : goal.run_read-requires-clause-rooms
run_read-requires-clause-rooms g c = game-rooms c.args.text.now c.in-Ok.game c.in-Ok.ensures.read.0

-- the script that is played
found : (text : List ℕ) (level entry : ℕ) (read : Game) (entries : List Entry) → game text ≡ Some read →
    entries ≡ read.entries → Some entry ≡ level_entry entries level →
    script_from_level text level ≡ Some (script_at read entry)
found text level entry read entries is same at =
    script_found text level entry read is (ap (λ (es : List Entry). level_entry es level) (sym same) ∙ sym at)

pub returns-in-Ok-run_read-clause-rightly : goal.returns-in-Ok-run_read-clause-rightly
returns-in-Ok-run_read-clause-rightly g c =
    runs_rightly_from_level c.args.text.now c.args.level _ _ _ _ _
    (found_rightly (script_from_level c.args.text.now c.args.level) (script_at c.in-Ok.game c.in-Some.entry)
    c.args.text.now _ _ _ _ _
    (found c.args.text.now c.args.level c.in-Some.entry c.in-Ok.game (entries_shown c.deref.result.now)
    c.in-Ok.ensures.read.0
    (ap entries_shown c.deref.ensures.value ∙ ap (λ (r : Game). r.entries) c.game.view_is) c.in-Some.ensures)
    (c.in-Ok-run_read.ensures.rightly c.args.text.now c.in-Ok.ensures.read.0))

pub returns-clause-rightly : goal.returns-clause-rightly
returns-clause-rightly g c =
    runs_rightly_from_level c.args.text.now c.args.level _ _ _ _ _
    (found_rightly (script_from_level c.args.text.now c.args.level) (script_at c.in-Ok.game c.in-Some.entry)
    c.args.text.now _ _ _ _ _
    (found c.args.text.now c.args.level c.in-Some.entry c.in-Ok.game (entries_shown c.deref.result.now)
    c.in-Ok.ensures.read.0
    (ap entries_shown c.deref.ensures.value ∙ ap (λ (r : Game). r.entries) c.game.view_is) c.in-Some.ensures)
    (c.in-Err-run_read.ensures.rightly c.args.text.now c.in-Ok.ensures.read.0))

pub returns-clause-true_of_level : goal.returns-clause-true_of_level
returns-clause-true_of_level g c =
    answers_are_true_of_levels c.args.text.now c.args.level _ _ _ _ _ (returns-clause-rightly g c)
