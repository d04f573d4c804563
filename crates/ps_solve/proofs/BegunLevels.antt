-- A run that begins at a level is in that level.
use Rattle.std.proofs.Common.{◌≡◌, ℕ, true, Option, Some, None, refl}
use Rattle.std.specs.Prelude.{slice_get}
use Rattle.ps_model.specs.board.Levels.{Level}
use Rattle.ps_model.specs.board.Turns.{Script}
use Rattle.ps_model.specs.game.LevelRuns.{is_level_found}
use Rattle.ps_model.specs.game.Outputs.{opening_step}
use Rattle.ps_model.specs.session.LevelLines.{Entry, LevelEntry, MessageEntry}
use Rattle.ps_model.specs.session.Sessions.{Play}
use Rattle.ps_model.specs.session.StartSteps.{entered, fresh}
use Rattle.ps_laws.proofs.sessions.SpotsAtStarts.{AtOneSpot, start_step-stay}
use Rattle.ps_solve.specs.SolvedLevels.{IsIn}

-- a level that starts is at one spot with itself, so its start stays in the level
level_begins : (script : Script) (entry : ℕ) (level : Level) →
    IsIn entry (entered script entry (Some (LevelEntry level))).session
level_begins script entry level =
    let play : Play = fresh script entry level in
    let same : AtOneSpot entry play play =
    record { first_entry = refl; second_entry = refl; board = refl; restart_board = refl } in
    let both = start_step-stay script entry None script.options.run_rules_on_level_start refl play play same in
    (both.0, both.1)

entry_begins : (script : Script) (entry : ℕ) (found : Option Entry) → is_level_found found ≡ true →
    IsIn entry (entered script entry found).session
entry_begins script entry None is = let clash = is in cc
entry_begins script entry (Some (MessageEntry text)) is = let clash = is in cc
entry_begins script entry (Some (LevelEntry level)) is = level_begins script entry level

pub runs_begin_in_levels : (script : Script) → is_level_found (slice_get script.entries script.first_entry) ≡ true →
    IsIn script.first_entry (opening_step script).session
unfolding opening_step
runs_begin_in_levels script is =
    entry_begins script script.first_entry (slice_get script.entries script.first_entry) is
