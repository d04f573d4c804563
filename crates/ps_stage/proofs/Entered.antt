-- Entries that begin, behind the line of a level.
use Rattle.std.proofs.Common.{◌≡◌, ℕ, suc, List, [], ◌++◌, length, take, None, Some, refl}
use Rattle.std.specs.Fmt.{decimal}
use Rattle.std.specs.Prelude.{Option, codes, filter}
use Rattle.ps_model.specs.board.Grid.{Grid}
use Rattle.ps_model.specs.board.Levels.{Level, loaded}
use Rattle.ps_model.specs.board.Turns.{Script}
use Rattle.ps_model.specs.session.Frames.{written_line}
use Rattle.ps_model.specs.session.LevelLines.{Entry, LevelEntry}
use Rattle.ps_model.specs.session.Sessions.{Play, after, done_line, is_level, level_line, level_number}
use Rattle.ps_model.specs.session.StartSteps.{enter, entered, first_room, fresh, level_done, restarted, start_step}
use Rattle.ps_laws.proofs.sessions.SessionSteps.{texts_join}
use Rattle.ps_stage.specs.Standings.{Standing, play_of}

-- a level begins behind its line
pub level_entered : (script : Script) (entry number : ℕ) (level : Level) (played : Standing)
    (text next_text : List ℕ) → number ≡ level_number script entry →
    next_text ≡ text ++ written_line (codes "# level ") (decimal number) → played.entry ≡ entry →
    played.board ≡ loaded script.names level → played.restart_board ≡ loaded script.names level →
    played.room ≡ first_room →
    after text (entered script entry (Some (LevelEntry level)))
    ≡ after next_text (start_step script (play_of [] played) None)
level_entered script entry number level played text next_text count told e b r room =
    rw (told, count, e, b, r, room)
    (texts_join text (level_line script entry) (start_step script (fresh script entry level) None))

-- the next entry begins behind the closing line of a level
pub done_entered : (script : Script) (play : Play) (shown : List Entry) (text next_text : List ℕ)
    (at number next : ℕ) → shown ≡ script.entries → at ≡ play.entry →
    number ≡ length (filter is_level (take (suc at) shown)) →
    next_text ≡ text ++ written_line (codes "* level ") (decimal number ++ codes " done") → next ≡ suc at →
    after text (level_done script play) ≡ after next_text (enter script next)
done_entered script play shown text next_text at number next entries entry count told follows =
    rw (told, count, follows, entries, entry)
    (texts_join text (done_line script play.entry) (enter script (suc play.entry)))

-- a level restarts as the level that has its restart board
pub restarted_of : (script : Script) (level again : Standing) (history : List Grid) (message : Option (List ℕ)) →
    again.entry ≡ level.entry → again.board ≡ level.restart_board → again.restart_board ≡ level.restart_board →
    again.room ≡ level.room →
    restarted script (play_of history level) message ≡ start_step script (play_of history again) message
restarted_of script level again history message e b r room = rw (e, b, r, room) refl
