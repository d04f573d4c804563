use Rattle.ps_laws.proofs.sessions.SessionBoards.{openings_have_boards, keys_keep_boards, sessions_have_boards}
use Rattle.ps_laws.proofs.laws_of_sessions.session_boards.Goals as goal

pub returns : goal.returns
returns c = record { opening = openings_have_boards; keys = keys_keep_boards; sessions = sessions_have_boards }
