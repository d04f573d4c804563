use Rattle.ps_laws.proofs.sessions.SolvingSpots.{spots_decide, spots_are_of_sessions, levels_are_not_past}
use Rattle.ps_laws.proofs.sessions.SolvingSpots.{left_levels_are_past, past_stays_past, lists_go_by_spots}
use Rattle.ps_laws.proofs.laws_of_sessions.solving_spots.Goals as goal

pub returns : goal.returns
returns c = record {
  decide = spots_decide;
  sessions = spots_are_of_sessions;
  here = levels_are_not_past;
  left = left_levels_are_past;
  past = past_stays_past;
  lists = lists_go_by_spots;
}
