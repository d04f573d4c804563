-- Levels at one spot start and restart alike.
use Rattle.std.proofs.Common.{◌≡◌, ℕ, zero, suc, Bool, true, false, Option, Some, None, List, refl, sym}
use Rattle.std.proofs.Common.{ap, ap₂, subst, ◌∙◌, if◌then◌else◌, eq-eqb}
use Rattle.std.specs.Prelude.{◌==◌}
use Rattle.std.specs.Option.{option_or}
use Rattle.ps_model.specs.declared.limits.TheConstants.{AGAIN_LIMIT}
use Rattle.ps_model.specs.declared.play.Input.{Input}
use Rattle.ps_model.specs.board.Grid.{Grid}
use Rattle.ps_model.specs.board.Turns.{Script, Done, Outcome, Blocked, Restarted, Finished, turn}
use Rattle.ps_model.specs.session.Sessions.{Play, Pending, Session, Playing, Waiting, Step, seen, with_board, with_turn}
use Rattle.ps_model.specs.session.StartSteps.{start_pending, start_told, start_counted, start_turn_by, start_turns}
use Rattle.ps_model.specs.session.StartSteps.{all_start_turns, started, started_by, start_step, restarted}
use Rattle.ps_model.specs.session.Solving.{Spot, spot_of, spot}

-- two levels of one entry, with the same board and the same restart board
pub record AtOneSpot (entry : ℕ) (first second : Play) : Type 0 where
  pub first_entry : first.entry ≡ entry
  pub second_entry : second.entry ≡ entry
  pub board : first.board ≡ second.board
  pub restart_board : first.restart_board ≡ second.restart_board

-- both sessions are at one spot
abbrev pub Both : ℕ → Session → Session → Type 0
Both entry first second = (here : Spot) × (spot entry first ≡ Some here) × (spot entry second ≡ Some here)

-- the steps from levels at one spot lead to sessions at one spot
abbrev pub StayInLevel : ℕ → (Play → Step) → Type 0
StayInLevel entry step =
    (first second : Play) → AtOneSpot entry first second → Both entry (step first).session (step second).session

module _ (entry : ℕ) (first second : Play) (h : AtOneSpot entry first second) where
  spots : (waits : Option Pending) → (spot_of (first.entry == entry) first waits ≡ Some (record { board = first.board; restart_board = first.restart_board; waits = waits }))
      × (spot_of (second.entry == entry) second waits ≡ Some (record { board = first.board; restart_board = first.restart_board; waits = waits }))
  spots waits = (
    ap (λ (b : Bool). spot_of b first waits) (eq-eqb first.entry entry h.first_entry),
    ap (λ (b : Bool). spot_of b second waits) (eq-eqb second.entry entry h.second_entry)
        ∙ ap₂ (λ (b r : Grid). let here : Spot = record { board = b; restart_board = r; waits = waits } in Some here) (sym h.board) (sym h.restart_board),
  )

  pub both_play : Both entry (Playing first) (Playing second)
  both_play = let at = spots None in (record { board = first.board; restart_board = first.restart_board; waits = None }, at.0, at.1)

  pub both_wait : (pending : Pending) → Both entry (Waiting first pending) (Waiting second pending)
  both_wait pending = let at = spots (Some pending) in
      (record { board = first.board; restart_board = first.restart_board; waits = Some pending }, at.0, at.1)

  pub seen_alike : (script : Script) → AtOneSpot entry (seen script first) (seen script second)
  seen_alike script = record {
    first_entry = h.first_entry;
    second_entry = h.second_entry;
    board = h.board;
    restart_board = h.restart_board;
  }

  pub turned_alike : (done : Done) → AtOneSpot entry (with_turn first done) (with_turn second done)
  turned_alike done = record {
    first_entry = h.first_entry;
    second_entry = h.second_entry;
    board = refl;
    restart_board = ap (λ (r : Grid). if done.checkpoint then done.board else r) h.restart_board;
  }

  pub back_alike : AtOneSpot entry (with_board first first.restart_board) (with_board second second.restart_board)
  back_alike = record {
    first_entry = h.first_entry;
    second_entry = h.second_entry;
    board = h.restart_board;
    restart_board = h.restart_board;
  }

-- what holds of a turn's outcome from two boards that are equal
pub by_same_turn : (script : Script) (input : Option Input) (first second : Grid) → first ≡ second → (P : Outcome → Outcome → Type 0) → ((outcome : Outcome) → P outcome outcome) → P (turn script input first) (turn script input second)
by_same_turn script input first second same P each =
    subst (λ (b : Grid). P (turn script input first) (turn script input b)) same (each (turn script input first))

module _ (script : Script) (entry : ℕ) where
  told : (message : Option (List ℕ)) (again : Bool) (left : ℕ) (f : Play → Step) → StayInLevel entry f →
      StayInLevel entry (λ play. start_told play message again left f)
  told (Some text) again left f each first second h = both_wait entry first second h (start_pending again left)
  told None false left f each first second h = both_play entry first second h
  told None true left f each first second h = each first second h

  counted : (done : Done) (left : ℕ) (f : Play → Step) (changed : Bool) → done.changed ≡ changed → StayInLevel entry f →
      StayInLevel entry (λ play. start_counted script play done left f)
  counted done left f false e each first second h = rw (e, start_counted) (both_play entry first second h)
  counted done left f true e each first second h =
      rw (e, start_counted) (told done.message done.again left f each (seen script (with_turn first done))
      (seen script (with_turn second done))
      (seen_alike entry (with_turn first done) (with_turn second done) (turned_alike entry first second h done) script))

  turn_by : (left : ℕ) (f : Play → Step) → StayInLevel entry f → (first second : Play) → AtOneSpot entry first second →
      (outcome : Outcome) →
      Both entry (start_turn_by script first left f outcome).session (start_turn_by script second left f outcome).session
  turn_by left f each first second h (Blocked message) = both_play entry first second h
  turn_by left f each first second h (Restarted message) = both_play entry first second h
  turn_by left f each first second h (Finished done) = counted done left f done.changed refl each first second h

  pub start_turns-stay : (left : ℕ) → StayInLevel entry (start_turns script left)
  start_turns-stay zero first second h = both_play entry first second h
  start_turns-stay (suc left) first second h =
      by_same_turn script None first.board second.board h.board
      (λ one other. Both entry (start_turn_by script first left (start_turns script left) one).session
      (start_turn_by script second left (start_turns script left) other).session)
      (turn_by left (start_turns script left) (start_turns-stay left) first second h)

  all_start_turns-stay : StayInLevel entry (all_start_turns script)
  unfolding all_start_turns
  all_start_turns-stay first second h = start_turns-stay AGAIN_LIMIT first second h

  started-stay : (message : Option (List ℕ)) (again : Bool) → StayInLevel entry (λ play. started script play message again)
  started-stay message again first second h =
      told message again AGAIN_LIMIT (all_start_turns script) all_start_turns-stay (seen script first) (seen script second)
      (seen_alike entry first second h script)

  started_by-stay : (message : Option (List ℕ)) (outcome : Outcome) →
      StayInLevel entry (λ play. started_by script play message outcome)
  started_by-stay message (Blocked own) first second h = started-stay (option_or own message) false first second h
  started_by-stay message (Restarted own) first second h = started-stay (option_or own message) false first second h
  started_by-stay message (Finished done) first second h =
      started-stay (option_or done.message message) done.again (with_turn first done) (with_turn second done)
      (turned_alike entry first second h done)

  pub start_step-stay : (message : Option (List ℕ)) (runs : Bool) → script.options.run_rules_on_level_start ≡ runs →
      StayInLevel entry (λ play. start_step script play message)
  start_step-stay message false e first second h = rw (e, start_step) (started-stay message false first second h)
  start_step-stay message true e first second h =
      rw (e, start_step) (by_same_turn script None first.board second.board h.board
      (λ one other. Both entry (started_by script first message one).session
      (started_by script second message other).session)
      (λ outcome. started_by-stay message outcome first second h))

  pub restarted-stay : (message : Option (List ℕ)) → StayInLevel entry (λ play. restarted script play message)
  restarted-stay message first second h =
      start_step-stay message script.options.run_rules_on_level_start refl (with_board first first.restart_board)
      (with_board second second.restart_board) (back_alike entry first second h)
