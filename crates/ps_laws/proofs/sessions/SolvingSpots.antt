-- A level goes on by its spot.
use Rattle.std.proofs.Common.{◌≡◌, ◌<◌, inl, inr, ℕ, suc, Bool, true, false, Option, Some, None, List, [], ◌∷◌, refl, sym}
use Rattle.std.proofs.Common.{ap, subst, ◌∙◌, arith, is_none, eq-eqb}
use Rattle.std.specs.Prelude.{◌==◌, nat_lt}
use Rattle.std.specs.Option.{option_and_then}
use Rattle.std.proofs.lemmas.Bool.Decides.{nat_tests}
use Rattle.ps_model.specs.declared.play.Input.{Input}
use Rattle.ps_model.specs.declared.play.Input.TheVariants.{Up, Down, Left, Right, Action}
use Rattle.ps_model.specs.declared.play.Key.TheVariants.{Move}
use Rattle.ps_model.specs.board.Turns.{Script}
use Rattle.ps_model.specs.session.Sessions.{Play, Pending, Session, Playing, Waiting, AtMessage, Ended}
use Rattle.ps_model.specs.session.KeySteps.{key_at_level_message, key_step}
use Rattle.ps_model.specs.session.Solving.{session_after_inputs, is_past, Spot, spot_of, spot, at_spot, next_spot}
use Rattle.ps_model.specs.session.Solving.{spot_after_inputs}
use Rattle.ps_laws.specs.SolvingSpots.{SpotsDecide, SpotsAreOfSessions, LevelsAreNotPast, LeftLevelsArePast}
use Rattle.ps_laws.specs.SolvingSpots.{PastStaysPast, ListsGoBySpots}
use Rattle.ps_laws.proofs.sessions.SpotsAtStarts.{AtOneSpot}
use Rattle.ps_laws.proofs.sessions.SpotsAtKeys.{Alike, in_level, at_message, enter_past, later_is_past, past_later}
use Rattle.ps_laws.proofs.sessions.SpotsAtKeys.{same_level}

-- spots ---------------------------------------------------------------------------------------------------------------

-- a level that is played is at that spot
record IsAt (entry : ℕ) (here : Spot) (play : Play) (waits : Option Pending) : Type 0 where
  of_entry : play.entry ≡ entry
  with_board : play.board ≡ here.board
  with_restart_board : play.restart_board ≡ here.restart_board
  waiting : waits ≡ here.waits

at_it : (entry : ℕ) (here : Spot) (play : Play) (waits : Option Pending) (b : Bool) → (play.entry == entry) ≡ b →
    spot_of b play waits ≡ Some here → IsAt entry here play waits
at_it entry here play waits false e h = cc
at_it entry here play waits true e h =
    let own : Spot = record { board = play.board; restart_board = play.restart_board; waits = waits } in
    let same : own ≡ here = cc in record {
      of_entry = grind (arith, nat_tests);
      with_board = ap (λ (s : Spot). s.board) same;
      with_restart_board = ap (λ (s : Spot). s.restart_board) same;
      waiting = ap (λ (s : Spot). s.waits) same;
    }

at_one_spot : (entry : ℕ) (here : Spot) (first second : Play) (waits other : Option Pending) →
    IsAt entry here first waits → IsAt entry here second other → AtOneSpot entry first second
at_one_spot entry here first second waits other h k = record {
  first_entry = h.of_entry;
  second_entry = k.of_entry;
  board = h.with_board ∙ sym k.with_board;
  restart_board = h.with_restart_board ∙ sym k.with_restart_board;
}

-- sessions at one spot go on alike
go_alike : (script : Script) (entry : ℕ) (first second : Session) (here : Spot) → spot entry first ≡ Some here →
    spot entry second ≡ Some here → (input : Input) →
    Alike entry (key_step script first (Move input)).session (key_step script second (Move input)).session
go_alike script entry (Playing first) (Playing second) here e k input =
    let one = at_it entry here first None (first.entry == entry) refl e in
    let other = at_it entry here second None (second.entry == entry) refl k in
    in_level script entry input first second (at_one_spot entry here first second None None one other)
go_alike script entry (Playing first) (Waiting second pending) here e k input =
    let one = (at_it entry here first None (first.entry == entry) refl e).waiting in
    let other = (at_it entry here second (Some pending) (second.entry == entry) refl k).waiting in cc
go_alike script entry (Waiting first pending) (Playing second) here e k input =
    let one = (at_it entry here first (Some pending) (first.entry == entry) refl e).waiting in
    let other = (at_it entry here second None (second.entry == entry) refl k).waiting in cc
go_alike script entry (Waiting first pending) (Waiting second other_pending) here e k input =
    let one = at_it entry here first (Some pending) (first.entry == entry) refl e in
    let other = at_it entry here second (Some other_pending) (second.entry == entry) refl k in
    let a = one.waiting in
    let b = other.waiting in
    let same : pending ≡ other_pending = cc in
    subst (λ (p : Pending). Alike entry (key_at_level_message script first pending (Move input)).session
    (key_at_level_message script second p (Move input)).session) same
    (at_message script entry pending input first second
    (at_one_spot entry here first second (Some pending) (Some other_pending) one other))
go_alike script entry (AtMessage at) second here e k input = cc
go_alike script entry (Ended ending) second here e k input = cc
go_alike script entry (Playing first) (AtMessage at) here e k input = cc
go_alike script entry (Playing first) (Ended ending) here e k input = cc
go_alike script entry (Waiting first pending) (AtMessage at) here e k input = cc
go_alike script entry (Waiting first pending) (Ended ending) here e k input = cc

-- who is past an entry is at no spot of it
not_there : (entry : ℕ) (play : Play) (waits : Option Pending) (b : Bool) → (play.entry == entry) ≡ b →
    nat_lt entry play.entry ≡ true → spot_of b play waits ≡ None
not_there entry play waits false e h = refl
not_there entry play waits true e h = absurd (grind (arith, nat_tests))

past_is_nowhere : (entry : ℕ) (session : Session) → is_past entry session ≡ true → spot entry session ≡ None
past_is_nowhere entry (Playing play) h = not_there entry play None (play.entry == entry) refl h
past_is_nowhere entry (Waiting play pending) h = not_there entry play (Some pending) (play.entry == entry) refl h
past_is_nowhere entry (AtMessage at) h = refl
past_is_nowhere entry (Ended ending) h = refl

pub spots_decide : SpotsDecide
spots_decide script entry first second here e k input = by (go_alike script entry first second here e k input)
  where
    by : Alike entry (key_step script first (Move input)).session (key_step script second (Move input)).session →
        spot entry (key_step script first (Move input)).session ≡ spot entry (key_step script second (Move input)).session
    by (inl both) = both.1 ∙ sym both.2
    by (inr past) = past_is_nowhere entry (key_step script first (Move input)).session past.0
        ∙ sym (past_is_nowhere entry (key_step script second (Move input)).session past.1)

there : (entry : ℕ) (here : Spot) (waits : Option Pending) → here.waits ≡ waits → spot entry (at_spot entry here) ≡ Some here
there entry here None e = rw (e, at_spot, eq-eqb entry entry refl) refl
there entry here (Some pending) e = rw (e, at_spot, eq-eqb entry entry refl) refl

pub spots_are_of_sessions : SpotsAreOfSessions
spots_are_of_sessions entry here = there entry here here.waits refl

-- past ----------------------------------------------------------------------------------------------------------------

not_past : (b : Bool) (entry : ℕ) (session : Session) (here : Spot) → is_past entry session ≡ b → spot entry session ≡ Some here → b ≡ false
not_past false entry session here e h = refl
not_past true entry session here e h = let nowhere = past_is_nowhere entry session e in cc

pub levels_are_not_past : LevelsAreNotPast
levels_are_not_past entry session here e = not_past (is_past entry session) entry session here refl e

pub left_levels_are_past : LeftLevelsArePast
left_levels_are_past script entry session here e input left = by (go_alike script entry session session here e e input)
  where
    by : Alike entry (key_step script session (Move input)).session (key_step script session (Move input)).session →
        is_past entry (key_step script session (Move input)).session ≡ true
    by (inl both) = let h = both.1 in cc
    by (inr past) = past.0

further : (entry at : ℕ) (session : Session) → entry < at → Alike at session session → is_past entry session ≡ true
further entry at session h (inl both) = later_is_past entry at session both.0 both.1 h
further entry at session h (inr past) = past_later entry at session h past.0

before : (entry at : ℕ) → nat_lt entry at ≡ true → entry < at
before entry at e = grind (arith, nat_tests)

pub past_stays_past : PastStaysPast
past_stays_past script entry (Playing play) input h =
    further entry play.entry (key_step script (Playing play) (Move input)).session (before entry play.entry h)
    (in_level script play.entry input play play (same_level play))
past_stays_past script entry (Waiting play pending) input h =
    further entry play.entry (key_step script (Waiting play pending) (Move input)).session (before entry play.entry h)
    (at_message script play.entry pending input play play (same_level play))
past_stays_past script entry (AtMessage at) Action h =
    let below = before entry at h in enter_past script entry (suc at) (omega arith)
past_stays_past script entry (AtMessage at) Up h = h
past_stays_past script entry (AtMessage at) Down h = h
past_stays_past script entry (AtMessage at) Left h = h
past_stays_past script entry (AtMessage at) Right h = h
past_stays_past script entry (Ended ending) input h = refl

past_for_good : (script : Script) (entry : ℕ) (session : Session) → is_past entry session ≡ true → (inputs : List Input) →
    is_past entry (session_after_inputs script session inputs) ≡ true
past_for_good script entry session h [] = h
past_for_good script entry session h (input ∷ inputs) =
    past_for_good script entry (key_step script session (Move input)).session (past_stays_past script entry session input h) inputs

pub lists_go_by_spots : ListsGoBySpots
lists_go_by_spots script entry session here e [] = levels_are_not_past entry session here e
lists_go_by_spots script entry session here e (input ∷ inputs) =
    by (go_alike script entry session (at_spot entry here) here e (spots_are_of_sessions entry here) input)
    (λ next there there_is. lists_go_by_spots script entry next there there_is inputs)
  where
    by : Alike entry (key_step script session (Move input)).session (key_step script (at_spot entry here) (Move input)).session →
        ((next : Session) (there : Spot) → spot entry next ≡ Some there → is_past entry (session_after_inputs script next inputs) ≡ is_none (spot_after_inputs script entry there inputs)) →
        is_past entry (session_after_inputs script (key_step script session (Move input)).session inputs) ≡
        is_none (option_and_then (λ next. spot_after_inputs script entry next inputs) (next_spot script entry here input))
    by (inl both) rest =
        rest (key_step script session (Move input)).session both.0 both.1
        ∙ ap (λ (o : Option Spot). is_none (option_and_then (λ next. spot_after_inputs script entry next inputs) o)) (sym both.2)
    by (inr past) rest =
        past_for_good script entry (key_step script session (Move input)).session past.0 inputs
        ∙ ap (λ (o : Option Spot). is_none (option_and_then (λ next. spot_after_inputs script entry next inputs) o))
        (sym (past_is_nowhere entry (key_step script (at_spot entry here) (Move input)).session past.1))
