-- The again turns of a key and of a start are those of the longest list of turns that count.
use Rattle.std.proofs.Common.{inl, inr, ◌≡◌, ℕ, zero, suc, ◌-◌, ◌≤◌, Bool, true, false, Option, Some, None, List, []}
use Rattle.std.proofs.Common.{◌∷◌, length, refl, sym, ◌∙◌, ap, subst, arith}
use Rattle.std.specs.Prelude.{◌⊎◌, is_none, not, ◌&&◌}
use Rattle.ps_model.specs.declared.limits.TheConstants.{AGAIN_LIMIT}
use Rattle.ps_model.specs.board.Grid.{Grid}
use Rattle.ps_model.specs.board.Turns.{Script, Done, Outcome, Blocked, Restarted, Finished, turn}
use Rattle.ps_model.specs.session.Sessions.{Play, Step, after, seen, shown, with_turn}
use Rattle.ps_model.specs.session.StartSteps.{start_told, start_counted, start_turn_by, start_turns, all_start_turns}
use Rattle.ps_model.specs.session.KeySteps.{key_told, key_counted, key_turn_by, key_turns, all_key_turns}
use Rattle.ps_laws.specs.AgainTurns.{counts_for_key, goes_on_for_key, counts_for_start, goes_on_for_start, Follow}
use Rattle.ps_laws.specs.AgainTurns.{IsLongest, turns_told, key_stop, start_stop, told_at_start, KeyTurnsAreLongest}
use Rattle.ps_laws.specs.AgainTurns.{StartTurnsAreLongest, AllKeyTurnsAreLongest, AllStartTurnsAreLongest}

-- any again turns -----------------------------------------------------------------------------------------------------

-- again turns that stop where a turn doesn't count, and that tell after each that does what the next ones bring, if
-- they come
record Repeat (counts goes_on : Done → Bool) (told : Play → Done → ℕ → (Play → Step) → Step) (stop : ℕ → Play →
    Step) (script : Script) (turns : ℕ → Play → Step) : Type 0 where
  none_left : (play : Play) → turns 0 play ≡ stop 0 play
  blocked : (left : ℕ) (play : Play) (message : Option (List ℕ)) → turn script None play.board ≡ Blocked message →
      turns (suc left) play ≡ stop (suc left) play
  restarting : (left : ℕ) (play : Play) (message : Option (List ℕ)) → turn script None play.board ≡ Restarted message →
      turns (suc left) play ≡ stop (suc left) play
  idle : (left : ℕ) (play : Play) (done : Done) → turn script None play.board ≡ Finished done → counts done ≡ false →
      turns (suc left) play ≡ stop (suc left) play
  counted : (left : ℕ) (play : Play) (done : Done) → turn script None play.board ≡ Finished done → counts done ≡ true →
      turns (suc left) play ≡ after (shown script (seen script (with_turn play done)))
      (told (seen script (with_turn play done)) done left (turns left))
  cut : (done : Done) (play : Play) (left : ℕ) (first second : Play → Step) → goes_on done ≡ false →
      told play done left first ≡ told play done left second
  onwards : (done : Done) (play : Play) (left : ℕ) (again_turns : Play → Step) → goes_on done ≡ true →
      told play done left again_turns ≡ again_turns play

fewer : (left : ℕ) → left ≡ suc left - 1
fewer left = omega arith

module _ (counts goes_on : Done → Bool) (told : Play → Done → ℕ → (Play → Step) → Step) (stop : ℕ → Play →
    Step) (script : Script) (turns : ℕ → Play → Step) (r : Repeat counts goes_on told stop script turns) where
  abbrev IsTold : ℕ → Play → Type 0
  IsTold limit play = (dones : List Done) × IsLongest counts goes_on script limit play.board dones ×
      (turns limit play ≡ turns_told told stop script dones limit play)

  -- the first of a list is the turn of the board
  first_is : (board : Grid) (done first : Done) → turn script None board ≡ Finished done →
      turn script None board ≡ Finished first → done ≡ first
  first_is board done first e h = let same : Finished done ≡ Finished first = sym e ∙ h in cc same

  -- where no turn counts, the list is empty
  none : (limit : ℕ) (play : Play) → turns limit play ≡ stop limit play →
      ((first : Done) → turn script None play.board ≡ Finished first → counts first ≡ true → 1 ≤ limit → ⊥) →
      IsTold limit play
  none limit play e bars = ([], record { follow = tt; few = omega arith; longest = no_longer }, e) where
    no_longer : (others : List Done) → Follow counts goes_on script play.board others → length others ≤ limit →
        length others ≤ 0
    no_longer [] h few = omega arith
    no_longer (first ∷ others) h few = absurd (bars first h.0 h.1 (omega (arith, few)))

  -- a turn after which no other is due is the last
  last : (left : ℕ) (play : Play) (done : Done) → turn script None play.board ≡ Finished done → counts done ≡ true →
      goes_on done ≡ false → IsTold (suc left) play
  last left play done e counting ends = (
    done ∷ [],
    record { follow = (e, counting, inl refl, tt); few = omega arith; longest = no_longer },
    r.counted left play done e counting
        ∙ ap (after (shown script (seen script (with_turn play done))))
        (r.cut done (seen script (with_turn play done)) left (turns left) (stop left) ends)
        ∙ ap (λ (n : ℕ). after (shown script (seen script (with_turn play done)))
        (told (seen script (with_turn play done)) done n (turns_told told stop script [] n))) (fewer left),
  ) where
    alone : (first : Done) (others : List Done) → done ≡ first → (others ≡ []) ⊎ (goes_on first ≡ true) →
        length (first ∷ others) ≤ 1
    alone first others same (inl nothing) = let empty : length others ≡ 0 = ap (λ (l : List Done). length l) nothing in
        omega (arith, empty)
    alone first others same (inr on) = let clash : false ≡ true = sym ends ∙ ap goes_on same ∙ on in absurd (cc clash)

    no_longer : (others : List Done) → Follow counts goes_on script play.board others → length others ≤ suc left →
        length others ≤ 1
    no_longer [] h few = omega arith
    no_longer (first ∷ others) h few = alone first others (first_is play.board done first e h.0) h.2

  -- a turn after which another is due comes before those of the rest
  further : (left : ℕ) (play : Play) (done : Done) → turn script None play.board ≡ Finished done → counts done ≡ true →
      goes_on done ≡ true →
      IsTold left (seen script (with_turn play done)) → IsTold (suc left) play
  further left play done e counting on (dones, rest, is) = (
    done ∷ dones,
    record { follow = (e, counting, inr on, rest.follow); few = omega (arith, rest.few); longest = no_longer },
    r.counted left play done e counting
        ∙ ap (after (shown script (seen script (with_turn play done))))
        (r.onwards done (seen script (with_turn play done)) left (turns left) on ∙ is
        ∙ sym (r.onwards done (seen script (with_turn play done)) left (turns_told told stop script dones left) on))
        ∙ ap (λ (n : ℕ). after (shown script (seen script (with_turn play done)))
        (told (seen script (with_turn play done)) done n (turns_told told stop script dones n))) (fewer left),
  ) where
    no_longer : (others : List Done) → Follow counts goes_on script play.board others → length others ≤ suc left →
        length others ≤ suc (length dones)
    no_longer [] h few = omega arith
    no_longer (first ∷ others) h few =
        let same : done ≡ first = first_is play.board done first e h.0 in
        let behind : Follow counts goes_on script done.board others =
        subst (λ (d : Done). Follow counts goes_on script d.board others) (sym same) h.3 in
        let short : length others ≤ length dones = rest.longest others behind (omega (arith, few)) in
        omega (arith, short)

  by_counting : (left : ℕ) (play : Play) (done : Done) (counting on : Bool) →
      turn script None play.board ≡ Finished done → counts done ≡ counting → goes_on done ≡ on →
      IsTold left (seen script (with_turn play done)) → IsTold (suc left) play
  by_counting left play done false on e c g rest =
      none (suc left) play (r.idle left play done e c)
      (λ first is counting some. let clash : false ≡ true = sym c ∙ ap counts (first_is play.board done first e is)
      ∙ counting in absurd (cc clash))
  by_counting left play done true false e c g rest = last left play done e c g
  by_counting left play done true true e c g rest = further left play done e c g rest

  by_outcome : (left : ℕ) (play : Play) (outcome : Outcome) → turn script None play.board ≡ outcome →
      ((next : Play) → IsTold left next) → IsTold (suc left) play
  by_outcome left play (Blocked message) e rest =
      none (suc left) play (r.blocked left play message e) (λ first is counting some.
      let clash : Blocked message ≡ Finished first = sym e ∙ is in absurd (cc clash))
  by_outcome left play (Restarted message) e rest =
      none (suc left) play (r.restarting left play message e) (λ first is counting some.
      let clash : Restarted message ≡ Finished first = sym e ∙ is in absurd (cc clash))
  by_outcome left play (Finished done) e rest =
      by_counting left play done (counts done) (goes_on done) e refl refl (rest (seen script (with_turn play done)))

  all_told : (limit : ℕ) (play : Play) → IsTold limit play
  all_told zero play = none 0 play (r.none_left play) (λ first is counting some. absurd (omega (arith, some)))
  all_told (suc left) play = by_outcome left play (turn script None play.board) refl (all_told left)

-- those of a key ------------------------------------------------------------------------------------------------------

key_cut : (script : Script) (play : Play) (left : ℕ) (first second : Play →
    Step) (done : Done) (message : Option (List ℕ)) (win again : Bool) →
    done.message ≡ message → done.win ≡ win → done.again ≡ again → (is_none message && (not win && again)) ≡ false →
    key_told script play done left first ≡ key_told script play done left second
key_cut script play left first second done (Some text) win again m w a ends = rw (m, key_told) refl
key_cut script play left first second done None true again m w a ends = rw (m, w, key_told) refl
key_cut script play left first second done None false true m w a ends = absurd (cc ends)
key_cut script play left first second done None false false m w a ends = rw (m, w, a, key_told) refl

key_onwards : (script : Script) (play : Play) (left : ℕ) (again_turns : Play →
    Step) (done : Done) (message : Option (List ℕ)) (win again : Bool) →
    done.message ≡ message → done.win ≡ win → done.again ≡ again → (is_none message && (not win && again)) ≡ true →
    key_told script play done left again_turns ≡ again_turns play
key_onwards script play left again_turns done (Some text) win again m w a on = absurd (cc on)
key_onwards script play left again_turns done None true again m w a on = absurd (cc on)
key_onwards script play left again_turns done None false true m w a on = rw (m, w, a, key_told) refl
key_onwards script play left again_turns done None false false m w a on = absurd (cc on)

key_repeat : (script : Script) → Repeat counts_for_key goes_on_for_key (key_told script) (key_stop script) script
    (key_turns script)
key_repeat script = record {
  none_left = λ play. refl;
  blocked = λ left play message e. rw (key_turns, key_stop, e) refl;
  restarting = λ left play message e. rw (key_turns, key_stop, e) refl;
  idle = λ left play done e c. rw (key_turns, key_stop, e, key_turn_by, key_counted, c) refl;
  counted = λ left play done e c. rw (key_turns, e, key_turn_by, key_counted, c) refl;
  cut = λ done play left first second ends. key_cut script play left first second done done.message done.win done.again
      refl refl refl ends;
  onwards = λ done play left again_turns on. key_onwards script play left again_turns done done.message done.win
      done.again refl refl refl on;
}

pub key_turns-longest : KeyTurnsAreLongest
key_turns-longest script limit play = all_told counts_for_key goes_on_for_key (key_told script) (key_stop script)
    script (key_turns script) (key_repeat script) limit play

pub all_key_turns-longest : AllKeyTurnsAreLongest
unfolding all_key_turns
all_key_turns-longest script play = key_turns-longest script AGAIN_LIMIT play

-- those of a start ----------------------------------------------------------------------------------------------------

start_cut : (play : Play) (left : ℕ) (first second : Play → Step) (message : Option (List ℕ)) (again : Bool) →
    (is_none message && again) ≡ false →
    start_told play message again left first ≡ start_told play message again left second
start_cut play left first second (Some text) again ends = refl
start_cut play left first second None true ends = absurd (cc ends)
start_cut play left first second None false ends = refl

start_onwards : (play : Play) (left : ℕ) (again_turns : Play → Step) (message : Option (List ℕ)) (again : Bool) →
    (is_none message && again) ≡ true →
    start_told play message again left again_turns ≡ again_turns play
start_onwards play left again_turns (Some text) again on = absurd (cc on)
start_onwards play left again_turns None true on = refl
start_onwards play left again_turns None false on = absurd (cc on)

start_repeat : (script : Script) → Repeat counts_for_start goes_on_for_start told_at_start start_stop script
    (start_turns script)
start_repeat script = record {
  none_left = λ play. refl;
  blocked = λ left play message e. rw (start_turns, e) refl;
  restarting = λ left play message e. rw (start_turns, e) refl;
  idle = λ left play done e c. rw (start_turns, e, start_turn_by, start_counted, c) refl;
  counted = λ left play done e c. rw (start_turns, e, start_turn_by, start_counted, c) refl;
  cut = λ done play left first second ends. start_cut play left first second done.message done.again ends;
  onwards = λ done play left again_turns on. start_onwards play left again_turns done.message done.again on;
}

pub start_turns-longest : StartTurnsAreLongest
start_turns-longest script limit play = all_told counts_for_start goes_on_for_start told_at_start start_stop script
    (start_turns script) (start_repeat script) limit play

pub all_start_turns-longest : AllStartTurnsAreLongest
unfolding all_start_turns
all_start_turns-longest script play = start_turns-longest script AGAIN_LIMIT play
