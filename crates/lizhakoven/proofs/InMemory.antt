-- From what a run may answer, by what its devices tell, to what it has written for its caller.
use Rattle.std.proofs.Common.{◌≡◌, ◌≢◌, ◌∙◌, ◌⊎◌, ℕ, ◌+◌, ◌<◌, ◌≤◌, ◌==◌, inl, inr, Bool, true, false, refl, sym, ap}
use Rattle.std.proofs.Common.{arith}
use Rattle.std.proofs.Common.{List, [], ◌∷◌, ◌++◌, length, take, drop, Option, Some, None, option_map, Result, Ok, Err}
use Rattle.std.proofs.Common.{◌-◌, append_assoc, append-nil, min}
use Rattle.std.specs.Prelude.{nat_lt, if◌then◌else◌}
use Rattle.std.specs.List.{All, concat}
use Rattle.std.proofs.lemmas.Bool.{eqb-true, ltb-false, ltb-true}
use Rattle.std.proofs.lemmas.List.{length-append, length-drop, length-take-le, take-append-drop, take_all, take_at}
use Rattle.std.proofs.lemmas.List.Elements.{All-head, All-tail}
use Rattle.ps_model.specs.declared.limits.TheConstants.{READ_LIMIT}
use Rattle.ps_model.specs.declared.play.Ending.{Ending}
use Rattle.ps_model.specs.declared.play.Ending.TheVariants.{EndOfKeys}
use Rattle.ps_model.specs.declared.play.Key.{Key}
use Rattle.ps_model.specs.board.Turns.{Script}
use Rattle.ps_model.specs.session.Keys.{keys_of}
use Rattle.ps_model.specs.text.Faults.{first_fault}
use Rattle.ps_model.specs.game.Games.{faults}
use Rattle.ps_model.specs.session.Sessions.{Step}
use Rattle.ps_model.specs.game.Outputs.{ending_of, opening_step, output, output_of_keys}
use Rattle.ps_model.specs.game.Tellings.{ReaderState, WriterState, Gives, Fails, ReaderCalls, Unasked, Asked, Told}
use Rattle.ps_model.specs.game.Tellings.{CountsCalls, IsLeft, all_bytes, has_failing_call, most_calls, read}
use Rattle.ps_model.specs.game.Headline.{Answers, GaveNothing, GoesOn, IsCutOff, IsFront, IsPiece, ReadsInTurn}
use Rattle.ps_model.specs.game.Headline.{ReadsNoMore, RunsRightly, ending_behind, script_of_text, texts_of}
use Rattle.ps_laws.proofs.keys.Fronts.{front_of_more}
use Rattle.ps_laws.proofs.runs.LeftToWrite.{left_to_write}
use Rattle.ps_devices.specs.Answers.{answer_of}
use Rattle.ps_devices.specs.declared.players.RunFault.{RunFault}
use Rattle.ps_devices.specs.declared.players.RunFault.TheVariants as fault
use Rattle.ps_laws.specs.Fronts.{whole_front}
use Rattle.lizhakoven.specs.declared.playing.Played.TheVariants.{NoRoom}
use Rattle.lizhakoven.specs.FreshDevices.{fresh_reader, fresh_writer}
use Rattle.lizhakoven.specs.Runs.{IsCutOffOutput, IsPlayed, played_of, played_within}

-- what was written for an answer, whatever the room
abbrev pub IsWritten : List ℕ → List ℕ → List ℕ → Result Ending RunFault → Type 0
IsWritten text keys wrote (Ok ending) = (script : Script) × (script_of_text text ≡ Some script) ×
    ((output script keys).ending ≡ ending) × (wrote ≡ (output script keys).written)
IsWritten text keys wrote (Err (fault.Refused first)) = (first_fault (faults text) ≡ Some first) × (wrote ≡ [])
IsWritten text keys wrote (Err fault.Memory) = (wrote ≡ []) ⊎ IsCutOffOutput text keys wrote
IsWritten text keys wrote (Err fault.Read) = (READ_LIMIT ≤ length keys) × IsCutOffOutput text keys wrote
IsWritten text keys wrote (Err fault.Write) = IsCutOffOutput text keys wrote

-- reading -------------------------------------------------------------------------------------------------------------

-- what the reader had is what was read and what is left
all_given : (known : Option (List ℕ)) (bytes keys left : List ℕ) →
    Some keys ≡ option_map (λ rest. bytes ++ rest) known → IsLeft known left → keys ≡ bytes ++ left
all_given None bytes keys left given is = absurd (cc)
all_given (Some rest) bytes keys left given is = let same : keys ≡ bytes ++ rest = cc in rw is same

-- as many bytes as pieces, or more
as_long : (pieces : List (List ℕ)) → All IsPiece pieces → length pieces ≤ length (concat pieces)
as_long [] all = omega arith
as_long (piece ∷ pieces) all =
    let first : IsPiece piece = All-head IsPiece piece pieces all in
    let some : 1 ≤ length piece = first.some in
    let others : length pieces ≤ length (concat pieces) = as_long pieces (All-tail IsPiece piece pieces all) in
    let sum : length (piece ++ concat pieces) ≡ length piece + length (concat pieces) =
    length-append piece (concat pieces) in omega (arith, some, others, sum)

some_bytes : (piece : List ℕ) → piece ≢ [] → 1 ≤ length piece
some_bytes [] none = absurd (none refl)
some_bytes (byte ∷ bytes) none = omega arith

-- a reader whose calls can be counted hasn't failed
no_failure : (count calls : ℕ) → count < READ_LIMIT →
    (calls ≡ 0 + (count + 1)) ⊎ ((most_calls ≤ calls) × (calls ≡ 0 + count)) → most_calls ≤ calls → ⊥
no_failure count calls few (inl is) worn = omega (arith, few, is, worn)
no_failure count calls few (inr (full, is)) worn = omega (arith, few, is, worn)

-- a reader that doesn't fail gives all that a run reads, before the run reads no more
many_keys : (script : Script) (reading : ReaderCalls) (left : List ℕ) (calls : ℕ) → ReadsInTurn script reading left →
    ReadsNoMore reading → CountsCalls 0 reading calls → (has_failing_call reading ≡ true → most_calls ≤ calls) →
    READ_LIMIT ≤ length (read reading)
many_keys script Unasked left calls asks cause counts worn = absurd cause
many_keys script (Asked earlier (Gives piece)) left calls asks cause counts worn =
    let some : 1 ≤ length piece = some_bytes piece cause.1 in
    let long : length earlier ≤ length (concat earlier) = as_long earlier asks.pieces in
    let all : length earlier + 1 ≡ READ_LIMIT = cause.0 in
    let sum : length (concat earlier ++ piece) ≡ length (concat earlier) + length piece =
    length-append (concat earlier) piece in omega (arith, some, long, all, sum)
many_keys script (Asked earlier Fails) left calls asks cause counts worn =
    absurd (no_failure (length earlier) calls asks.calls counts (worn refl))

-- where a call gave nothing, nothing is left
none_left : (script : Script) (reading : ReaderCalls) (left : List ℕ) → ReadsInTurn script reading left →
    GaveNothing reading → left ≡ []
none_left script Unasked left asks gave = absurd gave
none_left script (Asked earlier last) left asks gave = asks.spent gave

-- fronts --------------------------------------------------------------------------------------------------------------

-- what is cut off from a front is cut off from the whole
cut_off_front : (first second third : List ℕ) → IsCutOff first second → IsFront second third → IsCutOff first third
cut_off_front first second third cut front = record {
  rest = cut.rest ++ front.0;
  some = let some : 1 ≤ length cut.rest = cut.some in
      let sum : length (cut.rest ++ front.0) ≡ length cut.rest + length front.0 = length-append cut.rest front.0 in
      omega (arith, some, sum);
  is = front.1 ∙ ap (λ (l : List ℕ). l ++ front.0) cut.is ∙ append_assoc first cut.rest front.0;
}

-- a front of some bytes that is shorter than they are is cut off
cut_by_length : (count : ℕ) (bytes whole : List ℕ) → count < length bytes → IsFront bytes whole →
    IsCutOff (take count bytes) whole
cut_by_length count bytes whole short front = record {
  rest = drop count bytes ++ front.0;
  some = let left : length (drop count bytes) ≡ length bytes - count = length-drop count bytes in
      let sum : length (drop count bytes ++ front.0) ≡ length (drop count bytes) + length front.0 =
      length-append (drop count bytes) front.0 in omega (arith, short, left, sum);
  is = front.1 ∙ ap (λ (l : List ℕ). l ++ front.0) (sym (take-append-drop count bytes))
      ∙ append_assoc (take count bytes) (drop count bytes) front.0;
}

-- the texts of the keys that were read are a front of the output
texts_are_front : (script : Script) (bytes more : List ℕ) →
    IsFront (texts_of script bytes) (output script (bytes ++ more)).written
unfolding whole_front
texts_are_front script bytes more = front_of_more script bytes more

-- a game that goes on after all keys goes on after that number of them
on_after_all : (script : Script) (bytes : List ℕ) → GoesOn script bytes →
    ending_behind script bytes (length (keys_of bytes)) ≡ EndOfKeys
on_after_all script bytes on =
    let start : Step = opening_step script in
    ap (λ (keys : List Key). (output_of_keys script start.session (ending_of start.session) keys).ending)
    (take_all (length (keys_of bytes)) (keys_of bytes) (omega arith)) ∙ on

-- answers -------------------------------------------------------------------------------------------------------------

-- what was written, by what the devices told
is_written : (text keys : List ℕ) (told : Told) (calls : ℕ) (answer : Result Ending RunFault) →
    keys ≡ all_bytes told → CountsCalls 0 told.reading calls →
    (has_failing_call told.reading ≡ true → most_calls ≤ calls) → Answers text told (answer_of answer) →
    IsWritten text keys told.wrote answer
is_written text keys told calls (Ok ending) all counts worn (script, found, right) =
    (script, found, rw all right.ending_is, rw all right.wrote)
is_written text keys told calls (Err (fault.Refused first)) all counts worn right =
    (right.is_first, right.wrote_nothing)
is_written text keys told calls (Err fault.Memory) all counts worn (inl right) = inl right.wrote_nothing
is_written text keys told calls (Err fault.Memory) all counts worn (inr (script, found, right)) =
    inr (
      script,
      found,
      rw (all, right.wrote)
          (left_to_write script (read told.reading) told.left right.keys right.goes_on),
    )
is_written text keys told calls (Err fault.Read) all counts worn (script, found, right) =
    let many : READ_LIMIT ≤ length (read told.reading) =
    many_keys script told.reading told.left calls right.reads right.cause counts worn in
    let sum : length (read told.reading ++ told.left) ≡ length (read told.reading) + length told.left =
    length-append (read told.reading) told.left in (
      rw all (omega (arith, many, sum)),
      (
        script,
        found,
        rw (all, right.wrote)
            (left_to_write script (read told.reading) told.left (length (keys_of (read told.reading)))
            (on_after_all script (read told.reading) right.goes_on)),
      ),
    )
is_written text keys told calls (Err fault.Write) all counts worn (script, found, right) =
    (script, found, cut_off script told keys all right.reads right.wrote) where
      cut_off : (script : Script) (told : Told) (keys : List ℕ) → keys ≡ all_bytes told →
          ReadsInTurn script told.reading told.left →
          IsCutOff told.wrote (texts_of script (read told.reading))
          ⊎ (GaveNothing told.reading × IsCutOff told.wrote (output script (read told.reading)).written) →
          IsCutOff told.wrote (output script keys).written
      cut_off script told keys all asks (inl cut) =
          rw all (cut_off_front told.wrote (texts_of script (read told.reading))
          (output script (read told.reading ++ told.left)).written cut
          (texts_are_front script (read told.reading) told.left))
      cut_off script told keys all asks (inr (gave, cut)) =
          let none : told.left ≡ [] = none_left script told.reading told.left asks gave in
          let same : keys ≡ read told.reading =
          all ∙ ap (λ (l : List ℕ). read told.reading ++ l) none ∙ append-nil (read told.reading) in rw same cut

-- where some bytes were written they are a front of the output of a game
some_front : (text keys wrote : List ℕ) (answer : Result Ending RunFault) → 1 ≤ length wrote →
    IsWritten text keys wrote answer →
    (script : Script) × (script_of_text text ≡ Some script) × IsFront wrote (output script keys).written
some_front text keys wrote (Ok ending) some (script, found, ends, is) =
    (script, found, ([], sym is ∙ sym (append-nil wrote)))
some_front text keys wrote (Err (fault.Refused first)) some (is, none) =
    let long : length wrote ≡ 0 = ap length none in absurd (omega (arith, some, long))
some_front text keys wrote (Err fault.Memory) some (inl none) =
    let long : length wrote ≡ 0 = ap length none in absurd (omega (arith, some, long))
some_front text keys wrote (Err fault.Memory) some (inr (script, found, cut)) = (script, found, (cut.rest, cut.is))
some_front text keys wrote (Err fault.Read) some (many, (script, found, cut)) = (script, found, (cut.rest, cut.is))
some_front text keys wrote (Err fault.Write) some (script, found, cut) = (script, found, (cut.rest, cut.is))

-- all that was written has room
all_in_room : (text keys wrote : List ℕ) (room : ℕ) (answer : Result Ending RunFault) (is_full : Bool) →
    (is_full ≡ true → length wrote ≡ room) → IsWritten text keys wrote answer →
    IsPlayed text keys room wrote (played_within answer is_full)
all_in_room text keys wrote room (Ok ending) is_full full written = written
all_in_room text keys wrote room (Err (fault.Refused first)) is_full full written = written
all_in_room text keys wrote room (Err fault.Memory) is_full full written = written
all_in_room text keys wrote room (Err fault.Read) is_full full written = written
all_in_room text keys wrote room (Err fault.Write) true full written = (full refl, written)
all_in_room text keys wrote room (Err fault.Write) false full written = inr written

-- what is kept of what was written, as much as there is room for
kept_in_room : (text keys wrote : List ℕ) (room : ℕ) (answer : Result Ending RunFault) (is_over is_full : Bool) →
    nat_lt room (length wrote) ≡ is_over → (length wrote == room) ≡ is_full → IsWritten text keys wrote answer →
    IsPlayed text keys room (take (min (length wrote) room) wrote)
    (if is_over then NoRoom else played_within answer is_full)
kept_in_room text keys wrote room answer true is_full over full written =
    let above : room < length wrote = ltb-true room (length wrote) over in
    let kept : min (length wrote) room ≡ room = omega (arith, above) in
    let whole = some_front text keys wrote answer (omega (arith, above)) written in
    rw kept (
      length-take-le room wrote (omega (arith, above)),
      (whole.0, whole.1, cut_by_length room wrote (output whole.0 keys).written above whole.2),
    )
kept_in_room text keys wrote room answer false is_full over full written =
    let within : length wrote ≤ room = ltb-false room (length wrote) over in
    let kept : min (length wrote) room ≡ length wrote = omega (arith, within) in
    rw (kept, take_all (length wrote) wrote (omega arith))
    (all_in_room text keys wrote room answer is_full (λ e. eqb-true (length wrote) room (full ∙ e)) written)

-- a run in memory has written what it may
pub plays_rightly :
    (text keys wrote : List ℕ) (room : ℕ) (had has : ReaderState) (before now : WriterState)
    (answer : Result Ending RunFault) → had ≡ fresh_reader keys → before ≡ fresh_writer →
    RunsRightly text had has before now (answer_of answer) →
    (has.has_failed ≡ true → most_calls ≤ has.calls) → now.contents ≡ Some wrote →
    IsPlayed text keys room (take (min (length wrote) room) wrote) (played_of answer (length wrote) room)
plays_rightly text keys wrote room had has before now answer unread unwritten runs worn contents =
    let right : RunsRightly text (fresh_reader keys) has fresh_writer now (answer_of answer) =
    rw (unread, unwritten) at runs in
    let told : Told = right.told in
    let all : keys ≡ all_bytes told =
    all_given has.remaining (read told.reading) keys told.left right.tells.read right.tells.left in
    let taken : Some wrote ≡ Some told.wrote = sym contents ∙ right.tells.wrote in
    let same : wrote ≡ told.wrote = cc in
    let written : IsWritten text keys told.wrote answer =
    is_written text keys told has.calls answer all right.tells.calls
    (λ failed. worn (right.tells.reader_failed ∙ failed)) right.answers in
    rw same (kept_in_room text keys told.wrote room answer (nat_lt room (length told.wrote)) (length told.wrote == room)
    refl refl written)

-- what is copied to the front of other memory stands there
pub copied_front : (wrote copied memory : List ℕ) (count : ℕ) → count ≤ length wrote → copied ≡ take count wrote →
    take count (copied ++ memory) ≡ take count wrote
copied_front wrote copied memory count within is =
    rw is (take_at (take count wrote) memory count (length-take-le count wrote within))
