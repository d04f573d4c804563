-- Runs that aren't right, whatever the game: what a run may answer leaves no room for them. Each law says of one of
-- them that it isn't allowed.
use Rattle.std.specs.Prelude.{◌≡◌, ◌≢◌, ℕ, ◌+◌, ◌<◌, ◌≤◌, true, false, Some, List, [], ◌∷◌, ◌++◌, length, ◌⊎◌}
use Rattle.std.specs.List.{concat}
use Rattle.ps_model.specs.declared.play.Ending.{Ending}
use Rattle.ps_model.specs.declared.play.Ending.TheVariants.{EndOfKeys}
use Rattle.ps_model.specs.declared.limits.TheConstants.{READ_LIMIT, CALL_LIMIT}
use Rattle.ps_model.specs.declared.play.Key.{Key}
use Rattle.ps_model.specs.board.Turns.{Script}
use Rattle.ps_model.specs.session.IgnoredKeys.{is_ignored}
use Rattle.ps_model.specs.session.Keys.{keys_of}
use Rattle.ps_model.specs.game.Outputs.{front, opening_step, output}
use Rattle.ps_model.specs.game.Tellings.{ReaderState, WriterState, Call, Gives, Unasked, Asked, Told, Tells, read}
use Rattle.ps_model.specs.game.Tellings.{all_bytes, has_failing_call}
use Rattle.ps_model.specs.game.Headline.{Answer, WantsMemory, CannotRead, CannotWrite, Answers, GaveNothing, IsFront}
use Rattle.ps_model.specs.game.Headline.{Ends, RunsRightly, text_count}
use Rattle.ps_model.specs.game.Headline.{IsTrueOfText, script_of_text, texts_of}

-- reading after the ending -------------------------------------------------------------------------------------------

-- the keys that were read had ended the game, and the run called the reader once more: it isn't allowed, whether that
-- call gave bytes or failed, and whatever the run answered
abbrev pub NoCallBehindEnding : Type 0
NoCallBehindEnding =
    (text : List ℕ) (told : Told) (answer : Answer) (script : Script) (earlier : List (List ℕ)) (last : Call) →
    script_of_text text ≡ Some script → told.reading ≡ Asked earlier last →
    (output script (concat earlier)).ending ≢ EndOfKeys →
    Answers text told answer → ⊥

-- the game had ended with what was read, and the run answers that it can't read: not even if its last call was the last
-- one that it makes
abbrev pub NoReadFaultBehindEnding : Type 0
NoReadFaultBehindEnding =
    (text : List ℕ) (told : Told) (script : Script) →
    script_of_text text ≡ Some script → (output script (read told.reading)).ending ≢ EndOfKeys →
    Answers text told CannotRead → ⊥

-- the game had ended and its whole output is written, and the run answers that it is out of memory
abbrev pub NoWantBehindEnding : Type 0
NoWantBehindEnding =
    (text : List ℕ) (told : Told) (script : Script) →
    script_of_text text ≡ Some script → told.wrote ≡ (output script (all_bytes told)).written →
    Answers text told WantsMemory → ⊥

-- something is written, what was read brings no key, no call gave nothing, and the run answers that it is out of
-- memory: so neither does one that has called no reader, nor one that has read bytes alone which are no keys
abbrev pub NoWantWithoutKey : Type 0
NoWantWithoutKey =
    (text : List ℕ) (told : Told) → told.wrote ≢ [] → keys_of (read told.reading) ≡ [] →
    (GaveNothing told.reading → ⊥) → Answers text told WantsMemory → ⊥

-- the texts of all keys that were read are written, each of which has something, and no call gave nothing. The run
-- answers that it is out of memory
abbrev pub NoWantBehindAllKeys : Type 0
NoWantBehindAllKeys =
    (text : List ℕ) (told : Told) (script : Script) →
    script_of_text text ≡ Some script → told.wrote ≢ [] → told.wrote ≡ texts_of script (read told.reading) →
    ((keys : ℕ) → keys < length (keys_of (read told.reading)) →
    front script (read told.reading) keys ≢ texts_of script (read told.reading)) →
    (GaveNothing told.reading → ⊥) → Answers text told WantsMemory → ⊥

-- something is written, one key was read, which the game ignores where it begins, and no call gave nothing. The run
-- answers that it is out of memory
abbrev pub NoWantAtIgnoredKey : Type 0
NoWantAtIgnoredKey =
    (text : List ℕ) (told : Told) (script : Script) (key : Key) →
    script_of_text text ≡ Some script → told.wrote ≢ [] → keys_of (read told.reading) ≡ key ∷ [] →
    is_ignored script.options (opening_step script).session key ≡ true →
    (GaveNothing told.reading → ⊥) → Answers text told WantsMemory → ⊥

-- calls ---------------------------------------------------------------------------------------------------------------

-- a piece is one of several
abbrev pub IsAmong : List ℕ → List (List ℕ) → Type 0
IsAmong piece pieces = (before behind : List (List ℕ)) × (pieces ≡ before ++ piece ∷ behind)

-- the run made more calls than it may
abbrev pub NoMoreCalls : Type 0
NoMoreCalls =
    (text : List ℕ) (told : Told) (answer : Answer) (earlier : List (List ℕ)) (last : Call) →
    told.reading ≡ Asked earlier last → READ_LIMIT ≤ length earlier → Answers text told answer → ⊥

-- a call gave more bytes than one may ask for, be it the last one or one before it
abbrev pub NoLongCall : Type 0
NoLongCall =
    (text : List ℕ) (told : Told) (answer : Answer) (earlier : List (List ℕ)) (last : Call) (piece : List ℕ) →
    told.reading ≡ Asked earlier last → (last ≡ Gives piece) ⊎ IsAmong piece earlier → CALL_LIMIT < length piece →
    Answers text told answer → ⊥

-- the run called the reader after a call that gave nothing
abbrev pub NoCallBehindEnd : Type 0
NoCallBehindEnd =
    (text : List ℕ) (told : Told) (answer : Answer) (before behind : List (List ℕ)) (last : Call) →
    told.reading ≡ Asked (before ++ [] ∷ behind) last → Answers text told answer → ⊥

-- a call of the reader had room for fewer bytes than a run asks for at a time, or for more: so no run asks for a byte
-- at a time, not even one that stops at the last call that it makes. None asks for 5,000 and tells of two calls
abbrev pub NoOddSizedCall : Type 0
NoOddSizedCall =
    (text : List ℕ) (reader_before reader_after : ReaderState) (writer_before writer_after : WriterState)
    (answer : Answer) →
    reader_before.odd_sized_calls < reader_after.odd_sized_calls →
    RunsRightly text reader_before reader_after writer_before writer_after answer → ⊥

-- two calls of the reader gave nothing: however the bytes of the others are cut into pieces, one of the two was after
-- the end of the keys, or had no room
abbrev pub NoSecondEmptyCall : Type 0
NoSecondEmptyCall =
    (text : List ℕ) (reader_before reader_after : ReaderState) (writer_before writer_after : WriterState)
    (answer : Answer) →
    reader_before.empty_calls + 1 < reader_after.empty_calls →
    RunsRightly text reader_before reader_after writer_before writer_after answer → ⊥

-- a call of the reader gave nothing, and the last one gave bytes, or failed
abbrev pub NoCallBehindEmptyOne : Type 0
NoCallBehindEmptyOne =
    (text : List ℕ) (reader_before reader_after : ReaderState) (writer_before writer_after : WriterState)
    (answer : Answer) →
    reader_before.empty_calls < reader_after.empty_calls → (0 < reader_after.last) ⊎ (reader_after.has_failed ≡ true) →
    RunsRightly text reader_before reader_after writer_before writer_after answer → ⊥

-- what was read isn't a part of what the reader had
abbrev pub ReadsWhatWasThere : Type 0
ReadsWhatWasThere =
    (reader_before reader_after : ReaderState) (writer_before writer_after : WriterState) (told : Told) (had : List ℕ) →
    reader_before.remaining ≡ Some had → (IsFront (read told.reading) had → ⊥) →
    Tells reader_before reader_after writer_before writer_after told → ⊥

-- failures ------------------------------------------------------------------------------------------------------------

-- the reader failed, and the run answers otherwise
abbrev pub ReadFaultIsTold : Type 0
ReadFaultIsTold =
    (text : List ℕ) (told : Told) (answer : Answer) →
    has_failing_call told.reading ≡ true → answer ≢ CannotRead → Answers text told answer → ⊥

-- the writer failed, and the run answers otherwise
abbrev pub WriteFaultIsTold : Type 0
WriteFaultIsTold =
    (text : List ℕ) (told : Told) (answer : Answer) →
    told.writer_failed ≡ true → answer ≢ CannotWrite → Answers text told answer → ⊥

-- the run called no reader, and answers that it can't read
abbrev pub NoReadFaultUnasked : Type 0
NoReadFaultUnasked = (text : List ℕ) (told : Told) → told.reading ≡ Unasked → Answers text told CannotRead → ⊥

-- no write failed in the run, and it answers that it can't write
abbrev pub NoWriteFaultUnfailed : Type 0
NoWriteFaultUnfailed = (text : List ℕ) (told : Told) → told.writer_failed ≡ false → Answers text told CannotWrite → ⊥

-- a device had failed before the run
abbrev pub NoRunOnFailedDevices : Type 0
NoRunOnFailedDevices =
    (text : List ℕ) (reader_before reader_after : ReaderState) (writer_before writer_after : WriterState)
    (answer : Answer) →
    (reader_before.has_failed ≡ true) ⊎ (writer_before.has_failed ≡ true) →
    RunsRightly text reader_before reader_after writer_before writer_after answer → ⊥

-- writing -------------------------------------------------------------------------------------------------------------

-- the reader wasn't called, and the run has written all that is written before a key, or more, and answers that it
-- can't write
abbrev pub NoWritingUnasked : Type 0
NoWritingUnasked =
    (text : List ℕ) (told : Told) (script : Script) →
    script_of_text text ≡ Some script → told.reading ≡ Unasked → IsFront (texts_of script []) told.wrote →
    Answers text told CannotWrite → ⊥

-- the writer has counted no call, and the run answers an ending: so something was handed to each writer, also to one
-- that tells none of its bytes
abbrev pub NoEndingUnwritten : Type 0
NoEndingUnwritten =
    (text : List ℕ) (reader_before reader_after : ReaderState) (writer_before writer_after : WriterState)
    (ending : Ending) → writer_after.calls ≡ writer_before.calls →
    RunsRightly text reader_before reader_after writer_before writer_after (Ends ending) → ⊥

-- the run wrote something, and the writer has counted no call
abbrev pub NoWriteUncounted : Type 0
NoWriteUncounted =
    (reader_before reader_after : ReaderState) (writer_before writer_after : WriterState) (told : Told) →
    1 ≤ length told.wrote → writer_after.calls ≡ writer_before.calls →
    Tells reader_before reader_after writer_before writer_after told → ⊥

-- the run called the writer more often than it has texts to write and calls that took less than they were handed,
-- together. So a text isn't handed on in pieces that the writer didn't ask for
abbrev pub NoTextInPieces : Type 0
NoTextInPieces =
    (text : List ℕ) (reader_before reader_after : ReaderState) (writer_before writer_after : WriterState) (told : Told)
    (answer : Answer) → text_count told.reading + told.short_writes < told.writes →
    Tells reader_before reader_after writer_before writer_after told → Answers text told answer → ⊥

-- a write was handed no byte
abbrev pub NoEmptyWrite : Type 0
NoEmptyWrite =
    (text : List ℕ) (reader_before reader_after : ReaderState) (writer_before writer_after : WriterState)
    (answer : Answer) →
    writer_before.empty_calls < writer_after.empty_calls →
    RunsRightly text reader_before reader_after writer_before writer_after answer → ⊥

-- what a run that can't write has written isn't a front of the output of all bytes
abbrev pub WritesFronts : Type 0
WritesFronts =
    (text : List ℕ) (told : Told) (script : Script) →
    script_of_text text ≡ Some script → (IsFront told.wrote (output script (all_bytes told)).written → ⊥) →
    Answers text told CannotWrite → ⊥

-- texts ---------------------------------------------------------------------------------------------------------------

-- whatever the devices tell, a right answer is true of the text
abbrev pub AnswersAreTrueOfTexts : Type 0
AnswersAreTrueOfTexts =
    (text : List ℕ) (reader_before reader_after : ReaderState) (writer_before writer_after : WriterState)
    (answer : Answer) →
    RunsRightly text reader_before reader_after writer_before writer_after answer → IsTrueOfText text answer
