-- What a run may answer, for every text and every stream of key bytes, in whatever pieces it comes. It refuses the text
-- with the first fault that the text has, or writes exactly the output of the text's game on the keys. Where memory is
-- refused, keys can't be read or the output can't be written, it stops and says so. Then it has written a front of the
-- output, as said below. Whatever it answers, it asks for no more keys once those that it has read have ended the game.
use Rattle.std.specs.Prelude.{◌≡◌, ◌≢◌, ℕ, zero, suc, ◌+◌, ◌<◌, ◌≤◌, true, false, ⊤, ◌⊎◌, Option, Some, option_map}
use Rattle.std.specs.Prelude.{List, [], ◌++◌, ◌∷◌, length, take}
use Rattle.std.specs.List.{All, concat}
use Rattle.ps_model.specs.declared.faults.Fault.{Fault}
use Rattle.ps_model.specs.declared.play.Ending.{Ending}
use Rattle.ps_model.specs.declared.play.Ending.TheVariants.{EndOfKeys}
use Rattle.ps_model.specs.declared.limits.TheConstants.{READ_LIMIT, CALL_LIMIT}
use Rattle.ps_model.specs.declared.play.Key.{Key}
use Rattle.ps_model.specs.session.Keys.{keys_of}
use Rattle.ps_model.specs.session.IgnoredKeys.{is_ignored}
use Rattle.ps_model.specs.session.KeySteps.{key_step}
use Rattle.ps_model.specs.session.Sessions.{Session, Step}
use Rattle.ps_model.specs.text.Faults.{first_fault}
use Rattle.ps_model.specs.game.Games.{faults, game}
use Rattle.ps_model.specs.board.Turns.{Script, script_of}
use Rattle.ps_model.specs.game.Outputs.{output, opening_step, output_of_keys, ending_of, front}
use Rattle.ps_model.specs.game.Tellings.{ReaderState, WriterState, Call, Gives, Fails, ReaderCalls, Unasked, Asked}
use Rattle.ps_model.specs.game.Tellings.{Told, Tells, bytes_of_call, read_before, read, all_bytes, has_failing_call}

-- the game of a text as it is played
abbrev pub script_of_text : List ℕ → Option Script
script_of_text text = option_map script_of (game text)

-- what a run answers: how it ended; why the text is refused; or that it is out of memory, can't read keys, or can't
-- write the output
pub data Answer : Type 0 where
  Ends : Ending → Answer
  Refuses : Fault → Answer
  WantsMemory : Answer
  CannotRead : Answer
  CannotWrite : Answer

-- fronts --------------------------------------------------------------------------------------------------------------

-- the second list begins with the first
abbrev pub IsFront : List ℕ → List ℕ → Type 0
IsFront first second = (rest : List ℕ) × (second ≡ first ++ rest)

-- the second list begins with the first, and goes on after it
pub record IsCutOff (first second : List ℕ) : Type 0 where
  pub rest : List ℕ
  pub some : 1 ≤ length rest
  pub is : second ≡ first ++ rest

-- the opening and the texts of all keys of the bytes
abbrev pub texts_of : Script → List ℕ → List ℕ
texts_of script bytes = front script bytes (length (keys_of bytes))

-- how the first `count` keys of the bytes leave the game: it has ended, or else the keys have
abbrev pub ending_behind : Script → List ℕ → ℕ → Ending
ending_behind script bytes count =
    let start : Step = opening_step script in
    (output_of_keys script start.session (ending_of start.session) (take count (keys_of bytes))).ending

-- the game goes on after all keys of the bytes
abbrev pub GoesOn : Script → List ℕ → Type 0
GoesOn script bytes = (output script bytes).ending ≡ EndOfKeys

-- reading -------------------------------------------------------------------------------------------------------------

-- what a call gives that isn't the last: a byte at least, and no more than one call may ask for
pub record IsPiece (piece : List ℕ) : Type 0 where
  pub some : 1 ≤ length piece
  pub few : length piece ≤ CALL_LIMIT

-- a run's calls of its reader, in a game, with what the reader has left after them
pub record AsksInTurn (script : Script) (earlier : List (List ℕ)) (last : Call) (left : List ℕ) : Type 0 where
  -- no call gave more than one may ask for, none came after one that gave nothing, and they are no more than a run
  -- makes
  pub pieces : All IsPiece earlier
  pub few : length (bytes_of_call last) ≤ CALL_LIMIT
  pub calls : length earlier < READ_LIMIT
  -- the game went on after the keys that were read before the last call: so no call comes after the ending
  pub goes_on : GoesOn script (concat earlier)
  -- a call gives nothing only where nothing is left
  pub spent : last ≡ Gives [] → left ≡ []

-- if a run asks for keys at all, it does so in turn
abbrev pub ReadsInTurn : Script → ReaderCalls → List ℕ → Type 0
ReadsInTurn script Unasked left = ⊤
ReadsInTurn script (Asked earlier last) left = AsksInTurn script earlier last left

-- the last call gave nothing: there are no more keys
abbrev pub GaveNothing : ReaderCalls → Type 0
GaveNothing Unasked = ⊥
GaveNothing (Asked earlier last) = last ≡ Gives []

-- what goes for every run of a game but one whose reader failed, or but one whose writer did
abbrev pub ReaderIsWell : Told → Type 0
ReaderIsWell told = has_failing_call told.reading ≡ false

abbrev pub WriterIsWell : Told → Type 0
WriterIsWell told = told.writer_failed ≡ false

-- writing -------------------------------------------------------------------------------------------------------------

-- the line that says that there are no more keys, where the last call gave nothing: as a number of texts
abbrev pub last_texts : ReaderCalls → ℕ
last_texts Unasked = 0
last_texts (Asked earlier (Gives [])) = 1
last_texts (Asked earlier (Gives (byte ∷ bytes))) = 0
last_texts (Asked earlier Fails) = 0

-- how many texts a run can have written: the opening, one for each key that was read, and that line
abbrev pub text_count : ReaderCalls → ℕ
text_count reading = length (keys_of (read reading)) + (1 + last_texts reading)

-- a text is written by one call where the writer takes it whole: there were no more calls than texts, but for one more
-- for each call that took fewer bytes than it was handed
abbrev pub HasFewWrites : Told → Type 0
HasFewWrites told = told.writes ≤ text_count told.reading + told.short_writes

-- answers -------------------------------------------------------------------------------------------------------------

-- the run ended: it wrote the output of all bytes and nothing else, and that output ends so
pub record EndsAsMeant (script : Script) (told : Told) (ending : Ending) : Type 0 where
  pub reads : ReadsInTurn script told.reading told.left
  pub reader_is_well : ReaderIsWell told
  pub writer_is_well : WriterIsWell told
  pub ending_is : (output script (all_bytes told)).ending ≡ ending
  pub wrote : told.wrote ≡ (output script (all_bytes told)).written
  -- it was brought by what was read: by a key of it, or, if the keys ended, by a call that gave nothing
  pub brought : (output script (read told.reading)).ending ≡ ending
  pub silent : ending ≡ EndOfKeys → GaveNothing told.reading
  pub few_writes : HasFewWrites told

-- the text was refused: that is its first fault, and no key was asked for and nothing written
pub record RefusesRightly (text : List ℕ) (told : Told) (fault : Fault) : Type 0 where
  pub is_first : first_fault (faults text) ≡ Some fault
  pub asked_nothing : told.reading ≡ Unasked
  pub wrote_nothing : told.wrote ≡ []
  pub writer_is_well : WriterIsWell told

-- memory was refused before keys were asked for and anything was written
pub record StopsAtOnce (told : Told) : Type 0 where
  pub asked_nothing : told.reading ≡ Unasked
  pub wrote_nothing : told.wrote ≡ []
  pub writer_is_well : WriterIsWell told

-- of the keys in a session the one after the first `count`, if there is one, isn't ignored where these lead
abbrev pub IsHeeded : Script → Session → List Key → ℕ → Type 0
IsHeeded script session [] count = ⊤
IsHeeded script session (key ∷ keys) zero = is_ignored script.options session key ≡ false
IsHeeded script session (key ∷ keys) (suc count) = IsHeeded script (key_step script session key).session keys count

-- memory was refused in play: what was written is the opening and the texts of some keys, whole, and not fewer than
-- were read before the last call; the game went on after them. More was to be made: what a key does that was read and
-- isn't ignored, or, where the last call gave nothing, the line that says so
pub record StopsForMemory (script : Script) (told : Told) : Type 0 where
  pub reads : ReadsInTurn script told.reading told.left
  pub reader_is_well : ReaderIsWell told
  pub writer_is_well : WriterIsWell told
  pub keys : ℕ
  pub enough : length (keys_of (read_before told.reading)) ≤ keys
  pub goes_on : ending_behind script (read told.reading) keys ≡ EndOfKeys
  pub wanting : (keys < length (keys_of (read told.reading))) ⊎ GaveNothing told.reading
  pub heeded : IsHeeded script (opening_step script).session (keys_of (read told.reading)) keys
  pub wrote : told.wrote ≡ front script (read told.reading) keys
  pub few_writes : HasFewWrites told

-- memory was refused at once, or in play
abbrev pub WantsMemoryRightly : List ℕ → Told → Type 0
WantsMemoryRightly text told =
    StopsAtOnce told ⊎ ((script : Script) × (script_of_text text ≡ Some script) × StopsForMemory script told)

-- why no more keys can be read: the last call failed, or it gave some and is the last that a run makes
abbrev pub ReadsNoMore : ReaderCalls → Type 0
ReadsNoMore Unasked = ⊥
ReadsNoMore (Asked earlier (Gives piece)) = (length earlier + 1 ≡ READ_LIMIT) × (piece ≢ [])
ReadsNoMore (Asked earlier Fails) = ⊤

-- keys couldn't be read: the texts of all keys read are written, and the game went on after them
pub record CannotReadRightly (script : Script) (told : Told) : Type 0 where
  pub reads : ReadsInTurn script told.reading told.left
  pub writer_is_well : WriterIsWell told
  pub cause : ReadsNoMore told.reading
  pub goes_on : GoesOn script (read told.reading)
  pub wrote : told.wrote ≡ texts_of script (read told.reading)
  pub few_writes : HasFewWrites told

-- what was written is cut off from what was to be written: from the texts of the keys read, or, where there are no more
-- keys, from the output, which says so
abbrev pub IsCutOffWriting : Script → Told → Type 0
IsCutOffWriting script told =
    IsCutOff told.wrote (texts_of script (read told.reading))
    ⊎ (GaveNothing told.reading × IsCutOff told.wrote (output script (read told.reading)).written)

-- what was written has the texts of all keys that were read before the last call, if there was a call
abbrev pub IsWholeBefore : Script → ReaderCalls → List ℕ → Type 0
IsWholeBefore script Unasked wrote = ⊤
IsWholeBefore script (Asked earlier last) wrote = IsFront (texts_of script (concat earlier)) wrote

-- the output couldn't be written: a write failed, and what was written before it is cut off
pub record CannotWriteRightly (script : Script) (told : Told) : Type 0 where
  pub reads : ReadsInTurn script told.reading told.left
  pub reader_is_well : ReaderIsWell told
  pub cause : told.writer_failed ≡ true
  pub wrote : IsCutOffWriting script told
  pub whole_before : IsWholeBefore script told.reading told.wrote
  pub few_writes : HasFewWrites told

-- what a run may answer
abbrev pub Answers : List ℕ → Told → Answer → Type 0
Answers text told (Ends ending) =
    (script : Script) × (script_of_text text ≡ Some script) × EndsAsMeant script told ending
Answers text told (Refuses fault) = RefusesRightly text told fault
Answers text told WantsMemory = WantsMemoryRightly text told
Answers text told CannotRead = (script : Script) × (script_of_text text ≡ Some script) × CannotReadRightly script told
Answers text told CannotWrite = (script : Script) × (script_of_text text ≡ Some script) × CannotWriteRightly script told

-- devices -------------------------------------------------------------------------------------------------------------

-- a run on a text with this answer is right, by what its devices told before it and tell after it. Devices that don't
-- tell their bytes tell the rest: then there are some bytes with which it is
pub record RunsRightly (text : List ℕ) (reader_before reader_after : ReaderState)
    (writer_before writer_after : WriterState) (answer : Answer) : Type 0 where
  pub told : Told
  pub tells : Tells reader_before reader_after writer_before writer_after told
  pub answers : Answers text told answer

-- the text has a game
abbrev pub HasGame : List ℕ → Type 0
HasGame text = (script : Script) × (script_of_text text ≡ Some script)

-- what an answer says of the text, whatever the devices tell: a refusal names its first fault, and a text that was
-- played has a game
abbrev pub IsTrueOfText : List ℕ → Answer → Type 0
IsTrueOfText text (Ends ending) = HasGame text
IsTrueOfText text (Refuses fault) = first_fault (faults text) ≡ Some fault
IsTrueOfText text WantsMemory = ⊤
IsTrueOfText text CannotRead = HasGame text
IsTrueOfText text CannotWrite = HasGame text
