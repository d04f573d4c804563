-- Runs that aren't right.
use Rattle.std.proofs.Common.{◌≡◌, ℕ, ◌+◌, ◌<◌, ◌≤◌, ◌⊎◌, inl, inr, true, false, Bool, Option, Some, None, option_map}
use Rattle.std.proofs.Common.{List, [], ◌∷◌, ◌++◌, length, refl, sym, ◌∙◌, ap, arith, append_assoc}
use Rattle.std.specs.List.{All}
use Rattle.std.proofs.lemmas.List.{length-append, append-nil}
use Rattle.std.proofs.lemmas.List.Elements.{All-head, All-tail}
use Rattle.std.proofs.lemmas.Bool.{both_ways, true≢false}
use Rattle.ps_model.specs.board.Turns.{Script}
use Rattle.ps_model.specs.game.Outputs.{opening_step, output, front}
use Rattle.ps_model.specs.game.Tellings.{Call, Gives, Fails, ReaderCalls, Unasked, Asked, Told, read, all_bytes}
use Rattle.ps_model.specs.game.Tellings.{Tells, idle_writes, bytes_of_call, has_failing_call, last_behind, empty_pieces}
use Rattle.ps_model.specs.game.Tellings.{empty_reads}
use Rattle.ps_model.specs.game.Headline.{Answer, Ends, Refuses, WantsMemory, CannotRead, CannotWrite, Answers, IsFront}
use Rattle.ps_model.specs.game.Headline.{IsCutOff, IsPiece, AsksInTurn, ReadsInTurn, GaveNothing, IsTrueOfText}
use Rattle.ps_model.specs.game.Headline.{IsHeeded, script_of_text, texts_of, text_count}
use Rattle.ps_model.specs.declared.limits.TheConstants.{CALL_LIMIT}
use Rattle.ps_laws.specs.Fronts.{whole_front}
use Rattle.ps_model.specs.declared.play.Key.{Key}
use Rattle.ps_model.specs.session.IgnoredKeys.{is_ignored}
use Rattle.ps_model.specs.session.Keys.{keys_of}
use Rattle.ps_laws.specs.RunsNotAllowed.{NoWantAtIgnoredKey, NoWantBehindAllKeys, NoWantWithoutKey}
use Rattle.ps_laws.specs.RunsNotAllowed.{NoCallBehindEnding, NoReadFaultBehindEnding, NoWantBehindEnding, NoMoreCalls}
use Rattle.ps_laws.specs.RunsNotAllowed.{NoLongCall, NoCallBehindEnd, NoOddSizedCall, NoSecondEmptyCall}
use Rattle.ps_laws.specs.RunsNotAllowed.{NoEndingUnwritten, NoWriteUncounted, NoTextInPieces}
use Rattle.ps_laws.specs.RunsNotAllowed.{NoCallBehindEmptyOne, NoEmptyWrite, ReadsWhatWasThere, ReadFaultIsTold}
use Rattle.ps_laws.specs.RunsNotAllowed.{WriteFaultIsTold, NoReadFaultUnasked, NoWriteFaultUnfailed}
use Rattle.ps_laws.specs.RunsNotAllowed.{NoRunOnFailedDevices, NoWritingUnasked, WritesFronts, AnswersAreTrueOfTexts}
use Rattle.ps_laws.proofs.keys.Fronts.{front_of_more}
use Rattle.ps_laws.proofs.runs.LeftToWrite.{some_output, left_to_write}

-- a text has one game
one : {A : Type 0} (found : Option A) (first second : A) → found ≡ Some first → found ≡ Some second → first ≡ second
one found first second e d = cc

-- if the reader was called, the text has a game, and the calls were in turn
asked_in_turn : (text : List ℕ) (told : Told) (answer : Answer) (earlier : List (List ℕ)) (last : Call) →
    told.reading ≡ Asked earlier last → Answers text told answer →
    (script : Script) × (script_of_text text ≡ Some script) × AsksInTurn script earlier last told.left
asked_in_turn text told (Ends ending) earlier last is (script, found, right) = (script, found, rw is at right.reads)
asked_in_turn text told (Refuses fault) earlier last is right = let no = right.asked_nothing in absurd (cc)
asked_in_turn text told WantsMemory earlier last is (inl right) = let no = right.asked_nothing in absurd (cc)
asked_in_turn text told WantsMemory earlier last is (inr (script, found, right)) = (script, found, rw is at right.reads)
asked_in_turn text told CannotRead earlier last is (script, found, right) = (script, found, rw is at right.reads)
asked_in_turn text told CannotWrite earlier last is (script, found, right) = (script, found, rw is at right.reads)

pub no_call_behind_ending : NoCallBehindEnding
no_call_behind_ending text told answer script earlier last found is ended right =
    let asks = asked_in_turn text told answer earlier last is right in
    let same = one (script_of_text text) asks.0 script asks.1 found in ended (rw same at asks.2.goes_on)

pub no_read_fault_behind_ending : NoReadFaultBehindEnding
no_read_fault_behind_ending text told script found ended (own, is, right) =
    let same = one (script_of_text text) own script is found in ended (rw same at right.goes_on)

-- calls ---------------------------------------------------------------------------------------------------------------

below : (count limit : ℕ) → count < limit → limit ≤ count → ⊥
below count limit l m = omega arith

above : (count limit : ℕ) → count ≤ limit → limit < count → ⊥
above count limit l m = omega arith

pub no_more_calls : NoMoreCalls
no_more_calls text told answer earlier last is more right =
    below _ _ (asked_in_turn text told answer earlier last is right).2.calls more

-- of pieces that are such, one among them is
among : (before behind : List (List ℕ)) (piece : List ℕ) → All IsPiece (before ++ piece ∷ behind) → IsPiece piece
among [] behind piece all = All-head IsPiece piece behind all
among (first ∷ before) behind piece all =
    among before behind piece (All-tail IsPiece first (before ++ piece ∷ behind) all)

pub no_long_call : NoLongCall
no_long_call text told answer earlier last piece is (inl gives) long right =
    let few : length (bytes_of_call last) ≤ CALL_LIMIT = (asked_in_turn text told answer earlier last is right).2.few in
    above _ _ (rw gives at few) long
no_long_call text told answer earlier last piece is (inr (before, behind, split)) long right =
    let pieces : All IsPiece earlier = (asked_in_turn text told answer earlier last is right).2.pieces in
    let one : IsPiece piece = among before behind piece (rw split at pieces) in
    above _ _ one.few long

no_empty : (before behind : List (List ℕ)) → All IsPiece (before ++ [] ∷ behind) → ⊥
no_empty [] behind all = let piece : IsPiece [] = All-head IsPiece [] behind all in let no = piece.some in omega arith
no_empty (piece ∷ before) behind all = no_empty before behind (All-tail IsPiece piece (before ++ [] ∷ behind) all)

pub no_call_behind_end : NoCallBehindEnd
no_call_behind_end text told answer before behind last is right =
    no_empty before behind (asked_in_turn text told answer (before ++ [] ∷ behind) last is right).2.pieces

same_count : (before after : ℕ) → after ≡ before → before < after → ⊥
same_count before after same more = omega arith

pub no_odd_sized_call : NoOddSizedCall
no_odd_sized_call text reader_before reader_after writer_before writer_after answer more right =
    same_count reader_before.odd_sized_calls reader_after.odd_sized_calls right.tells.same_room more

pub no_write_uncounted : NoWriteUncounted
no_write_uncounted reader_before reader_after writer_before writer_after told some same tells =
    uncounted writer_before.calls writer_after.calls told.writes same tells.calls_of_writer (tells.some_writes some)
  where
    uncounted : (before after writes : ℕ) → after ≡ before → after ≡ before + writes → 1 ≤ writes → ⊥
    uncounted before after writes same counts some = omega arith

pub no_ending_unwritten : NoEndingUnwritten
no_ending_unwritten text reader_before reader_after writer_before writer_after ending same right =
    let told : Told = right.told in
    let ends = right.answers.2 in
    let some : 1 ≤ length told.wrote = rw ends.wrote (some_output right.answers.0 (all_bytes told)) in
    no_write_uncounted reader_before reader_after writer_before writer_after told some same right.tells

none_written : (told : Told) → told.wrote ≡ [] → told.writer_failed ≡ false →
    told.writes ≤ length told.wrote + idle_writes told.writer_failed → told.writes ≤ 0
none_written told nothing well few = rw (nothing, well) at few

none_more : (limit writes : ℕ) → writes ≤ 0 → limit < writes → ⊥
none_more limit writes none more = omega arith

pub no_text_in_pieces : NoTextInPieces
no_text_in_pieces text reader_before reader_after writer_before writer_after told (Ends ending) more tells
    (script, found, right) = above _ _ right.few_writes more
no_text_in_pieces text reader_before reader_after writer_before writer_after told (Refuses fault) more tells right =
    none_more _ _ (none_written told right.wrote_nothing right.writer_is_well tells.writes) more
no_text_in_pieces text reader_before reader_after writer_before writer_after told WantsMemory more tells (inl right) =
    none_more _ _ (none_written told right.wrote_nothing right.writer_is_well tells.writes) more
no_text_in_pieces text reader_before reader_after writer_before writer_after told WantsMemory more tells
    (inr (script, found, right)) = above _ _ right.few_writes more
no_text_in_pieces text reader_before reader_after writer_before writer_after told CannotRead more tells
    (script, found, right) = above _ _ right.few_writes more
no_text_in_pieces text reader_before reader_after writer_before writer_after told CannotWrite more tells
    (script, found, right) = above _ _ right.few_writes more

pub no_empty_write : NoEmptyWrite
no_empty_write text reader_before reader_after writer_before writer_after answer more right =
    same_count writer_before.empty_calls writer_after.empty_calls right.tells.no_empty_write more

-- pieces that aren't empty
pub no_empty_piece : (pieces : List (List ℕ)) → All IsPiece pieces → empty_pieces pieces ≡ 0
no_empty_piece [] all = refl
no_empty_piece ([] ∷ pieces) all = let piece : IsPiece [] = All-head IsPiece [] pieces all in let no : 1 ≤ 0 =
    piece.some in absurd (omega (arith, no))
no_empty_piece ((byte ∷ bytes) ∷ pieces) all = no_empty_piece pieces (All-tail IsPiece (byte ∷ bytes) pieces all)

-- a piece that has bytes isn't empty
some_byte : (piece : List ℕ) → 0 < length piece → empty_pieces (piece ∷ []) ≡ 0
some_byte [] some = let no : 0 < 0 = some in absurd (omega (arith, no))
some_byte (byte ∷ bytes) some = refl

at_most_one : (piece : List ℕ) → empty_pieces (piece ∷ []) ≤ 1
at_most_one [] = omega arith
at_most_one (byte ∷ bytes) = omega arith

-- of the calls of a right run one at most gave nothing; none did if the last one gave bytes, or failed
one_empty : (text : List ℕ) (told : Told) (answer : Answer) (reading : ReaderCalls) → told.reading ≡ reading →
    Answers text told answer → empty_reads reading ≤ 1
one_empty text told answer Unasked is right = omega arith
one_empty text told answer (Asked earlier (Gives piece)) is right =
    let none : empty_pieces earlier ≡ 0 = no_empty_piece earlier
    (asked_in_turn text told answer earlier (Gives piece) is right).2.pieces in
    let one : empty_pieces (piece ∷ []) ≤ 1 = at_most_one piece in
    rw none (omega (arith, one))
one_empty text told answer (Asked earlier Fails) is right =
    let none : empty_pieces earlier ≡ 0 = no_empty_piece earlier
    (asked_in_turn text told answer earlier Fails is right).2.pieces in
    rw none (omega arith)

none_empty_before : (text : List ℕ) (told : Told) (answer : Answer) (reading : ReaderCalls) (last : ℕ) (failed : Bool)
    → told.reading ≡ reading → Answers text told answer →
    ((reading ≡ Unasked → ⊥) → last ≡ last_behind last reading) → failed ≡ has_failing_call reading →
    (0 < last) ⊎ (failed ≡ true) → empty_reads reading ≡ 0
none_empty_before text told answer Unasked last failed is right gave told_failed other = refl
none_empty_before text told answer (Asked earlier Fails) last failed is right gave told_failed other =
    no_empty_piece earlier (asked_in_turn text told answer earlier Fails is right).2.pieces
none_empty_before text told answer (Asked earlier (Gives piece)) last failed is right gave told_failed (inr fails) =
    let no : true ≡ false = cc in absurd (cc)
none_empty_before text told answer (Asked earlier (Gives piece)) last failed is right gave told_failed (inl some) =
    let none : empty_pieces earlier ≡ 0 = no_empty_piece earlier
    (asked_in_turn text told answer earlier (Gives piece) is right).2.pieces in
    let long : last ≡ length piece = gave (λ e. cc) in
    let one : empty_pieces (piece ∷ []) ≡ 0 = some_byte piece (rw (← long) some) in
    rw (none, one) refl

too_many : (before after extra : ℕ) → after ≡ before + extra → extra ≤ 1 → before + 1 < after → ⊥
too_many before after extra is few more = omega arith

pub no_second_empty_call : NoSecondEmptyCall
no_second_empty_call text reader_before reader_after writer_before writer_after answer more right =
    too_many reader_before.empty_calls reader_after.empty_calls (empty_reads right.told.reading) right.tells.empty_reads
    (one_empty text right.told answer right.told.reading refl right.answers) more

one_too_many : (before after extra : ℕ) → after ≡ before + extra → extra ≡ 0 → before < after → ⊥
one_too_many before after extra is none more = omega arith

-- what the reader tells of its last call, where it was called
last_told : (before after : ℕ) (reading : ReaderCalls) → after ≡ last_behind before reading → (reading ≡ Unasked → ⊥) →
    after ≡ last_behind after reading
last_told before after Unasked is asked = absurd (asked refl)
last_told before after (Asked earlier last) is asked = is

pub no_call_behind_empty_one : NoCallBehindEmptyOne
no_call_behind_empty_one text reader_before reader_after writer_before writer_after answer more other right =
    one_too_many reader_before.empty_calls reader_after.empty_calls (empty_reads right.told.reading)
    right.tells.empty_reads
    (none_empty_before text right.told answer right.told.reading reader_after.last reader_after.has_failed refl
    right.answers
    (last_told reader_before.last reader_after.last right.told.reading right.tells.last) right.tells.reader_failed
    other) more

-- failures ------------------------------------------------------------------------------------------------------------

well_unasked : (reading : ReaderCalls) → reading ≡ Unasked → has_failing_call reading ≡ true → ⊥
well_unasked reading is failed = let no : false ≡ true = rw is at failed in absurd (cc)

pub read_fault_is_told : ReadFaultIsTold
read_fault_is_told text told (Ends ending) failed other (script, found, right) = both_ways _ right.reader_is_well failed
read_fault_is_told text told (Refuses fault) failed other right = well_unasked told.reading right.asked_nothing failed
read_fault_is_told text told WantsMemory failed other (inl right) = well_unasked told.reading right.asked_nothing failed
read_fault_is_told text told WantsMemory failed other (inr (script, found, right)) =
    both_ways _ right.reader_is_well failed
read_fault_is_told text told CannotRead failed other right = other refl
read_fault_is_told text told CannotWrite failed other (script, found, right) = both_ways _ right.reader_is_well failed

pub write_fault_is_told : WriteFaultIsTold
write_fault_is_told text told (Ends ending) failed other (script, found, right) =
    both_ways _ right.writer_is_well failed
write_fault_is_told text told (Refuses fault) failed other right = both_ways _ right.writer_is_well failed
write_fault_is_told text told WantsMemory failed other (inl right) = both_ways _ right.writer_is_well failed
write_fault_is_told text told WantsMemory failed other (inr (script, found, right)) =
    both_ways _ right.writer_is_well failed
write_fault_is_told text told CannotRead failed other (script, found, right) = both_ways _ right.writer_is_well failed
write_fault_is_told text told CannotWrite failed other right = other refl

pub no_read_fault_unasked : NoReadFaultUnasked
no_read_fault_unasked text told is (script, found, right) = rw is at right.cause

pub no_write_fault_unfailed : NoWriteFaultUnfailed
no_write_fault_unfailed text told well (script, found, right) = both_ways _ well right.cause

pub no_run_on_failed_devices : NoRunOnFailedDevices
no_run_on_failed_devices text reader_before reader_after writer_before writer_after answer (inl failed) right =
    both_ways _ right.tells.reader_was_well failed
no_run_on_failed_devices text reader_before reader_after writer_before writer_after answer (inr failed) right =
    both_ways _ right.tells.writer_was_well failed

-- bytes ---------------------------------------------------------------------------------------------------------------

had_read : (remaining : Option (List ℕ)) (had gone : List ℕ) →
    Some had ≡ option_map (λ known. gone ++ known) remaining → IsFront gone had
had_read None had gone e = absurd (cc)
had_read (Some known) had gone e = let same : had ≡ gone ++ known = cc in (known, same)

pub reads_what_was_there : ReadsWhatWasThere
reads_what_was_there reader_before reader_after writer_before writer_after told had is other tells =
    other (had_read reader_after.remaining had (read told.reading) (sym is ∙ tells.read))

-- a list can't both go on after another and be a front of it
not_longer : (first second : List ℕ) → IsFront second first → IsCutOff first second → ⊥
not_longer first second (rest, is) cut =
    let one = ap (λ (l : List ℕ). length l) is ∙ length-append second rest in
    let two = ap (λ (l : List ℕ). length l) cut.is ∙ length-append first cut.rest in
    let some = cut.some in omega (arith, one, two, some)

pub no_writing_unasked : NoWritingUnasked
no_writing_unasked text told script found is whole (own, own_found, right) =
    let same = one (script_of_text text) own script own_found found in by_cases same (rw is at right.wrote)
  where
    by_cases : own ≡ script → IsCutOff told.wrote (texts_of own []) ⊎
        (GaveNothing Unasked × IsCutOff told.wrote (output own []).written) → ⊥
    by_cases same (inl cut) = not_longer told.wrote (texts_of script []) whole (rw same at cut)
    by_cases same (inr (nothing, cut)) = absurd nothing

-- where the last call gave nothing, nothing is left
nothing_left : (script : Script) (reading : ReaderCalls) (left : List ℕ) → ReadsInTurn script reading left →
    GaveNothing reading → left ≡ []
nothing_left script Unasked left reads nothing = absurd nothing
nothing_left script (Asked earlier last) left reads nothing = reads.spent nothing

front_of : (first second third : List ℕ) → IsCutOff first second → IsFront second third → IsFront first third
front_of first second third cut (rest, is) = (
  cut.rest ++ rest,
  is ∙ ap (λ (l : List ℕ). l ++ rest) cut.is
      ∙ append_assoc first cut.rest rest,
)

texts_of_more : (script : Script) (first second : List ℕ) →
    IsFront (texts_of script first) (output script (first ++ second)).written
unfolding whole_front
texts_of_more script first second = front_of_more script first second

pub writes_fronts : WritesFronts
writes_fronts text told script found other (own, own_found, right) =
    let same = one (script_of_text text) own script own_found found in
    let front : IsFront told.wrote (output own (all_bytes told)).written = by_cases right.wrote in
    other (rw same at front)
  where
    by_cases : IsCutOff told.wrote (texts_of own (read told.reading)) ⊎
        (GaveNothing told.reading × IsCutOff told.wrote (output own (read told.reading)).written) →
        IsFront told.wrote (output own (all_bytes told)).written
    by_cases (inl cut) = front_of told.wrote (texts_of own (read told.reading)) (output own (all_bytes told)).written
        cut (texts_of_more own (read told.reading) told.left)
    by_cases (inr (nothing, cut)) =
        let none = nothing_left own told.reading told.left right.reads nothing in
        let all : all_bytes told ≡ read told.reading = ap (λ (l : List ℕ). read told.reading ++ l) none
        ∙ append-nil (read told.reading) in
        rw all (cut.rest, cut.is)

not_itself : (list : List ℕ) → IsCutOff list list → ⊥
not_itself list cut = not_longer list list ([], sym (append-nil list)) cut

not_empty : (list : List ℕ) → list ≡ [] → 1 ≤ length list → ⊥
not_empty list is some = let none : length list ≡ 0 = ap (λ (l : List ℕ). length l) is in omega (arith, none, some)

pub no_want_behind_ending : NoWantBehindEnding
no_want_behind_ending text told script found whole (inl right) =
    not_empty (output script (all_bytes told)).written (sym whole
    ∙ right.wrote_nothing) (some_output script (all_bytes told))
no_want_behind_ending text told script found whole (inr (own, own_found, right)) =
    let same = one (script_of_text text) own script own_found found in
    not_itself told.wrote (by_cases (whole ∙ ap (λ (s : Script). (output s (all_bytes told)).written) (sym same))
    (left_to_write own (read told.reading) told.left right.keys right.goes_on))
  where
    by_cases : told.wrote ≡ (output own (all_bytes told)).written →
        IsCutOff (front own (read told.reading) right.keys) (output own (all_bytes told)).written →
        IsCutOff told.wrote told.wrote
    by_cases whole cut = record {
      rest = cut.rest;
      some = cut.some;
      is = whole ∙ cut.is
          ∙ ap (λ (l : List ℕ). l ++ cut.rest) (sym right.wrote);
    }

-- running out of memory where nothing was to be made
wanting_key : (read : List ℕ) (keys : ℕ) → keys_of read ≡ [] → keys < length (keys_of read) → ⊥
wanting_key read keys none less =
    let no : length (keys_of read) ≡ 0 = ap (λ (k : List Key). length k) none in omega (arith, no, less)

pub no_want_without_key : NoWantWithoutKey
no_want_without_key text told some none last (inl right) = some right.wrote_nothing
no_want_without_key text told some none last (inr (script, found, right)) = by_cases right.wanting
  where
    by_cases : (right.keys < length (keys_of (read told.reading))) ⊎ GaveNothing told.reading → ⊥
    by_cases (inl less) = wanting_key (read told.reading) right.keys none less
    by_cases (inr nothing) = last nothing

pub no_want_behind_all_keys : NoWantBehindAllKeys
no_want_behind_all_keys text told script found some whole each last (inl right) = some right.wrote_nothing
no_want_behind_all_keys text told script found some whole each last (inr (own, own_found, right)) =
    by_cases right.wanting
  where
    by_cases : (right.keys < length (keys_of (read told.reading))) ⊎ GaveNothing told.reading → ⊥
    by_cases (inl less) =
        let same = one (script_of_text text) own script own_found found in
        each right.keys less
        (ap (λ (s : Script). front s (read told.reading) right.keys) (sym same) ∙ sym right.wrote ∙ whole)
    by_cases (inr nothing) = last nothing

-- an only key that is ignored isn't heeded
only_key : (script : Script) (key : Key) (keys : List Key) (count : ℕ) → keys ≡ key ∷ [] → count < length keys →
    is_ignored script.options (opening_step script).session key ≡ true →
    IsHeeded script (opening_step script).session keys count → ⊥
only_key script key keys count only less ignored heeded =
    let long : length keys ≡ 1 = ap length only in
    let first : count ≡ 0 = omega (arith, less, long) in
    let here = rw (only, first) at heeded in
    true≢false (sym ignored ∙ here)

pub no_want_at_ignored_key : NoWantAtIgnoredKey
no_want_at_ignored_key text told script key found some only ignored last (inl right) = some right.wrote_nothing
no_want_at_ignored_key text told script key found some only ignored last (inr (own, own_found, right)) =
    by_cases right.wanting
  where
    by_cases : (right.keys < length (keys_of (read told.reading))) ⊎ GaveNothing told.reading → ⊥
    by_cases (inl less) =
        let same = one (script_of_text text) own script own_found found in
        only_key own key (keys_of (read told.reading)) right.keys only less
        (rw same ignored) right.heeded
    by_cases (inr nothing) = last nothing

-- texts ---------------------------------------------------------------------------------------------------------------

true_of : (text : List ℕ) (told : Told) (answer : Answer) → Answers text told answer → IsTrueOfText text answer
true_of text told (Ends ending) (script, found, right) = (script, found)
true_of text told (Refuses fault) right = right.is_first
true_of text told WantsMemory right = tt
true_of text told CannotRead (script, found, right) = (script, found)
true_of text told CannotWrite (script, found, right) = (script, found)

pub answers_are_true_of_texts : AnswersAreTrueOfTexts
answers_are_true_of_texts text reader_before reader_after writer_before writer_after answer right =
    true_of text right.told answer right.answers
