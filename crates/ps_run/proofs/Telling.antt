-- What the devices tell of a run whose calls are known.
use Rattle.std.proofs.Common.{◌≡◌, ◌∙◌, ℕ, zero, suc, ◌+◌, ◌-◌, ◌<◌, ◌≤◌, Bool, false, List, [], ◌∷◌, ◌++◌, length}
use Rattle.std.proofs.Common.{Option, Some, None, refl, ap, append-nil, arith}
use Rattle.std.specs.List.{All, concat}
use Rattle.std.proofs.lemmas.List.{length-append}
use Rattle.std.proofs.lemmas.List.Elements.{All-append}
use Rattle.std.proofs.lemmas.List.Folds.{concat-append}
use Rattle.ps_model.specs.declared.limits.TheConstants.{READ_LIMIT, CALL_LIMIT}
use Rattle.ps_model.specs.board.Turns.{Script}
use Rattle.ps_model.specs.game.Outputs.{Output, ending_of}
use Rattle.ps_model.specs.game.Headline.{IsPiece, GoesOn, AsksInTurn, ReadsInTurn, texts_of}
use Rattle.ps_model.specs.game.Tellings.{ReaderState, WriterState, Call, Gives, Fails, ReaderCalls, Unasked, Asked}
use Rattle.ps_model.specs.game.Tellings.{Told, Tells, IsLeft, CountsCalls, bytes_of_call, read, has_failing_call}
use Rattle.ps_model.specs.game.Tellings.{last_behind, empty_pieces, empty_reads, idle_writes}
use Rattle.ps_laws.specs.Fronts.{session_of, whole_front}
use Rattle.ps_laws.proofs.keys.Fronts.{output_of_unended}
use Rattle.ps_laws.proofs.runs.RunsNotAllowed.{no_empty_piece}
use Rattle.ps_devices.specs.Devices.{Grows, Loses, IsSpent}
use Rattle.ps_devices.proofs.Pieces.{loses_twice}
use Rattle.ps_run.specs.Runs.{IsAsked, call_count}
use Rattle.ps_run.specs.Played.{HasCounted}

-- the pieces of calls that are behind
abbrev pub pieces_of : ReaderCalls → List (List ℕ)
pieces_of Unasked = []
pieces_of (Asked earlier (Gives piece)) = earlier ++ piece ∷ []
pieces_of (Asked earlier Fails) = earlier

-- the bytes that are left, or none where the reader doesn't tell
abbrev pub left_of : Option (List ℕ) → List ℕ
left_of None = []
left_of (Some known) = known

pub is_left : (remaining : Option (List ℕ)) → IsLeft remaining (left_of remaining)
is_left None = tt
is_left (Some known) = refl

-- what the pieces hold is what was read
pub concat_pieces : (script : Script) (reading : ReaderCalls) → IsAsked script reading →
    concat (pieces_of reading) ≡ read reading
concat_pieces script Unasked asked = refl
concat_pieces script (Asked earlier (Gives piece)) asked =
    concat-append earlier (piece ∷ []) ∙ ap (λ bytes. concat earlier ++ bytes) (append-nil piece)
concat_pieces script (Asked earlier Fails) asked = absurd asked

pub count_pieces : (script : Script) (reading : ReaderCalls) → IsAsked script reading →
    length (pieces_of reading) ≡ call_count reading
count_pieces script Unasked asked = refl
count_pieces script (Asked earlier (Gives piece)) asked = length-append earlier (piece ∷ [])
count_pieces script (Asked earlier Fails) asked = absurd asked

no_pieces : All IsPiece []
no_pieces k d within = absurd (omega arith)

one_piece : (piece : List ℕ) → IsPiece piece → All IsPiece (piece ∷ [])
one_piece piece is zero d within = is
one_piece piece is (suc k) d within = absurd (omega arith)

pub are_pieces : (script : Script) (reading : ReaderCalls) → IsAsked script reading → All IsPiece (pieces_of reading)
are_pieces script Unasked asked = no_pieces
are_pieces script (Asked earlier (Gives piece)) asked =
    All-append IsPiece earlier (piece ∷ []) asked.pieces (one_piece piece asked.this)
are_pieces script (Asked earlier Fails) asked = absurd asked

pub is_well : (script : Script) (reading : ReaderCalls) → IsAsked script reading → has_failing_call reading ≡ false
is_well script Unasked asked = refl
is_well script (Asked earlier (Gives piece)) asked = refl
is_well script (Asked earlier Fails) asked = absurd asked

-- a game that hasn't ended goes on
pub goes_on : (script : Script) (bytes : List ℕ) → ending_of (session_of script bytes) ≡ None → GoesOn script bytes
goes_on script bytes unended = ap (λ (out : Output). out.ending) (output_of_unended script bytes unended)

-- the front of all keys by its other name
pub whole_is : (script : Script) (bytes : List ℕ) → whole_front script bytes ≡ texts_of script bytes
unfolding whole_front
whole_is script bytes = refl

-- a call more, of which this is told
pub asks :
    (script : Script) (reading : ReaderCalls) (call : Call) (left : List ℕ) → IsAsked script reading →
    GoesOn script (read reading) → call_count reading < READ_LIMIT →
    length (bytes_of_call call) ≤ CALL_LIMIT → (call ≡ Gives [] → left ≡ []) →
    AsksInTurn script (pieces_of reading) call left
asks script reading call left asked on few short spent = record {
  pieces = are_pieces script reading asked;
  few = short;
  calls = rw (count_pieces script reading asked) few;
  goes_on = rw (concat_pieces script reading asked) on;
  spent = spent;
}

-- the calls so far were in turn
pub asked_so_far : (script : Script) (reading : ReaderCalls) (left : List ℕ) → IsAsked script reading →
    ReadsInTurn script reading left
asked_so_far script Unasked left asked = tt
asked_so_far script (Asked earlier (Gives piece)) left asked =
    let bound : length earlier + 1 ≤ READ_LIMIT = asked.few in
    record {
      pieces = asked.pieces;
      few = asked.this.few;
      calls = omega arith;
      goes_on = asked.goes_on;
      spent = λ none.
          let same : piece ≡ [] = cc in
          let some : 1 ≤ length piece = asked.this.some in
          let long : length piece ≡ 0 = ap length same in
          absurd (omega arith);
    }
asked_so_far script (Asked earlier Fails) left asked = absurd asked

-- the calls so far were counted
pub counts_so_far : (script : Script) (before after count : ℕ) (reading : ReaderCalls) → IsAsked script reading →
    call_count reading ≡ count → after ≡ before + count → CountsCalls before reading after
counts_so_far script before after count Unasked asked counted calls = omega arith
counts_so_far script before after count (Asked earlier (Gives piece)) asked counted calls = rw counted calls
counts_so_far script before after count (Asked earlier Fails) asked counted calls = absurd asked

not_empty : (piece : List ℕ) → 1 ≤ length piece → empty_pieces (piece ∷ []) ≡ 0
not_empty [] some = let none : 1 ≤ 0 = some in absurd (omega (arith, none))
not_empty (byte ∷ bytes) some = refl

-- the calls so far all gave something
pub empty_so_far : (script : Script) (before after : ℕ) (reading : ReaderCalls) → IsAsked script reading →
    after ≡ before → after ≡ before + empty_reads reading
empty_so_far script before after Unasked asked same = omega arith
empty_so_far script before after (Asked earlier (Gives piece)) asked same =
    let first : empty_pieces earlier ≡ 0 = no_empty_piece earlier asked.pieces in
    let this : empty_pieces (piece ∷ []) ≡ 0 = not_empty piece asked.this.some in
    rw (first, this) (omega (arith, same))
empty_so_far script before after (Asked earlier Fails) asked same = absurd asked

-- and a call more failed
pub empty_at_failure :
    (script : Script) (before after : ℕ) (reading : ReaderCalls) → IsAsked script reading → after ≡ before →
    after ≡ before + empty_reads (Asked (pieces_of reading) Fails)
empty_at_failure script before after reading asked same =
    let first : empty_pieces (pieces_of reading) ≡ 0 =
    no_empty_piece (pieces_of reading) (are_pieces script reading asked) in
    rw first (omega (arith, same))

-- or it gave something, too
pub empty_at_piece :
    (script : Script) (before after : ℕ) (reading : ReaderCalls) (piece : List ℕ) → IsAsked script reading →
    1 ≤ length piece → after ≡ before →
    after ≡ before + empty_reads (Asked (pieces_of reading) (Gives piece))
empty_at_piece script before after reading piece asked some same =
    let first : empty_pieces (pieces_of reading) ≡ 0 =
    no_empty_piece (pieces_of reading) (are_pieces script reading asked) in
    let this : empty_pieces (piece ∷ []) ≡ 0 = not_empty piece some in
    rw (first, this) (omega (arith, same))

-- or it gave nothing
pub empty_at_end :
    (script : Script) (before mid after : ℕ) (reading : ReaderCalls) → IsAsked script reading → mid ≡ before →
    after ≡ mid + 1 →
    after ≡ before + empty_reads (Asked (pieces_of reading) (Gives []))
empty_at_end script before mid after reading asked same more =
    let first : empty_pieces (pieces_of reading) ≡ 0 =
    no_empty_piece (pieces_of reading) (are_pieces script reading asked) in
    rw first (omega (arith, same, more))

-- a run, by its calls and its writes
abbrev pub told_of : WriterState → WriterState → ReaderCalls → Option (List ℕ) → List ℕ → Bool → Told
told_of before now reading remaining wrote failed = record {
  reading = reading;
  left = left_of remaining;
  wrote = wrote;
  writer_failed = failed;
  writes = now.calls - before.calls;
  short_writes = now.short_calls - before.short_calls;
}

-- what was counted, by what is told before and behind it
pub by_count : (before now : ℕ) → before ≤ now → now ≡ before + (now - before)
by_count before now more = omega arith

-- no more calls than texts, but for one more for each that took less than it was handed
pub few_writes :
    (before now : WriterState) (text : List ℕ) (count texts : ℕ) → HasCounted before now text count → count ≤ texts →
    now.calls - before.calls ≤ texts + (now.short_calls - before.short_calls)
few_writes before now text count texts counted within =
    fewer before.calls now.calls before.short_calls now.short_calls count texts counted.more counted.shorts counted.few
    within
  where
    fewer : (calls new_calls shorts new_shorts count texts : ℕ) → calls ≤ new_calls → shorts ≤ new_shorts →
        new_calls + shorts ≤ calls + (count + new_shorts) → count ≤ texts →
        new_calls - calls ≤ texts + (new_shorts - shorts)
    fewer calls new_calls shorts new_shorts count texts more short few within = omega arith

-- the texts of the opening and of keys are no more than those, and some
pub no_more : (keys some : ℕ) → keys + 1 ≤ keys + (1 + some)
no_more keys some = omega arith

-- and with the last line
pub one_line_more : (keys : ℕ) → (keys + 1) + 1 ≤ keys + (1 + 1)
one_line_more keys = omega arith

-- fewer keys have fewer texts
pub fewer_texts : (fewer keys some : ℕ) → fewer < keys → fewer + 1 ≤ keys + (1 + some)
fewer_texts fewer keys some less = omega arith

pub tells_of :
    (had has : ReaderState) (before now : WriterState) (reading : ReaderCalls) (wrote : List ℕ) (failed : Bool) →
    had.has_failed ≡ false → has.has_failed ≡ has_failing_call reading →
    Loses had.remaining has.remaining (read reading) → has.last ≡ last_behind had.last reading →
    CountsCalls had.calls reading has.calls →
    has.empty_calls ≡ had.empty_calls + empty_reads reading → has.odd_sized_calls ≡ had.odd_sized_calls →
    before.has_failed ≡ false → now.has_failed ≡ failed → Grows before.contents now.contents wrote →
    now.calls ≤ before.calls + (length wrote + idle_writes failed) →
    now.empty_calls ≡ before.empty_calls → (count : ℕ) → HasCounted before now wrote count →
    Tells had has before now (told_of before now reading has.remaining wrote failed)
tells_of had has before now reading wrote failed was_well is gives last counts empty room writer_well writer_is grows
    calls none count counted = record {
      reader_was_well = was_well;
      reader_failed = is;
      read = gives;
      left = is_left has.remaining;
      last = last;
      calls = counts;
      empty_reads = empty;
      same_room = room;
      writer_was_well = writer_well;
      writer_failed = writer_is;
      wrote = grows;
      calls_of_writer = by_count before.calls now.calls counted.more;
      short_calls = by_count before.short_calls now.short_calls counted.shorts;
      no_empty_write = none;
      writes = within before.calls now.calls (length wrote + idle_writes failed) calls;
      some_writes = λ some. one before.calls now.calls (counted.called some);
    }
  where
    within : (before now most : ℕ) → now ≤ before + most → now - before ≤ most
    within before now most few = omega arith

    one : (before now : ℕ) → before < now → 1 ≤ now - before
    one before now more = omega arith

-- nothing is left of a reader that has come to its end
pub left_is_spent : (remaining : Option (List ℕ)) → IsSpent remaining → left_of remaining ≡ []
left_is_spent None spent = refl
left_is_spent (Some known) spent = spent known refl

-- a call more that gave nothing
pub added_nothing : (had mid has : Option (List ℕ)) (bytes : List ℕ) → Loses had mid bytes → Loses mid has [] →
    Loses had has bytes
added_nothing had mid has bytes given gives = rw (← append-nil bytes) (loses_twice had mid has bytes [] given gives)

-- a call more, counted
pub counted_one : (had mid has count long : ℕ) → long ≡ count → mid ≡ had + count → has ≡ mid + 1 →
    has ≡ had + (long + 1)
counted_one had mid has count long same so_far more = omega arith
