-- How the calls of a run add up to its answer.
use Rattle.std.proofs.Common.{◌≡◌, ◌∙◌, ◌⊎◌, ℕ, ◌+◌, ◌<◌, ◌≤◌, inl, inr, false, true, List, [], ◌++◌, length}
use Rattle.std.proofs.Common.{drop, take, Option, Some, None, refl, sym, ap, subst, append_assoc, append-nil, arith, Ok, Err}
use Rattle.std.specs.List.{concat}
use Rattle.std.proofs.lemmas.Bool.{cases_lt}
use Rattle.std.proofs.lemmas.List.{take-append-drop}
use Rattle.std.proofs.Math.Seq.{drop-length}
use Rattle.ps_model.specs.declared.limits.TheConstants.{READ_LIMIT, CALL_LIMIT}
use Rattle.ps_model.specs.declared.held.Held.{Held}
use Rattle.ps_model.specs.declared.play.Ending.{Ending}
use Rattle.ps_model.specs.declared.play.Ending.TheVariants.{EndOfKeys}
use Rattle.ps_model.specs.board.Turns.{Script}
use Rattle.ps_model.specs.session.Sessions.{Session}
use Rattle.ps_model.specs.game.Headline.{GoesOn, texts_of, last_texts, text_count}
use Rattle.ps_model.specs.session.Keys.{keys_of}
use Rattle.ps_model.specs.game.Outputs.{Output, ending_of, output, opening_step, end_of_keys_line}
use Rattle.ps_model.specs.declared.held.Held.TheVariants.{Nothing}
use Rattle.ps_laws.proofs.sessions.SessionSteps.{fronts_are_texts}
use Rattle.ps_model.specs.game.Tellings.{ReaderState, WriterState, Gives, Fails, ReaderCalls, Unasked, Asked, read}
use Rattle.ps_model.specs.game.Tellings.{last_behind, most_calls}
use Rattle.ps_laws.specs.Fronts.{session_of, whole_front}
use Rattle.ps_laws.proofs.keys.Endings.{ends_otherwise}
use Rattle.ps_laws.proofs.keys.Fronts.{output_of_ended, output_of_unended, output_once_ended}
use Rattle.ps_devices.specs.Devices.{Loses, IsSpent}
use Rattle.ps_devices.proofs.Pieces.{loses_twice}
use Rattle.ps_run.specs.Faults.{run_fault_of}
use Rattle.ps_run.specs.declared.faults.PieceFault.{PieceFault}
use Rattle.ps_run.specs.declared.faults.PieceFault.TheVariants as piece
use Rattle.ps_devices.specs.declared.players.RunFault.TheVariants as fault
use Rattle.ps_run.specs.Played.{HavePlayed, HasTaken, HeedsFirst, HeedsNext, StopsAs, StopsAtText}
use Rattle.ps_run.specs.Runs.{IsAsked, Stands, Comes, call_count}
use Rattle.ps_run.proofs.Playing.{taken_twice, taken_and_failed, taken_no_more, cut_off_behind}
use Rattle.ps_run.proofs.Telling as tells

nothing_given : (mid left : Option (List ℕ)) → left ≡ mid → Loses mid left []
nothing_given None left same = rw same refl
nothing_given (Some known) left same = rw same refl

-- a piece of some bytes isn't none
gave_some : (given : List ℕ) → Gives given ≡ Gives [] → 1 ≤ length given → ⊥
gave_some given none some = let same : given ≡ [] = cc in let long : length given ≡ 0 = ap length same in
    absurd (omega (arith, long, some))

-- nothing is asked for yet
pub none_asked :
    (script : Script) (had : ReaderState) (before now : WriterState) (session : Session) (kept : Held) →
    HavePlayed script before now session kept [] →
    Stands script had had before now session kept 0
none_asked script had before now session kept played = record {
  reading = Unasked;
  is_asked = tt;
  counted = refl;
  given = nothing_given had.remaining had.remaining refl;
  calls = omega arith;
  last = refl;
  none_empty = refl;
  same_room = refl;
  played = played;
}

-- the session of the bytes read hasn't ended
pub unended :
    (script : Script) (before now : WriterState) (session : Session) (kept : Held) (bytes : List ℕ) →
    HavePlayed script before now session kept bytes → ending_of session ≡ None →
    ending_of (session_of script bytes) ≡ None
unended script before now session kept bytes played e = ap ending_of (sym played.session) ∙ e

-- the game has ended, and no more is asked for
pub ended_before :
    (script : Script) (had has : ReaderState) (before now : WriterState) (session : Session) (kept : Held) (count : ℕ)
    (ending : Ending) →
    had.has_failed ≡ false → has.has_failed ≡ false → now.has_failed ≡ false →
    (stands : Stands script had has before now session kept count) → ending_of session ≡ Some ending →
    Comes script had has before now (Ok ending)
ended_before script had has before now session kept count ending was_well is_well writer_well stands e =
    let bytes : List ℕ = read stands.reading in
    let left : List ℕ = tells.left_of has.remaining in
    let ended : ending_of (session_of script bytes) ≡ Some ending = ap ending_of (sym stands.played.session) ∙ e in
    let whole : output script (bytes ++ left) ≡ record { written = whole_front script bytes; ending = ending } =
    output_once_ended script bytes left ending ended in
    let some_calls : now.calls ≤ before.calls + length (whole_front script bytes) = stands.played.wrote.1 in
    record {
      told = tells.told_of before now stands.reading has.remaining (whole_front script bytes) false;
      tells = tells.tells_of had has before now stands.reading (whole_front script bytes) false was_well
          (is_well ∙ sym (tells.is_well script stands.reading stands.is_asked)) stands.given stands.last
          (tells.counts_so_far script had.calls has.calls count stands.reading stands.is_asked stands.counted
          stands.calls)
          (tells.empty_so_far script had.empty_calls has.empty_calls stands.reading stands.is_asked stands.none_empty)
          stands.same_room stands.played.was_well writer_well stands.played.wrote.0 (omega arith)
          stands.played.wrote.2 (length (keys_of bytes) + 1) stands.played.wrote.3;
      is_so = record {
        reads = tells.asked_so_far script stands.reading left stands.is_asked;
        reader_is_well = tells.is_well script stands.reading stands.is_asked;
        writer_is_well = refl;
        ending_is = ap (λ (out : Output). out.ending) whole;
        wrote = ap (λ (out : Output). out.written) (sym whole);
        brought = ap (λ (out : Output). out.ending) (output_of_ended script bytes ending ended);
        silent = λ end. absurd (ends_otherwise script bytes (ended ∙ ap Some end));
        few_writes = tells.few_writes before now (whole_front script bytes) (length (keys_of bytes) + 1)
            (text_count stands.reading) stands.played.wrote.3
            (tells.no_more (length (keys_of bytes)) (last_texts stands.reading));
      };
    }

-- a call failed; a device that can count no more doesn't count it
pub call_failed :
    (script : Script) (had mid has : ReaderState) (before now : WriterState) (session : Session) (kept : Held)
    (count : ℕ) →
    had.has_failed ≡ false → now.has_failed ≡ false → count < READ_LIMIT →
    (stands : Stands script had mid before now session kept count) → ending_of session ≡ None →
    has.has_failed ≡ true → has.remaining ≡ mid.remaining → has.last ≡ 0 →
    (mid.calls < most_calls → has.calls ≡ mid.calls + 1) → (most_calls ≤ mid.calls → has.calls ≡ mid.calls) →
    has.empty_calls ≡ mid.empty_calls → has.odd_sized_calls ≡ mid.odd_sized_calls →
    Comes script had has before now (Err fault.Read)
call_failed script had mid has before now session kept count was_well writer_well few stands e told same last counted
    held none room =
    let bytes : List ℕ = read stands.reading in
    let pieces : List (List ℕ) = tells.pieces_of stands.reading in
    let on : GoesOn script bytes =
    tells.goes_on script bytes (unended script before now session kept bytes stands.played e) in
    let joined : concat pieces ++ [] ≡ bytes =
    append-nil (concat pieces) ∙ tells.concat_pieces script stands.reading stands.is_asked in
    let some_calls : now.calls ≤ before.calls + length (whole_front script bytes) = stands.played.wrote.1 in
    let long : length pieces ≡ count = tells.count_pieces script stands.reading stands.is_asked ∙ stands.counted in
    let so_far : mid.calls ≡ had.calls + count = stands.calls in
    let counts : (has.calls ≡ had.calls + (length pieces + 1))
    ⊎ ((most_calls ≤ has.calls) × (has.calls ≡ had.calls + length pieces)) =
    elim (cases_lt mid.calls most_calls) [
      | inl below ↦ inl (let more : has.calls ≡ mid.calls + 1 = counted below in
          rw long (rw more (rw so_far (append_one had.calls count))))
      | inr above ↦ inr (let stays : has.calls ≡ mid.calls = held above in (rw stays above, rw long (stays ∙ so_far)))
    ] in
    record {
      told = tells.told_of before now (Asked pieces Fails) has.remaining (whole_front script bytes) false;
      tells = tells.tells_of had has before now (Asked pieces Fails) (whole_front script bytes) false was_well told
          (rw joined (rw same stands.given)) last counts
          (tells.empty_at_failure script had.empty_calls has.empty_calls stands.reading stands.is_asked
          (none ∙ stands.none_empty)) (room ∙ stands.same_room)
          stands.played.was_well writer_well stands.played.wrote.0 (omega arith) stands.played.wrote.2
          (length (keys_of bytes) + 1) stands.played.wrote.3;
      is_so = record {
        reads = tells.asks script stands.reading Fails (tells.left_of has.remaining) stands.is_asked on
            (rw stands.counted few) (omega arith) (λ none. cc);
        writer_is_well = refl;
        cause = tt;
        goes_on = rw joined on;
        wrote = rw joined (tells.whole_is script bytes);
        few_writes = rw joined
            (tells.few_writes before now (whole_front script bytes) (length (keys_of bytes) + 1)
            (length (keys_of bytes) + (1 + 0)) stands.played.wrote.3 (tells.no_more (length (keys_of bytes)) 0));
      };
    }
  where
    append_one : (n k : ℕ) → (n + k) + 1 ≡ n + (k + 1)
    append_one n k = omega arith

-- what stands with a call more that gave a piece
pub one_more :
    (script : Script) (had mid has : ReaderState) (before now later : WriterState) (session next : Session)
    (kept held : Held) (count : ℕ) (piece : List ℕ) →
    count < READ_LIMIT → (stands : Stands script had mid before now session kept count) → ending_of session ≡ None →
    1 ≤ length piece → length piece ≤ CALL_LIMIT → Loses mid.remaining has.remaining piece → has.last ≡ length piece →
    has.calls ≡ mid.calls + 1 →
    has.empty_calls ≡ mid.empty_calls → has.odd_sized_calls ≡ mid.odd_sized_calls →
    ((bytes : List ℕ) → HavePlayed script before now session kept bytes →
    HavePlayed script before later next held (bytes ++ piece)) →
    Stands script had has before later next held (count + 1)
one_more script had mid has before now later session next kept held count piece few stands e some short gives last calls
    none room plays =
    let bytes : List ℕ = read stands.reading in
    let pieces : List (List ℕ) = tells.pieces_of stands.reading in
    let on : GoesOn script bytes =
    tells.goes_on script bytes (unended script before now session kept bytes stands.played e) in
    let joined : concat pieces ≡ bytes = tells.concat_pieces script stands.reading stands.is_asked in
    let long : length pieces ≡ count = tells.count_pieces script stands.reading stands.is_asked ∙ stands.counted in
    let so_far : mid.calls ≡ had.calls + count = stands.calls in
    record {
      reading = Asked pieces (Gives piece);
      is_asked = record {
        pieces = tells.are_pieces script stands.reading stands.is_asked;
        this = record { some = some; few = short };
        few = omega arith;
        goes_on = rw joined on;
      };
      counted = ap (λ n. n + 1) long;
      given = rw joined (loses_twice had.remaining mid.remaining has.remaining bytes piece stands.given gives);
      calls = omega arith;
      last = last;
      none_empty = none ∙ stands.none_empty;
      same_room = room ∙ stands.same_room;
      played = rw joined (plays bytes stands.played);
    }

-- the last call that may be has given a piece, and the game goes on
pub limit_reached :
    (script : Script) (had has : ReaderState) (before now : WriterState) (session : Session) (kept : Held) (count : ℕ) →
    had.has_failed ≡ false → has.has_failed ≡ false → now.has_failed ≡ false → count ≡ READ_LIMIT →
    (reading : ReaderCalls) → IsAsked script reading → call_count reading ≡ count →
    Loses had.remaining has.remaining (read reading) → has.calls ≡ had.calls + count →
    has.last ≡ last_behind had.last reading →
    has.empty_calls ≡ had.empty_calls → has.odd_sized_calls ≡ had.odd_sized_calls →
    HavePlayed script before now session kept (read reading) → ending_of session ≡ None →
    Comes script had has before now (Err fault.Read)
limit_reached script had has before now session kept count was_well is_well writer_well all Unasked asked counted given
    calls last none room played e =
    let never : 0 ≡ READ_LIMIT = counted ∙ all in absurd (omega (arith, never))
limit_reached script had has before now session kept count was_well is_well writer_well all
    (Asked earlier (Gives piece)) asked counted given calls last none room played e =
    let bytes : List ℕ = concat earlier ++ piece in
    let left : List ℕ = tells.left_of has.remaining in
    let some_calls : now.calls ≤ before.calls + length (whole_front script bytes) = played.wrote.1 in
    record {
      told = tells.told_of before now (Asked earlier (Gives piece)) has.remaining (whole_front script bytes) false;
      tells = tells.tells_of had has before now (Asked earlier (Gives piece)) (whole_front script bytes) false was_well
          is_well given last
          (tells.counts_so_far script had.calls has.calls count (Asked earlier (Gives piece)) asked counted calls)
          (tells.empty_so_far script had.empty_calls has.empty_calls (Asked earlier (Gives piece)) asked none) room
          played.was_well writer_well played.wrote.0 (omega arith) played.wrote.2 (length (keys_of bytes) + 1)
          played.wrote.3;
      is_so = record {
        reads = tells.asked_so_far script (Asked earlier (Gives piece)) left asked;
        writer_is_well = refl;
        cause = (
          counted ∙ all,
          λ same. let some : 1 ≤ length piece = asked.this.some in let long : length piece ≡ 0 =
              ap length same in absurd (omega arith),
        );
        goes_on = tells.goes_on script bytes (unended script before now session kept bytes played e);
        wrote = tells.whole_is script bytes;
        few_writes = tells.few_writes before now (whole_front script bytes) (length (keys_of bytes) + 1)
            (text_count (Asked earlier (Gives piece))) played.wrote.3
            (tells.no_more (length (keys_of bytes)) (last_texts (Asked earlier (Gives piece))));
      };
    }
limit_reached script had has before now session kept count was_well is_well writer_well all
    (Asked earlier Fails) asked counted given calls last none room played e = absurd asked

-- the keys have ended, and that is written
pub keys_ended :
    (script : Script) (had mid has : ReaderState) (before now later : WriterState) (session : Session) (kept : Held)
    (count : ℕ) →
    had.has_failed ≡ false → has.has_failed ≡ false → later.has_failed ≡ false → count < READ_LIMIT →
    (stands : Stands script had mid before now session kept count) → ending_of session ≡ None →
    Loses mid.remaining has.remaining [] → IsSpent has.remaining → has.last ≡ 0 → has.calls ≡ mid.calls + 1 →
    has.empty_calls ≡ mid.empty_calls + 1 → has.odd_sized_calls ≡ mid.odd_sized_calls →
    HasTaken now later end_of_keys_line 1 → Comes script had has before later (Ok EndOfKeys)
keys_ended script had mid has before now later session kept count was_well is_well writer_well few stands e gives spent
    last calls one room taken =
    let bytes : List ℕ = read stands.reading in
    let pieces : List (List ℕ) = tells.pieces_of stands.reading in
    let left : List ℕ = tells.left_of has.remaining in
    let quiet : ending_of (session_of script bytes) ≡ None =
    unended script before now session kept bytes stands.played e in
    let on : GoesOn script bytes = tells.goes_on script bytes quiet in
    let joined : concat pieces ++ [] ≡ bytes =
    append-nil (concat pieces) ∙ tells.concat_pieces script stands.reading stands.is_asked in
    let long : length pieces ≡ count = tells.count_pieces script stands.reading stands.is_asked ∙ stands.counted in
    let so_far : mid.calls ≡ had.calls + count = stands.calls in
    let empty : left ≡ [] = tells.left_is_spent has.remaining spent in
    let all : (concat pieces ++ []) ++ left ≡ bytes = ap (λ l. (concat pieces ++ []) ++ l) empty
    ∙ append-nil (concat pieces ++ []) ∙ joined in
    let whole : output script bytes ≡ record {
      written = whole_front script bytes ++ end_of_keys_line;
      ending =
          EndOfKeys;
    } = output_of_unended script bytes quiet in
    let wrote : HasTaken before later (whole_front script bytes ++ end_of_keys_line)
    ((length (keys_of bytes) + 1) + 1) =
    taken_twice before now later (whole_front script bytes) end_of_keys_line _ (length (keys_of bytes) + 1) 1
    stands.played.wrote taken refl in
    let some_calls : later.calls ≤ before.calls + length (whole_front script bytes ++ end_of_keys_line) = wrote.1 in
    record {
      told = tells.told_of before later (Asked pieces (Gives [])) has.remaining
          (whole_front script bytes ++ end_of_keys_line) false;
      tells = tells.tells_of had has before later (Asked pieces (Gives []))
          (whole_front script bytes ++ end_of_keys_line) false was_well is_well
          (rw joined (tells.added_nothing had.remaining mid.remaining has.remaining bytes stands.given gives)) last
          (tells.counted_one had.calls mid.calls has.calls count (length pieces) long so_far calls)
          (tells.empty_at_end script had.empty_calls mid.empty_calls has.empty_calls stands.reading stands.is_asked
          stands.none_empty one) (room ∙ stands.same_room)
          stands.played.was_well writer_well wrote.0 (omega arith) wrote.2 ((length (keys_of bytes) + 1) + 1) wrote.3;
      is_so = record {
        reads = tells.asks script stands.reading (Gives []) left stands.is_asked on (rw stands.counted few)
            (omega arith) (λ none. empty);
        reader_is_well = refl;
        writer_is_well = refl;
        ending_is = rw all (ap (λ (out : Output). out.ending) whole);
        wrote = rw all (ap (λ (out : Output). out.written) (sym whole));
        brought = rw joined (ap (λ (out : Output). out.ending) whole);
        silent = λ end. refl;
        few_writes = rw joined
            (tells.few_writes before later (whole_front script bytes ++ end_of_keys_line)
            ((length (keys_of bytes) + 1) + 1) (length (keys_of bytes) + (1 + 1)) wrote.3
            (tells.one_line_more (length (keys_of bytes))));
      };
    }

-- where no key is left, none is ignored
heeds_none : (script : Script) (bytes : List ℕ) → HeedsNext script bytes bytes
heeds_none script bytes = subst (HeedsFirst script (session_of script bytes)) (sym (drop-length (keys_of bytes))) tt

-- the keys have ended, and that isn't written
pub keys_ended_unwritten :
    (fault : PieceFault) (script : Script) (had mid has : ReaderState) (before now later : WriterState)
    (session : Session) (kept : Held) (count : ℕ) →
    had.has_failed ≡ false → has.has_failed ≡ false → (fault ≡ piece.Memory → later.has_failed ≡ false) →
    (fault ≡ piece.Write → later.has_failed ≡ true) → count < READ_LIMIT →
    (stands : Stands script had mid before now session kept count) → ending_of session ≡ None →
    Loses mid.remaining has.remaining [] → IsSpent has.remaining → has.last ≡ 0 → has.calls ≡ mid.calls + 1 →
    has.empty_calls ≡ mid.empty_calls + 1 → has.odd_sized_calls ≡ mid.odd_sized_calls →
    StopsAtText fault now later end_of_keys_line →
    Comes script had has before later (Err (run_fault_of fault))
keys_ended_unwritten piece.Memory script had mid has before now later session kept count was_well is_well writer_well
    writer_failed few stands e gives spent last calls one room stops =
    let bytes : List ℕ = read stands.reading in
    let pieces : List (List ℕ) = tells.pieces_of stands.reading in
    let left : List ℕ = tells.left_of has.remaining in
    let on : GoesOn script bytes =
    tells.goes_on script bytes (unended script before now session kept bytes stands.played e) in
    let same : concat pieces ≡ bytes = tells.concat_pieces script stands.reading stands.is_asked in
    let joined : concat pieces ++ [] ≡ bytes = append-nil (concat pieces) ∙ same in
    let long : length pieces ≡ count = tells.count_pieces script stands.reading stands.is_asked ∙ stands.counted in
    let so_far : mid.calls ≡ had.calls + count = stands.calls in
    let wrote : HasTaken before later (whole_front script bytes) (length (keys_of bytes) + 1) =
    taken_no_more before now later (whole_front script bytes) (length (keys_of bytes) + 1) stands.played.wrote stops.0
    stops.1 stops.2 stops.3 in
    let some_calls : later.calls ≤ before.calls + length (whole_front script bytes) = wrote.1 in
    record {
      told = tells.told_of before later (Asked pieces (Gives [])) has.remaining (whole_front script bytes) false;
      tells = tells.tells_of had has before later (Asked pieces (Gives [])) (whole_front script bytes) false was_well
          is_well
          (rw joined (tells.added_nothing had.remaining mid.remaining has.remaining bytes stands.given gives)) last
          (tells.counted_one had.calls mid.calls has.calls count (length pieces) long so_far calls)
          (tells.empty_at_end script had.empty_calls mid.empty_calls has.empty_calls stands.reading stands.is_asked
          stands.none_empty one) (room ∙ stands.same_room)
          stands.played.was_well (writer_well refl) wrote.0 (omega arith) wrote.2 (length (keys_of bytes) + 1)
          wrote.3;
      is_so = record {
        reads = tells.asks script stands.reading (Gives []) left stands.is_asked on (rw stands.counted few)
            (omega arith) (λ none. tells.left_is_spent has.remaining spent);
        reader_is_well = refl;
        writer_is_well = refl;
        behind = bytes;
        enough = ([], sym same ∙ sym (append-nil (concat pieces)));
        within = ([], joined ∙ sym (append-nil bytes));
        goes_on = on;
        wanting = inr refl;
        heeded = rw joined (heeds_none script bytes);
        wrote = refl;
        few_writes = rw joined
            (tells.few_writes before later (whole_front script bytes) (length (keys_of bytes) + 1)
            (length (keys_of bytes) + (1 + 1)) wrote.3 (tells.no_more (length (keys_of bytes)) 1));
      };
    }
keys_ended_unwritten piece.Write script had mid has before now later session kept count was_well is_well writer_well
    writer_failed few stands e gives spent last calls one room stops =
    let bytes : List ℕ = read stands.reading in
    let pieces : List (List ℕ) = tells.pieces_of stands.reading in
    let left : List ℕ = tells.left_of has.remaining in
    let quiet : ending_of (session_of script bytes) ≡ None =
    unended script before now session kept bytes stands.played e in
    let on : GoesOn script bytes = tells.goes_on script bytes quiet in
    let same : concat pieces ≡ bytes = tells.concat_pieces script stands.reading stands.is_asked in
    let joined : concat pieces ++ [] ≡ bytes = append-nil (concat pieces) ∙ same in
    let long : length pieces ≡ count = tells.count_pieces script stands.reading stands.is_asked ∙ stands.counted in
    let so_far : mid.calls ≡ had.calls + count = stands.calls in
    let taken : List ℕ = whole_front script bytes ++ stops.taken in
    let whole : output script bytes ≡ record {
      written = whole_front script bytes ++ end_of_keys_line;
      ending =
          EndOfKeys;
    } = output_of_unended script bytes quiet in
    let wrote = taken_and_failed before now later (whole_front script bytes) stops.taken taken
    (length (keys_of bytes) + 1) 1 stands.played.wrote stops.wrote refl in
    record {
      told = tells.told_of before later (Asked pieces (Gives [])) has.remaining taken true;
      tells = tells.tells_of had has before later (Asked pieces (Gives [])) taken true was_well is_well
          (rw joined (tells.added_nothing had.remaining mid.remaining has.remaining bytes stands.given gives)) last
          (tells.counted_one had.calls mid.calls has.calls count (length pieces) long so_far calls)
          (tells.empty_at_end script had.empty_calls mid.empty_calls has.empty_calls stands.reading stands.is_asked
          stands.none_empty one) (room ∙ stands.same_room)
          stands.played.was_well (writer_failed refl) wrote.0 wrote.1 wrote.2 ((length (keys_of bytes) + 1) + 1)
          wrote.3;
      is_so = record {
        reads = tells.asks script stands.reading (Gives []) left stands.is_asked on (rw stands.counted few)
            (omega arith) (λ none. tells.left_is_spent has.remaining spent);
        reader_is_well = refl;
        cause = refl;
        wrote = inr (
          refl,
          rw joined
              (cut_off_behind (whole_front script bytes) stops.taken end_of_keys_line _ stops.cut_off
              (ap (λ (out : Output). out.written) whole)),
        );
        whole_before = rw same (stops.taken, ap (λ front. front ++ stops.taken) (tells.whole_is script bytes));
        few_writes = rw joined
            (tells.few_writes before later taken ((length (keys_of bytes) + 1) + 1) (length (keys_of bytes) + (1 + 1))
            wrote.3 (tells.one_line_more (length (keys_of bytes))));
      };
    }

-- a piece that isn't written whole
pub piece_unwritten :
    (fault : PieceFault) (script : Script) (had mid has : ReaderState) (before now later : WriterState)
    (session : Session) (kept : Held) (count : ℕ) (given : List ℕ) →
    had.has_failed ≡ false → has.has_failed ≡ false → (fault ≡ piece.Memory → later.has_failed ≡ false) →
    (fault ≡ piece.Write → later.has_failed ≡ true) → count < READ_LIMIT →
    (stands : Stands script had mid before now session kept count) → ending_of session ≡ None →
    1 ≤ length given → length given ≤ CALL_LIMIT → Loses mid.remaining has.remaining given → has.last ≡ length given →
    has.calls ≡ mid.calls + 1 →
    has.empty_calls ≡ mid.empty_calls → has.odd_sized_calls ≡ mid.odd_sized_calls →
    ((bytes : List ℕ) → HavePlayed script before now session kept bytes → StopsAs fault script before later bytes given)
    →
    Comes script had has before later (Err (run_fault_of fault))
piece_unwritten piece.Memory script had mid has before now later session kept count given was_well is_well writer_well
    writer_failed few stands e some short gives last calls none room stops =
    let bytes : List ℕ = read stands.reading in
    let pieces : List (List ℕ) = tells.pieces_of stands.reading in
    let left : List ℕ = tells.left_of has.remaining in
    let on : GoesOn script bytes =
    tells.goes_on script bytes (unended script before now session kept bytes stands.played e) in
    let same : concat pieces ≡ bytes = tells.concat_pieces script stands.reading stands.is_asked in
    let long : length pieces ≡ count = tells.count_pieces script stands.reading stands.is_asked ∙ stands.counted in
    let so_far : mid.calls ≡ had.calls + count = stands.calls in
    let stopped = stops bytes stands.played in
    let behind : List ℕ = bytes ++ take stopped.count given in
    let some_calls : later.calls ≤ before.calls + length (whole_front script behind) = stopped.wrote.1 in
    record {
      told = tells.told_of before later (Asked pieces (Gives given)) has.remaining (whole_front script behind) false;
      tells = tells.tells_of had has before later (Asked pieces (Gives given)) (whole_front script behind) false
          was_well is_well
          (rw same (loses_twice had.remaining mid.remaining has.remaining bytes given stands.given gives)) last
          (tells.counted_one had.calls mid.calls has.calls count (length pieces) long so_far calls)
          (tells.empty_at_piece script had.empty_calls has.empty_calls stands.reading given stands.is_asked some
          (none ∙ stands.none_empty)) (room ∙ stands.same_room)
          stands.played.was_well (writer_well refl) stopped.wrote.0 (omega arith) stopped.wrote.2
          (length (keys_of behind) + 1) stopped.wrote.3;
      is_so = record {
        reads = tells.asks script stands.reading (Gives given) left stands.is_asked on (rw stands.counted few) short
            (λ same. absurd (gave_some given same some));
        reader_is_well = refl;
        writer_is_well = refl;
        behind = behind;
        enough = rw same (take stopped.count given, refl);
        within = rw same (
          drop stopped.count given,
          ap (λ l. bytes ++ l) (sym (take-append-drop stopped.count given))
              ∙ sym (append_assoc bytes (take stopped.count given) (drop stopped.count given)),
        );
        goes_on = tells.goes_on script behind stopped.goes_on;
        wanting = inl (rw same stopped.wanting);
        heeded = rw same stopped.heeded;
        wrote = refl;
        few_writes = rw same
            (tells.few_writes before later (whole_front script behind) (length (keys_of behind) + 1)
            (length (keys_of (bytes ++ given)) + (1 + last_texts (Asked pieces (Gives given)))) stopped.wrote.3
            (tells.fewer_texts (length (keys_of behind)) (length (keys_of (bytes ++ given)))
            (last_texts (Asked pieces (Gives given))) stopped.wanting));
      };
    }
piece_unwritten piece.Write script had mid has before now later session kept count given was_well is_well writer_well
    writer_failed few stands e some short gives last calls none room stops =
    let bytes : List ℕ = read stands.reading in
    let pieces : List (List ℕ) = tells.pieces_of stands.reading in
    let left : List ℕ = tells.left_of has.remaining in
    let on : GoesOn script bytes =
    tells.goes_on script bytes (unended script before now session kept bytes stands.played e) in
    let same : concat pieces ≡ bytes = tells.concat_pieces script stands.reading stands.is_asked in
    let long : length pieces ≡ count = tells.count_pieces script stands.reading stands.is_asked ∙ stands.counted in
    let so_far : mid.calls ≡ had.calls + count = stands.calls in
    let stopped = stops bytes stands.played in
    record {
      told = tells.told_of before later (Asked pieces (Gives given)) has.remaining stopped.taken true;
      tells = tells.tells_of had has before later (Asked pieces (Gives given)) stopped.taken true was_well is_well
          (rw same (loses_twice had.remaining mid.remaining has.remaining bytes given stands.given gives)) last
          (tells.counted_one had.calls mid.calls has.calls count (length pieces) long so_far calls)
          (tells.empty_at_piece script had.empty_calls has.empty_calls stands.reading given stands.is_asked some
          (none ∙ stands.none_empty)) (room ∙ stands.same_room)
          stands.played.was_well (writer_failed refl) stopped.wrote.0 stopped.wrote.1 stopped.wrote.2
          (length (keys_of (bytes ++ given)) + 1) stopped.wrote.3;
      is_so = record {
        reads = tells.asks script stands.reading (Gives given) left stands.is_asked on (rw stands.counted few) short
            (λ same. absurd (gave_some given same some));
        reader_is_well = refl;
        cause = refl;
        wrote = inl (rw same (rw (← tells.whole_is script (bytes ++ given)) stopped.cut_off));
        whole_before = rw same (rw (← tells.whole_is script bytes) stopped.whole_before);
        few_writes = rw same
            (tells.few_writes before later stopped.taken (length (keys_of (bytes ++ given)) + 1)
            (length (keys_of (bytes ++ given)) + (1 + last_texts (Asked pieces (Gives given)))) stopped.wrote.3
            (tells.no_more (length (keys_of (bytes ++ given))) (last_texts (Asked pieces (Gives given)))));
      };
    }

-- what is written before the first key is the text of the opening
opening_is : (script : Script) → whole_front script [] ≡ (opening_step script).text
opening_is script = fronts_are_texts script [] ∙ append-nil (opening_step script).text

-- the opening is written
pub opened :
    (script : Script) (before now : WriterState) (made start : List ℕ) (session : Session) → before.has_failed ≡ false →
    start ≡ [] → made ≡ start ++ (opening_step script).text →
    session ≡ (opening_step script).session → HasTaken before now made 1 →
    HavePlayed script before now session Nothing []
opened script before now made start session was_well empty shown begins taken = record {
  was_well = was_well;
  session = begins;
  held = refl;
  wrote = rw (opening_is script, ← (shown ∙ ap (λ s. s ++ (opening_step script).text) empty)) taken;
}

-- the opening isn't written whole
pub opening_unwritten :
    (broken : PieceFault) (script : Script) (had : ReaderState) (before now : WriterState) (made start : List ℕ) →
    (broken ≡ piece.Memory → ⊥) → had.has_failed ≡ false → before.has_failed ≡ false →
    (broken ≡ piece.Write → now.has_failed ≡ true) → start ≡ [] → made ≡ start ++ (opening_step script).text →
    StopsAtText broken before now made → Comes script had had before now (Err fault.Write)
opening_unwritten piece.Memory script had before now made start never reader_well was_well failed empty shown stops =
    absurd (never refl)
opening_unwritten piece.Write script had before now made start never reader_well was_well failed empty shown stops =
    let same : made ≡ texts_of script [] =
    shown ∙ (ap (λ s. s ++ (opening_step script).text) empty ∙ (sym (opening_is script) ∙ tells.whole_is script [])) in
    record {
      told = tells.told_of before now Unasked had.remaining stops.taken true;
      tells = tells.tells_of had had before now Unasked stops.taken true reader_well reader_well
          (nothing_given had.remaining had.remaining refl) refl refl (omega arith) refl was_well
          (failed refl) stops.wrote.0 stops.wrote.1
          stops.wrote.2 1 stops.wrote.3;
      is_so = record {
        reads = tt;
        reader_is_well = refl;
        cause = refl;
        wrote = inl (rw (← same) stops.cut_off);
        whole_before = tt;
        few_writes = tells.few_writes before now stops.taken 1 (text_count Unasked) stops.wrote.3 (omega arith);
      };
    }
