-- From a run by other rules to a run on a text.
use Rattle.std.proofs.Common.{◌≡◌, ◌∙◌, ℕ, ◌+◌, List, [], ◌∷◌, ◌++◌, length, take, drop, inl, inr, false}
use Rattle.std.proofs.Common.{refl, sym, ap, arith, subst, Ok, Err}
use Rattle.std.specs.List.{concat}
use Rattle.std.proofs.lemmas.Grind.{common_steps}
use Rattle.std.proofs.lemmas.List.{length-append, take-append-drop}
use Rattle.ps_model.specs.declared.options.Options.{Options}
use Rattle.ps_model.specs.declared.play.Key.{Key}
use Rattle.ps_model.specs.board.Turns.{Script}
use Rattle.ps_model.specs.session.IgnoredKeys.{is_ignored}
use Rattle.ps_model.specs.session.KeySteps.{key_step}
use Rattle.ps_model.specs.session.Sessions.{Session}
use Rattle.ps_model.specs.session.Keys.{keys_of}
use Rattle.ps_model.specs.session.HeldKeys.{held}
use Rattle.ps_model.specs.game.Outputs.{Output, output_of_keys, opening_step, ending_of, texts_of_keys}
use Rattle.ps_model.specs.game.Headline.{GoesOn, ReadsInTurn, IsCutOffWriting, IsHeeded}
use Rattle.ps_model.specs.game.Headline.{IsWholeBefore, texts_of, StopsForMemory}
use Rattle.ps_model.specs.game.Tellings.{ReaderCalls, Unasked, Asked, Told, read, read_before}
use Rattle.ps_laws.specs.AlikeScripts.{SameRuns}
use Rattle.ps_laws.specs.Fronts.{session_after, session_of}
use Rattle.ps_laws.proofs.keys.KeysInPieces.{keys_of-append}
use Rattle.ps_devices.specs.declared.players.RunFault.TheVariants as fault
use Rattle.ps_run.specs.Played.{HeedsFirst, HeedsNext}
use Rattle.ps_run.specs.Runs.{StopsInPlay}
use Rattle.ps_run.specs.Answering.{AnswersCarryOver}
use Rattle.ps_run.proofs.Telling.{whole_is}

same_going_on : (a b : Script) → SameRuns a b → (bytes : List ℕ) → GoesOn a bytes → GoesOn b bytes
same_going_on a b same bytes on = sym (ap (λ (out : Output). out.ending) (same.outputs bytes)) ∙ on

same_reading : (a b : Script) → SameRuns a b → (reading : ReaderCalls) (left : List ℕ) → ReadsInTurn a reading left →
    ReadsInTurn b reading left
same_reading a b same Unasked left reads = tt
same_reading a b same (Asked earlier last) left reads = record {
  pieces = reads.pieces;
  few = reads.few;
  calls = reads.calls;
  goes_on = same_going_on a b same (concat earlier) reads.goes_on;
  spent = reads.spent;
}

same_texts : (a b : Script) → SameRuns a b → (bytes : List ℕ) → texts_of a bytes ≡ texts_of b bytes
same_texts a b same bytes = same.fronts bytes (length (keys_of bytes))

same_cut : (a b : Script) → SameRuns a b → (told : Told) → IsCutOffWriting a told → IsCutOffWriting b told
same_cut a b same told (inl cut) = inl (record {
  rest = cut.rest;
  some = cut.some;
  is = sym (same_texts a b same (read told.reading)) ∙ cut.is;
})
same_cut a b same told (inr (none, cut)) = inr (
  none,
  record {
    rest = cut.rest;
    some = cut.some;
    is = sym (ap (λ (out : Output). out.written) (same.outputs (read told.reading))) ∙ cut.is;
  },
)

same_whole : (a b : Script) → SameRuns a b → (reading : ReaderCalls) (wrote : List ℕ) → IsWholeBefore a reading wrote →
    IsWholeBefore b reading wrote
same_whole a b same Unasked wrote whole = tt
same_whole a b same (Asked earlier last) wrote (rest, is) =
    (rest, is ∙ ap (λ text. text ++ rest) (same_texts a b same (concat earlier)))

first_keys : (first second : List ℕ) → take (length (keys_of first)) (keys_of (first ++ second)) ≡ keys_of first
first_keys first second = rw (keys_of-append first second) (grind (arith, common_steps))

all_keys : (bytes : List ℕ) → take (length (keys_of bytes)) (keys_of bytes) ≡ keys_of bytes
all_keys bytes = grind (arith, common_steps)

-- the same keys are ignored
same_heeded : (a b : Script) → SameRuns a b → (first all : List ℕ) → HeedsNext a first all → HeedsNext b first all
same_heeded a b same first all heeded =
    subst (λ (session : Session). HeedsFirst b session (drop (length (keys_of first)) (keys_of all)))
    (same.sessions first)
    (same_first (session_of a first) (drop (length (keys_of first)) (keys_of all)) heeded)
  where
    same_first : (session : Session) (keys : List Key) → HeedsFirst a session keys → HeedsFirst b session keys
    same_first session [] heeded = tt
    same_first session (key ∷ keys) heeded =
        subst (λ (options : Options). is_ignored options session key ≡ false) same.options heeded

-- the key behind some isn't ignored where they lead
heeds_behind : (script : Script) (session : Session) (first keys : List Key) →
    HeedsFirst script (session_after script session first) keys →
    IsHeeded script session (first ++ keys) (length first)
heeds_behind script session [] [] heeded = tt
heeds_behind script session [] (key ∷ keys) heeded = heeded
heeds_behind script session (each ∷ first) keys heeded =
    heeds_behind script (key_step script session each).session first keys heeded

stops : (a b : Script) → SameRuns a b → (told : Told) → StopsInPlay a told → StopsForMemory b told
stops a b same told so =
    let start = opening_step b in
    let split : read told.reading ≡ so.behind ++ so.within.0 = so.within.1 in
    let before : so.behind ≡ read_before told.reading ++ so.enough.0 = so.enough.1 in
    let first : take (length (keys_of so.behind)) (keys_of (read told.reading)) ≡ keys_of so.behind =
    rw split (first_keys so.behind so.within.0) in
    let whole : keys_of so.behind ++ drop (length (keys_of so.behind)) (keys_of (read told.reading))
    ≡ keys_of (read told.reading) =
    ap (λ (keys : List Key). keys ++ drop (length (keys_of so.behind)) (keys_of (read told.reading))) (sym first)
    ∙ take-append-drop (length (keys_of so.behind)) (keys_of (read told.reading)) in
    let long : length (keys_of so.behind) ≡ length (keys_of (read_before told.reading)) + length
    (keys_of (held (read_before told.reading) ++ so.enough.0)) =
    ap (λ bytes. length (keys_of bytes)) before
    ∙ (ap length (keys_of-append (read_before told.reading) so.enough.0)
    ∙ length-append (keys_of (read_before told.reading))
    (keys_of (held (read_before told.reading) ++ so.enough.0))) in
    record {
      reads = same_reading a b same told.reading told.left so.reads;
      reader_is_well = so.reader_is_well;
      writer_is_well = so.writer_is_well;
      keys = length (keys_of so.behind);
      enough = omega arith;
      wanting = so.wanting;
      heeded = subst (λ (keys : List Key). IsHeeded b start.session keys (length (keys_of so.behind))) whole
          (heeds_behind b start.session (keys_of so.behind) (drop (length (keys_of so.behind))
          (keys_of (read told.reading))) (same_heeded a b same so.behind (read told.reading) so.heeded));
      goes_on = ap (λ (keys : List Key). (output_of_keys b start.session (ending_of start.session) keys).ending) first
          ∙ same_going_on a b same so.behind so.goes_on;
      wrote = so.wrote ∙ (same.whole_fronts so.behind
          ∙ (whole_is b so.behind ∙ ap (λ (keys : List Key).
          start.text ++ texts_of_keys b start.session keys) (all_keys so.behind ∙ sym first)));
      few_writes = so.few_writes;
    }

pub answers_carry_over : AnswersCarryOver
answers_carry_over text source script same told (Ok ending) so = (
  source,
  refl,
  record {
    reads = same_reading script source same told.reading told.left so.reads;
    reader_is_well = so.reader_is_well;
    writer_is_well = so.writer_is_well;
    ending_is = sym (ap (λ (out : Output). out.ending) (same.outputs (read told.reading ++ told.left)))
        ∙ so.ending_is;
    wrote = so.wrote ∙ ap (λ (out : Output). out.written) (same.outputs (read told.reading ++ told.left));
    brought = sym (ap (λ (out : Output). out.ending) (same.outputs (read told.reading))) ∙ so.brought;
    silent = so.silent;
    few_writes = so.few_writes;
  },
)
answers_carry_over text source script same told (Err (fault.Refused refused)) so = absurd so
answers_carry_over text source script same told (Err fault.Memory) so =
    inr (source, refl, stops script source same told so)
answers_carry_over text source script same told (Err fault.Read) so = (
  source,
  refl,
  record {
    reads = same_reading script source same told.reading told.left so.reads;
    writer_is_well = so.writer_is_well;
    cause = so.cause;
    goes_on = same_going_on script source same (read told.reading) so.goes_on;
    wrote = so.wrote ∙ same_texts script source same (read told.reading);
    few_writes = so.few_writes;
  },
)
answers_carry_over text source script same told (Err fault.Write) so = (
  source,
  refl,
  record {
    reads = same_reading script source same told.reading told.left so.reads;
    reader_is_well = so.reader_is_well;
    cause = so.cause;
    wrote = same_cut script source same told so.wrote;
    whole_before = same_whole script source same told.reading told.wrote so.whole_before;
    few_writes = so.few_writes;
  },
)
