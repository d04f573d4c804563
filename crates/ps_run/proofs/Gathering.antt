-- Texts that are gathered before they are handed on.
use Rattle.std.proofs.Common.{◌≡◌, ◌∙◌, ℕ, ◌+◌, ◌<◌, ◌≤◌, List, [], ◌∷◌, ◌++◌, length, take, drop}
use Rattle.std.proofs.Common.{get_or, Option, Some, None, refl, sym, subst, ap, append_assoc, append-nil, arith, Result}
use Rattle.std.proofs.Common.{Ok, Err, false}
use Rattle.std.specs.Prelude.{OnErr, OnOk, IfErr}
use Rattle.std.proofs.lemmas.Grind.{common_steps}
use Rattle.std.proofs.lemmas.List.{length-append, take-append-drop}
use Rattle.ps_model.specs.declared.held.Held.{Held}
use Rattle.ps_model.specs.declared.play.Key.{Key}
use Rattle.ps_model.specs.board.Turns.{Script}
use Rattle.ps_model.specs.session.HeldKeys as keys
use Rattle.ps_model.specs.session.IgnoredKeys.{is_ignored}
use Rattle.ps_model.specs.session.Sessions.{Session}
use Rattle.ps_model.specs.session.KeySteps.{key_step}
use Rattle.ps_model.specs.session.Keys.{keys_of}
use Rattle.ps_model.specs.game.Headline.{IsFront, IsCutOff}
use Rattle.ps_model.specs.game.Outputs.{ending_of}
use Rattle.ps_model.specs.game.Tellings.{WriterState}
use Rattle.ps_laws.specs.Fronts.{whole_front}
use Rattle.ps_laws.proofs.keys.KeysInPieces.{read_byte_by_byte}
use Rattle.ps_laws.proofs.sessions.SessionSteps.{silent_bytes, keys_write}
use Rattle.ps_devices.specs.Devices.{Grows}
use Rattle.ps_run.specs.declared.faults.PieceFault.{PieceFault}
use Rattle.ps_run.specs.declared.faults.PieceFault.TheVariants.{Memory, Write}
use Rattle.ps_run.specs.Played.{HaveGathered, HavePlayed, HasTaken, HasTakenAndFailed, IsCutOffAt, IsCutOffBehind}
use Rattle.ps_run.specs.Played.{IsGathered, StopsAs, StopsAtKey, StopsAtText, texts_in}
use Rattle.ps_run.proofs.Keyed.{not_ended}
use Rattle.ps_run.proofs.Playing.{counted_of_more, cut_off_before, cut_off_behind, front_of_piece, front_twice, heeds_key}
use Rattle.ps_run.proofs.Playing.{heeds_on, keys_to, no_key_more, one_key_more, piece_to, taken_and_failed, taken_twice}

-- counts --------------------------------------------------------------------------------------------------------------

-- what is gathered is handed on by a call at most, and by one where there is something
texts_few : (bytes : List ℕ) → texts_in bytes ≤ 1
texts_few [] = omega arith
texts_few (byte ∷ bytes) = omega arith

texts_some : (bytes : List ℕ) → 1 ≤ length bytes → texts_in bytes ≡ 1
texts_some [] some = absurd (omega (arith, some))
texts_some (byte ∷ bytes) some = refl

-- more calls are allowed where fewer are
taken_of_more : (before now : WriterState) (text : List ℕ) (count more : ℕ) → HasTaken before now text count →
    count ≤ more → HasTaken before now text more
taken_of_more before now text count more taken within =
    (taken.0, taken.1, taken.2, counted_of_more before now text count more taken.3 within)

failed_of_more : (before now : WriterState) (text : List ℕ) (count more : ℕ) →
    HasTakenAndFailed before now text count → count ≤ more → HasTakenAndFailed before now text more
failed_of_more before now text count more taken within =
    (taken.0, taken.1, taken.2, counted_of_more before now text count more taken.3 within)

-- no text is taken by no call
grows_none : (old : Option (List ℕ)) → Grows old old []
grows_none None = refl
grows_none (Some known) = ap Some (sym (append-nil known))

taken_none : (state : WriterState) → HasTaken state state [] 0
taken_none state = (
  grows_none state.contents,
  omega arith,
  refl,
  record { more = omega arith; shorts = omega arith; called = λ some. omega (arith, some); few = omega arith },
)

-- handing on ----------------------------------------------------------------------------------------------------------

-- nothing is gathered
pub flushed_none : (state : WriterState) (gathered : List ℕ) → gathered ≡ [] →
    HasTaken state state gathered (texts_in gathered)
flushed_none state gathered none = rw none (taken_none state)

-- what is gathered is written
pub flushed : (before now : WriterState) (gathered : List ℕ) → 1 ≤ length gathered →
    HasTaken before now gathered 1 → HasTaken before now gathered (texts_in gathered)
flushed before now gathered some taken = rw (texts_some gathered some) taken

-- a text that isn't written whole isn't told as want of memory
cut_off_at : (fault : PieceFault) (before now : WriterState) (text : List ℕ) → (fault ≡ Memory → ⊥) →
    StopsAtText fault before now text → IsCutOffAt before now text
cut_off_at Memory before now text never stops = absurd (never refl)
cut_off_at Write before now text never stops = stops

pub cut_off_if : {A : Type 0} (result : Result A PieceFault) (before now : WriterState) (text : List ℕ) →
    (result ≡ Err Memory → ⊥) → IfErr result (λ fault. StopsAtText fault before now text) →
    OnErr result (IsCutOffAt before now text)
cut_off_if (Ok value) before now text never stops = tt
cut_off_if (Err fault) before now text never stops =
    cut_off_at fault before now text (λ memory. never (ap Err memory)) stops

-- a text stays behind those that are gathered
pub stays : (state : WriterState) (gathered left text : List ℕ) → left ≡ gathered ++ text →
    IsGathered state state gathered left text
stays state gathered left text more = record {
  handed = [];
  count = 0;
  wrote = taken_none state;
  rest = sym more;
  few = let few = texts_few left in omega (arith, few);
}

-- a text behind no other is written
pub written_first : (before now : WriterState) (left text : List ℕ) → HasTaken before now text 1 → left ≡ [] →
    IsGathered before now [] left text
written_first before now left text taken none = record {
  handed = text;
  count = 1;
  wrote = taken;
  rest = sym (append-nil text) ∙ ap (λ (bytes : List ℕ). text ++ bytes) (sym none);
  few = let empty : texts_in left ≡ 0 = ap texts_in none in omega (arith, empty);
}

pub written_if : {A E : Type 0} (result : Result A E) (before now : WriterState) (left text : List ℕ) → left ≡ [] →
    OnOk result (HasTaken before now text 1) → OnOk result (IsGathered before now [] left text)
written_if (Ok value) before now left text none taken = written_first before now left text taken none
written_if (Err error) before now left text none taken = tt

-- those that are gathered are handed on, and then a text comes behind no other
pub gathered_apart : {A E : Type 0} (result : Result A E) (before between now : WriterState)
    (gathered left text : List ℕ) → HasTaken before between gathered (texts_in gathered) →
    OnOk result (IsGathered between now [] left text) → OnOk result (IsGathered before now gathered left text)
gathered_apart (Err error) before between now gathered left text taken is = tt
gathered_apart (Ok value) before between now gathered left text taken is = record {
  handed = gathered ++ is.handed;
  count = texts_in gathered + is.count;
  wrote = taken_twice before between now gathered is.handed _ (texts_in gathered) is.count taken is.wrote refl;
  rest = ap (λ (bytes : List ℕ). gathered ++ bytes) is.rest ∙ sym (append_assoc gathered is.handed left);
  few = let few = is.few in omega (arith, few);
}

-- the writer fails at what is gathered
pub cut_off_gathered : (before now : WriterState) (gathered text : List ℕ) → IsCutOffAt before now gathered →
    IsCutOffBehind before now gathered text
cut_off_gathered before now gathered text stops = record {
  taken = stops.taken;
  cut_off = cut_off_before stops.taken gathered (gathered ++ text) stops.cut_off (text, refl);
  wrote = failed_of_more before now stops.taken 1 (texts_in gathered + 1) stops.wrote (omega arith);
}

-- or at the text behind it
pub cut_off_apart : {A E : Type 0} (result : Result A E) (before between now : WriterState) (gathered text : List ℕ) →
    HasTaken before between gathered (texts_in gathered) → OnErr result (IsCutOffAt between now text) →
    OnErr result (IsCutOffBehind before now gathered text)
cut_off_apart (Ok value) before between now gathered text first stops = tt
cut_off_apart (Err error) before between now gathered text first stops = record {
  taken = gathered ++ stops.taken;
  cut_off = cut_off_behind gathered stops.taken text (gathered ++ text) stops.cut_off refl;
  wrote = taken_and_failed before between now gathered stops.taken _ (texts_in gathered) 1 first stops.wrote refl;
}

-- what follows where the writer fails
pub if_cut : {A : Type 0} {P : Type 0} (Q : PieceFault → Type 0) (result : Result A PieceFault) →
    (result ≡ Err Memory → ⊥) → (P → Q Write) → OnErr result P → IfErr result Q
if_cut Q (Ok value) never follows fact = tt
if_cut Q (Err Memory) never follows fact = absurd (never refl)
if_cut Q (Err Write) never follows fact = follows fact

-- keys ----------------------------------------------------------------------------------------------------------------

-- a key's text that was made behind no other
pub text_gathered : {A E : Type 0} (result : Result A E) (before now : WriterState)
    (gathered left made old text : List ℕ) → made ≡ old ++ text → old ≡ [] →
    OnOk result (IsGathered before now gathered left made) → OnOk result (IsGathered before now gathered left text)
text_gathered (Ok value) before now gathered left made old text e none is =
    subst (λ (bytes : List ℕ). IsGathered before now gathered left bytes)
    (e ∙ ap (λ (bytes : List ℕ). bytes ++ text) none) is
text_gathered (Err error) before now gathered left made old text e none is = tt

pub text_cut_off : (fault : PieceFault) (before now : WriterState) (gathered made old text : List ℕ) →
    made ≡ old ++ text → old ≡ [] → (fault ≡ Memory → ⊥) → IsCutOffBehind before now gathered made →
    StopsAtKey fault before now gathered text
text_cut_off Memory before now gathered made old text e none never stops = absurd (never refl)
text_cut_off Write before now gathered made old text e none never stops =
    subst (λ (bytes : List ℕ). IsCutOffBehind before now gathered bytes)
    (e ∙ ap (λ (bytes : List ℕ). bytes ++ text) none) stops

-- memory was refused for a key, and the writer fails at what is gathered
pub unflushed : (fault : PieceFault) (before now : WriterState) (gathered text : List ℕ) → (fault ≡ Memory → ⊥) →
    IsCutOffAt before now gathered → StopsAtKey fault before now gathered text
unflushed Memory before now gathered text never stops = absurd (never refl)
unflushed Write before now gathered text never stops = cut_off_gathered before now gathered text stops

-- bytes ---------------------------------------------------------------------------------------------------------------

-- a byte that brings no key
pub silent_byte :
    (script : Script) (before now : WriterState) (session : Session) (kept : Held) (gathered first read : List ℕ)
    (byte : ℕ) → keys.key_behind kept byte ≡ None →
    HaveGathered script before now session kept gathered first read →
    HaveGathered script before now session (keys.held_behind kept byte) gathered first (read ++ byte ∷ [])
silent_byte script before now session kept gathered first read byte none played =
    let quiet = silent_bytes script read byte kept played.held none in
    record {
      was_well = played.was_well;
      session = played.session ∙ sym quiet.1;
      held = (read_byte_by_byte read byte kept played.held).1;
      taken = played.taken;
      count = played.count;
      wrote = played.wrote;
      rest = quiet.0 ∙ played.rest;
      few = rw (no_key_more read byte kept played.held none) played.few;
      whole_before = played.whole_before;
    }

-- a byte that brings a key
pub key_byte :
    (script : Script) (before now later : WriterState) (session next : Session) (kept : Held)
    (gathered left first read : List ℕ) (byte : ℕ) (key : Key) → keys.key_behind kept byte ≡ Some key →
    next ≡ (key_step script session key).session →
    IsGathered now later gathered left (key_step script session key).text →
    HaveGathered script before now session kept gathered first read →
    HaveGathered script before later next (keys.held_behind kept byte) left first (read ++ byte ∷ [])
key_byte script before now later session next kept gathered left first read byte key brings steps is played =
    let text : List ℕ = (key_step script session key).text in
    let wrote = keys_write script read byte kept key played.held brings in
    let one : length (keys_of (read ++ byte ∷ [])) ≡ length (keys_of read) + 1 =
    one_key_more read byte kept key played.held brings in
    let so_far = played.few in
    let more = is.few in
    record {
      was_well = played.was_well;
      session = steps ∙ ap (λ (s : Session). (key_step script s key).session) played.session ∙ sym wrote.1;
      held = (read_byte_by_byte read byte kept played.held).1;
      taken = played.taken ++ is.handed;
      count = played.count + is.count;
      wrote = taken_twice before now later played.taken is.handed _ played.count is.count played.wrote is.wrote refl;
      rest = wrote.0
          ∙ ap (λ (s : Session). whole_front script read ++ (key_step script s key).text) (sym played.session)
          ∙ ap (λ (front : List ℕ). front ++ text) played.rest
          ∙ append_assoc played.taken gathered text
          ∙ ap (λ (bytes : List ℕ). played.taken ++ bytes) is.rest
          ∙ sym (append_assoc played.taken is.handed left);
      few = omega (arith, one, so_far, more);
      whole_before = front_twice _ _ _ played.whole_before (is.handed, refl);
    }

-- pieces --------------------------------------------------------------------------------------------------------------

-- the bytes of a piece up to one, that one and those behind it
whole_piece : (first piece : List ℕ) (i : ℕ) → i < length piece →
    ((first ++ take i piece) ++ get_or piece i 0 ∷ []) ++ drop (i + 1) piece ≡ first ++ piece
whole_piece first piece i within =
    ap (λ (bytes : List ℕ). bytes ++ drop (i + 1) piece) (piece_to first piece i within)
    ∙ append_assoc first (take (i + 1) piece) (drop (i + 1) piece)
    ∙ ap (λ (bytes : List ℕ). first ++ bytes) (take-append-drop (i + 1) piece)

-- before a piece nothing is gathered
pub none_gathered :
    (script : Script) (before now : WriterState) (session : Session) (kept : Held) (gathered read : List ℕ) →
    gathered ≡ [] → HavePlayed script before now session kept read →
    HaveGathered script before now session kept gathered read read
none_gathered script before now session kept gathered read none played =
    let empty : texts_in gathered ≡ 0 = ap texts_in none in
    record {
      was_well = played.was_well;
      session = played.session;
      held = played.held;
      taken = whole_front script read;
      count = length (keys_of read) + 1;
      wrote = played.wrote;
      rest = sym (append-nil (whole_front script read))
          ∙ ap (λ (bytes : List ℕ). whole_front script read ++ bytes) (sym none);
      few = omega (arith, empty);
      whole_before = ([], sym (append-nil (whole_front script read)));
    }

-- after it what is gathered is handed on
pub all_played :
    (script : Script) (before now later : WriterState) (session : Session) (kept : Held)
    (gathered first read : List ℕ) → HasTaken now later gathered (texts_in gathered) →
    HaveGathered script before now session kept gathered first read →
    HavePlayed script before later session kept read
all_played script before now later session kept gathered first read taken played = record {
  was_well = played.was_well;
  session = played.session;
  held = played.held;
  wrote = taken_of_more before later (whole_front script read) (played.count + texts_in gathered)
      (length (keys_of read) + 1)
      (taken_twice before now later played.taken gathered (whole_front script read) played.count (texts_in gathered)
      played.wrote taken played.rest) played.few;
}

-- so it is where all its bytes are played
pub all_bytes_played : {A E : Type 0} (result : Result A E) (script : Script) (now later : WriterState)
    (session : Session) (kept : Held) (gathered piece : List ℕ) (i : ℕ) → length piece ≤ i →
    {Played : WriterState → List ℕ → Type 0} →
    ((before : WriterState) (read : List ℕ) → Played before read →
    HaveGathered script before now session kept gathered read (read ++ take i piece)) →
    OnOk result (HasTaken now later gathered (texts_in gathered)) →
    OnOk result ((before : WriterState) (read : List ℕ) → Played before read →
    HavePlayed script before later session kept (read ++ piece))
all_bytes_played (Err error) script now later session kept gathered piece i over before taken = tt
all_bytes_played (Ok value) script now later session kept gathered piece i over gathers taken = λ before read played.
    let all_bytes : take i piece ≡ piece = grind (arith, common_steps) in
    rw all_bytes at
    (all_played script before now later session kept gathered read (read ++ take i piece) taken
    (gathers before read played))

-- one more byte of the piece is played
pub piece_goes_on :
    (script : Script) (before now : WriterState) (session : Session) (kept : Held)
    (gathered first piece : List ℕ) (i : ℕ) → i < length piece →
    HaveGathered script before now session kept gathered first ((first ++ take i piece) ++ get_or piece i 0 ∷ []) →
    HaveGathered script before now session kept gathered first (first ++ take (i + 1) piece)
piece_goes_on script before now session kept gathered first piece i within played =
    rw (← piece_to first piece i within) played

-- or the writer fails
pub piece_cut_off :
    (script : Script) (before now later : WriterState) (session : Session) (kept : Held)
    (gathered first piece : List ℕ) (i : ℕ) → length piece ≤ i → IsCutOffAt now later gathered →
    HaveGathered script before now session kept gathered first (first ++ take i piece) →
    StopsAs Write script before later first piece
piece_cut_off script before now later session kept gathered first piece i over stops gathered_then =
    let all_bytes : take i piece ≡ piece = grind (arith, common_steps) in
    let played : HaveGathered script before now session kept gathered first (first ++ piece) =
    rw all_bytes at gathered_then in
    let all : length gathered ≡ length stops.taken + length stops.cut_off.rest =
    ap length stops.cut_off.is ∙ length-append stops.taken stops.cut_off.rest in
    let rest : 1 ≤ length stops.cut_off.rest = stops.cut_off.some in
    let some : texts_in gathered ≡ 1 = texts_some gathered (omega (arith, all, rest)) in
    let few = played.few in
    record {
      was_well = played.was_well;
      taken = played.taken ++ stops.taken;
      wrote = failed_of_more before later (played.taken ++ stops.taken) (played.count + 1)
          (length (keys_of (first ++ piece)) + 1)
          (taken_and_failed before now later played.taken stops.taken _ played.count 1 played.wrote stops.wrote refl)
          (omega (arith, few, some));
      whole_before = front_twice _ _ _ played.whole_before (stops.taken, refl);
      cut_off = cut_off_behind played.taken stops.taken gathered _ stops.cut_off played.rest;
    }

-- a piece that stops at one of its bytes
pub byte_stops :
    (fault : PieceFault) (script : Script) (before now later : WriterState) (session : Session) (kept : Held)
    (gathered first piece : List ℕ) (i byte : ℕ) (key : Key) → keys.key_behind kept byte ≡ Some key →
    (fault ≡ Memory → is_ignored script.options session key ≡ false) →
    StopsAtKey fault now later gathered (key_step script session key).text →
    i < length piece → get_or piece i 0 ≡ byte →
    HaveGathered script before now session kept gathered first (first ++ take i piece) →
    StopsAs fault script before later first piece
byte_stops fault script before now later session kept gathered first piece i byte key brings heeded stops within is
    played =
    by_cases fault heeded stops
  where
    read : List ℕ
    read = first ++ take i piece

    text : List ℕ
    text = (key_step script session key).text

    here : keys.key_behind kept (get_or piece i 0) ≡ Some key
    here = ap (keys.key_behind kept) is ∙ brings

    one : length (keys_of (read ++ get_or piece i 0 ∷ [])) ≡ length (keys_of read) + 1
    one = one_key_more read (get_or piece i 0) kept key played.held here

    upto : length (keys_of (read ++ get_or piece i 0 ∷ [])) ≤ length (keys_of (first ++ piece))
    upto = keys_to first piece i within

    few : played.count + texts_in gathered ≤ length (keys_of read) + 1
    few = played.few

    by_cases : (fault : PieceFault) → (fault ≡ Memory → is_ignored script.options session key ≡ false) →
        StopsAtKey fault now later gathered text → StopsAs fault script before later first piece
    by_cases Memory heeded stops = record {
      was_well = played.was_well;
      count = i;
      wrote = taken_of_more before later (whole_front script read) (played.count + texts_in gathered)
          (length (keys_of read) + 1)
          (taken_twice before now later played.taken gathered (whole_front script read) played.count
          (texts_in gathered) played.wrote stops played.rest) few;
      goes_on = ap ending_of (sym played.session) ∙ not_ended script.options session key (heeded refl);
      wanting = omega (arith, one, upto);
      heeded = rw (← whole_piece first piece i within)
          (heeds_on script read (read ++ get_or piece i 0 ∷ []) (drop (i + 1) piece) (omega (arith, one))
          (heeds_key script session kept read (get_or piece i 0) key here played.held played.session (heeded refl)));
    }
    by_cases Write heeded stops =
        let wrote = keys_write script read (get_or piece i 0) kept key played.held here in
        let whole : whole_front script (read ++ get_or piece i 0 ∷ []) ≡ played.taken ++ (gathered ++ text) =
        wrote.0
        ∙ ap (λ (s : Session). whole_front script read ++ (key_step script s key).text) (sym played.session)
        ∙ ap (λ (front : List ℕ). front ++ text) played.rest
        ∙ append_assoc played.taken gathered text in
        let behind : IsFront (whole_front script (read ++ get_or piece i 0 ∷ []))
        (whole_front script (first ++ piece)) =
        rw (← whole_piece first piece i within)
        (front_of_piece script (read ++ get_or piece i 0 ∷ []) (drop (i + 1) piece)) in
        record {
          was_well = played.was_well;
          taken = played.taken ++ stops.taken;
          wrote = failed_of_more before later (played.taken ++ stops.taken)
              (played.count + (texts_in gathered + 1)) (length (keys_of (first ++ piece)) + 1)
              (taken_and_failed before now later played.taken stops.taken _ played.count (texts_in gathered + 1)
              played.wrote stops.wrote refl)
              (omega (arith, few, one, upto));
          whole_before = front_twice _ _ _ played.whole_before (stops.taken, refl);
          cut_off = cut_off_before _ (whole_front script (read ++ get_or piece i 0 ∷ [])) _
              (cut_off_behind played.taken stops.taken (gathered ++ text) _ stops.cut_off whole) behind;
        }
