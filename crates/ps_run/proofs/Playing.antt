-- What bytes do, one after the other.
use Rattle.std.proofs.Common.{◌≡◌, ◌∙◌, inl, inr, ℕ, zero, suc, ◌+◌, ◌<◌, ◌≤◌, ◌-◌, List, [], ◌∷◌, ◌++◌, length, take}
use Rattle.std.proofs.Common.{drop}
use Rattle.std.proofs.Common.{false, get_or, Option, Some, None, refl, sym, subst, ap, append_assoc, append-nil, arith, Result}
use Rattle.std.proofs.Common.{Ok, Err}
use Rattle.std.specs.Prelude.{OnOk, IfErr, option_to_list}
use Rattle.std.proofs.lemmas.Grind.{common_steps}
use Rattle.std.proofs.lemmas.List.{take-append-drop, length-append}
use Rattle.std.proofs.Math.Seq.{drop-append_seam}
use Rattle.ps_model.specs.declared.held.Held.{Held}
use Rattle.ps_model.specs.declared.play.Key.{Key}
use Rattle.ps_model.specs.board.Turns.{Script}
use Rattle.ps_model.specs.session.HeldKeys as keys
use Rattle.ps_model.specs.session.IgnoredKeys.{is_ignored}
use Rattle.ps_model.specs.session.Sessions.{Session}
use Rattle.ps_model.specs.session.Keys.{keys_of}
use Rattle.ps_model.specs.game.Headline.{IsFront, IsCutOff}
use Rattle.ps_model.specs.game.Outputs.{texts_of_keys}
use Rattle.ps_model.specs.game.Tellings.{WriterState}
use Rattle.ps_laws.specs.Fronts.{session_of, whole_front}
use Rattle.ps_laws.proofs.keys.Fronts.{front_in_pieces}
use Rattle.ps_laws.proofs.keys.KeysInPieces.{keys_of-append, read_byte_by_byte}
use Rattle.ps_devices.specs.Devices.{Grows}
use Rattle.ps_devices.proofs.Pieces.{grows_twice}
use Rattle.ps_run.specs.declared.faults.PieceFault.{PieceFault}
use Rattle.ps_run.specs.declared.faults.PieceFault.TheVariants.{Write}
use Rattle.ps_run.specs.Played.{HasCounted, HasTaken, HasTakenAndFailed, IsCutOffAt, StopsAtText}
use Rattle.ps_run.specs.Played.{HeedsFirst, HeedsNext}
use Rattle.ps_laws.proofs.common.Orders.{two_up}
use Rattle.std.proofs.lemmas.Bool.{cases_lt}

-- of two texts one has a byte, where both together have one
some_of_both : (first second whole before now later : ℕ) → whole ≡ first + second → 1 ≤ whole →
    (1 ≤ first → before < now) → (1 ≤ second → now < later) → before ≤ now → now ≤ later → before < later
some_of_both first second whole before now later long some front back up on =
    elim (cases_lt 0 first) [
      | inl below ↦ (let here : 1 ≤ first = omega (arith, below) in
          let called : before < now = front here in omega (arith, called, on))
      | inr above ↦ (let there : 1 ≤ second = omega (arith, above, long, some) in
          let called : now < later = back there in omega (arith, called, up))
    ]

few_of_both : (calls shorts mid_calls mid_shorts new_calls new_shorts count more : ℕ) →
    mid_calls + shorts ≤ calls + (count + mid_shorts) → new_calls + mid_shorts ≤ mid_calls + (more + new_shorts) →
    new_calls + shorts ≤ calls + ((count + more) + new_shorts)
few_of_both calls shorts mid_calls mid_shorts new_calls new_shorts count more first second = omega arith

-- texts counted one after the other
pub counted_twice :
    (before now later : WriterState) (first second whole : List ℕ) (count more : ℕ) →
    HasCounted before now first count → HasCounted now later second more → whole ≡ first ++ second →
    HasCounted before later whole (count + more)
counted_twice before now later first second whole count more one other same =
    let long : length whole ≡ length first + length second = ap length same ∙ length-append first second in
    record {
      more = two_up before.calls now.calls later.calls one.more other.more;
      shorts = two_up before.short_calls now.short_calls later.short_calls one.shorts other.shorts;
      called = λ some. some_of_both (length first) (length second) (length whole) before.calls now.calls later.calls
          long some one.called other.called one.more other.more;
      few = few_of_both before.calls before.short_calls now.calls now.short_calls later.calls later.short_calls count
          more one.few other.few;
    }

few_of_more : (calls shorts new_calls new_shorts count more : ℕ) → new_calls + shorts ≤ calls + (count + new_shorts) →
    count ≤ more → new_calls + shorts ≤ calls + (more + new_shorts)
few_of_more calls shorts new_calls new_shorts count more few within = omega arith

-- more texts allow what fewer do
pub counted_of_more : (before now : WriterState) (text : List ℕ) (count more : ℕ) → HasCounted before now text count →
    count ≤ more → HasCounted before now text more
counted_of_more before now text count more counted within = record {
  more = counted.more;
  shorts = counted.shorts;
  called = counted.called;
  few = few_of_more before.calls before.short_calls now.calls now.short_calls count more counted.few within;
}

-- texts taken one after the other
pub taken_twice :
    (before now later : WriterState) (first second whole : List ℕ) (count more : ℕ) → HasTaken before now first count →
    HasTaken now later second more → whole ≡ first ++ second → HasTaken before later whole (count + more)
taken_twice before now later first second whole count more (grows, calls, none, counted)
    (grows_more, more_calls, no_more, counted_more) same =
    let long : length whole ≡ length first + length second = ap length same ∙ length-append first second in (
      grows_twice before.contents now.contents later.contents first second whole grows grows_more same,
      omega (arith, calls, more_calls, long),
      no_more ∙ none,
      counted_twice before now later first second whole count more counted counted_more same,
    )

-- a text taken, and then some of another
pub taken_and_failed :
    (before now later : WriterState) (first second whole : List ℕ) (count more : ℕ) → HasTaken before now first count →
    HasTakenAndFailed now later second more → whole ≡ first ++ second →
    HasTakenAndFailed before later whole (count + more)
taken_and_failed before now later first second whole count more (grows, calls, none, counted)
    (grows_more, more_calls, no_more, counted_more) same =
    let long : length whole ≡ length first + length second = ap length same ∙ length-append first second in (
      grows_twice before.contents now.contents later.contents first second whole grows grows_more same,
      omega (arith, calls, more_calls, long),
      no_more ∙ none,
      counted_twice before now later first second whole count more counted counted_more same,
    )

-- nothing more was taken
pub taken_no_more :
    (before now later : WriterState) (text : List ℕ) (count : ℕ) → HasTaken before now text count →
    later.contents ≡ now.contents → later.calls ≡ now.calls → later.empty_calls ≡ now.empty_calls →
    later.short_calls ≡ now.short_calls → HasTaken before later text count
taken_no_more before now later text count (grows, calls, none, counted) same same_calls no_more same_shorts = (
  same ∙ grows,
  omega (arith, calls, same_calls),
  no_more ∙ none,
  record {
    more = rw same_calls counted.more;
    shorts = rw same_shorts counted.shorts;
    called = λ some. rw same_calls (counted.called some);
    few = rw (same_calls, same_shorts) counted.few;
  },
)

-- how many keys bytes bring with one more byte that brings a key, and with one that brings none
pub one_key_more : (read : List ℕ) (byte : ℕ) (kept : Held) (key : Key) → keys.bytes_of kept ≡ keys.held read →
    keys.key_behind kept byte ≡ Some key → length (keys_of (read ++ byte ∷ [])) ≡ length (keys_of read) + 1
one_key_more read byte kept key held brings =
    ap length (sym (read_byte_by_byte read byte kept held).0
    ∙ ap (λ (k : Option Key). keys_of read ++ option_to_list k) brings)
    ∙ length-append (keys_of read) (key ∷ [])

pub no_key_more : (read : List ℕ) (byte : ℕ) (kept : Held) → keys.bytes_of kept ≡ keys.held read →
    keys.key_behind kept byte ≡ None → length (keys_of (read ++ byte ∷ [])) ≡ length (keys_of read)
no_key_more read byte kept held none =
    ap length (sym (read_byte_by_byte read byte kept held).0
    ∙ ap (λ (k : Option Key). keys_of read ++ option_to_list k) none
    ∙ append-nil (keys_of read))

-- what is cut off stays so behind a text
pub cut_off_behind : (text first second whole : List ℕ) → IsCutOff first second → whole ≡ text ++ second →
    IsCutOff (text ++ first) whole
cut_off_behind text first second whole cut same = record {
  rest = cut.rest;
  some = cut.some;
  is = same ∙ ap (λ behind. text ++ behind) cut.is ∙ sym (append_assoc text first cut.rest);
}

-- and with more behind it
pub cut_off_before : (first second whole : List ℕ) → IsCutOff first second → IsFront second whole → IsCutOff first whole
cut_off_before first second whole cut (rest, same) =
    let long : length (cut.rest ++ rest) ≡ length cut.rest + length rest = length-append cut.rest rest in
    let some : 1 ≤ length cut.rest = cut.some in
    record {
      rest = cut.rest ++ rest;
      some = omega arith;
      is = same ∙ ap (λ front. front ++ rest) cut.is ∙ append_assoc first cut.rest rest;
    }

-- a byte whose key isn't ignored
pub heeds_key :
    (script : Script) (session : Session) (kept : Held) (read : List ℕ) (byte : ℕ) (key : Key) →
    keys.key_behind kept byte ≡ Some key → keys.bytes_of kept ≡ keys.held read → session ≡ session_of script read →
    is_ignored script.options session key ≡ false → HeedsNext script read (read ++ byte ∷ [])
heeds_key script session kept read byte key brings held same heeded =
    let all : keys_of (read ++ byte ∷ []) ≡ keys_of read ++ key ∷ [] =
    sym (read_byte_by_byte read byte kept held).0
    ∙ ap (λ (k : Option Key). keys_of read ++ option_to_list k) brings in
    let next : drop (length (keys_of read)) (keys_of (read ++ byte ∷ [])) ≡ key ∷ [] =
    ap (drop (length (keys_of read))) all ∙ drop-append_seam (keys_of read) (key ∷ []) in
    subst (HeedsFirst script (session_of script read)) (sym next)
    (subst (λ (s : Session). is_ignored script.options s key ≡ false) same heeded)

-- with more keys behind them the next one is the same
heeds_more :
    (script : Script) (session : Session) (count : ℕ) (first second : List Key) → count < length first →
    HeedsFirst script session (drop count first) → HeedsFirst script session (drop count (first ++ second))
heeds_more script session count [] second less heeded = absurd (omega (arith, less))
heeds_more script session zero (key ∷ first) second less heeded = heeded
heeds_more script session (suc count) (key ∷ first) second less heeded =
    heeds_more script session count first second (omega (arith, less)) heeded

-- so with more bytes behind them
pub heeds_on :
    (script : Script) (first second rest : List ℕ) → length (keys_of first) < length (keys_of second) →
    HeedsNext script first second → HeedsNext script first (second ++ rest)
heeds_on script first second rest less heeded =
    subst (λ (l : List Key). HeedsFirst script (session_of script first) (drop (length (keys_of first)) l))
    (sym (keys_of-append second rest))
    (heeds_more script (session_of script first) (length (keys_of first)) (keys_of second)
    (keys_of (keys.held second ++ rest)) less heeded)

-- what is written for bytes is a front of what is written for more
pub front_of_piece : (script : Script) (first second : List ℕ) →
    IsFront (whole_front script first) (whole_front script (first ++ second))
front_of_piece script first second = (
  texts_of_keys script (session_of script first) (keys_of (keys.held first ++ second)),
  (front_in_pieces script first second).0,
)

pub front_twice : (a b c : List ℕ) → IsFront a b → IsFront b c → IsFront a c
front_twice a b c (x, e) (y, d) = (x ++ y, d ∙ ap (λ z. z ++ y) e ∙ append_assoc a x y)

-- the bytes before one, and that one
pub bytes_to : (bytes : List ℕ) (i : ℕ) → i < length bytes → take (i + 1) bytes ≡ take i bytes ++ get_or bytes i 0 ∷ []
bytes_to bytes i within = grind (arith, common_steps)

-- behind the bytes of a piece up to one, and that one
pub piece_to : (read piece : List ℕ) (i : ℕ) → i < length piece → (read ++ take i piece) ++ get_or piece i 0 ∷ []
    ≡ read ++ take (i + 1) piece
piece_to read piece i within = append_assoc read (take i piece) (get_or piece i 0 ∷ [])
    ∙ ap (λ bytes. read ++ bytes) (sym (bytes_to piece i within))

-- bytes bring no more keys than they do with others behind them
fewer_keys : (first second : List ℕ) → length (keys_of first) ≤ length (keys_of (first ++ second))
fewer_keys first second =
    let parts : length (keys_of (first ++ second)) ≡ length (keys_of first) + length
    (keys_of (keys.held first ++ second)) =
    ap length (keys_of-append first second) ∙ length-append (keys_of first) (keys_of (keys.held first ++ second)) in
    omega (arith, parts)

-- the bytes of a piece up to one bring no more keys than the piece does
pub keys_to : (read piece : List ℕ) (i : ℕ) → i < length piece →
    length (keys_of ((read ++ take i piece) ++ get_or piece i 0 ∷ [])) ≤ length (keys_of (read ++ piece))
keys_to read piece i within =
    let upto : length (keys_of ((read ++ take i piece) ++ get_or piece i 0 ∷ [])) ≡ length
    (keys_of (read ++ take (i + 1) piece)) =
    ap (λ bytes. length (keys_of bytes)) (piece_to read piece i within) in
    let all = fewer_keys (read ++ take (i + 1) piece) (drop (i + 1) piece) in
    let whole : length (keys_of ((read ++ take (i + 1) piece) ++ drop (i + 1) piece)) ≡ length
    (keys_of (read ++ piece)) =
    ap (λ bytes. length (keys_of bytes)) (append_assoc read (take (i + 1) piece) (drop (i + 1) piece)
    ∙ ap (λ bytes. read ++ bytes) (take-append-drop (i + 1) piece)) in
    omega (arith, upto, all, whole)

-- a writer that failed has taken some of the text, but not all
pub written_front :
    (old new : WriterState) (bytes text : List ℕ) (count : ℕ) → bytes ≡ text → count < length bytes →
    Grows old.contents new.contents (take count bytes) → new.calls ≤ old.calls + (count + 1) →
    new.empty_calls ≡ old.empty_calls → old.calls ≤ new.calls → old.short_calls ≤ new.short_calls →
    (1 ≤ count → old.calls < new.calls) → new.calls + old.short_calls ≤ old.calls + (1 + new.short_calls) →
    IsCutOffAt old new text
written_front old new bytes text count same within grows calls none more shorts called few =
    let long : length (take count bytes) ≡ count = grind (arith, common_steps) in
    let short : length (drop count bytes) ≡ length bytes - count = grind (arith, common_steps) in
    record {
      taken = take count bytes;
      cut_off = record {
        rest = drop count bytes;
        some = omega arith;
        is = sym same ∙ sym (take-append-drop count bytes);
      };
      wrote = (
        grows,
        omega (arith, long, calls),
        none,
        record { more = more; shorts = shorts; called = λ some. called (rw (← long) some); few = few },
      );
    }

-- a writer that took a text whole
pub written_whole :
    (old new : WriterState) (text : List ℕ) → Grows old.contents new.contents text →
    new.calls ≤ old.calls + length text → new.empty_calls ≡ old.empty_calls → old.calls ≤ new.calls →
    old.short_calls ≤ new.short_calls → (0 < length text → old.calls < new.calls) →
    new.calls + old.short_calls ≤ old.calls + (1 + new.short_calls) → HasTaken old new text 1
written_whole old new text grows calls none more shorts called few =
    (grows, calls, none, record { more = more; shorts = shorts; called = called; few = few })

-- what follows from two facts of a result that is Ok
pub if_ok : {A E : Type 0} {P Q R : Type 0} (result : Result A E) → (P → Q → R) → OnOk result P → OnOk result Q →
    OnOk result R
if_ok (Ok value) follows p q = follows p q
if_ok (Err error) follows p q = tt

-- what follows from a fact of an error
pub if_err :
    {A E : Type 0} {P Q : E → Type 0} (result : Result A E) → ((error : E) → result ≡ Err error → P error → Q error) →
    IfErr result P → IfErr result Q
if_err (Ok value) follows p = tt
if_err (Err error) follows p = follows error refl p
