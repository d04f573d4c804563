-- Keys that are played where the first ones were left.
use Rattle.std.proofs.Common.{◌≡◌, ◌≢◌, ◌∙◌, ℕ, ◌+◌, ◌<◌, ◌≤◌, Bool, true, false, List, [], ◌∷◌, ◌++◌, length, take, drop}
use Rattle.std.proofs.Common.{get_or, sym, ap, subst, refl, Some, None, Option, arith, Result, Ok, Err}
use Rattle.std.proofs.Common.{if◌then◌else◌, le_refl}
use Rattle.std.specs.Prelude.{◌==◌, IfOk, nat_eq}
use Rattle.std.proofs.lemmas.Bool.Decides.{nat_tests}
use Rattle.std.proofs.lemmas.List.{length-append, take-append-drop, take-append-le, take_all}
use Rattle.ps_model.specs.declared.held.Held.{Held}
use Rattle.ps_model.specs.declared.held.Held.TheVariants.{Nothing, Escape, Bracket}
use Rattle.ps_model.specs.declared.play.Key.{Key}
use Rattle.ps_model.specs.declared.play.Input.TheVariants.{Up, Down, Left, Right, Action}
use Rattle.ps_model.specs.declared.play.Key.TheVariants.{Move, Undo, Restart, Quit}
use Rattle.ps_model.specs.board.Turns.{Script}
use Rattle.ps_model.specs.names.Names.{Names}
use Rattle.ps_model.specs.session.HeldKeys as keys
use Rattle.ps_model.specs.session.Keys.{key_of, arrow_of}
use Rattle.ps_model.specs.session.KeySteps.{key_step}
use Rattle.ps_model.specs.session.LevelLines.{Entry}
use Rattle.ps_model.specs.session.Sessions.{Session, Playing, Waiting, AtMessage, Ended}
use Rattle.ps_laws.specs.Fronts.{session_of}
use Rattle.ps_laws.proofs.keys.KeysInPieces.{read_byte_by_byte}
use Rattle.ps_laws.proofs.sessions.SessionSteps.{keys_write, silent_bytes}
use Rattle.ps_run.proofs.Playing.{piece_to}
use Rattle.ps_run.specs.SizedPlays.{rested_in}
use Rattle.ps_session.specs.RestedSessions.{without_history}
use Rattle.lizhakoven.specs.declared.played_keys.PlayedKeys.{PlayedKeys}
use Rattle.lizhakoven.specs.declared.seeing.Seen.{Seen}
use Rattle.lizhakoven.specs.Places.{IsSeen}
use Rattle.lizhakoven.specs.PlayedKeys.{AreLedTo, AreLedToIf, CanPlay, CanPlayByte, HasPlayed, HasReadBarely}
use Rattle.lizhakoven.specs.PlayedKeys.{IsOfKeys, IsOfKeysIf}
use Rattle.lizhakoven.proofs.HistoriesLeftOut.{keys_go_alike}
use Rattle.lizhakoven.proofs.KeyedBytes.{key_read, silent_read}

-- what a session has played -------------------------------------------------------------------------------------------

-- where all boards are there, none may be lacking
pub barely : (is_whole : Bool) (script : Script) (session : Session) (kept : Held) (read : List ℕ) →
    HasPlayed is_whole script session kept read → HasReadBarely script session kept read
barely true script session kept read had =
    record { session_is = ap without_history had.session_is; held = had.held }
barely false script session kept read had = had

twice : (session : Session) → without_history (without_history session) ≡ without_history session
twice (Playing play) = refl
twice (Waiting play pending) = refl
twice (AtMessage entry) = refl
twice (Ended ending) = refl

-- a session that lacks them has played what one that has them has
pub left_out : (is_whole : Bool) (script : Script) (session bare : Session) (kept : Held) (read : List ℕ) →
    bare ≡ without_history session → HasPlayed is_whole script session kept read →
    HasPlayed false script bare kept read
left_out is_whole script session bare kept read is had =
    let before : HasReadBarely script session kept read = barely is_whole script session kept read had in
    record {
      session_is = ap without_history is ∙ twice session ∙ before.session_is;
      held = before.held;
    }

-- a script with the same sessions has them played, too
pub played_alike : (is_whole : Bool) (script other : Script) (session : Session) (kept : Held) (read : List ℕ) →
    session_of script read ≡ session_of other read → HasPlayed is_whole script session kept read →
    HasPlayed is_whole other session kept read
played_alike true script other session kept read same had =
    record { session_is = had.session_is ∙ same; held = had.held }
played_alike false script other session kept read same had =
    record { session_is = had.session_is ∙ ap without_history same; held = had.held }

-- an equal session, with an equal rest of an arrow, has played the same
pub played_equally : (is_whole : Bool) (script : Script) (session other : Session) (kept left : Held) (read : List ℕ) →
    other ≡ session → left ≡ kept → HasPlayed is_whole script session kept read →
    HasPlayed is_whole script other left read
played_equally is_whole script session other kept left read same held had = rw (same, held) had

-- what is seen --------------------------------------------------------------------------------------------------------

-- what is seen of a session doesn't depend on what undo goes back to
seen_bare : (entries : List Entry) (session : Session) (before after : List ℕ) (seen : Seen) →
    IsSeen entries session before after seen → IsSeen entries (without_history session) before after seen
seen_bare entries (Playing play) before after seen is = is
seen_bare entries (Waiting play pending) before after seen is = is
seen_bare entries (AtMessage entry) before after seen is = is
seen_bare entries (Ended ending) before after seen is = is

seen_whole : (entries : List Entry) (session : Session) (before after : List ℕ) (seen : Seen) →
    IsSeen entries (without_history session) before after seen → IsSeen entries session before after seen
seen_whole entries (Playing play) before after seen is = is
seen_whole entries (Waiting play pending) before after seen is = is
seen_whole entries (AtMessage entry) before after seen is = is
seen_whole entries (Ended ending) before after seen is = is

-- what is seen of a session that has played keys is where they lead
pub seen_played :
    {E : Type 0} (entries : List Entry) (is_whole : Bool) (script : Script) (session : Session) (kept : Held)
    (read before after : List ℕ) (answer : Result Seen E) → HasPlayed is_whole script session kept read →
    IfOk answer (λ seen. IsSeen entries session before after seen) →
    IfOk answer (λ seen. IsSeen entries (session_of script read) before after seen)
seen_played entries is_whole script session kept read before after (Err error) had is = tt
seen_played entries is_whole script session kept read before after (Ok seen) had is =
    seen_whole entries (session_of script read) before after seen
    (subst (λ (s : Session). IsSeen entries s before after seen)
    (barely is_whole script session kept read had).session_is (seen_bare entries session before after seen is))

-- bytes ---------------------------------------------------------------------------------------------------------------

-- which test of a byte finds the key that takes back
undo_by : (up down left right action undo restart quit : Bool) →
    (if up then Some (Move Up)
    else (if down then Some (Move Down)
    else (if left then Some (Move Left)
    else (if right then Some (Move Right)
    else (if action then Some (Move Action)
    else (if undo then Some Undo
    else (if restart then Some Restart
    else (if quit then Some Quit
    else None)))))))) ≡ Some Undo → undo ≡ true
undo_by true down left right action undo restart quit is = cc
undo_by false true left right action undo restart quit is = cc
undo_by false false true right action undo restart quit is = cc
undo_by false false false true action undo restart quit is = cc
undo_by false false false false true undo restart quit is = cc
undo_by false false false false false true restart quit is = refl
undo_by false false false false false false true quit is = cc
undo_by false false false false false false false true is = cc
undo_by false false false false false false false false is = cc

is_undo : (byte : ℕ) → (byte == 122) ≡ true → byte ≡ 122
is_undo byte is = grind (arith, nat_tests)

-- only `z` takes back
byte_of_undo : (byte : ℕ) → key_of byte ≡ Some Undo → byte ≡ 122
byte_of_undo byte is =
    is_undo byte (undo_by (byte == 119) (byte == 115) (byte == 97) (byte == 100) (byte == 120) (byte == 122)
    (byte == 114) (byte == 113) is)

-- no arrow does
undo_behind : (up down left right : Bool) (byte : ℕ) → keys.key_unless_arrow
    (if up then Some (Move Up)
    else (if down then Some (Move Down)
    else (if left then Some (Move Left)
    else (if right then Some (Move Right)
    else None)))) byte ≡ Some Undo → key_of byte ≡ Some Undo
undo_behind true down left right byte is = absurd (cc)
undo_behind false true left right byte is = absurd (cc)
undo_behind false false true right byte is = absurd (cc)
undo_behind false false false true byte is = absurd (cc)
undo_behind false false false false byte is = is

byte_of_arrow : (byte : ℕ) → keys.key_unless_arrow (arrow_of byte) byte ≡ Some Undo → byte ≡ 122
byte_of_arrow byte is =
    byte_of_undo byte (undo_behind (byte == 65) (byte == 66) (byte == 68) (byte == 67) byte is)

-- a byte that isn't `z` doesn't take back
takes_none : (kept : Held) (byte : ℕ) (key : Key) → byte ≢ 122 → keys.key_behind kept byte ≡ Some key → key ≢ Undo
takes_none Nothing byte key other brings is = other (byte_of_undo byte (brings ∙ ap (λ (k : Key). Some k) is))
takes_none Escape byte key other brings is = other (byte_of_undo byte (brings ∙ ap (λ (k : Key). Some k) is))
takes_none Bracket byte key other brings is = other (byte_of_arrow byte (brings ∙ ap (λ (k : Key). Some k) is))

-- a byte that brings no key
pub silent_played :
    (is_whole : Bool) (script : Script) (session : Session) (kept : Held) (read : List ℕ) (byte : ℕ) →
    keys.key_behind kept byte ≡ None → HasPlayed is_whole script session kept read →
    HasPlayed is_whole script session (keys.held_behind kept byte) (read ++ byte ∷ [])
silent_played true script session kept read byte none had = silent_read script session kept read byte none had
silent_played false script session kept read byte none had = record {
  session_is = had.session_is ∙ ap without_history (sym (silent_bytes script read byte kept had.held none).1);
  held = (read_byte_by_byte read byte kept had.held).1;
}

-- a byte that brings a key
pub key_played :
    (is_whole : Bool) (script : Script) (session next : Session) (kept : Held) (read : List ℕ) (byte : ℕ) (key : Key) →
    keys.key_behind kept byte ≡ Some key → next ≡ (key_step script session key).session → CanPlayByte is_whole byte →
    HasPlayed is_whole script session kept read →
    HasPlayed is_whole script next (keys.held_behind kept byte) (read ++ byte ∷ [])
key_played true script session next kept read byte key brings steps can had =
    key_read script session next kept read byte key brings steps had
key_played false script session next kept read byte key brings steps can had = record {
  session_is = ap without_history steps
      ∙ keys_go_alike script session (session_of script read) key (takes_none kept byte key can brings) had.session_is
      ∙ ap without_history (sym (keys_write script read byte kept key had.held brings).1);
  held = (read_byte_by_byte read byte kept had.held).1;
}

-- a byte of bytes that can be played can be
pub can_byte : (is_whole : Bool) (bytes : List ℕ) (i : ℕ) → i < length bytes → CanPlay is_whole bytes →
    CanPlayByte is_whole (get_or bytes i 0)
can_byte true bytes i within can = tt
can_byte false bytes i within can = can i within

-- one more byte of several
pub played_more :
    (is_whole : Bool) (script own : Script) (session next : Session) (kept left : Held) (read bytes : List ℕ) (i : ℕ) →
    i < length bytes → own ≡ script → CanPlay is_whole bytes →
    HasPlayed is_whole script session kept (read ++ take i bytes) →
    ((some : Bool) (before : List ℕ) → CanPlayByte some (get_or bytes i 0) → HasPlayed some own session kept before →
    HasPlayed some own next left (before ++ get_or bytes i 0 ∷ [])) →
    HasPlayed is_whole script next left (read ++ take (i + 1) bytes)
played_more is_whole script own session next kept left read bytes i within same can had goes =
    let there : HasPlayed is_whole script next left ((read ++ take i bytes) ++ get_or bytes i 0 ∷ []) =
    subst (λ (s : Script). HasPlayed is_whole s next left ((read ++ take i bytes) ++ get_or bytes i 0 ∷ [])) same
    (goes is_whole (read ++ take i bytes) (can_byte is_whole bytes i within can)
    (subst (λ (s : Script). HasPlayed is_whole s session kept (read ++ take i bytes)) (sym same) had)) in
    subst (λ (all : List ℕ). HasPlayed is_whole script next left all)
    (piece_to read bytes i within) there

-- what is kept --------------------------------------------------------------------------------------------------------

-- with more keys what is kept is still of the first of them
pub of_more : (names : Names) (bytes more : List ℕ) (played : Option PlayedKeys) → IsOfKeysIf names bytes played →
    IsOfKeysIf names (bytes ++ more) played
of_more names bytes more None is = tt
of_more names bytes more (Some played) is = record {
  named = is.named;
  within = let long : length (bytes ++ more) ≡ length bytes + length more = length-append bytes more in
      let short : played.count ≤ length bytes = is.within in omega (arith, long, short);
}

pub led_by_more : (names : Names) (script : Script) (bytes more : List ℕ) (played : Option PlayedKeys) →
    IsOfKeysIf names bytes played → AreLedToIf script bytes played → AreLedToIf script (bytes ++ more) played
led_by_more names script bytes more None of_keys led = tt
led_by_more names script bytes more (Some played) of_keys led =
    subst (λ (read : List ℕ). HasPlayed played.is_whole script (rested_in played.rested).session played.keys read)
    (sym (take-append-le played.count bytes more of_keys.within)) led

-- copies and rests ----------------------------------------------------------------------------------------------------

-- what is kept of keys, of which all parts are the same
pub led_equally : (script : Script) (bytes : List ℕ) (one other : PlayedKeys) →
    (rested_in other.rested).session ≡ (rested_in one.rested).session → other.keys ≡ one.keys →
    other.count ≡ one.count → other.is_whole ≡ one.is_whole → AreLedTo script bytes one → AreLedTo script bytes other
led_equally script bytes one other session held count whole led = rw (session, held, count, whole, AreLedTo) led

pub of_equally : (names : Names) (bytes : List ℕ) (one other : PlayedKeys) →
    (rested_in other.rested).names ≡ (rested_in one.rested).names → other.count ≡ one.count →
    IsOfKeys names bytes one → IsOfKeys names bytes other
of_equally names bytes one other named count is =
    record { named = named ∙ is.named; within = rw count is.within }

-- a copy without what undo goes back to
pub led_bare : (script : Script) (bytes : List ℕ) (one other : PlayedKeys) →
    (rested_in other.rested).session ≡ without_history (rested_in one.rested).session → other.keys ≡ one.keys →
    other.count ≡ one.count → other.is_whole ≡ false → AreLedTo script bytes one → AreLedTo script bytes other
led_bare script bytes one other session held count whole led =
    rw (held, count, whole, AreLedTo) (left_out one.is_whole script (rested_in one.rested).session
    (rested_in other.rested).session one.keys (take one.count bytes) session led)

-- what is kept of all of these bytes
pub led_by_all : (is_whole : Bool) (script : Script) (session : Session) (kept : Held) (bytes : List ℕ)
    (played : PlayedKeys) → (rested_in played.rested).session ≡ session → played.keys ≡ kept →
    played.count ≡ length bytes → played.is_whole ≡ is_whole → HasPlayed is_whole script session kept bytes →
    AreLedTo script bytes played
led_by_all is_whole script session kept bytes played same held count whole had =
    rw (same, held, count, whole, take_all (length bytes) bytes (le_refl (length bytes)), AreLedTo) had

-- a script with the same sessions has led there, too
pub led_alike : (script other : Script) (bytes : List ℕ) (played : Option PlayedKeys) →
    ((read : List ℕ) → session_of script read ≡ session_of other read) → AreLedToIf script bytes played →
    AreLedToIf other bytes played
led_alike script other bytes None same led = tt
led_alike script other bytes (Some played) same led =
    played_alike played.is_whole script other (rested_in played.rested).session played.keys (take played.count bytes)
    (same (take played.count bytes)) led

-- all bytes are the first ones and the others
pub played_all : (is_whole : Bool) (script : Script) (session : Session) (kept : Held) (count : ℕ) (bytes : List ℕ) →
    HasPlayed is_whole script session kept (take count bytes ++ drop count bytes) →
    HasPlayed is_whole script session kept bytes
played_all is_whole script session kept count bytes had =
    subst (λ (read : List ℕ). HasPlayed is_whole script session kept read) (take-append-drop count bytes) had

none_at : (bytes : List ℕ) (n i : ℕ) (same : Bool) → nat_eq i n ≡ same →
    ((j : ℕ) → j < n → get_or bytes j 0 ≢ 122) → get_or bytes n 0 ≢ 122 → i < n + 1 → get_or bytes i 0 ≢ 122
none_at bytes n i true is before last within =
    let here : i ≡ n = grind (arith, nat_tests) in rw here last
none_at bytes n i false is before last within =
    let apart : i ≢ n = grind (arith, nat_tests) in before i (omega (arith, apart, within))

-- no byte up to a place takes back
pub none_more : (bytes : List ℕ) (n : ℕ) → ((i : ℕ) → i < n → get_or bytes i 0 ≢ 122) → get_or bytes n 0 ≢ 122 →
    (i : ℕ) → i < n + 1 → get_or bytes i 0 ≢ 122
none_more bytes n before last i within = none_at bytes n i (nat_eq i n) refl before last within
