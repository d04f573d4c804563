-- Games that go on from where a session begins, or from what is kept of its first keys.
use Rattle.std.proofs.Common.{◌≡◌, ◌≤◌, ℕ, Bool, true, List, [], ◌++◌, Option, Some, None, length, drop, take, ap}
use Rattle.std.proofs.Common.{subst, sym}
use Rattle.std.specs.Prelude.{IfSome}
use Rattle.ps_model.specs.declared.held.Held.{Held}
use Rattle.ps_model.specs.declared.held.Held.TheVariants.{Nothing}
use Rattle.ps_model.specs.board.Turns.{Script, script_at}
use Rattle.ps_model.specs.game.Games.{Game}
use Rattle.ps_model.specs.game.Outputs.{opening_step}
use Rattle.ps_model.specs.names.Names.{Names}
use Rattle.ps_model.specs.session.HeldKeys as keys
use Rattle.ps_model.specs.session.Sessions.{Session}
use Rattle.ps_run.specs.SizedPlays.{rested_in}
use Rattle.lizhakoven.specs.declared.played_keys.PlayedKeys.{PlayedKeys}
use Rattle.lizhakoven.specs.PlayedKeys.{AreLedTo, AreLedToIf, ArePlayed, CanPlay, HasPlayed, IsOfKeysIf}
use Rattle.lizhakoven.proofs.PlayedOn.{led_by_more, of_more, played_all}

-- a session that has played some bytes plays others
abbrev pub PlaysOn : Bool → Script → Session → Session → Held → Held → List ℕ → Type 0
PlaysOn is_whole script session next kept left bytes = (read : List ℕ) → CanPlay is_whole bytes →
    HasPlayed is_whole script session kept read → HasPlayed is_whole script next left (read ++ bytes)

-- from where it begins it plays all of them
pub played_from_start : (script own : Script) (session next : Session) (kept left : Held) (whole : Bool)
    (bytes : List ℕ) → own ≡ script → session ≡ (opening_step own).session → kept ≡ Nothing → whole ≡ true →
    PlaysOn true own session next kept left bytes → HasPlayed whole script next left bytes
played_from_start script own session next kept left whole bytes same opens none is plays =
    let begun : HasPlayed true own session kept [] =
    record { session_is = opens; held = ap keys.bytes_of none } in
    subst (λ (w : Bool). HasPlayed w script next left bytes) (sym is)
    (subst (λ (s : Script). HasPlayed true s next left bytes) same (plays [] tt begun))

-- from what is kept it plays the others
pub played_others : (script own : Script) (session next : Session) (left : Held) (whole : Bool)
    (bytes more : List ℕ) (before : PlayedKeys) → own ≡ script → session ≡ (rested_in before.rested).session →
    more ≡ drop before.count bytes → whole ≡ before.is_whole →
    PlaysOn before.is_whole own session next before.keys left more →
    CanPlay before.is_whole (drop before.count bytes) → AreLedTo script bytes before →
    HasPlayed whole script next left bytes
played_others script own session next left whole bytes more before same there rest is plays can led =
    let first : List ℕ = take before.count bytes in
    let was : HasPlayed before.is_whole own session before.keys first =
    subst (λ (s : Script). HasPlayed before.is_whole s session before.keys first) (sym same)
    (subst (λ (s : Session). HasPlayed before.is_whole script s before.keys first) (sym there) led) in
    let may : CanPlay before.is_whole more = subst (λ (b : List ℕ). CanPlay before.is_whole b) (sym rest) can in
    let went : HasPlayed before.is_whole script next left (first ++ more) =
    subst (λ (s : Script). HasPlayed before.is_whole s next left (first ++ more)) same (plays first may was) in
    subst (λ (w : Bool). HasPlayed w script next left bytes) (sym is)
    (played_all before.is_whole script next left before.count bytes
    (subst (λ (b : List ℕ). HasPlayed before.is_whole script next left (first ++ b)) rest went))

-- what is kept, if something is, is of their game
pub named_if : (names : Names) (bytes : List ℕ) (played : Option PlayedKeys) → IsOfKeysIf names bytes played →
    IfSome played (λ own. (rested_in own.rested).names ≡ names)
named_if names bytes None is = tt
named_if names bytes (Some played) is = is.named

-- and of as many bytes at most
pub within_if : (names : Names) (bytes : List ℕ) (played : Option PlayedKeys) → IsOfKeysIf names bytes played →
    IfSome played (λ before. before.count ≤ length bytes)
within_if names bytes None is = tt
within_if names bytes (Some played) is = is.within

-- between the calls of a session --------------------------------------------------------------------------------------

-- what is kept of the first of these keys, in a game that was begun at an entry
abbrev pub AreKept : Game → ℕ → List ℕ → Option PlayedKeys → Type 0
AreKept read entry bytes played = IsOfKeysIf read.names bytes played × ArePlayed read entry bytes played

-- it is so with more keys, too
pub kept_with_more : (read : Game) (entry : ℕ) (bytes more : List ℕ) (played : Option PlayedKeys) →
    AreKept read entry bytes played → AreKept read entry (bytes ++ more) played
kept_with_more read entry bytes more played kept = (
  of_more read.names bytes more played kept.0,
  λ text is. led_by_more read.names (script_at read entry) bytes more played kept.0 (kept.1 text is),
)

-- and of what has come in its place, or was copied of it
pub kept_after : (read : Game) (entry : ℕ) (bytes : List ℕ) (before after : Option PlayedKeys) →
    ((names : Names) (bytes : List ℕ) → IsOfKeysIf names bytes before → IsOfKeysIf names bytes after) →
    ((script : Script) (bytes : List ℕ) → AreLedToIf script bytes before → AreLedToIf script bytes after) →
    AreKept read entry bytes before → AreKept read entry bytes after
kept_after read entry bytes before after named led kept = (
  named read.names bytes kept.0,
  λ text is. led (script_at read entry) bytes (kept.1 text is),
)
