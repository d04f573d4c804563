-- Scripts with the same runs come to the same sessions by keys.
use Rattle.std.proofs.Common.{◌≡◌, ◌∙◌, ℕ, zero, ◌==◌, ◌&&◌, Bool, false, List, [], ◌∷◌, ◌++◌, Option, None, Some, map}
use Rattle.std.proofs.Common.{if◌then◌else◌, refl, sym, ap}
use Rattle.std.specs.Prelude.{option_to_list}
use Rattle.ps_model.specs.declared.play.Input.TheVariants.{Up, Down, Left, Right, Action}
use Rattle.ps_model.specs.declared.play.Key.{Key}
use Rattle.ps_model.specs.declared.play.Key.TheVariants.{Move, Undo, Restart, Quit}
use Rattle.ps_model.specs.board.Turns.{Script}
use Rattle.ps_model.specs.game.Outputs.{opening_step}
use Rattle.ps_model.specs.session.Keys.{arrow_of, key_of, keys_behind, keys_of, leading_arrow}
use Rattle.ps_model.specs.session.Sessions.{Session}
use Rattle.ps_laws.specs.AlikeScripts.{SameRuns}
use Rattle.ps_laws.specs.Fronts.{session_after}

-- the byte of a key
abbrev byte_of : Key → ℕ
byte_of (Move Up) = 119
byte_of (Move Down) = 115
byte_of (Move Left) = 97
byte_of (Move Right) = 100
byte_of (Move Action) = 120
byte_of Undo = 122
byte_of Restart = 114
byte_of Quit = 113

key_is : (key : Key) → key_of (byte_of key) ≡ Some key
key_is (Move Up) = refl
key_is (Move Down) = refl
key_is (Move Left) = refl
key_is (Move Right) = refl
key_is (Move Action) = refl
key_is Undo = refl
key_is Restart = refl
key_is Quit = refl

no_escape : (key : Key) → (byte_of key == 27) ≡ false
no_escape (Move Up) = refl
no_escape (Move Down) = refl
no_escape (Move Left) = refl
no_escape (Move Right) = refl
no_escape (Move Action) = refl
no_escape Undo = refl
no_escape Restart = refl
no_escape Quit = refl

-- no arrow begins with another byte than ESC
no_arrow : (byte : ℕ) (bytes : List ℕ) → (byte == 27) ≡ false → leading_arrow (byte ∷ bytes) ≡ None
no_arrow byte [] e = refl
no_arrow byte (second ∷ []) e = refl
no_arrow byte (second ∷ third ∷ others) e =
    ap (λ (is_escape : Bool). if is_escape && second == 91 then arrow_of third else None) e

key_first : (byte : ℕ) (bytes : List ℕ) → leading_arrow (byte ∷ bytes) ≡ None →
    keys_behind zero (byte ∷ bytes) ≡ option_to_list (key_of byte) ++ keys_behind 0 bytes
key_first byte bytes e =
    let by : Option Key → List Key = λ found. elim found [
      | Some key ↦ key ∷ keys_behind 2 bytes
      | None ↦ option_to_list (key_of byte) ++ keys_behind 0 bytes
    ] in
    ap by e

-- the keys of the bytes of keys
keys_are : (keys : List Key) → keys_of (map byte_of keys) ≡ keys
keys_are [] = refl
keys_are (key ∷ keys) =
    key_first (byte_of key) (map byte_of keys) (no_arrow (byte_of key) (map byte_of keys) (no_escape key))
    ∙ ap (λ (found : Option Key). option_to_list found ++ keys_behind 0 (map byte_of keys)) (key_is key)
    ∙ ap (λ (others : List Key). key ∷ others) (keys_are keys)

-- the session after keys from where a run begins
abbrev pub played : Script → List Key → Session
played script keys = session_after script (opening_step script).session keys

module _ (a b : Script) (runs : SameRuns a b) where
  pub same_played : (keys : List Key) → played a keys ≡ played b keys
  same_played keys =
      ap (λ (own : List Key). played a own) (sym (keys_are keys))
      ∙ runs.sessions (map byte_of keys)
      ∙ ap (λ (own : List Key). played b own) (keys_are keys)
