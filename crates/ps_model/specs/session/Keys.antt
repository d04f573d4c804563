-- The keys of a stream of bytes: letters, and the arrow keys of a terminal, which are three bytes each. All other bytes
-- mean nothing.
use Rattle.std.specs.Prelude.{ℕ, zero, suc, ◌==◌, ◌&&◌, if◌then◌else◌, Option, Some, None, option_to_list, List, []}
use Rattle.std.specs.Prelude.{◌∷◌, ◌++◌}
use Rattle.ps_model.specs.declared.play.Input.TheVariants.{Up, Down, Left, Right, Action}
use Rattle.ps_model.specs.declared.play.Key.{Key}
use Rattle.ps_model.specs.declared.play.Key.TheVariants.{Move, Undo, Restart, Quit}

-- the key of a byte: `w`, `s`, `a` and `d` move, `x` acts, `z` takes back, `r` restarts, `q` quits
abbrev pub key_of : ℕ → Option Key
key_of byte =
    if byte == 119 then Some (Move Up)
    else (if byte == 115 then Some (Move Down)
    else (if byte == 97 then Some (Move Left)
    else (if byte == 100 then Some (Move Right)
    else (if byte == 120 then Some (Move Action)
    else (if byte == 122 then Some Undo
    else (if byte == 114 then Some Restart
    else (if byte == 113 then Some Quit
    else None)))))))

-- the key of the last byte of an arrow: `A`, `B`, `D` and `C` are up, down, left and right
abbrev pub arrow_of : ℕ → Option Key
arrow_of byte =
    if byte == 65 then Some (Move Up)
    else (if byte == 66 then Some (Move Down)
    else (if byte == 68 then Some (Move Left)
    else (if byte == 67 then Some (Move Right)
    else None)))

-- the arrow that the bytes begin with: ESC, `[` and its letter
abbrev pub leading_arrow : List ℕ → Option Key
leading_arrow [] = None
leading_arrow (first ∷ []) = None
leading_arrow (first ∷ second ∷ []) = None
leading_arrow (first ∷ second ∷ third ∷ others) = if first == 27 && second == 91 then arrow_of third else None

-- the keys of the bytes after so many that belong to the key before
abbrev pub keys_behind : ℕ → List ℕ → List Key
keys_behind skipped [] = []
keys_behind (suc skipped) (byte ∷ bytes) = keys_behind skipped bytes
keys_behind zero (byte ∷ bytes) = elim (leading_arrow (byte ∷ bytes)) [
  | Some key ↦ key ∷ keys_behind 2 bytes
  | None ↦ option_to_list (key_of byte) ++ keys_behind 0 bytes
]

-- the keys of a list of bytes
abbrev pub keys_of : List ℕ → List Key
keys_of bytes = keys_behind 0 bytes
