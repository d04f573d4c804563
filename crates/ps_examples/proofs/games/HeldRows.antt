-- What is held of some bytes, and the keys of the others.
use Rattle.std.proofs.Common.{◌≡◌, [], ◌∷◌, ◌++◌, refl}
use Rattle.ps_model.specs.declared.play.Input.TheVariants.{Up, Right}
use Rattle.ps_model.specs.declared.play.Key.TheVariants.{Move}
use Rattle.ps_model.specs.session.Keys.{keys_of}
use Rattle.ps_model.specs.session.HeldKeys.{held, before_held}

-- a whole arrow, or one that a letter broke off, holds nothing
whole : held (27 ∷ 91 ∷ 65 ∷ []) ≡ []
whole = refl

broken : held (27 ∷ 119 ∷ []) ≡ []
broken = refl

-- the last ESC is held, and `[` with it alone
two_escapes : held (27 ∷ 27 ∷ []) ≡ 27 ∷ []
two_escapes = refl

begun_anew : held (27 ∷ 91 ∷ 27 ∷ []) ≡ 27 ∷ []
begun_anew = refl

behind_a_whole_one : held (27 ∷ 91 ∷ 65 ∷ 27 ∷ 91 ∷ []) ≡ 27 ∷ 91 ∷ []
behind_a_whole_one = refl

bracket_alone : held (91 ∷ []) ≡ []
bracket_alone = refl

-- `wESC[` has the key of `w`, and with `C` after it an arrow too
first_piece : keys_of (before_held (119 ∷ 27 ∷ 91 ∷ [])) ≡ Move Up ∷ []
first_piece = refl

second_piece : keys_of (held (119 ∷ 27 ∷ 91 ∷ []) ++ 67 ∷ []) ≡ Move Right ∷ []
second_piece = refl
