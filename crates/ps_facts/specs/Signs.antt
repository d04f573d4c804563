-- The words that give a line its form: brackets and arrow of a rule, and key words. Letters are in either case.
use Rattle.std.specs.Prelude.{ℕ, nat_eq, Bool, ◌||◌, List, [], ◌∷◌, codes}
use Rattle.std.specs.List.{list_any, starts_with}
use Rattle.std.specs.Str.{bytes_eq}
use Rattle.ps_model.specs.text.Lines.{folded}
use Rattle.ps_facts.specs.declared.signs.Sign.{Sign}
use Rattle.ps_facts.specs.declared.signs.Sign.TheVariants.{Opening, Closing, Bar, Arrow, Late, Without, LoopStart}
use Rattle.ps_facts.specs.declared.signs.Sign.TheVariants.{LoopEnd, Message, Rigid, Equals, And, Or, On, RealTime}
use Rattle.ps_facts.specs.declared.signs.Sign.TheVariants.{Ellipsis, Rooms}

-- words that are one
abbrev pub is_same : List ℕ → List ℕ → Bool
is_same word other = bytes_eq (folded word) (folded other)

-- the word that a sign is
abbrev pub sign_text : Sign → List ℕ
sign_text Opening = codes "["
sign_text Closing = codes "]"
sign_text Bar = codes "|"
sign_text Arrow = codes "->"
sign_text Late = codes "late"
sign_text Without = codes "no"
sign_text LoopStart = codes "startloop"
sign_text LoopEnd = codes "endloop"
sign_text Message = codes "message"
sign_text Rigid = codes "rigid"
sign_text Equals = codes "="
sign_text And = codes "and"
sign_text Or = codes "or"
sign_text On = codes "on"
sign_text RealTime = codes "realtime_interval"
sign_text Ellipsis = codes "..."
sign_text Rooms = codes "flickscreen"

-- the word is that sign
abbrev pub is_sign : Sign → List ℕ → Bool
is_sign sign word = is_same word (sign_text sign)

-- that sign is among the words
abbrev pub has_sign : Sign → List (List ℕ) → Bool
has_sign sign words = list_any (is_sign sign) words

-- the word is a bracket or the arrow
abbrev pub is_edge : List ℕ → Bool
is_edge word = is_sign Opening word || (is_sign Closing word || is_sign Arrow word)

-- the word is one of these
abbrev pub is_any : List (List ℕ) → List ℕ → Bool
is_any others word = list_any (is_same word) others

-- the word gives a rule its directions
abbrev pub is_direction : List ℕ → Bool
is_direction word =
    is_any (codes "up" ∷ codes "down" ∷ codes "left" ∷ codes "right" ∷ codes "horizontal" ∷ codes "vertical"
    ∷ codes "orthogonal" ∷ []) word

-- the word says how an object moves
abbrev pub is_movement : List ℕ → Bool
is_movement word =
    is_direction word || is_any (codes ">" ∷ codes "<" ∷ codes "^" ∷ codes "v" ∷ codes "parallel"
    ∷ codes "perpendicular" ∷ codes "action" ∷ codes "stationary" ∷ codes "moving" ∷ []) word

-- a win condition may begin with the word
abbrev pub is_quantifier : List ℕ → Bool
is_quantifier word = is_any (codes "no" ∷ codes "some" ∷ codes "any" ∷ codes "all" ∷ []) word

-- the word asks for chance
abbrev pub is_by_chance : List ℕ → Bool
is_by_chance word = is_any (codes "random" ∷ codes "randomdir" ∷ []) word

-- the word is a command
abbrev pub is_command : List ℕ → Bool
is_command word =
    is_any (codes "cancel" ∷ codes "restart" ∷ codes "again" ∷ codes "checkpoint" ∷ codes "win" ∷ codes "message"
    ∷ codes "sfx0" ∷ codes "sfx1" ∷ codes "sfx2" ∷ codes "sfx3" ∷ codes "sfx4" ∷ codes "sfx5" ∷ codes "sfx6"
    ∷ codes "sfx7" ∷ codes "sfx8" ∷ codes "sfx9" ∷ codes "sfx10" ∷ []) word

-- the word begins with `;` or `#`, as comments of other languages do
abbrev pub begins_comment : List ℕ → Bool
begins_comment word = starts_with nat_eq word (59 ∷ []) || starts_with nat_eq word (35 ∷ [])

-- the word begins with `[`, as a row of a rule does
abbrev pub begins_row : List ℕ → Bool
begins_row word = starts_with nat_eq word (91 ∷ [])
