-- One more byte after what is held: its key, and what is held then.
use Rattle.std.proofs.Common.{◌≡◌, ℕ, ◌==◌, Bool, true, false, Option, Some, None, List, [], ◌∷◌, ◌++◌, refl, sym, ◌∙◌}
use Rattle.std.proofs.Common.{ap, arith}
use Rattle.std.specs.Prelude.{option_to_list}
use Rattle.std.proofs.lemmas.Bool.Decides.{nat_tests}
use Rattle.ps_model.specs.declared.held.Held.{Held}
use Rattle.ps_model.specs.declared.held.Held.TheVariants.{Nothing, Escape, Bracket}
use Rattle.ps_model.specs.declared.play.Key.{Key}
use Rattle.ps_model.specs.session.Keys.{key_of, arrow_of, leading_arrow, keys_behind, keys_of}
use Rattle.ps_model.specs.session.HeldKeys.{is_begun_arrow, held, bytes_of, key_unless_arrow, key_behind}
use Rattle.ps_model.specs.session.HeldKeys.{held_unless_escape, held_behind}
use Rattle.ps_laws.specs.ReadingInPieces.{OneByteMore}

is_number : (byte number : ℕ) → byte == number ≡ true → byte ≡ number
is_number byte number e = grind (arith, nat_tests, e)

-- what begins no arrow ------------------------------------------------------------------------------------------------

no_arrow_without_escape : (byte : ℕ) (others : List ℕ) → byte == 27 ≡ false → leading_arrow (byte ∷ others) ≡ None
no_arrow_without_escape byte [] e = refl
no_arrow_without_escape byte (second ∷ []) e = refl
no_arrow_without_escape byte (second ∷ third ∷ others) e = rw e refl

no_arrow_without_bracket : (byte : ℕ) (others : List ℕ) → byte == 91 ≡ false → leading_arrow (27 ∷ byte ∷ others) ≡ None
no_arrow_without_bracket byte [] e = refl
no_arrow_without_bracket byte (third ∷ others) e = rw e refl

-- a byte that begins no arrow brings its own key
own_key : (byte : ℕ) (others : List ℕ) → leading_arrow (byte ∷ others) ≡ None →
    keys_of (byte ∷ others) ≡ option_to_list (key_of byte) ++ keys_of others
own_key byte others e = rw (e, keys_behind) refl

-- one that begins an arrow brings the arrow
arrow_key : (byte : ℕ) (others : List ℕ) (arrow : Key) → leading_arrow (byte ∷ others) ≡ Some arrow →
    keys_of (byte ∷ others) ≡ arrow ∷ keys_behind 2 others
arrow_key byte others arrow e = rw (e, keys_behind) refl

-- one that isn't ESC brings its own
other_byte : (byte : ℕ) (others : List ℕ) → byte == 27 ≡ false →
    keys_of (byte ∷ others) ≡ option_to_list (key_of byte) ++ keys_of others
other_byte byte others e = own_key byte others (no_arrow_without_escape byte others e)

-- ESC brings nothing where no `[` is after it
escape_alone : (byte : ℕ) (others : List ℕ) → byte == 91 ≡ false →
    keys_of (27 ∷ byte ∷ others) ≡ keys_of (byte ∷ others)
escape_alone byte others e = own_key 27 (byte ∷ others) (no_arrow_without_bracket byte others e)

-- one byte more -------------------------------------------------------------------------------------------------------

not_escape : (kept : Held) (byte : ℕ) → byte == 27 ≡ false →
    held_unless_escape kept (byte == 91) ≡ held_behind kept byte
not_escape kept byte e = rw (e, held_behind) refl

one_escape : (kept : Held) (others : List ℕ) → keys_of (bytes_of kept ++ 27 ∷ others) ≡ keys_of (27 ∷ others)
one_escape Nothing others = refl
one_escape Escape others = escape_alone 27 others refl
one_escape Bracket others = own_key 91 (27 ∷ others) (no_arrow_without_escape 91 (27 ∷ others) refl)

escape_key : (kept : Held) → key_behind kept 27 ≡ None
escape_key Nothing = refl
escape_key Escape = refl
escape_key Bracket = refl

behind_bracket : (byte : ℕ) (others : List ℕ) (arrow : Option Key) → arrow_of byte ≡ arrow → byte == 27 ≡ false →
    keys_of (27 ∷ 91 ∷ byte ∷ others) ≡ option_to_list (key_unless_arrow (arrow_of byte) byte) ++ keys_of others
behind_bracket byte others (Some arrow) a e =
    arrow_key 27 (91 ∷ byte ∷ others) arrow a ∙ ap (λ (found : Option Key).
    option_to_list (key_unless_arrow found byte) ++ keys_of others) (sym a)
behind_bracket byte others None a e =
    own_key 27 (91 ∷ byte ∷ others) a
    ∙ own_key 91 (byte ∷ others) (no_arrow_without_escape 91 (byte ∷ others) refl)
    ∙ other_byte byte others e
    ∙ ap (λ (found : Option Key). option_to_list (key_unless_arrow found byte) ++ keys_of others) (sym a)

behind_escape : (byte : ℕ) (others : List ℕ) (is_bracket : Bool) → byte == 91 ≡ is_bracket → byte == 27 ≡ false →
    keys_of (27 ∷ byte ∷ others) ≡ option_to_list (key_of byte) ++ keys_of
    (bytes_of (held_unless_escape Escape is_bracket) ++ others)
behind_escape byte others true b e = let bracket : byte ≡ 91 = is_number byte 91 b in rw bracket refl
behind_escape byte others false b e = escape_alone byte others b ∙ other_byte byte others e

one_other : (kept : Held) (byte : ℕ) (others : List ℕ) → byte == 27 ≡ false →
    keys_of (bytes_of kept ++ byte ∷ others) ≡ option_to_list (key_behind kept byte) ++ keys_of
    (bytes_of (held_unless_escape kept (byte == 91)) ++ others)
one_other Nothing byte others e = other_byte byte others e
one_other Escape byte others e = behind_escape byte others (byte == 91) refl e
one_other Bracket byte others e = behind_bracket byte others (arrow_of byte) refl e

one_by_test : (kept : Held) (byte : ℕ) (others : List ℕ) (is_escape : Bool) → byte == 27 ≡ is_escape →
    keys_of (bytes_of kept ++ byte ∷ others) ≡ option_to_list (key_behind kept byte) ++ keys_of
    (bytes_of (held_behind kept byte) ++ others)
one_by_test kept byte others true e =
    let escape : byte ≡ 27 = is_number byte 27 e in rw (escape, escape_key kept) (one_escape kept others)
one_by_test kept byte others false e =
    one_other kept byte others e ∙ ap (λ (more : Held).
    option_to_list (key_behind kept byte) ++ keys_of (bytes_of more ++ others)) (not_escape kept byte e)

pub one_byte_more : OneByteMore
one_byte_more kept byte others = one_by_test kept byte others (byte == 27) refl

-- what is held --------------------------------------------------------------------------------------------------------

not_begun : (byte : ℕ) (others : List ℕ) → byte == 27 ≡ false → is_begun_arrow (byte ∷ others) ≡ false
not_begun byte [] e = e
not_begun byte (second ∷ []) e = rw e refl
not_begun byte (second ∷ third ∷ others) e = refl

not_begun_behind : (byte : ℕ) (others : List ℕ) → byte == 91 ≡ false → is_begun_arrow (27 ∷ byte ∷ others) ≡ false
not_begun_behind byte [] e = rw e refl
not_begun_behind byte (third ∷ others) e = refl

held_later : (byte : ℕ) (others : List ℕ) → is_begun_arrow (byte ∷ others) ≡ false → held (byte ∷ others) ≡ held others
held_later byte others e = rw (e, held) refl

held_other : (byte : ℕ) (others : List ℕ) → byte == 27 ≡ false → held (byte ∷ others) ≡ held others
held_other byte others e = held_later byte others (not_begun byte others e)

held_escape : (kept : Held) (others : List ℕ) → held (bytes_of kept ++ 27 ∷ others) ≡ held (27 ∷ others)
held_escape Nothing others = refl
held_escape Escape others = held_later 27 (27 ∷ others) (not_begun_behind 27 others refl)
held_escape Bracket others = held_other 91 (27 ∷ others) refl

held_behind_escape : (byte : ℕ) (others : List ℕ) (is_bracket : Bool) → byte == 91 ≡ is_bracket → byte == 27 ≡ false →
    held (27 ∷ byte ∷ others) ≡ held (bytes_of (held_unless_escape Escape is_bracket) ++ others)
held_behind_escape byte others true b e = let bracket : byte ≡ 91 = is_number byte 91 b in rw bracket refl
held_behind_escape byte others false b e = held_later 27 (byte ∷ others) (not_begun_behind byte others b)
    ∙ held_other byte others e

held_behind_other : (kept : Held) (byte : ℕ) (others : List ℕ) → byte == 27 ≡ false →
    held (bytes_of kept ++ byte ∷ others) ≡ held (bytes_of (held_unless_escape kept (byte == 91)) ++ others)
held_behind_other Nothing byte others e = held_other byte others e
held_behind_other Escape byte others e = held_behind_escape byte others (byte == 91) refl e
held_behind_other Bracket byte others e = held_other 91 (byte ∷ others) refl ∙ held_other byte others e

held_by_test : (kept : Held) (byte : ℕ) (others : List ℕ) (is_escape : Bool) → byte == 27 ≡ is_escape →
    held (bytes_of kept ++ byte ∷ others) ≡ held (bytes_of (held_behind kept byte) ++ others)
held_by_test kept byte others true e = let escape : byte ≡ 27 = is_number byte 27 e in
    rw escape (held_escape kept others)
held_by_test kept byte others false e = held_behind_other kept byte others e
    ∙ ap (λ (more : Held). held (bytes_of more ++ others)) (not_escape kept byte e)

pub held_one_more : (kept : Held) (byte : ℕ) (others : List ℕ) →
    held (bytes_of kept ++ byte ∷ others) ≡ held (bytes_of (held_behind kept byte) ++ others)
held_one_more kept byte others = held_by_test kept byte others (byte == 27) refl
