-- The size of a game's rooms is within the limits; without a line that asks for rooms there are none.
use Rattle.std.proofs.Common.{◌≡◌, ℕ, ◌≤◌, Bool, true, false, ◌&&◌, ◌||◌, cond, List, [], ◌∷◌, Option, Some, None, refl}
use Rattle.std.proofs.Common.{sym, ap, ◌∙◌, arith}
use Rattle.std.specs.Prelude.{IfSome, nat_le, find, option_and_then, slice_index_or}
use Rattle.std.specs.List.{list_any, before_first, after_first}
use Rattle.std.specs.Str.Parse.{digits_value}
use Rattle.std.proofs.lemmas.Bool.{false≢true}
use Rattle.std.proofs.lemmas.Bool.Decides.{nat_tests}
use Rattle.ps_model.specs.declared.limits.TheConstants.{SIDE_LIMIT}
use Rattle.ps_model.specs.declared.texts.Section.TheVariants.{Prelude}
use Rattle.ps_model.specs.text.Lines.{Line, lines_of, words_of_line}
use Rattle.ps_model.specs.text.OptionSteps.{only_if}
use Rattle.ps_model.specs.text.WrittenSizes.{is_x, are_few_digits, is_side, side_of, size_of_sides, size_of_word}
use Rattle.ps_model.specs.text.Preludes.{asks_for_rooms, size_of_line, options_of}
use Rattle.ps_model.specs.text.Sections.{section_lines}
use Rattle.ps_model.specs.session.RoomSizes.{IsRoomSize, HasRoomSize}
use Rattle.ps_model.specs.game.Games.{Game}
use Rattle.ps_laws.specs.GamesOfTexts.{GameRoomsAreSized, GamesWithoutRooms}
use Rattle.ps_laws.proofs.texts.OneGame.{game_is_faultless}
use Rattle.ps_laws.proofs.texts.FaultlessNames.{of_every_faultless}

-- sizes ---------------------------------------------------------------------------------------------------------------

both : (a b : Bool) → (a && b) ≡ true → (a ≡ true) × (b ≡ true)
both true b e = (refl, e)
both false b e = absurd (false≢true e)

abbrev IsSide : ℕ → Type 0
IsSide number = (1 ≤ number) × (number ≤ SIDE_LIMIT)

within : (number : ℕ) → is_side number ≡ true → IsSide number
within number e =
    let tests = both (nat_le 1 number) (nat_le number SIDE_LIMIT) e in
    let some : nat_le 1 number ≡ true = tests.0 in
    let few : nat_le number SIDE_LIMIT ≡ true = tests.1 in
    (grind (arith, nat_tests), grind (arith, nat_tests))

if_side : (test : Bool) (number : ℕ) → (test ≡ true → IsSide number) → IfSome (only_if test number) IsSide
if_side true number h = h refl
if_side false number h = tt

-- a side that is written is one
side-within : (bytes : List ℕ) → IfSome (side_of bytes) IsSide
side-within bytes =
    let number : ℕ = digits_value 10 bytes in
    if_side (are_few_digits bytes && is_side number) number (λ e.
    within number (both (are_few_digits bytes) (is_side number) e).1)

sides-sized : (width height : Option ℕ) → IfSome width IsSide → IfSome height IsSide →
    IfSome (size_of_sides width height) IsRoomSize
sides-sized None height w h = tt
sides-sized (Some width) None w h = tt
sides-sized (Some width) (Some height) w h = record { some_column = w.0; columns = w.1; some_row = h.0; rows = h.1 }

word-sized : (word : List ℕ) → IfSome (size_of_word word) IsRoomSize
word-sized word = sides-sized _ _ (side-within (before_first is_x word)) (side-within (after_first is_x word))

line-sized : (line : Option Line) → IfSome (option_and_then size_of_line line) IsRoomSize
line-sized None = tt
line-sized (Some line) = word-sized (slice_index_or (words_of_line line) 1 [])

-- whatever lines ask for
options-sized : (prelude : List Line) → HasRoomSize (options_of prelude)
options-sized prelude = line-sized (find asks_for_rooms prelude)

pub game-rooms : GameRoomsAreSized
game-rooms text read e =
    of_every_faultless (λ (made : Game). HasRoomSize made.options) (λ lines none.
    options-sized (section_lines lines Prelude)) text read e

-- no rooms ------------------------------------------------------------------------------------------------------------

none_by : (here later : Bool) (line : Line) (found : Option Line) → (here || later) ≡ false →
    (later ≡ false → found ≡ None) → cond here (Some line) found ≡ None
none_by true later line found e h = absurd (false≢true (sym e))
none_by false later line found e h = h e

none-found : (prelude : List Line) → list_any asks_for_rooms prelude ≡ false → find asks_for_rooms prelude ≡ None
none-found [] e = refl
none-found (line ∷ lines) e = none_by (asks_for_rooms line) (list_any asks_for_rooms lines) line
    (find asks_for_rooms lines) e (none-found lines)

pub game-without : GamesWithoutRooms
game-without text read e none =
    ap (λ (made : Game). made.options.flickscreen) (game_is_faultless text read e).1
    ∙ ap (option_and_then size_of_line) (none-found (section_lines (lines_of text) Prelude) none)
