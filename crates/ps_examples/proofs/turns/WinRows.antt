-- Win conditions, their faults, and when they hold, worked by hand. The header stands in line 1.
use Rattle.std.proofs.Common.{◌≡◌, ℕ, List, [], ◌∷◌, ◌++◌, map, refl, Option, Some, None, true, false, Bool}
use Rattle.std.specs.Prelude.{codes}
use Rattle.std.specs.Str.{chars}
use Rattle.std.proofs.Math.Utf8.{encode}
use Rattle.ps_model.specs.declared.pieces.ObjectId.{ObjectId}
use Rattle.ps_model.specs.declared.rules.Quantifier.{Quantifier}
use Rattle.ps_model.specs.declared.rules.Quantifier.TheVariants as asked
use Rattle.ps_model.specs.declared.texts.Section.TheVariants.{Wins, Levels}
use Rattle.ps_model.specs.declared.faults.Fault.{Fault}
use Rattle.ps_model.specs.declared.faults.FaultKind.{FaultKind}
use Rattle.ps_model.specs.declared.faults.FaultKind.TheVariants.{BadWin, UnknownWinName}
use Rattle.ps_model.specs.text.Faults.{first_fault}
use Rattle.ps_model.specs.text.Lines.{lines_of}
use Rattle.ps_model.specs.text.Sections.{section_lines}
use Rattle.ps_model.specs.names.Names.{Meaning, Names, One, AllOf, AnyOf}
use Rattle.ps_model.specs.board.Wins.{Win}
use Rattle.ps_model.specs.board.WinLines.{wins_read, win_faults}
use Rattle.ps_model.specs.board.Levels.{loaded}
use Rattle.ps_model.specs.session.LevelLines.{Entry, MessageEntry, LevelEntry, entries_read}
use Rattle.ps_model.specs.board.Winning.{won}

abbrev object : ℕ → ObjectId
object number = record { 0 = number }

abbrev crate_and_target : Meaning
crate_and_target = AllOf 12 (object 2 ∷ object 3 ∷ [])

abbrev player_or_target : Meaning
player_or_target = AnyOf 13 (object 1 ∷ object 3 ∷ [])

-- the names of OBJECTS `Background .`, `Player P`, `Crate *`, `Target O`, `On`, and LEGEND `@ = Crate and Target`, `PT
-- = Player or Target`, `& = Player and Target`
abbrev names : Names
names = record {
  entries =
      (codes "background", One (object 0)) ∷ (codes ".", One (object 0)) ∷ (codes "player", One (object 1)) ∷
      (codes "p", One (object 1))
      ∷ (codes "crate", One (object 2)) ∷ (codes "*", One (object 2)) ∷ (codes "target", One (object 3)) ∷
      (codes "o", One (object 3))
      ∷ (codes "on", One (object 4)) ∷ (codes "@", crate_and_target) ∷ (codes "pt", player_or_target)
      ∷ (codes "&", AllOf 14 (object 1 ∷ object 3 ∷ [])) ∷ [];
  layers = 0 ∷ 2 ∷ 2 ∷ 1 ∷ 2 ∷ [];
  layer_count = 3;
  glyphs = [];
}

-- the win conditions, and the first fault, of these bytes below the header
abbrev wins : List ℕ → List Win
wins lines = wins_read names (section_lines (lines_of (codes "WINCONDITIONS\n" ++ lines)) Wins)

abbrev first : List ℕ → Option Fault
first lines = first_fault (win_faults names (section_lines (lines_of (codes "WINCONDITIONS\n" ++ lines)) Wins))

abbrev at_line : ℕ → FaultKind → Option Fault
at_line line kind = Some (record { kind = kind; line = line })

abbrev win : Quantifier → Meaning → Option Meaning → Win
win quantifier subject place = record { quantifier = quantifier; subject = subject; place = place }

-- forms ---------------------------------------------------------------------------------------------------------------

three_words : wins (codes "No P\nSome *\nAny *\nAll O")
    ≡ win asked.No (One (object 1)) None ∷ win asked.Some (One (object 2)) None ∷ win asked.Some (One (object 2)) None
    ∷ win asked.All (One (object 3)) None ∷ []
three_words = refl

with_place : wins (codes "No @ on P\nSome PT on Crate\nany crate on @\nAll Target on PT")
    ≡ win asked.No crate_and_target (Some (One (object 1))) ∷ win asked.Some player_or_target (Some (One (object 2)))
    ∷ win asked.Some (One (object 2)) (Some crate_and_target) ∷ win asked.All (One (object 3)) (Some player_or_target)
    ∷ []
with_place = refl

-- letters are folded; blank lines, comments and lines of `=` mean nothing
folded_letters : wins (codes "\naLL (x) cRATE\tON\tTarget\n\n===\n  \n(some Player)\n") ≡ win asked.All
    (One (object 2)) (Some (One (object 3))) ∷ []
folded_letters = refl

none_written : wins (codes "\n  \n(No P)\n=\n") ≡ []
none_written = refl

-- a key word may be a name: the words count by their places
key_word : wins (codes "No on\nNo on on on") ≡ win asked.No (One (object 4)) None ∷ win asked.No (One (object 4))
    (Some (One (object 4))) ∷ []
key_word = refl

-- faults --------------------------------------------------------------------------------------------------------------

fine : first (codes "No on\n\nAll p on @\n(x\nNo Q)\n=\n") ≡ None
fine = refl

bad_lines : map first
    (codes "\nP" ∷ codes "\nNo" ∷ codes "\nEvery P" ∷ codes "\nNo P on" ∷ codes "\nNo P O" ∷ codes "\nNo P at O" ∷
    codes "\nNo P on O on"
    ∷ codes "\nAll P on O O" ∷ codes "\nNo, P" ∷ codes "\n== P" ∷ [])
    ≡ map (λ line. at_line 3 BadWin) (codes "0123456789")
bad_lines = refl

unknown_names : map first (codes "No Q" ∷ codes "All P on Q" ∷ codes "All Q on P" ∷ codes "Some no" ∷ codes
    "No P, on O" ∷ [])
    ≡ map (λ line. at_line 2 UnknownWinName) (codes "01234")
unknown_names = refl

-- line by line
first_line : first (codes "No Q\nNo") ≡ at_line 2 UnknownWinName
first_line = refl

-- won -----------------------------------------------------------------------------------------------------------------

-- the entry is a level whose grid passes all of the conditions
abbrev is_won_on : List Win → Entry → Bool
is_won_on conditions (MessageEntry text) = false
is_won_on conditions (LevelEntry level) = won conditions (loaded names level)

-- whether the lines hold of a level of these rows
abbrev holds : List ℕ → List ℕ → List Bool
holds lines rows = map (is_won_on (wins lines))
    (entries_read names (section_lines (lines_of (codes "LEVELS\n" ++ rows)) Levels))

-- without conditions the level counts as won
nothing_asked : holds [] (codes "P") ≡ true ∷ []
unfolding chars encode
nothing_asked = refl

-- the four rows: no crate; a crate beside a target; one on it; one on it and one beside it
abbrev four_rows : List ℕ
four_rows = codes "P.\n\nP*O\n\nP@.\n\nP@*"

no_one : holds (codes "No Crate") four_rows ≡ true ∷ false ∷ false ∷ false ∷ []
unfolding chars encode
no_one = refl

some_one : holds (codes "Some Crate") four_rows ≡ false ∷ true ∷ true ∷ true ∷ []
unfolding chars encode
some_one = refl

all_alone : holds (codes "All Crate") four_rows ≡ true ∷ true ∷ true ∷ true ∷ []
unfolding chars encode
all_alone = refl

no_on : holds (codes "No Crate on Target") four_rows ≡ true ∷ true ∷ false ∷ false ∷ []
unfolding chars encode
no_on = refl

some_on : holds (codes "Any Crate on Target") four_rows ≡ false ∷ false ∷ true ∷ true ∷ []
unfolding chars encode
some_on = refl

all_on : holds (codes "All Crate on Target") four_rows ≡ true ∷ false ∷ true ∷ false ∷ []
unfolding chars encode
all_on = refl

all_on_other : holds (codes "All Target on Crate") four_rows ≡ true ∷ false ∷ true ∷ true ∷ []
unfolding chars encode
all_on_other = refl

-- all conditions must hold
both : holds (codes "Some Crate\nAll Crate on Target") four_rows ≡ false ∷ false ∷ true ∷ false ∷ []
unfolding chars encode
both = refl

-- an aggregate is in a cell with all of its objects, a property with one of them; each may stand on both sides of `on`
aggregate : holds (codes "Some @") four_rows ≡ false ∷ false ∷ true ∷ true ∷ []
unfolding chars encode
aggregate = refl

no_aggregate : holds (codes "No @") four_rows ≡ true ∷ true ∷ false ∷ false ∷ []
unfolding chars encode
no_aggregate = refl

on_aggregate : holds (codes "All Crate on @") four_rows ≡ true ∷ false ∷ true ∷ false ∷ []
unfolding chars encode
on_aggregate = refl

property : holds (codes "Some PT") (codes ".\n\nP\n\nO\n\n&") ≡ false ∷ true ∷ true ∷ true ∷ []
unfolding chars encode
property = refl

-- the cells that both speak of are compared, not the objects: a player is in a cell with a player or a target
all_property : holds (codes "All PT on Target") (codes "O\n\nPO\n\n&O\n\n.") ≡ true ∷ false ∷ true ∷ true ∷ []
unfolding chars encode
all_property = refl

on_property : holds (codes "No Target on PT") (codes "O\n\nP\n\n.") ≡ false ∷ true ∷ true ∷ []
unfolding chars encode
on_property = refl
