-- Which faults of texts are told together, worked by hand.
use Rattle.std.proofs.Common.{◌≡◌, ℕ, List, [], ◌∷◌, ◌++◌, refl}
use Rattle.std.specs.Prelude.{codes}
use Rattle.std.specs.Str.{chars, is_utf8}
use Rattle.std.specs.Str.Lossy.{utf8_valid_len}
use Rattle.std.specs.Fmt.{digits}
use Rattle.std.proofs.Math.Utf8.{encode}
use Rattle.ps_model.specs.declared.faults.Fault.{Fault}
use Rattle.ps_model.specs.declared.faults.FaultKind.{FaultKind}
use Rattle.ps_model.specs.declared.faults.FaultKind.TheVariants as kind
use Rattle.ps_game.specs.ToldFaults.{told_faults}

-- the sections of a small game up to its layers, 16 lines
abbrev head : List ℕ
head =
    codes "OBJECTS\nBackground .\ngreen\nWall #\nbrown\nPlayer P\nwhite\nA\nred\nB\npink\nLEGEND\n"
    ++ codes "COLLISIONLAYERS\nBackground\nPlayer, Wall\nA B\n"

-- the whole text with these rules, from line 18 on, win conditions and rows
abbrev text_of : List ℕ → List ℕ → List ℕ → List ℕ
text_of rules wins rows =
    head ++ (codes "RULES\n" ++ (rules ++ (codes "WINCONDITIONS\n" ++ (wins ++ (codes "LEVELS\n" ++ rows)))))

abbrev at : FaultKind → ℕ → Fault
at fault line = record { kind = fault; line = line }

-- a line of each kind. The loop of line 22 begins within another one and has no end: that line is told once
several : told_faults 100 (text_of
    (codes "[ A ] -> [ X ]\n[ A ] -> [ B ]\nstartloop\nlate [ > A ] -> [ A ]\nstartloop\n+ [ A ] -> [ B ]\n")
    (codes "All X\nSome\n") (codes "#q#\n###\n\n#?\n"))
    ≡ at kind.UnknownWord 18 ∷ at kind.LateMove 21 ∷ at kind.Loop 22 ∷ at kind.PlusAlone 23 ∷ at kind.UnknownGlyph 28
    ∷ at kind.UnknownGlyph 31 ∷ at kind.UnknownWinName 25 ∷ at kind.BadWin 26 ∷ []
unfolding chars digits is_utf8 utf8_valid_len encode
several = refl

-- all rules without a possible reading, after the levels; where there is room for them
readings : told_faults 100 (text_of
    (codes "[ Player Wall ] -> [ Player ]\n[ A ] -> [ B ]\n[ A B ] -> [ A ]\n") [] (codes "P\nq\n"))
    ≡ at kind.UnknownGlyph 24 ∷ at kind.Impossible 18 ∷ at kind.Impossible 20 ∷ []
unfolding chars digits is_utf8 utf8_valid_len encode
readings = refl

limited : told_faults 2 (text_of
    (codes "[ Player Wall ] -> [ Player ]\n[ A ] -> [ B ]\n[ A B ] -> [ A ]\n") [] (codes "P\nq\n"))
    ≡ at kind.UnknownGlyph 24 ∷ at kind.Impossible 18 ∷ []
unfolding chars digits is_utf8 utf8_valid_len encode
limited = refl

-- below a fault of the names nothing is told
names : told_faults 100 (head ++ codes "X\nRULES\n[ A ] -> [ X ]\nLEVELS\nP\n") ≡ at kind.UnknownName 17 ∷ []
unfolding chars digits is_utf8 utf8_valid_len encode
names = refl

-- a game has none
game : told_faults 100 (text_of (codes "[ A ] -> [ B ]\n") [] (codes "P\n")) ≡ []
unfolding chars digits is_utf8 utf8_valid_len encode
game = refl
