-- Small games as other programs play them, evaluated: written by tools/rows_from_games.
use Rattle.std.proofs.Common.{◌≡◌, [], ◌∷◌, ◌++◌, refl, Some}
use Rattle.std.specs.Prelude.{codes}
use Rattle.std.specs.Str.{chars, is_utf8}
use Rattle.std.specs.Str.Lossy.{utf8_valid_len}
use Rattle.std.specs.Fmt.{digits}
use Rattle.std.proofs.Math.Utf8.{encode}
use Rattle.ps_model.specs.board.Turns.{turn}
use Rattle.ps_model.specs.game.Outputs.{opening_step}
use Rattle.ps_model.specs.board.Programs.{group, program_run}
use Rattle.ps_model.specs.session.StartSteps.{all_start_turns}
use Rattle.ps_model.specs.session.KeySteps.{all_key_turns}
use Rattle.ps_model.specs.declared.faults.FaultKind.TheVariants as kind
use Rattle.ps_examples.proofs.games.WholeRuns.{refused}

odd_fault_073 : refused (codes "title T\nOBJECTS\nBackground .\ngreen\nWall #\nbrown\nPlayer P\nwhite\nCrate *\norange\nTarget O\nblue\nA\nred\nB\npink\nC\ngray\nD\nblack\nLEGEND\n@ = Crate and Target\nX = @ or A\nAT = A or Target\nX = A and A\nAB = A or B\nX = A and A\nCOLLISIONLAYERS\nBackground\nTarget\nPlayer, Wall, Crate\nA B C D\nRULES\nWINCONDITIONS\nLEVELS\n#P*O.\n")
    ≡ Some (record { kind = kind.Twice; line = 25 })
unfolding chars digits is_utf8 utf8_valid_len encode group program_run all_start_turns all_key_turns turn opening_step
odd_fault_073 = refl

odd_fault_076 : refused (codes "title T\nOBJECTS\nBackground .\ngreen\nWall #\nbrown\nPlayer P\nwhite\nCrate *\norange\nTarget O\nblue\nA\nred\nB\npink\nC\ngray\nD\nblack\nLEGEND\n@ = Crate and Target\nAT = A or Target\nAB = A or B\nAC=A or C\nBD = B or D or AB\nCOLLISIONLAYERS\nBackground\nTarget\nPlayer, Wall, Crate\nA B C\nRULES\nWINCONDITIONS\nLEVELS\n#P*O.\n")
    ≡ Some (record { kind = kind.NoLayer; line = 19 })
unfolding chars digits is_utf8 utf8_valid_len encode group program_run all_start_turns all_key_turns turn opening_step
odd_fault_076 = refl

odd_fault_077 : refused (codes "title T\nOBJECTS\nBackground .\ngreen\nWall #\nbrown\nPlayer P\nwhite\nCrate *\norange\nTarget O\nblue\nA\nred\nB\npink\nC\ngray\nD\nblack\nLEGEND\n@ = Crate and Target\nCOLLISIONLAYERS\nBackground\nTarget\nPlayer, Wall, Crate\nA B C D\nRULES\n[ no @ ] -> cancel\nWINCONDITIONS\nLEVELS\n#P*O.\n")
    ≡ Some (record { kind = kind.NoAggregate; line = 29 })
unfolding chars digits is_utf8 utf8_valid_len encode group program_run all_start_turns all_key_turns turn opening_step
odd_fault_077 = refl

odd_fault_079 : refused (codes "title T\ntitle\nLEGEND\n@ = Crate and Target\nAT = A or Target\nAB = A or B\nX = A and A\nAC=A or C\nBD = B or D or AB\nQ = AT\nCOLLISIONLAYERS\nBackground\nTarget\nPlayer, Wall, Crate\nA B C D\nRULES\nfoo\nWINCONDITIONS\nLEVELS\n#P*O.\n")
    ≡ Some (record { kind = kind.NoSection; line = 20 })
unfolding chars digits is_utf8 utf8_valid_len encode group program_run all_start_turns all_key_turns turn opening_step
odd_fault_079 = refl

odd_fault_080 : refused (codes "title T\nOBJECTS\nBackground .\ngreen\nWall #\nbrown\nPlayer P\nwhite\nCrate *\norange\nTarget O\nblue\nA\nred\nB\npink\nC\ngray\nD\nblack\nLEGEND\n@ = Crate and Target\np = B\nAT = A or Target\nX = Y or A\nY = X or B\n; = A\nCOLLISIONLAYERS\nBackground\nTarget\nPlayer, Wall, Crate\nA B C D\nRULES\nWINCONDITIONS\nLEVELS\n#P*O.\n..;..\n")
    ≡ Some (record { kind = kind.Twice; line = 23 })
unfolding chars digits is_utf8 utf8_valid_len encode group program_run all_start_turns all_key_turns turn opening_step
odd_fault_080 = refl

odd_fault_081 : refused (codes "title T\nOBJECTS\nBackground .\ngreen\nWall #\nbrown\nPlayer P\nwhite\nCrate *\norange\nTarget O\nblue\nA\nred\nB\npink\nC\ngray\nD\nblack\nLEGEND\n@ = Crate and Target\n; = A\nCOLLISIONLAYERS\nBackground\nTarget\nPlayer, Wall, Crate\nA B C D\nRULES\nWINCONDITIONS\nall on on on\nLEVELS\n#P*O.\n..;..\n")
    ≡ Some (record { kind = kind.UnknownWinName; line = 31 })
unfolding chars digits is_utf8 utf8_valid_len encode group program_run all_start_turns all_key_turns turn opening_step
odd_fault_081 = refl

odd_fault_082 : refused (codes "title T\nOBJECTS\nBackground .\ngreen\nWall #\nbrown\nPlayer P\nwhite\nCrate *\norange\nTarget O\nblue\nA\nred\nB\npink\nC\ngray\nD\nblack\nLEGEND\nCOLLISIONLAYERS\nBackground\nTarget\nPlayer, Wall, Crate\nA B C D\nRULES\nWINCONDITIONS\nSome Wall on Z\nLEVELS\n#P*O.\n")
    ≡ Some (record { kind = kind.UnknownWinName; line = 29 })
unfolding chars digits is_utf8 utf8_valid_len encode group program_run all_start_turns all_key_turns turn opening_step
odd_fault_082 = refl

odd_fault_084 : refused (codes "title T\nOBJECTS\nBackground .\ngreen\nWall #\nbrown\nPlayer P\nwhite\nCrate *\norange\nTarget O\nblue\nA\nred\nB\npink\nC\ngray\nD\nblack\nLEGEND\n@ = Crate and Target\nAT = A or Target\nAB = A or B\nCOLLISIONLAYERS\nBackground\nTarget\nPlayer, Wall, Crate\nA B C D\nRULES\nWINCONDITIONS\nNo A on\nLEVELS\nMessage\n#P*O.\n")
    ≡ Some (record { kind = kind.BadWin; line = 32 })
unfolding chars digits is_utf8 utf8_valid_len encode group program_run all_start_turns all_key_turns turn opening_step
odd_fault_084 = refl

odd_fault_085 : refused (codes "title T\nOBJECTS\nBackground .\ngreen\nWall #\nbrown\nPlayer P\nwhite\nCrate *\norange\nTarget O\nblue\nA\nred\nA\nB\npink\nC\nX X\nred\ngray\nD\nblack\nLEGEND\n@ = Crate and Target\nAT = A or Target\nAB = A or B\nAC=A or C\n; = A\nCOLLISIONLAYERS\nBackground\nTarget\nPlayer, Wall, Crate\nA B C D\nRULES\nWINCONDITIONS\nLEVELS\n#P*O.\n..;..\n")
    ≡ Some (record { kind = kind.Twice; line = 15 })
unfolding chars digits is_utf8 utf8_valid_len encode group program_run all_start_turns all_key_turns turn opening_step
odd_fault_085 = refl

odd_fault_086 : refused (codes "title T\nOBJECTS\nBackground .\ngreen\nWall #\nbrown\nPlayer P\nwhite\nCrate *\norange\nTarget O\nblue\nA\nred\nB\npink\nC\ngray\nD\nblack\nLEGEND\n@ = Crate and Target\nAT = A or Target\nCOLLISIONLAYERS\nBackground\nTarget\nPlayer, Wall, Crate\n@\nA B C D\nRULES\nWINCONDITIONS\nLEVELS\n#P*O.\n")
    ≡ Some (record { kind = kind.AggregateInLayer; line = 28 })
unfolding chars digits is_utf8 utf8_valid_len encode group program_run all_start_turns all_key_turns turn opening_step
odd_fault_086 = refl

odd_fault_087 : refused (codes "title T\nOBJECTS\nBackground .\ngreen\nWall #\nbrown\nPlayer P\nwhite\nCrate *\norange\nTarget O\nblue\nA\nred\nB\npink\nC\ngray\nD\nblack\nE0\nx\nE1\nx\nE2\nx\nE3\nx\nE4\nx\nE5\nx\nE6\nx\nE7\nx\nE8\nx\nE9\nx\nE10\nx\nE11\nx\nE12\nx\nE13\nx\nE14\nx\nE15\nx\nE16\nx\nE17\nx\nE18\nx\nE19\nx\nE20\nx\nE21\nx\nE22\nx\nE23\nx\nE24\nx\nE25\nx\nE26\nx\nE27\nx\nE28\nx\nE29\nx\nE30\nx\nE31\nx\nE32\nx\nE33\nx\nE34\nx\nE35\nx\nE36\nx\nE37\nx\nE38\nx\nE39\nx\nE40\nx\nE41\nx\nE42\nx\nE43\nx\nE44\nx\nE45\nx\nE46\nx\nE47\nx\nE48\nx\nE49\nx\nE50\nx\nE51\nx\nE52\nx\nE53\nx\nE54\nx\nE55\nx\nE56\nx\nLEGEND\n@ = Crate and Target\nAT = A or Target\nX = @ or A\nAB = A or B\nAC=A or C\nBD = B or D or AB\nQ = AT\nZ = @\nCOLLISIONLAYERS\nBackground\nTarget\nPlayer, Wall, Crate\nA B C D E0 E1 E2 E3 E4 E5 E6 E7 E8 E9 E10 E11 E12 E13 E14 E15 E16 E17 E18 E19 E20 E21 E22 E23 E24 E25 E26 E27 E28 E29 E30 E31 E32 E33 E34 E35 E36 E37 E38 E39 E40 E41 E42 E43 E44 E45 E46 E47 E48 E49 E50 E51 E52 E53 E54 E55 E56\nRULES\n[ A | ... | ... | C ] -> cancel\nWINCONDITIONS\nLEVELS\n#P*O.\n")
    ≡ Some (record { kind = kind.AggregateInProperty; line = 138 })
unfolding chars digits is_utf8 utf8_valid_len encode group program_run all_start_turns all_key_turns turn opening_step
odd_fault_087 = refl

odd_fault_088 : refused (codes "title T\nOBJECTS\nBackground .\ngreen\nWall #\nbrown\nPlayer P\nwhite\nCrate *\norange\nTarget O\nblue\nA\nred\nB\npink\nC\ngray\nD\nblack\nLEGEND\n@ = Crate and Target\nAT = A or Target\nAB = A or B\nAC=A or C\nBD = B or D or AB\nQ = AT\n; = A\nCOLLISIONLAYERS\nBackground\nTarget\nPlayer, Wall, Crate\nA B C D\n, ,\nRULES\nWINCONDITIONS\nLEVELS\n#P*O.\n..;..\n")
    ≡ Some (record { kind = kind.BadLine; line = 34 })
unfolding chars digits is_utf8 utf8_valid_len encode group program_run all_start_turns all_key_turns turn opening_step
odd_fault_088 = refl

play_083 : refused (codes "title x (c) y" ++ ((13 ∷ []) ++ (codes "\nnoaction" ++ ((13 ∷ []) ++ (codes "\nflickscreen 0x1\nOBJECTS" ++ ((13 ∷ []) ++ (codes "\n" ++ ((13 ∷ []) ++ (codes "\nBackground  2" ++ ((13 ∷ []) ++ (codes "\n#fff" ++ ((13 ∷ []) ++ (codes "\n93161" ++ ((13 ∷ []) ++ (codes "\n67838" ++ ((13 ∷ []) ++ (codes "\n33875" ++ ((13 ∷ []) ++ (codes "\n.9642" ++ ((13 ∷ []) ++ (codes "\n9.904" ++ ((13 ∷ []) ++ (codes "\n" ++ ((13 ∷ []) ++ (codes "\nPlayerA  *" ++ ((13 ∷ []) ++ (codes "\ngreen" ++ ((13 ∷ []) ++ (codes "\n" ++ ((13 ∷ []) ++ (codes "\nPlayerB" ++ ((13 ∷ []) ++ (codes "\ntransparent" ++ ((13 ∷ []) ++ (codes "\n77.15" ++ ((13 ∷ []) ++ (codes "\n7809." ++ ((13 ∷ []) ++ (codes "\n00002" ++ ((13 ∷ []) ++ (codes "\n12928" ++ ((13 ∷ []) ++ (codes "\n05.75" ++ ((13 ∷ []) ++ (codes "\n" ++ ((13 ∷ []) ++ (codes "\nGhost" ++ ((13 ∷ []) ++ (codes "\nblue" ++ ((13 ∷ []) ++ (codes "\n" ++ ((13 ∷ []) ++ (codes "\nWater\t~" ++ ((13 ∷ []) ++ (codes "\ngreen" ++ ((13 ∷ []) ++ (codes "\n" ++ ((13 ∷ []) ++ (codes "\n=========" ++ ((13 ∷ []) ++ (codes "\nLEGEND" ++ ((13 ∷ []) ++ (codes "\n=====" ++ ((13 ∷ []) ++ (codes "\nPlayer = PlayerA or PlayerB" ++ ((13 ∷ []) ++ (codes "\nP0 = Player or Water or Water" ++ ((13 ∷ []) ++ (codes "\nP1 = Ghost or Water or PlayerB" ++ ((13 ∷ []) ++ (codes "\nG0= Water and PlayerB" ++ ((13 ∷ []) ++ (codes "\nm = PlayerA and PlayerB and Ghost" ++ ((13 ∷ []) ++ (codes "\nG2=Water and Ghost and PlayerB" ++ ((13 ∷ []) ++ (codes "\n9 = Ghost" ++ ((13 ∷ []) ++ (codes "\ncOlLisIONLAYeRS" ++ ((13 ∷ []) ++ (codes "\nBackground" ++ ((13 ∷ []) ++ (codes "\nPlayerB" ++ ((13 ∷ []) ++ (codes "\nGhost" ++ ((13 ∷ []) ++ (codes "\nPlayerA" ++ ((13 ∷ []) ++ (codes "\nWater" ++ ((13 ∷ []) ++ (codes "\nRULES" ++ ((13 ∷ []) ++ (codes "\n" ++ ((13 ∷ []) ++ (codes "\n[ > Player | Ghost ] -> [ > Player | > Ghost ]" ++ ((13 ∷ []) ++ (codes "\n=====" ++ ((13 ∷ []) ++ (codes "\nWINCONDITIONS" ++ ((13 ∷ []) ++ (codes "\n====" ++ ((13 ∷ []) ++ (codes "\n=" ++ ((13 ∷ []) ++ (codes "\nLEVELS" ++ ((13 ∷ []) ++ (codes "\n===" ++ ((13 ∷ []) ++ (codes "\n" ++ ((13 ∷ []) ++ (codes "\n22m" ++ ((13 ∷ []) ++ (codes "\n" ++ ((13 ∷ []) ++ (codes "\nmessage  A (b) c" ++ ((13 ∷ []) ++ (codes "\n" ++ ((13 ∷ []) ++ (codes "\nm2*292" ++ ((13 ∷ []) ++ (codes "\n~~~m92" ++ ((13 ∷ []) ++ (codes "\n29~*2*" ++ ((13 ∷ []) ++ (codes "\n~22m22" ++ ((13 ∷ []) ++ (codes "\n2229*2" ++ ((13 ∷ []) ++ (codes "\n292*92" ++ ((13 ∷ []) ++ (codes "\n" ++ ((13 ∷ []) ++ (codes "\n~222~" ++ ((13 ∷ []) ++ (codes "\n222mm" ++ ((13 ∷ []) ++ (codes "\n299*9" ++ ((13 ∷ []) ++ (codes "\n92*2~" ++ ((13 ∷ []) ++ (codes "\n2922~" ++ ((13 ∷ []) ++ (codes "\n2229*" ++ ((13 ∷ []) ++ (codes "\n" ++ ((13 ∷ []) ++ (codes "\n")))))))))))))))))))))))))))))))))))))))))))))))))))))))))))))))))))))))))))))))))))))))))))))))))))))))))))))))))))))))))))))))))))))))))))))))))))
    ≡ Some (record { kind = kind.BadFlickscreen; line = 3 })
unfolding chars digits is_utf8 utf8_valid_len encode group program_run all_start_turns all_key_turns turn opening_step
play_083 = refl

play_092 : refused (codes "title A  Long Title " ++ ((13 ∷ []) ++ (codes "\nflickscreen 0x1\nnoundo" ++ ((13 ∷ []) ++ (codes "\nrun_rules_on_level_start" ++ ((13 ∷ []) ++ (codes "\n========" ++ ((13 ∷ []) ++ (codes "\nOBJECTS" ++ ((13 ∷ []) ++ (codes "\n=" ++ ((13 ∷ []) ++ (codes "\n" ++ ((13 ∷ []) ++ (codes "\nBackground  " ++ ((229 ∷ 173 ∷ 151 ∷ 13 ∷ []) ++ (codes "\ngreen" ++ ((13 ∷ []) ++ (codes "\nPlayer 5" ++ ((13 ∷ []) ++ (codes "\nlight-blue 12" ++ ((13 ∷ []) ++ (codes "\n" ++ ((13 ∷ []) ++ (codes "\nD " ++ ((195 ∷ 169 ∷ 13 ∷ []) ++ (codes "\nlight-blue 12" ++ ((13 ∷ []) ++ (codes "\ngem  *" ++ ((13 ∷ []) ++ (codes "\n#fff" ++ ((13 ∷ []) ++ (codes "\n19131" ++ ((13 ∷ []) ++ (codes "\n0.940" ++ ((13 ∷ []) ++ (codes "\n00350" ++ ((13 ∷ []) ++ (codes "\n49246" ++ ((13 ∷ []) ++ (codes "\n00087" ++ ((13 ∷ []) ++ (codes "\n" ++ ((13 ∷ []) ++ (codes "\nGoal" ++ ((13 ∷ []) ++ (codes "\ngreen" ++ ((13 ∷ []) ++ (codes "\n" ++ ((13 ∷ []) ++ (codes "\nKey j" ++ ((13 ∷ []) ++ (codes "\n#fff" ++ ((13 ∷ []) ++ (codes "\n" ++ ((13 ∷ []) ++ (codes "\nup1  8 ( )" ++ ((13 ∷ []) ++ (codes "\ntransparent" ++ ((13 ∷ []) ++ (codes "\n" ++ ((13 ∷ []) ++ (codes "\nv2  2" ++ ((13 ∷ []) ++ (codes "\n#fff" ++ ((13 ∷ []) ++ (codes "\n" ++ ((13 ∷ []) ++ (codes "\n========" ++ ((13 ∷ []) ++ (codes "\nLEGEND" ++ ((13 ∷ []) ++ (codes "\n==" ++ ((13 ∷ []) ++ (codes "\n4 = Goal and v2 and Gem" ++ ((13 ∷ []) ++ (codes "\nl = v2" ++ ((13 ∷ []) ++ (codes "\n- = GEM AND KEY" ++ ((13 ∷ []) ++ (codes "\nG0 =D and up1" ++ ((13 ∷ []) ++ (codes "\n========" ++ ((13 ∷ []) ++ (codes "\nCOLLISIONLAYERS" ++ ((13 ∷ []) ++ (codes "\n=========" ++ ((13 ∷ []) ++ (codes "\n" ++ ((13 ∷ []) ++ (codes "\nBackground" ++ ((13 ∷ []) ++ (codes "\nv2" ++ ((13 ∷ []) ++ (codes "\nGem" ++ ((13 ∷ []) ++ (codes "\nKey up1 Goal" ++ ((13 ∷ []) ++ (codes "\nD, Player" ++ ((13 ∷ []) ++ (codes "\n=======" ++ ((13 ∷ []) ++ (codes "\nRULES" ++ ((13 ∷ []) ++ (codes "\n====" ++ ((13 ∷ []) ++ (codes "\n" ++ ((13 ∷ []) ++ (codes "\nWINCONDITIONS" ++ ((13 ∷ []) ++ (codes "\nAll 4" ++ ((13 ∷ []) ++ (codes "\nAny D" ++ ((13 ∷ []) ++ (codes "\nLEVELS" ++ ((13 ∷ []) ++ (codes "\n" ++ ((195 ∷ 169 ∷ []) ++ (codes "*" ++ ((229 ∷ 173 ∷ 151 ∷ []) ++ (codes "4jl" ++ ((195 ∷ 169 ∷ 229 ∷ 173 ∷ 151 ∷ 13 ∷ []) ++ (codes "\n5" ++ ((195 ∷ 169 ∷ []) ++ (codes "5jj" ++ ((195 ∷ 169 ∷ []) ++ (codes "j2" ++ ((13 ∷ []) ++ (codes "\n" ++ ((229 ∷ 173 ∷ 151 ∷ 229 ∷ 173 ∷ 151 ∷ []) ++ (codes "5" ++ ((229 ∷ 173 ∷ 151 ∷ []) ++ (codes "l" ++ ((229 ∷ 173 ∷ 151 ∷ []) ++ (codes "54" ++ ((13 ∷ []) ++ (codes "\n" ++ ((13 ∷ []) ++ (codes "\n")))))))))))))))))))))))))))))))))))))))))))))))))))))))))))))))))))))))))))))))))))))))))))))))))))))))))))))))))))))))))))))))))))))))))))
    ≡ Some (record { kind = kind.BadFlickscreen; line = 2 })
unfolding chars digits is_utf8 utf8_valid_len encode group program_run all_start_turns all_key_turns turn opening_step
play_092 = refl
