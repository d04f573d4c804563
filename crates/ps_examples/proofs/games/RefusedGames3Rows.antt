-- Small games as other programs play them, evaluated: written by tools/rows_from_games.
use Rattle.std.proofs.Common.{◌≡◌, refl, Some}
use Rattle.std.specs.Prelude.{codes}
use Rattle.std.specs.Str.{chars, is_utf8}
use Rattle.std.specs.Str.Lossy.{utf8_valid_len}
use Rattle.std.specs.Fmt.{digits}
use Rattle.std.proofs.Math.Utf8.{encode}
use Rattle.ps_model.specs.board.Turns.{turn}
use Rattle.ps_model.specs.game.Outputs.{opening_step}
use Rattle.ps_model.specs.board.Programs.{group, program_run}
use Rattle.ps_model.specs.session.StartSteps.{all_start_turns}
use Rattle.ps_model.specs.session.KeySteps.{all_key_turns}
use Rattle.ps_model.specs.declared.faults.FaultKind.TheVariants as kind
use Rattle.ps_examples.proofs.games.WholeRuns.{refused}

odd_fault_043 : refused (codes "title T\nOBJECTS\nBackground .\ngreen\nWall #\nbrown\nPlayer P\nwhite\nCrate *\norange\nTarget O\nblue\nA\nred\nB\npink\nC\ngray\nD\nblack\nLEGEND\n; = A\nCOLLISIONLAYERS\nZed\nBackground\nTarget\nPlayer, Wall, Crate\nA B C D\nRULES\nWINCONDITIONS\nLEVELS\n#P*O.\n..;..\n")
    ≡ Some (record { kind = kind.UnknownName; line = 24 })
unfolding chars digits is_utf8 utf8_valid_len encode group program_run all_start_turns all_key_turns turn opening_step
odd_fault_043 = refl

odd_fault_044 : refused (codes "title T\nOBJECTS\nBackground .\ngreen\nWall #\nbrown\nPlayer P\nwhite\nCrate *\norange\nTarget O\nblue\nA\nred\nB\npink\nC\ngray\nD\nblack\nLEGEND\nCOLLISIONLAYERS\nBackground\nTarget\nPlayer, Wall, Crate\nA B C\nRULES\nWINCONDITIONS\nLEVELS\n#P*O.\n")
    ≡ Some (record { kind = kind.NoLayer; line = 19 })
unfolding chars digits is_utf8 utf8_valid_len encode group program_run all_start_turns all_key_turns turn opening_step
odd_fault_044 = refl

odd_fault_045 : refused (codes "title T\nOBJECTS\nBackground .\ngreen\nWall #\nbrown\nPlayer P\nwhite\nCrate *\norange\nTarget O\nblue\nA\nred\nB\npink\nC\ngray\nD\nblack\nLEGEND\n@ = Crate and Target\nAT = A or Target\nAB = A or B\nAC=A or C\nBD = B or D or AB\nQ = AT\nCOLLISIONLAYERS\nBackground\nTarget\nPlayer, Wall, Crate\nA B C D\nRULES\n+ [ ^ C action AC | perpendicular AT | Player | AB ] -> [ ^ C action AC | perpendicular AT | Player | AB ] again\nWINCONDITIONS\nLEVELS\n#P*O.\n")
    ≡ Some (record { kind = kind.PlusAlone; line = 34 })
unfolding chars digits is_utf8 utf8_valid_len encode group program_run all_start_turns all_key_turns turn opening_step
odd_fault_045 = refl

odd_fault_046 : refused (codes "title T\nOBJECTS\nBackground .\ngreen\nWall #\nbrown\nPlayer P\nwhite\nCrate *\norange\nTarget O\nblue\nA\nred\nB\npink\nC\ngray\nD\nblack\nLEGEND\n@ = Crate and Target\nAT = A or Target\nCOLLISIONLAYERS\nBackground\nTarget\nPlayer, Wall, Crate\nA B C D\nRULES\nWINCONDITIONS\nLEVELS\n")
    ≡ Some (record { kind = kind.NoLevel; line = 31 })
unfolding chars digits is_utf8 utf8_valid_len encode group program_run all_start_turns all_key_turns turn opening_step
odd_fault_046 = refl

odd_fault_050 : refused (codes "title T\nOBJECTS\nBackground .\ngreen\nWall #\nbrown\nPlayer P\nwhite\nCrate *\norange\nTarget O\nblue\nA\nred\nB\npink\nC\ngray\nD\nblack\nLEGEND\n@ = Crate and Target\nAT = A or Target\nAB = A or B\nAC=A or C\n; = A\nCOLLISIONLAYERS\nBackground\nTarget\nPlayer, Wall, Crate\nA B C D\nRULES\nWINCONDITIONS\nLEVELS\n#P*O.\n..;..\n===P\n")
    ≡ Some (record { kind = kind.UnknownGlyph; line = 37 })
unfolding chars digits is_utf8 utf8_valid_len encode group program_run all_start_turns all_key_turns turn opening_step
odd_fault_050 = refl

odd_fault_051 : refused (codes "title T\nOBJECTS\nBackground .\ngreen\nWall #\nbrown\nPlayer P\nwhite\nCrate *\norange\nTarget O\nblue\nA\nred\nB\npink\nC\ngray\nD\nblack\nLEGEND\n@ = Crate and Target\nAT = A or Target\nAB = A or B\nAC=A or C\nBD = B or D or AB\nCOLLISIONLAYERS\nBackground\nTarget\nPlayer, Wall, Crate\nA B C D\nRULES\n[ A ] -> [ B ]\nstartloop\n+ [ B ] -> [ A ]\nendloop\nwin [ right D moving B | Player | Zed par->allel D | no C no Zed ] -> [ right Target | moving Zed BD | no C |  ] sfx0\nWINCONDITIONS\nOn A\nLEVELS\n#P*O.\n")
    ≡ Some (record { kind = kind.PlusAlone; line = 35 })
unfolding chars digits is_utf8 utf8_valid_len encode group program_run all_start_turns all_key_turns turn opening_step
odd_fault_051 = refl

odd_fault_052 : refused (codes "title T\nOBJECTS\nBackground .\ngreen\nWall #\nbrown\nPlayer P\nwhite\nCrate *\norange\nTarget O\nblue\nA\nred\nB\npink\nC\ngray\nD\nblack\nLEGEND\n@ = Crate and Target\nAT = A or Target\nAB = A or B\nAC=A or C\nCOLLISIONLAYERS\nBackground\nTarget\nPlayer, Wall, Crate\nA B C D\nRULES\nlate [ A ] -> [ B ]\n+ [ B ] -> [ A ]\nWINCONDITIONS\nLEVELS\n#P*O.\n")
    ≡ Some (record { kind = kind.PlusLate; line = 33 })
unfolding chars digits is_utf8 utf8_valid_len encode group program_run all_start_turns all_key_turns turn opening_step
odd_fault_052 = refl

odd_fault_055 : refused (codes "title T\nOBJECTS\nBackground .\ngreen\nWall #\nbrown\nPlayer P\nwhite\nCrate *\norange\nTarget O\nblue\nA\nred\nB\npink\nC\ngray\nD\nblack\nE0\nx\nE1\nx\nE2\nx\nE3\nx\nE4\nx\nE5\nx\nE6\nx\nE7\nx\nE8\nx\nE9\nx\nE10\nx\nE11\nx\nE12\nx\nE13\nx\nE14\nx\nE15\nx\nE16\nx\nE17\nx\nE18\nx\nE19\nx\nE20\nx\nE21\nx\nE22\nx\nE23\nx\nE24\nx\nE25\nx\nE26\nx\nE27\nx\nE28\nx\nE29\nx\nE30\nx\nE31\nx\nE32\nx\nE33\nx\nE34\nx\nE35\nx\nE36\nx\nE37\nx\nE38\nx\nE39\nx\nE40\nx\nE41\nx\nE42\nx\nE43\nx\nE44\nx\nE45\nx\nE46\nx\nE47\nx\nE48\nx\nE49\nx\nE50\nx\nE51\nx\nE52\nx\nE53\nx\nE54\nx\nLEGEND\n@ = Crate and Target\nAT = A or Target\nAB = A or B\nAC=A or C\nBD = B or D or AB\nQ = AT\nCOLLISIONLAYERS\nBackground\nTarget\nPlayer, Wall, Crate\nA B C D E0 E1 E2 E3 E4 E5 E6 E7 E8 E9 E10 E11 E12 E13 E14 E15 E16 E17 E18 E19 E20 E21 E22 E23 E24 E25 E26 E27 E28 E29 E30 E31 E32 E33 E34 E35 E36 E37 E38 E39 E40 E41 E42 E43 E44 E45 E46 E47 E48 E49 E50 E51 E52 E53 E54\nRULES\nendloop\nWINCONDITIONS\nLEVELS\np.\n#P*O.\n")
    ≡ Some (record { kind = kind.Loop; line = 144 })
unfolding chars digits is_utf8 utf8_valid_len encode group program_run all_start_turns all_key_turns turn opening_step
odd_fault_055 = refl

odd_fault_057 : refused (codes "title T\nOBJECTS\nBackground .\ngreen\nWall #\nbrown\nPlayer P\nwhite\nCrate *\norange\nTarget O\nblue\nA\nred\nB\npink\nC\ngray\nD\nblack\nLEGEND\n@ = Crate and Target\nAT = A or Target\nAB = A or B\nAC=A or C\nX = AT and Crate\nCOLLISIONLAYERS\nBackground\nTarget\nPlayer, Wall, Crate\nA B C D\nRULES\nWINCONDITIONS\nLEVELS\n#P*O.\n")
    ≡ Some (record { kind = kind.PropertyInAggregate; line = 26 })
unfolding chars digits is_utf8 utf8_valid_len encode group program_run all_start_turns all_key_turns turn opening_step
odd_fault_057 = refl

odd_fault_059 : refused (codes "title T\nOBJECTS\nBackground .\ngreen\nWall #\nbrown\nPlayer P\nwhite\nCrate *\norange\nTarget O\nblue\nA\nred\nB\npink\nC\ngray\nD\nblack\nLEGEND\n@ = Crate and Target\nAT = A or Target\nAB = A or B\nAC=A or C\nBD = B or D or AB\nCOLLISIONLAYERS\nBackground\nTarget\nPlayer, Wall, Crate\nA B C D\nRULES\n[ Player ] -> [ Player Wall ]\nWINCONDITIONS\nLEVELS\n#P*O.\n")
    ≡ Some (record { kind = kind.Impossible; line = 33 })
unfolding chars digits is_utf8 utf8_valid_len encode group program_run all_start_turns all_key_turns turn opening_step
odd_fault_059 = refl

odd_fault_060 : refused (codes "title T\nOBJECTS\nBackground .\ngreen\nWall #\nbrown\nPlayer P\nwhite\nCrate *\norange\nTarget O\nblue\nA\nred\nB\npink\nC\ngray\nD\nblack\nLEGEND\n@ = Crate and Target\nAT = A or Target\nCOLLISIONLAYERS\nBackground\nTarget\nA = B\nPlayer, Wall, Crate\nA B C D\nRULES\nWINCONDITIONS\nLEVELS\n#P*O.\n")
    ≡ Some (record { kind = kind.UnknownName; line = 27 })
unfolding chars digits is_utf8 utf8_valid_len encode group program_run all_start_turns all_key_turns turn opening_step
odd_fault_060 = refl

odd_fault_062 : refused (codes "title T\nOBJECTS\nBackground .\ngreen\nWall #\nbrown\nPlayer P\nwhite\nCrate *\norange\nTarget O\nblue\nA\nred\nB\npink\nC\ngray\nD\nblack\nLEGEND\n@ = Crate and Target\nAT = A or Target\nAB = A or B\nAC=A or C\nBD = B or D or AB\nQ = AT\nZ = @\nCOLLISIONLAYERS\nBackground\nTarget\nPlayer, Wall, Crate\nA B C D\nRULES\n[ BD | stationary AT no AT | Q ] random\nWINCONDITIONS\nLEVELS\n#P*O.\n")
    ≡ Some (record { kind = kind.BadBracket; line = 35 })
unfolding chars digits is_utf8 utf8_valid_len encode group program_run all_start_turns all_key_turns turn opening_step
odd_fault_062 = refl

odd_fault_063 : refused (codes "title T\nOBJECTS\nBackground .\ngreen\nWall #\nbrown\nPlayer P\nwhite\nCrate *\norange\nTarget O\nblue\nA\nred\nB\npink\nC\ngray\nD\nblack\nLEGEND\n@ = Crate and Target\nAT = A or Target\nAB = A or B\nAC=A or C\nBD = B or D or AB\nQ = AT\nRULES\n[ ... | Wall | no Wall v Z | Wall ] -> [ B AT |  | Wall | Target ] random\nlate right late [ @ ] -> message\nWINCONDITIONS\nLEVELS\n#P*O.\n")
    ≡ Some (record { kind = kind.NoSection; line = 33 })
unfolding chars digits is_utf8 utf8_valid_len encode group program_run all_start_turns all_key_turns turn opening_step
odd_fault_063 = refl

odd_fault_064 : refused (codes "title T\nOBJECTS\nBackground .\ngreen\nWall #\nbrown\nPlayer P\nwhite\nCrate *\norange\nTarget O\nblue\nA\nred\nB\npink\nC\ngray\nD\nblack\nLEGEND\n@ = Crate and Target\nAT = A or Target\nAB = A or B\n; = A\nX = @ or A\nCOLLISIONLAYERS\nBackground\nTarget\nPlayer, Wall, Crate\nA B C D\nRULES\nWINCONDITIONS\nNo A on\nLEVELS\n#P*O.\n..;..\n")
    ≡ Some (record { kind = kind.AggregateInProperty; line = 26 })
unfolding chars digits is_utf8 utf8_valid_len encode group program_run all_start_turns all_key_turns turn opening_step
odd_fault_064 = refl

odd_fault_065 : refused (codes "title T\nOBJECTS\nBackground .\ngreen\nWall #\nbrown\nPlayer P\nwhite\nCrate *\norange\nTarget O\nblue\nA\nred\nB\npink\nC\ngray\nD\nblack\nLEGEND\n@ = Crate and Target\nAT = A or Target\nAB = A or B\nAC=A or C\nCOLLISIONLAYERS\nBackground\nTarget\nPlayer, Wall, Crate\nA B C D\nRULES\n[ moving A | moving A | moving A | moving A | moving A | moving A ] -> cancel\nWINCONDITIONS\nLEVELS\n#P*O.\nMessage\n")
    ≡ Some (record { kind = kind.TooManyReadings; line = 32 })
unfolding chars digits is_utf8 utf8_valid_len encode group program_run all_start_turns all_key_turns turn opening_step
odd_fault_065 = refl

odd_fault_066 : refused (codes "title T\nOBJECTS\nBackground .\ngreen\nWall #\nbrown\nPlayer P\nwhite\nCrate *\norange\nTarget O\nblue\nA\nred\nB\npink\nC\ngray\nD\nblack\nLEGEND\n@ = Crate and Target\nAT = A or Target\nAB = A or B\nAC=A or C\nBD = B or D or AB\nQ = AT\nCOLLISIONLAYERS\nBackground\nTarget\nPlayer, Wall, Crate\nA B C D\nRULES\nlate right late [ no AC < D ] [ ^ AC ] [  ] -> [ no AC < D ] [ ^ AC ] [  ] sfx0\n[ Player ] -> [ Player Wall ]\nWINCONDITIONS\nLEVELS\n................................................................\n#P*O.\n")
    ≡ Some (record { kind = kind.LateMove; line = 34 })
unfolding chars digits is_utf8 utf8_valid_len encode group program_run all_start_turns all_key_turns turn opening_step
odd_fault_066 = refl

odd_fault_069 : refused (codes "title T\nOBJECTS\nBackground .\ngreen\nWall #\nbrown\nPlayer P\nwhite\nCrate *\norange\nTarget O\nblue\nA\nred\nB\npink\nC\ngray\nD\nblack\nE0\nx\nE1\nx\nE2\nx\nE3\nx\nE4\nx\nE5\nx\nE6\nx\nE7\nx\nE8\nx\nE9\nx\nE10\nx\nE11\nx\nE12\nx\nE13\nx\nE14\nx\nE15\nx\nE16\nx\nE17\nx\nE18\nx\nE19\nx\nE20\nx\nE21\nx\nE22\nx\nE23\nx\nE24\nx\nE25\nx\nE26\nx\nE27\nx\nE28\nx\nE29\nx\nE30\nx\nE31\nx\nE32\nx\nE33\nx\nE34\nx\nE35\nx\nE36\nx\nE37\nx\nE38\nx\nE39\nx\nE40\nx\nE41\nx\nE42\nx\nE43\nx\nE44\nx\nE45\nx\nE46\nx\nE47\nx\nE48\nx\nE49\nx\nE50\nx\nE51\nx\nE52\nx\nE53\nx\nE54\nx\nE55\nx\nLEGEND\n@ = Crate and Target\nX = A and Target and Crate\nAT = A or Target\nCOLLISIONLAYERS\nBackground\nTarget\nPlayer, Wall, Crate\nA B C D E0 E1 E2 E3 E4 E5 E6 E7 E8 E9 E10 E11 E12 E13 E14 E15 E16 E17 E18 E19 E20 E21 E22 E23 E24 E25 E26 E27 E28 E29 E30 E31 E32 E33 E34 E35 E36 E37 E38 E39 E40 E41 E42 E43 E44 E45 E46 E47 E48 E49 E50 E51 E52 E53 E54 E55\nRULES\nWINCONDITIONS\nLEVELS\n===P\n#P*O.\n")
    ≡ Some (record { kind = kind.UnknownGlyph; line = 145 })
unfolding chars digits is_utf8 utf8_valid_len encode group program_run all_start_turns all_key_turns turn opening_step
odd_fault_069 = refl

odd_fault_070 : refused (codes "title T\nOBJECTS\nBackground .\ngreen\nWall #\nbrown\nPlayer P\nwhite\nCrate *\norange\nTarget O\nblue\nA\nred\nB\npink\nC\ngray\nD\nblack\nLEGEND\n@ = Crate and Target\nAT = A or Target\nAB = A or B\nAC=A or C\nBD = B or D or AB\nQ = AT\nZ = @\n; = A\nCOLLISIONLAYERS\nBackground\nTarget\nPlayer, Wall, Crate\nA B C D\nRULES\nright [ AT | AT | AT | AT | AT | AT | AT | AT | AT | AT | AT | AT | AT ] -> cancel\nWINCONDITIONS\nLEVELS\n#P*O.\n..;..\n")
    ≡ Some (record { kind = kind.TooManyReadings; line = 36 })
unfolding chars digits is_utf8 utf8_valid_len encode group program_run all_start_turns all_key_turns turn opening_step
odd_fault_070 = refl

odd_fault_071 : refused (codes "title T\nOBJECTS\nBackground .\ngreen\nWall #\nbrown\nPlayer P\nwhite\nCrate *\norange\nTarget O\nblue\nA\nred\nB\npink\nC\ngray\nD\nblack\nLEGEND\n@ = Crate and Target\nAT = A or Target\n= A\nCOLLISIONLAYERS\nBackground\nTarget\nPlayer, Wall, Crate\nA B C D\nRULES\nWINCONDITIONS\nSome\nLEVELS\n#P*O.\n")
    ≡ Some (record { kind = kind.BadLine; line = 24 })
unfolding chars digits is_utf8 utf8_valid_len encode group program_run all_start_turns all_key_turns turn opening_step
odd_fault_071 = refl

odd_fault_072 : refused (codes "title T\nOBJECTS\nGrass .\ngreen\nSand s\ny\nWall #\nbrown\nPlayer P\nwhite\nCrate *\norange\nTarget O\nblue\nA\nred\nB\npink\nC\ngray\nD\nblack\nLEGEND\n@ = Crate and Target\nAT = A or Target\nAB = A or B\nAC=A or C\nBD = B or D or AB\nQ = AT\n; = A\nBackground = Grass or Sand\nCOLLISIONLAYERS\nGrass\nSand\nTarget\nPlayer, Wall, Crate\nA B C D\nRULES\nWINCONDITIONS\nLEVELS\n#P*O.\nmessage hi (x)\n..;..\n")
    ≡ Some (record { kind = kind.BadBackground; line = 31 })
unfolding chars digits is_utf8 utf8_valid_len encode group program_run all_start_turns all_key_turns turn opening_step
odd_fault_072 = refl
