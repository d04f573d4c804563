-- Small games as other programs play them, evaluated: written by tools/rows_from_games.
use Rattle.std.proofs.Common.{◌≡◌, [], ◌∷◌, ◌++◌, refl, Some}
use Rattle.std.specs.Prelude.{codes}
use Rattle.std.specs.Str.{chars, is_utf8}
use Rattle.std.specs.Str.Lossy.{utf8_valid_len}
use Rattle.std.specs.Fmt.{digits}
use Rattle.std.proofs.Math.Utf8.{encode}
use Rattle.ps_model.specs.board.Turns.{turn}
use Rattle.ps_model.specs.game.Outputs.{opening_step}
use Rattle.ps_model.specs.board.Programs.{group, program_run}
use Rattle.ps_model.specs.session.StartSteps.{all_start_turns}
use Rattle.ps_model.specs.session.KeySteps.{all_key_turns}
use Rattle.ps_examples.proofs.games.WholeRuns.{written}

odd_play_001 : written (codes "title T\nOBJECTS\nBackground .\ngreen\nWall #\nbrown\nPlayer P\nwhite\nCrate *\norange\nTarget O\nblue\nA\nred\nB\npink\nC\ngray\nD\nblack\nLEGEND\n@ = Crate and Target\nAT = A or Target\nAB = A or B\n; = A\nCOLLISIONLAYERS\nBackground\nTarget\nPlayer, Wall, Crate\nA B C D\nRULES\nWINCONDITIONS\nLEVELS\n\n#P*O.\n..;..\n") (codes "r")
    ≡ Some (codes "= T\n# level 1\n#P*O.\n..A..\n\n#P*O.\n..A..\n\n* end of keys\n")
unfolding chars digits is_utf8 utf8_valid_len encode group program_run all_start_turns all_key_turns turn opening_step
odd_play_001 = refl

odd_play_005 : written (codes "title T\nOBJECTS\nBackground .\ngreen\nWall #\nbrown\nPlayer P\nwhite\nCrate *\norange\nTarget O\nblue\nA\nred\nB\npink\nC\ngray\nD\nblack\nLEGEND\n@ = Crate and Target\nAT = A or Target\n; = A\nCOLLISIONLAYERS\nBackground\nTarget\nPlayer Wall Crate\nA B C D\nA B C D\nA B C D\nA B C D\nA B C D\nA B C D\nA B C D\nA B C D\nA B C D\nA B C D\nA B C D\nA B C D\nA B C D\nA B C D\nA B C D\nA B C D\nA B C D\nA B C D\nA B C D\nA B C D\nA B C D\nA B C D\nA B C D\nA B C D\nA B C D\nA B C D\nA B C D\nA B C D\nA B C D\nRULES\nWINCONDITIONS\nLEVELS\n#P*O.\n..;..\n") (codes "wz")
    ≡ Some (codes "= T\n# level 1\n#P*O.\n..A..\n\n#P*O.\n..A..\n\n#P*O.\n..A..\n\n* end of keys\n")
unfolding chars digits is_utf8 utf8_valid_len encode group program_run all_start_turns all_key_turns turn opening_step
odd_play_005 = refl

odd_play_006 : written (codes "title T\nOBJECTS\nBackground .\ngreen\nWall #\nbrown\nPlayer P\nwhite\nCrate *\norange\nTarget O\nblue\nA\nred\nB\npink\nC\ngray\nD\nblack\nLEGEND\n@ = Crate and Target\nAT = A or Target\nAB = A or B\nAC=A or C\nBD = B or D or AB\nCOLLISIONLAYERS\nBackground\nTarget\nPlayer, Wall, Crate\nA B C D\nRULES\nWINCONDITIONS\nLEVELS\n#P*O.\nP............................................................................................................................................................................................................................................................................................................\n") (codes "rs")
    ≡ Some (codes "= T\n# level 1\n#P*O.\nP....\n\n#P*O.\nP....\n\n#.*O.\nPP...\n\n* end of keys\n")
unfolding chars digits is_utf8 utf8_valid_len encode group program_run all_start_turns all_key_turns turn opening_step
odd_play_006 = refl

odd_play_007 : written (codes "title T\nOBJECTS\nBackground .\ngreen\nWall #\nbrown\nPlayer P\nwhite\nCrate *\norange\nTarget O\nblue\nA\nred\nB\npink\nC\ngray\nD\nblack\nLEGEND\n@ = Crate and Target\nAT = A or Target\nAB = A or B\nAC=A or C\nCOLLISIONLAYERS\nBackground A\nBackground\nTarget\nPlayer, Wall, Crate\nA B C D\nRULES\nWINCONDITIONS\nLEVELS\n#P*O.\n") (codes "r")
    ≡ Some (codes "= T\n# level 1\n#P*O.\n\n#P*O.\n\n* end of keys\n")
unfolding chars digits is_utf8 utf8_valid_len encode group program_run all_start_turns all_key_turns turn opening_step
odd_play_007 = refl

odd_play_008 : written (codes "title T\nOBJECTS\nBackground .\ngreen\nWall #\nbrown\nPlayer P\nwhite\nCrate *\norange\nTarget O\nblue\nA\nred\nB\npink\nC\ngray\nD\nblack\nLEGEND\n@ = Crate and Target\nAT = A or Target\nAB = A or B\nAC=A or C\nBD = B or D or AB\nQ = AT\nZ = @\nCOLLISIONLAYERS\nBackground\nTarget\nPlayer, Wall, Crate\nA B C D\nRULES\nWINCONDITIONS\nLEVELS\nP\t\n#P*O.\n") (codes "drdxxr")
    ≡ Some (codes "= T\n# level 1\nP\n#\n\nP\n#\n\nP\n#\n\nP\n#\n\nP\n#\n\nP\n#\n\nP\n#\n\n* end of keys\n")
unfolding chars digits is_utf8 utf8_valid_len encode group program_run all_start_turns all_key_turns turn opening_step
odd_play_008 = refl

odd_play_014 : written (codes "title T\nOBJECTS\nBackground .\ngreen\nWall #\nbrown\nPlayer P\nwhite\nCrate *\norange\nTarget O\nblue\nA\nred\nB\npink\nC\ngray\nD\nblack\nLEGEND\n@ = Crate and Target\n; = A\nCOLLISIONLAYERS\nBackground\nTarget\nPlayer, Wall, Crate\nWall A\nA B C D\nRULES\nWINCONDITIONS\nLEVELS\n#P*O.\n..;..\n") (codes "d")
    ≡ Some (codes "= T\n# level 1\n#P*O.\n..A..\n\n#P*O.\n..A..\n\n* end of keys\n")
unfolding chars digits is_utf8 utf8_valid_len encode group program_run all_start_turns all_key_turns turn opening_step
odd_play_014 = refl

odd_play_015 : written (codes "title T\nOBJECTS\nBackground .\ngreen\nWall #\nbrown\nPlayer P\nwhite\nCrate *\norange\nTarget O\nblue\nA\nred\nB\npink\nC\ngray\nD\nblack\nLEGEND\nCOLLISIONLAYERS\nBackground\nTarget\nPlayer, Wall, Crate\nA B C D\nRULES\nWINCONDITIONS\nLEVELS\n\n#P*O.\n") (codes "xd")
    ≡ Some (codes "= T\n# level 1\n#P*O.\n\n#P*O.\n\n#P*O.\n\n* end of keys\n")
unfolding chars digits is_utf8 utf8_valid_len encode group program_run all_start_turns all_key_turns turn opening_step
odd_play_015 = refl

odd_play_019 : written (codes "title T\nOBJECTS\nBackground .\ngreen\nWall #\nbrown\nPlayer P\nwhite\nCrate *\norange\nTarget O\nblue\nA\nred\nB\npink\nC\ngray\nD\nblack\nE0\nx\nE1\nx\nE2\nx\nE3\nx\nE4\nx\nE5\nx\nE6\nx\nE7\nx\nE8\nx\nE9\nx\nE10\nx\nE11\nx\nE12\nx\nE13\nx\nE14\nx\nE15\nx\nE16\nx\nE17\nx\nE18\nx\nE19\nx\nE20\nx\nE21\nx\nE22\nx\nE23\nx\nE24\nx\nE25\nx\nE26\nx\nE27\nx\nE28\nx\nE29\nx\nE30\nx\nE31\nx\nE32\nx\nE33\nx\nE34\nx\nE35\nx\nE36\nx\nE37\nx\nE38\nx\nE39\nx\nE40\nx\nE41\nx\nE42\nx\nE43\nx\nE44\nx\nE45\nx\nE46\nx\nE47\nx\nE48\nx\nE49\nx\nE50\nx\nE51\nx\nE52\nx\nE53\nx\nLEGEND\n@ = Crate and Target\nAT = A or Target\nAB = A or B\nAC=A or C\nBD = B or D or AB\nQ = AT\nZ = @\n; = A\nCOLLISIONLAYERS\nBackground\nTarget\nPlayer, Wall, Crate\nA B C D E0 E1 E2 E3 E4 E5 E6 E7 E8 E9 E10 E11 E12 E13 E14 E15 E16 E17 E18 E19 E20 E21 E22 E23 E24 E25 E26 E27 E28 E29 E30 E31 E32 E33 E34 E35 E36 E37 E38 E39 E40 E41 E42 E43 E44 E45 E46 E47 E48 E49 E50 E51 E52 E53\nRULES\nWINCONDITIONS\nLEVELS\n#P*O.\n..;..\n") (codes "xd")
    ≡ Some (codes "= T\n# level 1\n#P*O.\n..A..\n\n#P*O.\n..A..\n\n#P*O.\n..A..\n\n* end of keys\n")
unfolding chars digits is_utf8 utf8_valid_len encode group program_run all_start_turns all_key_turns turn opening_step
odd_play_019 = refl

odd_play_026 : written (codes "title T\nflickscreen 1x256 z\nOBJECTS\nBackground .\ngreen\nWall #\nbrown\nPlayer P\nwhite\nCrate *\norange\nTarget O\nblue\nA\nred\nB\npink\nC\ngray\nD\nblack\nLEGEND\n@ = Crate and Target\nAT = A or Target\nAB = A or B\nAC=A or C\nX = A\nBD = B or D or AB\nCOLLISIONLAYERS\nBackground\nTarget\nPlayer, Wall, Crate\nA B C D\nRULES\nWINCONDITIONS\nLEVELS\n#P*O.\n") (codes "saw")
    ≡ Some (codes "= T\n# level 1\nP\n\nP\n\nP\n\nP\n\n* end of keys\n")
unfolding chars digits is_utf8 utf8_valid_len encode group program_run all_start_turns all_key_turns turn opening_step
odd_play_026 = refl

odd_play_028 : written (codes "title T\nOBJECTS\nBackground .\ngreen\nWall #\nbrown\nPlayer P\nwhite\nCrate *\norange\nTarget O\nblue\nA\nred\nB\npink\nC\ngray\nD\nblack\nLEGEND\n@ = Crate and Target\nAT = A or Target\n; = A\nCOLLISIONLAYERS\nAT\nBackground\nTarget\nPlayer, Wall, Crate\nA B C D\nRULES\nWINCONDITIONS\nLEVELS\n#P*O.\n..;..\n") (codes "dwd")
    ≡ Some (codes "= T\n# level 1\n#P*O.\n..A..\n\n#P*O.\n..A..\n\n#P*O.\n..A..\n\n#P*O.\n..A..\n\n* end of keys\n")
unfolding chars digits is_utf8 utf8_valid_len encode group program_run all_start_turns all_key_turns turn opening_step
odd_play_028 = refl

play_010 : written (codes "title x (c) y\nnorestart\nrun_rules_on_level_start\n=========\noBjeCTS\n==\nBackground\ntransparent\n\nPlayer  3\ngreen\nGem  &\ngreen\n\nwaLL\nlight-blue 12\n\nKey\ta ( -> [ | ] )\nblue\n\nagain2\t+\ntransparent\n\nD  v\ntransparent\nLEGEND\nP0 = Wall or Player\nP1 = P0 or Player\nP2 = D or again2 or Player\n2 = again2 and Player\n! =  Gem and again2 and D\n6 = Key and Player and Wall\n' = Background\ne = Wall\n===\nSOUNDS\n=====\nsfx0 123\nCrate MOVE 4\nCOLlIsionlAYers\nBackground\nGem, Player\nagain2, Key\nWall, D\nRULES\n[ > Player | Wall ] -> [ > Player | > Wall ]\n+ [  | ... | down Wall ' ] -> [  | ... | Key ]\n\nWINCONDITIONS\n\nAny P0 on e\nNo Wall\n=========\nLEVELS\n=\nmessage Hello\n\nv66\n3a'\n&3'\n\n") (codes "sdxdxdw" ++ ((27 ∷ []) ++ (codes "[A" ++ ((27 ∷ []) ++ (codes "[")))))
    ≡ Some (codes "= x\n! Hello\n# level 1\nD66\n3a'\n&3'\n\nD66\n'a'\n&'3\n\nD66\n'a'\n&'3\n\nD66\n'a3\n&'3\n\nD66\n'a3\n&'3\n\nD66\n'a3\n&'3\n\n* end of keys\n")
unfolding chars digits is_utf8 utf8_valid_len encode group program_run all_start_turns all_key_turns turn opening_step
play_010 = refl

play_012 : written (codes "title x (c) y\nauthor Me (you)\nrequire_player_movement\nrun_rules_on_level_start\ncolor_palette 2\nOBJECTS\nBackground @\n#fff\n.66.2\n.00..\n30853\n1.022\n02986\n\nPlayer '\nlight-blue 12\na\t8\nblue\n\nGoal\td\n#fff\n\n======\nLEGEND\n=======\nP0 = Player or Player\nP1 = Goal or Goal or Player\nP2 = A or Goal or A\nS0 = P1\nS1 = P2\nSOUNDS\n\nsfx0 123\nCrate MOVE 4\nCOlLiSionLayerS\n\nBackground\nGoal, Player, A\n=======\nRULES\n==\n\n[ > Player | A ] -> [ > Player | > A ]\n=========\nWINCONDITIONS\n=\nSome Goal On S0\nAny P2 on P0\nLEVELS\nmessage  Hello\n\n@'88'@'\n'8@8'''\n\nmessage Bye\n") (codes "dxaxxx" ++ ((27 ∷ []) ++ (codes "[Drwx")))
    ≡ Some (codes "= x\n! Hello\n# level 1\n@'aa'@'\n'a@a'''\n\n'@aa''@\n'aa'''@\n\n'@aa''@\n'aa'''@\n\n'@aa''@\n'aa'''@\n\n'@aa''@\n'aa'''@\n\n'@aa''@\n'aa'''@\n\n@'aa'@'\n'a@a'''\n\n''aa'''\n@a@a'@'\n\n''aa'''\n@a@a'@'\n\n* end of keys\n")
unfolding chars digits is_utf8 utf8_valid_len encode group program_run all_start_turns all_key_turns turn opening_step
play_012 = refl

play_013 : written (codes "ObJectS\n  (note (deep) ) \n\nBackground  #\nred\n\nPlayer\nred\n\nWall  " ++ ((195 ∷ 169 ∷ []) ++ (codes "\ngreen\nLEGEND\nS0 = PlAyEr\ng = Player\nSOUNDS\nsfx0 123\nCrate MOVE 4\nCOLLISIONLAYERS\nBackground\nWall\nPlayer\n========\nRULES\n========\n[ action Player | Wall S0 ] -> cancel sfx3\nstartloop\nleft [ g ] -> [ g ] message Hi there\n  (note (deep) ) \nlate [ no S0 S0 | g ] [ Player | S0 ] -> [ no S0 S0 | no S0 ] [ Player | Wall ]\n[  ] -> [  ]\nendloop\nWINCONDITIONS\nAll Background\nAll Wall oN S0\nLEVELS\n\n##" ++ ((195 ∷ 169 ∷ []) ++ (codes "#g#\n##g#g#\n\n"))))) (codes "xxs")
    ≡ Some (codes "= \n# level 1\n##" ++ ((195 ∷ 169 ∷ []) ++ (codes "#g#\n##g#g#\n\n##" ++ ((195 ∷ 169 ∷ []) ++ (codes "#g#\n##g#g#\n\n! Hi there\n##" ++ ((195 ∷ 169 ∷ []) ++ (codes "#g#\n##g#g#\n\n! Hi there\n* end of keys\n")))))))
unfolding chars digits is_utf8 utf8_valid_len encode group program_run all_start_turns all_key_turns turn opening_step
play_013 = refl

play_019 : written (codes "title T\nnorestart\nrun_RULes_oN_lEVEL_stART\n=========\noBJECts\n=======\n\nBackground\nblue\n\nPlayerA\nblue\n67254\n04191\n88..7\n.7640\n51469\nPlayerB e\ngreen\n08850\n06069\n65792\n68042\n33.87\nA\tq\ntransparent\n\nKey  d\ntransparent\nGhost  3\nlight-blue 12\nup1\t|\n#fff\n\n===\nLEGEND\n=========\nPlayer = PlayerA or PlayerB\nP0 = Ghost or Ghost\nP1 = Key or PlayerB or up1\nP2 = PlayerA or A\nP3 = PlayerA Or Ghost Or Key Or Ghost\n7 = P1\n+ = Player\nO = PlayerA\n====\nsounDS\n=====\n\nsfx0 123\nCrate MOVE 4\n=\nCOLLISIONLAYERS\n====\nBackground\n  (note (deep) ) \nKey,PlayerB,PlayerA,up1,Ghost,A\nRULES\n\n[ > Player | up1 ] -> [ > Player | > up1 ]\n[ no Background | P1 ] -> [ no Background |  ]\n+ [ PlayerB ] -> [  ]\n\nWIncOnDItIoNs\nSome Background ON up1\n===\nLEVELS\n=======\nmessage fin \n\n3eOeeqd3\n33Oed3OO\n3qqeOeqe\n|q33dqqe\n3|dOOqeq\n3qOeed|q\n\n(note)\nmessage Hello\n\ne\n\nmessage  Hello\n\n3de|\n|e|e\ned|3\n\n") (codes "zxQdaddx" ++ ((27 ∷ []) ++ (codes "dds")))
    ≡ Some (codes "= T\n! fin\n# level 1\n3?O??Ad3\n33O?d3OO\n3AA?O?A?\n|A33dAA?\n3|dOOA?A\n3AO??d|A\n\n3??O?Ad3\n33?Od3OO\n3AA??OA?\n|A33dAA?\n3|dOOA?A\n3A?O?d|A\n\n* level 1 done\n! Hello\n# level 2\n?\n\n?\n\n?\n\n?\n\n* end of keys\n")
unfolding chars digits is_utf8 utf8_valid_len encode group program_run all_start_turns all_key_turns turn opening_step
play_019 = refl

play_024 : written (codes "title A  Long Title \nOBJECTS\nGrass\t<\ngreen\n\nSand ^\n#fff\n70245\n15779\n01026\n468.3\n848.2\nPlayer 7\ntransparent\n946.8\n09569\n4665.\n73177\n9.5.7\n\nup1\n#fff\n\nCrate e\nlight-blue 12\naGAIN2\t+\n#fff\n\nWall  j\ntransparent\n\nD\t-\n#fff\n8336.\n35400\n15086\n966.0\n97532\n\nKey  @\ngreen\n\n=========\nLEGEND\n=========\nBackground = Grass or Sand\nP0 = D or again2 or Crate or D\nP1 = Wall or again2 or Player or D\nP2 = P1 or Crate or Crate or Player\nP3 = Player or D or Wall or again2\n_ = up1\nCoLliSIoNlAYerS\n\nGrass Sand\nup1 Player Crate Key D Wall again2\nWINCONDITIONS\n\nSome P3 on Background\nLEVELS\n+<<<<^\n<<7<<<\n<<<7<<\n<<<<<<\n7<<<<<\n<<<<<<\n\nmessage fin \n\nj-\n7j\nj@\n^e\nj7\n77\n\nmessage  x -> y\n\n<<<<\n^<<<\nj@<<\n<<<<\n<<e7\n\nmessage Bye\n") (codes "xwx" ++ ((27 ∷ []) ++ (codes "[Csddws" ++ ((27 ∷ [])))))
    ≡ Some (codes "= A  Long Title\n# level 1\n+<<<<^\n<<7<<<\n<<<7<<\n<<<<<<\n7<<<<<\n<<<<<<\n\n+<<<<^\n<<7<<<\n<<<7<<\n<<<<<<\n7<<<<<\n<<<<<<\n\n* level 1 done\n! fin\n# level 2\njD\n7j\nj@\n^e\nj7\n77\n\njD\n7j\nj@\n^e\nj7\n77\n\n* level 2 done\n! x -> y\n* end of keys\n")
unfolding chars digits is_utf8 utf8_valid_len encode group program_run all_start_turns all_key_turns turn opening_step
play_024 = refl

play_030 : written (codes "title " ++ ((13 ∷ []) ++ (codes "\nOBJECTS" ++ ((13 ∷ []) ++ (codes "\nBackground  7" ++ ((13 ∷ []) ++ (codes "\ntransparent" ++ ((13 ∷ []) ++ (codes "\n" ++ ((13 ∷ []) ++ (codes "\nPlayerA @" ++ ((13 ∷ []) ++ (codes "\nblue" ++ ((13 ∷ []) ++ (codes "\nPlayerB\t!" ++ ((13 ∷ []) ++ (codes "\nblue" ++ ((13 ∷ []) ++ (codes "\n" ++ ((13 ∷ []) ++ (codes "\nWall  +" ++ ((13 ∷ []) ++ (codes "\n#fff" ++ ((13 ∷ []) ++ (codes "\nlegEnD" ++ ((13 ∷ []) ++ (codes "\nPlayer = PlayerA or PlayerB" ++ ((13 ∷ []) ++ (codes "\nP0 = PlayerA or PlayerA or PlayerA" ++ ((13 ∷ []) ++ (codes "\nP1 = Wall or PlayerA" ++ ((13 ∷ []) ++ (codes "\nP2 = Wall Or Wall Or PlayerB" ++ ((13 ∷ []) ++ (codes "\nP3 = Wall or PlayerB" ++ ((13 ∷ []) ++ (codes "\nS0 = Background" ++ ((13 ∷ []) ++ (codes "\n1 = Background" ++ ((13 ∷ []) ++ (codes "\na = P1" ++ ((13 ∷ []) ++ (codes "\nSOUNDS" ++ ((13 ∷ []) ++ (codes "\nsfx0 123" ++ ((13 ∷ []) ++ (codes "\nCrate MOVE 4" ++ ((13 ∷ []) ++ (codes "\nCOlLISIOnlaYERs" ++ ((13 ∷ []) ++ (codes "\nBackground" ++ ((13 ∷ []) ++ (codes "\nPlayerB Wall PlayerA" ++ ((13 ∷ []) ++ (codes "\n==" ++ ((13 ∷ []) ++ (codes "\nRULES" ++ ((13 ∷ []) ++ (codes "\n=========" ++ ((13 ∷ []) ++ (codes "\n" ++ ((13 ∷ []) ++ (codes "\n[ > Player | PlayerA ] -> [ > Player | > PlayerA ]" ++ ((13 ∷ []) ++ (codes "\nlate [ PlayerB no P1 |  ] -> [ PlayerB no P1 |  ]" ++ ((13 ∷ []) ++ (codes "\n" ++ ((13 ∷ []) ++ (codes "\nup [ > PlayerA | perpendicular PlayerB ] -> [  | no 1 Wall ]" ++ ((13 ∷ []) ++ (codes "\n+ [ Background Player ] -> [PlayerA] win" ++ ((13 ∷ []) ++ (codes "\n======" ++ ((13 ∷ []) ++ (codes "\nWINCONDITIONS" ++ ((13 ∷ []) ++ (codes "\n========" ++ ((13 ∷ []) ++ (codes "\nAny P2 on Player" ++ ((13 ∷ []) ++ (codes "\nLEVELS" ++ ((13 ∷ []) ++ (codes "\nmessage  fin " ++ ((13 ∷ []) ++ (codes "\n" ++ ((13 ∷ []) ++ (codes "\n7777777" ++ ((13 ∷ []) ++ (codes "\n@7!7777" ++ ((13 ∷ []) ++ (codes "\n  (note (deep) ) " ++ ((13 ∷ []) ++ (codes "\n7777777" ++ ((13 ∷ []) ++ (codes "\n1!77!77z" ++ ((13 ∷ []) ++ (codes "\n" ++ ((13 ∷ []) ++ (codes "\n"))))))))))))))))))))))))))))))))))))))))))))))))))))))))))))))))))))))))))))))))))))))))))))))))))) (codes "xwdxaxwwddxa")
    ≡ Some (codes "= \n! fin\n# level 1\n7777777\n@7!7777\n7777777\n7!77!77\n\n@7@7777\n?7?7777\n7@77@77\n7?77?77\n\n* level 1 done\n* the end\n")
unfolding chars digits is_utf8 utf8_valid_len encode group program_run all_start_turns all_key_turns turn opening_step
play_030 = refl

play_037 : written (codes "title x (c) y\nOBJECTS\n\nBackground\tu\ngreen\nPlayerA\nlight-blue 12\n14247\n1.042\n( [ A ] -> )\n99205\n419.7\n90920\nPlayerB :\n#fff\n\nGOAL f\ngreen\n84288\n5199.\n26473\n62584\n76428\nC  *\nblue\n\n  (note (deep) ) \ngem\t;\n#fff\n\nD  `\n#fff\n\ncrate\t|\nlight-blue 12\n\n====\nLEGEND\n======\n\nPlayer = PlayerA or PlayerB\nP0 = Gem or Gem\np1 = PlayerA or D\nP2 = Gem or Gem or C\na = cRaTe\nv = PlayerA\nSOUNDS\nsfx0 123\nCrate MOVE 4\nCOLLISIONLAYERS\nBackground\nD, PlayerA, Goal\nCrate, C, PlayerB\nGem\nRULES\n[ > Player | Crate ] -> [ > Player | > Crate ]\n+ [  | Player ] -> [  | Player ] again again\n====\nWINCONDITIONS\n==\n\nSome a on Gem\n===\nLEVELS\n=======\nmessage  x -> y\n\nuuu:uu\n\n") (codes "wzdawdzwxx")
    ≡ Some (codes "= x\n! x -> y\n# level 1\nuuu:uu\n\nuuu:uu\n\n* end of keys\n")
unfolding chars digits is_utf8 utf8_valid_len encode group program_run all_start_turns all_key_turns turn opening_step
play_037 = refl

play_045 : written (codes "title x (c) y\n( [ A ] -> )\nrequire_player_movement\nobJeCts\n\nGrass  ^\nred\n\nSand u\n#fff\n\nPlayer\t; ( -> [ | ] )\nred\n\nWall " ++ ((229 ∷ 173 ∷ 151 ∷ []) ++ (codes "\ngreen\n\nC  *\ngreen\n\nLEGEND\nBackground = Grass or Sand\nP0 = C or Wall\nP1 = C or C\nP2 = P0 Or Player Or Wall\n8 = Player\n4 = C\n  (note (deep) ) \n- = GRass\nSOUNDS\nsfx0 123\nCrate MOVE 4\n=========\nCOLLISIONLAYERS\n=====\nGrass Sand\nWall, C, Player\nRULES\n[ > Player | C ] -> [ > Player | > C ]\nlAtE [ P1 | C ] -> [  |  ]\n[ Background | > - | - Player | Player ] -> [ Background | > - |  | Player ]\nlate [ C Background | - ] -> [  | - ]\nWINCONDITIONS\n\nLEVELS\nmessage x -> y\n\n*\n;\n\n"))) (codes "ddxrzdxwax" ++ ((27 ∷ 27 ∷ [])))
    ≡ Some (codes "= x\n! x -> y\n# level 1\nC\n;\n\nC\n;\n\nC\n;\n\nC\n;\n\nC\n;\n\nC\n;\n\nC\n;\n\nC\n;\n\n* end of keys\n")
unfolding chars digits is_utf8 utf8_valid_len encode group program_run all_start_turns all_key_turns turn opening_step
play_045 = refl

play_046 : written (codes "title \nOBJECTS\n\nBackground\tk\n#fff\nPlayer  ?\nblue\n189..\n33.38\n8333.\n01051\n13329\n\nGhost  1\nblue\n\nCrate c\nblue\n\nLEGEND\n\ni =  Player and Ghost\n===\nSOUNDS\n=====\nsfx0 123\nCrate MOVE 4\nCOLLISIONLAYERS\nBackground\nGhost, Crate\nPlayer\nRULES\n\n[ > Player | Ghost ] -> [ > Player | > Ghost ]\nstartloop\nlate left [ i | i | ... | i | i no Crate ] [ Background ] -> [ i |  | ... |  |  ] [ Background ]\nLAtE [ i ] [  ] -> [ Player ] [  ]\nlate [  | i ] -> [  |  ]\n[ orthogonal i | i ] -> restart again\nright [ perpendicular i |  | Crate ] -> [ perpendicular i |  | right Crate ] message (x) ->  y\nendloop\nWINCONDITIONS\n\nNo Background on Crate\nLEVELS\n\n?\n?\nk\nk\nk\nk\n\nmessage  A (b) c\n\nk?\n\nmessage  A (b) c\n\n1\nk?\n\nmessage Bye") (codes "xw" ++ ((27 ∷ []) ++ (codes "[Z" ++ ((27 ∷ []) ++ (codes "[Ddxxs")))))
    ≡ Some (codes "= \n# level 1\n?\n?\nk\nk\nk\nk\n\n?\n?\nk\nk\nk\nk\n\n* level 1 done\n! A (b) c\n# level 2\nk?\n\nk?\n\n* level 2 done\n! A (b) c\n* end of keys\n")
unfolding chars digits is_utf8 utf8_valid_len encode group program_run all_start_turns all_key_turns turn opening_step
play_046 = refl

play_058 : written (codes "title A  Long Title \nOBJECTS\nbackGround\t4\nblue\nPlayerA\ngreen\nPlayerB\ngreen\n40.40\n536.4\n..828\n68388\n.1236\nB 8\nred\n82090\n73306\n.0473\n47858\n53400\nup1 /\ntransparent\n\nLEGEND\nP1 = PlayerB or up1 or B or PlayerA\nP3 = B or PlayerB\nj = PlayerA\nP0 = up1 or up1 or PlayerB\nPlayer = PlayerA or PlayerB\n- =  up1 and PlayerA and PlayerB\nP2 = PlayerB or up1\nCOLLISIONLAYERS\nBackground\nB\nPlayerB\nPlayerA\nup1\n=========\nRULES\n=========\n[ > Player | PlayerA ] -> [ > Player | > PlayerA ]\ndown [ B ] [ PlayerB | ... | PlayerB ] -> [  ] [ up1 | ... |  ]\nlate [ P2 ] [ PlayerA B |  ] -> [ P2 ] [ PlayerA B |  ] win restart\n[ horizontal P1 ] -> [  ]\nWINCONDITIONS\n\nSome PlayerA on j\nAll P1\nLEVELS\n4-\n/4\n44\n44\n44\n\n") (codes "xd" ++ ((27 ∷ []) ++ (codes "[Bddxxdxz")))
    ≡ Some (codes "= A  Long Title\n# level 1\n4-\n/4\n44\n44\n44\n\n4-\n/4\n44\n44\n44\n\n* level 1 done\n* the end\n")
unfolding chars digits is_utf8 utf8_valid_len encode group program_run all_start_turns all_key_turns turn opening_step
play_058 = refl
