-- Small games as other programs play them, evaluated: written by tools/rows_from_games.
use Rattle.std.proofs.Common.{◌≡◌, [], ◌∷◌, ◌++◌, refl, Some}
use Rattle.std.specs.Prelude.{codes}
use Rattle.std.specs.Str.{chars, is_utf8}
use Rattle.std.specs.Str.Lossy.{utf8_valid_len}
use Rattle.std.specs.Fmt.{digits}
use Rattle.std.proofs.Math.Utf8.{encode}
use Rattle.ps_model.specs.board.Turns.{turn}
use Rattle.ps_model.specs.game.Outputs.{opening_step}
use Rattle.ps_model.specs.board.Programs.{group, program_run}
use Rattle.ps_model.specs.session.StartSteps.{all_start_turns}
use Rattle.ps_model.specs.session.KeySteps.{all_key_turns}
use Rattle.ps_examples.proofs.games.WholeRuns.{written}

play_060 : written (codes "title A  Long Title " ++ ((13 ∷ []) ++ (codes "\nnoaction" ++ ((13 ∷ []) ++ (codes "\nrUN_rULEs_On_levEl_sTARt" ++ ((13 ∷ []) ++ (codes "\n=" ++ ((13 ∷ []) ++ (codes "\nOBJECTS" ++ ((13 ∷ []) ++ (codes "\n=======" ++ ((13 ∷ []) ++ (codes "\n" ++ ((13 ∷ []) ++ (codes "\nBackground  e" ++ ((13 ∷ []) ++ (codes "\ntransparent" ++ ((13 ∷ []) ++ (codes "\n16817" ++ ((13 ∷ []) ++ (codes "\n78984" ++ ((13 ∷ []) ++ (codes "\n7601." ++ ((13 ∷ []) ++ (codes "\n.8934" ++ ((13 ∷ []) ++ (codes "\n73055" ++ ((13 ∷ []) ++ (codes "\n" ++ ((13 ∷ []) ++ (codes "\nPlayer\t'" ++ ((13 ∷ []) ++ (codes "\nlight-blue 12" ++ ((13 ∷ []) ++ (codes "\n66926" ++ ((13 ∷ []) ++ (codes "\n96425" ++ ((13 ∷ []) ++ (codes "\n5.27." ++ ((13 ∷ []) ++ (codes "\n51030" ++ ((13 ∷ []) ++ (codes "\n5.263" ++ ((13 ∷ []) ++ (codes "\nWAteR  k" ++ ((13 ∷ []) ++ (codes "\nlight-blue 12" ++ ((13 ∷ []) ++ (codes "\n" ++ ((13 ∷ []) ++ (codes "\nGoal  t" ++ ((13 ∷ []) ++ (codes "\ngreen" ++ ((13 ∷ []) ++ (codes "\nWAll\t+" ++ ((13 ∷ []) ++ (codes "\ngreen" ++ ((13 ∷ []) ++ (codes "\n08132" ++ ((13 ∷ []) ++ (codes "\n26380" ++ ((13 ∷ []) ++ (codes "\n.2145" ++ ((13 ∷ []) ++ (codes "\n.5416" ++ ((13 ∷ []) ++ (codes "\n28134" ++ ((13 ∷ []) ++ (codes "\nLEGEND" ++ ((13 ∷ []) ++ (codes "\n" ++ ((13 ∷ []) ++ (codes "\n? = Player and Wall" ++ ((13 ∷ []) ++ (codes "\nS0 = Wall" ++ ((13 ∷ []) ++ (codes "\n===" ++ ((13 ∷ []) ++ (codes "\nCOLLISIONLAYERS" ++ ((13 ∷ []) ++ (codes "\n========" ++ ((13 ∷ []) ++ (codes "\nBackground" ++ ((13 ∷ []) ++ (codes "\n(note)" ++ ((13 ∷ []) ++ (codes "\nPlayer" ++ ((13 ∷ []) ++ (codes "\nGoal, Water, Wall" ++ ((13 ∷ []) ++ (codes "\nRULES" ++ ((13 ∷ []) ++ (codes "\n[ > Player | Water ] -> [ > Player | > Water ]" ++ ((13 ∷ []) ++ (codes "\n[  | no S0 ] -> [  |  ] message (x) ->  y" ++ ((13 ∷ []) ++ (codes "\n[ Water right Player | ... | up S0 Player ] -> [ Water Player | ... | > S0 ]" ++ ((13 ∷ []) ++ (codes "\nleft [ S0 | pArALLEl Wall ] -> [  | pArALLEl Wall ]" ++ ((13 ∷ []) ++ (codes "\n+ [ Wall | no S0 Player ] -> [ action Wall | no S0 Player ]" ++ ((13 ∷ []) ++ (codes "\nWINCONDITIONS" ++ ((13 ∷ []) ++ (codes "\nAll Water oN S0" ++ ((13 ∷ []) ++ (codes "\nAll Player on Wall" ++ ((13 ∷ []) ++ (codes "\n=====" ++ ((13 ∷ []) ++ (codes "\nLevELs" ++ ((13 ∷ []) ++ (codes "\n========" ++ ((13 ∷ []) ++ (codes "\n" ++ ((13 ∷ []) ++ (codes "\n''kt" ++ ((13 ∷ []) ++ (codes "\n+ee'" ++ ((13 ∷ []) ++ (codes "\nk'?'" ++ ((13 ∷ []) ++ (codes "\ne+ee" ++ ((13 ∷ []) ++ (codes "\n" ++ ((13 ∷ []) ++ (codes "\nmessage  x -> y" ++ ((13 ∷ []) ++ (codes "\n" ++ ((13 ∷ []) ++ (codes "\n+''k?tke" ++ ((13 ∷ []) ++ (codes "\n'te?ee?+?" ++ ((13 ∷ []) ++ (codes "\n" ++ ((13 ∷ []) ++ (codes "\n"))))))))))))))))))))))))))))))))))))))))))))))))))))))))))))))))))))))))))))))))))))))))))))))))))))))))))))))))))))))))))))))))))))))))) (codes "kdwwdxadkwdd")
    ≡ Some (codes "= A  Long Title\n# level 1\n''kt\n+ee'\nk'?'\ne+ee\n\n! (x) ->  y\n''kt\n+e'e\nk'?e\ne+ee\n\n! (x) ->  y\n* end of keys\n")
unfolding chars digits is_utf8 utf8_valid_len encode group program_run all_start_turns all_key_turns turn opening_step
play_060 = refl

play_066 : written (codes "title x (c) y\nauthor Me (you)\nnoaction\nrequire_player_movement\nOBJECTS\n\nBackground\nred\nplAyeR\t8\nlight-blue 12\n\nGhost\ntransparent\nGem\t" ++ ((195 ∷ 169 ∷ []) ++ (codes "\n#fff\n82861\n39197\n02.42\n68925\n00325\n\n=\nLEGEND\n=====\nP0 = Player OR Ghost\nS0 = Background\n( [ A ] -> )\nS1 = Ghost\n9 = P0\n^ = Background\n===\nCollISIonLaYers\n=\nBackground\nPlayer Gem Ghost\n========\nRULES\n====\n[ > Player | Ghost ] -> [ > Player | > Ghost ]\nWINCONDITIONS\nsOme 9\nSoME S1\nLeVelS\n\nmessage  A (b) c\n\n" ++ ((195 ∷ 169 ∷ []) ++ (codes "8^" ++ ((195 ∷ 169 ∷ 195 ∷ 169 ∷ []) ++ (codes "88" ++ ((195 ∷ 169 ∷ []) ++ (codes "\n" ++ ((195 ∷ 169 ∷ []) ++ (codes "888^" ++ ((195 ∷ 169 ∷ 195 ∷ 169 ∷ []) ++ (codes "8\n" ++ ((195 ∷ 169 ∷ 195 ∷ 169 ∷ []) ++ (codes "^" ++ ((195 ∷ 169 ∷ 195 ∷ 169 ∷ []) ++ (codes "88" ++ ((195 ∷ 169 ∷ []) ++ (codes "\n" ++ ((195 ∷ 169 ∷ 195 ∷ 169 ∷ []) ++ (codes "8^^^" ++ ((195 ∷ 169 ∷ []) ++ (codes "^\n\n" ++ ((195 ∷ 169 ∷ []) ++ (codes "8^888\n\n"))))))))))))))))))))))))) (codes "wxs" ++ ((27 ∷ 27 ∷ []) ++ (codes "[Czx" ++ ((27 ∷ []) ++ (codes "[1")))))
    ≡ Some (codes "= x\n! A (b) c\n# level 1\n" ++ ((195 ∷ 169 ∷ []) ++ (codes "8^" ++ ((195 ∷ 169 ∷ 195 ∷ 169 ∷ []) ++ (codes "88" ++ ((195 ∷ 169 ∷ []) ++ (codes "\n" ++ ((195 ∷ 169 ∷ []) ++ (codes "888^" ++ ((195 ∷ 169 ∷ 195 ∷ 169 ∷ []) ++ (codes "8\n" ++ ((195 ∷ 169 ∷ 195 ∷ 169 ∷ []) ++ (codes "^" ++ ((195 ∷ 169 ∷ 195 ∷ 169 ∷ []) ++ (codes "88" ++ ((195 ∷ 169 ∷ []) ++ (codes "\n" ++ ((195 ∷ 169 ∷ 195 ∷ 169 ∷ []) ++ (codes "8^^^" ++ ((195 ∷ 169 ∷ []) ++ (codes "^\n\n" ++ ((195 ∷ 169 ∷ []) ++ (codes "8^" ++ ((195 ∷ 169 ∷ 195 ∷ 169 ∷ []) ++ (codes "88" ++ ((195 ∷ 169 ∷ []) ++ (codes "\n" ++ ((195 ∷ 169 ∷ []) ++ (codes "8^8^" ++ ((195 ∷ 169 ∷ 195 ∷ 169 ∷ []) ++ (codes "8\n" ++ ((195 ∷ 169 ∷ 195 ∷ 169 ∷ []) ++ (codes "8" ++ ((195 ∷ 169 ∷ 195 ∷ 169 ∷ []) ++ (codes "^8" ++ ((195 ∷ 169 ∷ []) ++ (codes "\n" ++ ((195 ∷ 169 ∷ 195 ∷ 169 ∷ []) ++ (codes "8^^8" ++ ((195 ∷ 169 ∷ []) ++ (codes "^\n\n" ++ ((195 ∷ 169 ∷ []) ++ (codes "^8" ++ ((195 ∷ 169 ∷ 195 ∷ 169 ∷ []) ++ (codes "88" ++ ((195 ∷ 169 ∷ []) ++ (codes "\n" ++ ((195 ∷ 169 ∷ []) ++ (codes "^8^8" ++ ((195 ∷ 169 ∷ 195 ∷ 169 ∷ []) ++ (codes "8\n" ++ ((195 ∷ 169 ∷ 195 ∷ 169 ∷ []) ++ (codes "8" ++ ((195 ∷ 169 ∷ 195 ∷ 169 ∷ []) ++ (codes "^8" ++ ((195 ∷ 169 ∷ []) ++ (codes "\n" ++ ((195 ∷ 169 ∷ 195 ∷ 169 ∷ []) ++ (codes "^8^8" ++ ((195 ∷ 169 ∷ []) ++ (codes "^\n\n" ++ ((195 ∷ 169 ∷ []) ++ (codes "8^" ++ ((195 ∷ 169 ∷ 195 ∷ 169 ∷ []) ++ (codes "88" ++ ((195 ∷ 169 ∷ []) ++ (codes "\n" ++ ((195 ∷ 169 ∷ []) ++ (codes "8^8^" ++ ((195 ∷ 169 ∷ 195 ∷ 169 ∷ []) ++ (codes "8\n" ++ ((195 ∷ 169 ∷ 195 ∷ 169 ∷ []) ++ (codes "8" ++ ((195 ∷ 169 ∷ 195 ∷ 169 ∷ []) ++ (codes "^8" ++ ((195 ∷ 169 ∷ []) ++ (codes "\n" ++ ((195 ∷ 169 ∷ 195 ∷ 169 ∷ []) ++ (codes "8^^8" ++ ((195 ∷ 169 ∷ []) ++ (codes "^\n\n* end of keys\n")))))))))))))))))))))))))))))))))))))))))))))))))))))))))))))))))))))))))))))))))
unfolding chars digits is_utf8 utf8_valid_len encode group program_run all_start_turns all_key_turns turn opening_step
play_066 = refl

play_070 : written (codes "title A  Long Title \nNorestArT\n=====\nobjeCTs\n=\n\nBackground\t:\nred\nPlayer  ~\ngreen\n97069\n95.01\n70794\n34603\n.2..2\n\nagain2\td\nlight-blue 12\n96051\n.8911\n.8056\n47426\n09955\n\ncraTE  >\nlight-blue 12\n\nA 7\ngreen\n\nGem i ( )\nred\n\nLEGEND\nP0 = again2 Or again2\np1 = P0 or Gem or Gem or Gem\nP2 = again2 or again2 or A\nP3 = Crate or Gem or Player\nG0=Gem and Player\n\" = Player and again2 and A\n=========\nCOLLISIONLAYERS\n=\nBackground\nPlayer\nCrate, again2\nGem\nA\nRULES\nLEVELS\n\nmessage  A (b) c\n\n\"::\n~~~\n\n") (codes "sdxasdaad" ++ ((27 ∷ []) ++ (codes "[1")))
    ≡ Some (codes "= A  Long Title\n! A (b) c\n# level 1\n\"::\n~~~\n\n\"::\n~~~\n\n\"::\n~~~\n\nA~:\n~~~\n\n\"::\n~~~\n\n\"::\n~~~\n\nA~:\n~~~\n\n* end of keys\n")
unfolding chars digits is_utf8 utf8_valid_len encode group program_run all_start_turns all_key_turns turn opening_step
play_070 = refl

play_073 : written (codes "title x (c) y\nnoaction\n=======\nOBJECTS\n====\nBackground  \"\n#fff\n\nPlayer ^\ntransparent\n3.997\n6.527\n..456\n11275\n5131.\nB  |\nred\n\nD\t9\n#fff\nA\t`\nblue\n\nGOaL 8\n#fff\n\nC  7\nlight-blue 12\n\n========\nLEGEND\n====\nP0 = Player or Player\nS0 = C\nS1 = Goal\n=========\nCOLLISIONLAYERS\n========\nBackground\nD\nA\nC\nPlayer,Goal,B\nRULES\n\n[ v Player | D right Player ] -> [  | D Player ]\nlate DOWn [ S1 ] -> [  ] checkpoint win\n[ horizontal P0 | Player | >Player riGHT S0 ] -> [ no C | Player | >Player riGHT S0 ]\nWINCONDITIONS\nSome B\nAny P0 on P0\nLEVELS\nmessage fin \n\n\"^\"\n^|8\n\"89\n`^`\n") (codes "aadddxadasda")
    ≡ Some (codes "= x\n! fin\n# level 1\n\"^\"\n^B8\n\"8D\nA^A\n\n^\"\"\n^B\"\n\"\"D\n^\"A\n\n* level 1 done\n* the end\n")
unfolding chars digits is_utf8 utf8_valid_len encode group program_run all_start_turns all_key_turns turn opening_step
play_073 = refl

play_074 : written (codes "title A  Long Title " ++ ((13 ∷ []) ++ (codes "\nrun_rules_on_level_start" ++ ((13 ∷ []) ++ (codes "\nOBJECTS" ++ ((13 ∷ []) ++ (codes "\nBackground +" ++ ((13 ∷ []) ++ (codes "\n#fff" ++ ((13 ∷ []) ++ (codes "\nPlayer\tu" ++ ((13 ∷ []) ++ (codes "\ntransparent" ++ ((13 ∷ []) ++ (codes "\n09203" ++ ((13 ∷ []) ++ (codes "\n36926" ++ ((13 ∷ []) ++ (codes "\n29317" ++ ((13 ∷ []) ++ (codes "\n92877" ++ ((13 ∷ []) ++ (codes "\n59073" ++ ((13 ∷ []) ++ (codes "\n" ++ ((13 ∷ []) ++ (codes "\nD\tn" ++ ((13 ∷ []) ++ (codes "\nred" ++ ((13 ∷ []) ++ (codes "\n" ++ ((13 ∷ []) ++ (codes "\nB v" ++ ((13 ∷ []) ++ (codes "\nblue" ++ ((13 ∷ []) ++ (codes "\nagain2" ++ ((13 ∷ []) ++ (codes "\nblue" ++ ((13 ∷ []) ++ (codes "\n" ++ ((13 ∷ []) ++ (codes "\nCrate 8" ++ ((13 ∷ []) ++ (codes "\nlight-blue 12" ++ ((13 ∷ []) ++ (codes "\n" ++ ((13 ∷ []) ++ (codes "\nLEGEND" ++ ((13 ∷ []) ++ (codes "\n" ++ ((13 ∷ []) ++ (codes "\nP0 = B or Player or Player" ++ ((13 ∷ []) ++ (codes "\nP1 = P0 or B or again2" ++ ((13 ∷ []) ++ (codes "\nP2 = D or D or D" ++ ((13 ∷ []) ++ (codes "\nG0 = D and Player and Crate" ++ ((13 ∷ []) ++ (codes "\nS0 = B" ++ ((13 ∷ []) ++ (codes "\nS1 = P2" ++ ((13 ∷ []) ++ (codes "\n9 = G0" ++ ((13 ∷ []) ++ (codes "\nt = again2" ++ ((13 ∷ []) ++ (codes "\nCOLLISIONLAYERS" ++ ((13 ∷ []) ++ (codes "\nBackground" ++ ((13 ∷ []) ++ (codes "\nD,B,again2" ++ ((13 ∷ []) ++ (codes "\nPlayer" ++ ((13 ∷ []) ++ (codes "\nCrate" ++ ((13 ∷ []) ++ (codes "\nRULES" ++ ((13 ∷ []) ++ (codes "\nstartloop" ++ ((13 ∷ []) ++ (codes "\n[ Crate | no again2 ] -> [ Crate | no again2 ] restart cancel" ++ ((13 ∷ []) ++ (codes "\northogonal [ again2 | moving again2 ] -> [ < again2 |  ] message Hi there" ++ ((13 ∷ []) ++ (codes "\nlate [  | Player ] -> [  | Player ]" ++ ((13 ∷ []) ++ (codes "\nendloop" ++ ((13 ∷ []) ++ (codes "\n===" ++ ((13 ∷ []) ++ (codes "\nWINCONDITIONS" ++ ((13 ∷ []) ++ (codes "\n=========" ++ ((13 ∷ []) ++ (codes "\nLEVELS" ++ ((13 ∷ []) ++ (codes "\n" ++ ((13 ∷ []) ++ (codes "\nuv" ++ ((13 ∷ []) ++ (codes "\n" ++ ((13 ∷ []) ++ (codes "\n++98+" ++ ((13 ∷ []) ++ (codes "\n+tut8" ++ ((13 ∷ []) ++ (codes "\nn+++9" ++ ((13 ∷ []) ++ (codes "\n" ++ ((13 ∷ []) ++ (codes "\n9++++uu" ++ ((13 ∷ []) ++ (codes "\n+++n9n9" ++ ((13 ∷ []) ++ (codes "\nt+vnn+u" ++ ((13 ∷ []) ++ (codes "\n+++unt+" ++ ((13 ∷ []) ++ (codes "\nn++++++" ++ ((13 ∷ []) ++ (codes "\n+uuv++vz" ++ ((13 ∷ []) ++ (codes "\n" ++ ((13 ∷ []) ++ (codes "\nmessage Bye" ++ ((13 ∷ []) ++ (codes "\n"))))))))))))))))))))))))))))))))))))))))))))))))))))))))))))))))))))))))))))))))))))))))))))))))))))))))))))))))))))))))))))))))) (codes "azzdzxsxwxds")
    ≡ Some (codes "= A  Long Title\n# level 1\nuB\n\nuB\n\nuB\n\nuB\n\n+u\n\nuB\n\nuB\n\nuB\n\nuB\n\nuB\n\nuB\n\n+u\n\n+u\n\n* end of keys\n")
unfolding chars digits is_utf8 utf8_valid_len encode group program_run all_start_turns all_key_turns turn opening_step
play_074 = refl

play_075 : written (codes "author Me (you)\nnoaction\nnorestart\nOBJECTS\n\nBackground  @\n#fff\n3..30\n07954\n42450\n46703\n334.7\n\nPlayer  +\n#fff\nagain2 v\nlight-blue 12\n\nup1\t~\nred\n\nKey\ntransparent\nWall 3\ngreen\n72806\n6.703\n32048\n8.270\n60366\n\nv2\t_\nred\n\n=\nlEGend\n===\nG0 =Key and v2\nP1 = Wall OR Player\nP0 = Player or Player or Player or Key\n===\nCOLLISIONLAYERS\n====\n( [ A ] -> )\n\nBackground\nKey\nWall again2 up1 Player v2\n======\nWINCONDITIONS\n=\nNo Key oN Player\nLEVELS\n~@@+3v@\n3~@@@@_\n") (codes "d" ++ ((27 ∷ []) ++ (codes "[Zx" ++ ((27 ∷ []) ++ (codes "[Addds")))))
    ≡ Some (codes "= \n# level 1\n~@@+3v@\n3~@@@@_\n\n~@@+3v@\n3~@@@@_\n\n* level 1 done\n* the end\n")
unfolding chars digits is_utf8 utf8_valid_len encode group program_run all_start_turns all_key_turns turn opening_step
play_075 = refl

play_077 : written (codes "title T" ++ ((13 ∷ []) ++ (codes "\nnoaction" ++ ((13 ∷ []) ++ (codes "\nrequire_player_movement" ++ ((13 ∷ []) ++ (codes "\nOBJECTS" ++ ((13 ∷ []) ++ (codes "\nGrass  j" ++ ((13 ∷ []) ++ (codes "\nblue" ++ ((13 ∷ []) ++ (codes "\n66690" ++ ((13 ∷ []) ++ (codes "\n9.028" ++ ((13 ∷ []) ++ (codes "\n967.8" ++ ((13 ∷ []) ++ (codes "\n36430" ++ ((13 ∷ []) ++ (codes "\n26.06" ++ ((13 ∷ []) ++ (codes "\n" ++ ((13 ∷ []) ++ (codes "\nSand\t_" ++ ((13 ∷ []) ++ (codes "\ngreen" ++ ((13 ∷ []) ++ (codes "\n" ++ ((13 ∷ []) ++ (codes "\nPlayer  /" ++ ((13 ∷ []) ++ (codes "\nblue" ++ ((13 ∷ []) ++ (codes "\n81449" ++ ((13 ∷ []) ++ (codes "\n5.913" ++ ((13 ∷ []) ++ (codes "\n11251" ++ ((13 ∷ []) ++ (codes "\n6772." ++ ((13 ∷ []) ++ (codes "\n778.8" ++ ((13 ∷ []) ++ (codes "\nWater" ++ ((13 ∷ []) ++ (codes "\nblue" ++ ((13 ∷ []) ++ (codes "\n32818" ++ ((13 ∷ []) ++ (codes "\n01353" ++ ((13 ∷ []) ++ (codes "\n33222" ++ ((13 ∷ []) ++ (codes "\n.2105" ++ ((13 ∷ []) ++ (codes "\n2145." ++ ((13 ∷ []) ++ (codes "\n" ++ ((13 ∷ []) ++ (codes "\nC" ++ ((13 ∷ []) ++ (codes "\ntransparent" ++ ((13 ∷ []) ++ (codes "\n" ++ ((13 ∷ []) ++ (codes "\n======" ++ ((13 ∷ []) ++ (codes "\nLEGEND" ++ ((13 ∷ []) ++ (codes "\n=====" ++ ((13 ∷ []) ++ (codes "\nBackground = Grass or Sand" ++ ((13 ∷ []) ++ (codes "\nP0 = Player or Water" ++ ((13 ∷ []) ++ (codes "\nP1 = P0 or Player or Player" ++ ((13 ∷ []) ++ (codes "\nG0 = Water and Player" ++ ((13 ∷ []) ++ (codes "\n: =  Player and C" ++ ((13 ∷ []) ++ (codes "\nS0 = Background" ++ ((13 ∷ []) ++ (codes "\n~ = Water" ++ ((13 ∷ []) ++ (codes "\ne = P1" ++ ((13 ∷ []) ++ (codes "\n4 = C" ++ ((13 ∷ []) ++ (codes "\nSOUNDS" ++ ((13 ∷ []) ++ (codes "\n" ++ ((13 ∷ []) ++ (codes "\nsfx0 123" ++ ((13 ∷ []) ++ (codes "\nCrate MOVE 4" ++ ((13 ∷ []) ++ (codes "\nCOLLISIONLAYERS" ++ ((13 ∷ []) ++ (codes "\n" ++ ((13 ∷ []) ++ (codes "\nGrass Sand" ++ ((13 ∷ []) ++ (codes "\nPlayer" ++ ((13 ∷ []) ++ (codes "\nC" ++ ((13 ∷ []) ++ (codes "\n(note)" ++ ((13 ∷ []) ++ (codes "\nWater" ++ ((13 ∷ []) ++ (codes "\nRUleS" ++ ((13 ∷ []) ++ (codes "\n[ > Player | Water ] -> [ > Player | > Water ]" ++ ((13 ∷ []) ++ (codes "\nlate [P0|P0 C|Background] [ no Player | Background ] [Player S0 no Water] -> [ P0 |  |  ] [  |  ] [] win restart" ++ ((13 ∷ []) ++ (codes "\n=====" ++ ((13 ∷ []) ++ (codes "\nWINCONDITIONS" ++ ((13 ∷ []) ++ (codes "\n=========" ++ ((13 ∷ []) ++ (codes "\nLEVELS" ++ ((13 ∷ []) ++ (codes "\nmessage Hello" ++ ((13 ∷ []) ++ (codes "\n" ++ ((13 ∷ []) ++ (codes "\n/" ++ ((13 ∷ []) ++ (codes "\nj" ++ ((13 ∷ []) ++ (codes "\nj" ++ ((13 ∷ []) ++ (codes "\n/" ++ ((13 ∷ []) ++ (codes "\n" ++ ((13 ∷ []) ++ (codes "\nmessage  fin " ++ ((13 ∷ []) ++ (codes "\n" ++ ((13 ∷ []) ++ (codes "\n/_jjj" ++ ((13 ∷ []) ++ (codes "\njj" ++ ((13 ∷ []) ++ (codes "\n:_/jj" ++ ((13 ∷ []) ++ (codes "\n_::jj" ++ ((13 ∷ []) ++ (codes "\n4///:" ++ ((13 ∷ []) ++ (codes "\njjjj_z" ++ ((13 ∷ []) ++ (codes "\n" ++ ((13 ∷ []) ++ (codes "\nmessage  fin " ++ ((13 ∷ []) ++ (codes "\n" ++ ((13 ∷ []) ++ (codes "\njjjj44j" ++ ((13 ∷ []) ++ (codes "\n::_~/jj" ++ ((13 ∷ []) ++ (codes "\njjjj~/j" ++ ((13 ∷ []) ++ (codes "\njjjj:j_" ++ ((13 ∷ []) ++ (codes "\n" ++ ((13 ∷ []) ++ (codes "\n"))))))))))))))))))))))))))))))))))))))))))))))))))))))))))))))))))))))))))))))))))))))))))))))))))))))))))))))))))))))))))))))))))))))))))))))))))))))))))))))))))))))))))))) (codes "xdd" ++ ((27 ∷ []) ++ (codes "[A" ++ ((27 ∷ []) ++ (codes "[Zwxd")))))
    ≡ Some (codes "= T\n! Hello\n# level 1\n/\nj\nj\n/\n\n/\nj\nj\n/\n\n/\nj\nj\n/\n\n/\nj\n/\nj\n\n/\n/\nj\nj\n\n/\n/\nj\nj\n\n* end of keys\n")
unfolding chars digits is_utf8 utf8_valid_len encode group program_run all_start_turns all_key_turns turn opening_step
play_077 = refl

play_084 : written (codes "title x (c) y\nOBJECTS\nBackground\t6 (message hi)\ntransparent\nPlayer  /\nlight-blue 12\nup1  a\n#fff\n80987\n.2252\n1515.\n48109\n11152\n\nD\t`\nred\n\nC\t!\nred\n\nWater\ngreen\n\nWall\t|\n#fff\n\nagain2 O\ntransparent\n.3908\n79522\n150.3\n67395\n02949\nLEGEND\n? = Water\nq = Background\nS2 = up1\nCOLLISIONLAYERS\nBackground\nC, Water, up1, D, again2, Wall, Player\nRULES\n[q Wall] -> [  ]\n+ [ Wall | horizontal C | ... | ^Background | perpendicular ? no Player ] -> [  |  | ... | ^Background | no Player ]\n+ ORTHogoNAL [ VerTiCAL ? ] -> [  ]\nWINCONDITIONS\nLEVELS\n/q\na6\n6/\n\n") (codes "sQkd" ++ ((27 ∷ []) ++ (codes "[1;5Cdd")))
    ≡ Some (codes "= x\n# level 1\n/6\na6\n6/\n\n/6\na6\n6/\n\n6/\na6\n6/\n\n6/\na6\n6/\n\n6/\na6\n6/\n\n* end of keys\n")
unfolding chars digits is_utf8 utf8_valid_len encode group program_run all_start_turns all_key_turns turn opening_step
play_084 = refl

play_088 : written (codes "author Me (you)\nnorestart\nrun_rules_on_level_start\nOBJECTS\ngrAsS\ngreen\n.8655\n72122\n06285\n12694\n1.551\nSand 0\ntransparent\n\nPlayer O\ntransparent\n743.2\n75686\n58599\n15.65\n10549\nGem b\nblue\n\nleGend\nBackground = Grass or Sand\nP2 = Gem or Gem\nP1 = Gem oR Gem\nP0 = Player or Gem\nCOLLISIONLAYERS\n\nGrass Sand\nPlayer\nGem\nRULES\n[ > Player | Player ] -> [ > Player | > Player ]\nWINCONDITIONS\nNo Grass\nAll Sand on P0\nLEVELS\nb0O0\nOO0O\nbbbO\nObb0\nbbb0\n0ObO\n\n0OO00\n00OOO\nb0OO0\n0OO0b\n\n") (codes "xx" ++ ((27 ∷ []) ++ (codes "[1;5Cxazd")))
    ≡ Some (codes "= \n# level 1\nb0O0\nOO0O\nbbbO\nObb0\nbbb0\n0ObO\n\nb0O0\nOO0O\nbbbO\nObb0\nbbb0\n0ObO\n\nb0O0\nOO0O\nbbbO\nObb0\nbbb0\n0ObO\n\nb0O0\nOO0O\nbbbO\nObb0\nbbb0\n0ObO\n\nbO00\nOOO0\nbbb0\nObb0\nbbb0\nO0b0\n\nb0O0\nOO0O\nbbbO\nObb0\nbbb0\n0ObO\n\nb00O\n0OOO\nbbbO\n0bb0\nbbb0\n00bO\n\n* end of keys\n")
unfolding chars digits is_utf8 utf8_valid_len encode group program_run all_start_turns all_key_turns turn opening_step
play_088 = refl

play_089 : written (codes "title T\n====\nOBJECTS\n=\n\nbaCkgRoUnd /\nred\n.2264\n45835\n7334.\n52570\n10343\nPlayer\t" ++ ((195 ∷ 169 ∷ []) ++ (codes "\n#fff\nB n\nblue\nagain2 |\nblue\n\nKey _\nred\nWall @\ngreen\nLEGEND\nj = Key and again2\nm = B\nCOLLISIONLAYERS\nBackground\nB, Key\nWall again2 Player\nRULES\n(note)\n[ Player | ... | again2 Key ] -> [ right Player | ... | m ] again cancel\n\n[  | moving B ] -> [  | m ]\nlate [ Player B ] -> SFX10\nlate [ Player no again2 Key | m | no Key ] -> [ Player no again2 Key |  | m ] restart\n\nhorizontal [ no B | v m stationary Player ] [ j | B | B ] -> [ no B | ^ m Player ] [  | right B | v j ]\n=====\nWINCONDITIONS\n======\n\nNo Player\nlevEls\n" ++ ((195 ∷ 169 ∷ []) ++ (codes "//////\n///////\n\n//j@j///\n" ++ ((195 ∷ 169 ∷ []) ++ (codes "//m//|/\nj////n@/\nmn" ++ ((195 ∷ 169 ∷ []) ++ (codes "/_//n\n//_//m_" ++ ((195 ∷ 169 ∷ []) ++ (codes "?\n\nmessage Bye\n"))))))))))) (codes "wwxqxqxdwdrd")
    ≡ Some (codes "= T\n# level 1\n" ++ ((195 ∷ 169 ∷ []) ++ (codes "//////\n///////\n\n" ++ ((195 ∷ 169 ∷ []) ++ (codes "//////\n///////\n\n" ++ ((195 ∷ 169 ∷ []) ++ (codes "//////\n///////\n\n" ++ ((195 ∷ 169 ∷ []) ++ (codes "//////\n///////\n\n* quit\n")))))))))
unfolding chars digits is_utf8 utf8_valid_len encode group program_run all_start_turns all_key_turns turn opening_step
play_089 = refl

play_098 : written ((239 ∷ 187 ∷ 191 ∷ []) ++ (codes "title A  Long Title \nrequire_player_movement\nOBJECTS\nBackground  " ++ ((195 ∷ 169 ∷ []) ++ (codes "\n#fff\n\nPlayer 6\n#fff\n\nD\n#fff\n33135\n.2336\n19965\n95787\n09089\n\nGem g\ngreen\n44359\n6..9.\n65466\n1.152\n77592\n\nWall\nlight-blue 12\n\nv2  i (c)\ntransparent\n43574\n4234.\n51007\n06132\n.8209\nKey  ;\nlight-blue 12\n5875.\n84373\n44210\n15970\n31.56\n\nagain2\t7 (message hi)\nred\n.0483\n38392\n66126\n11443\n28697\n\n=\nLEGEND\n=====\nv = D\nt = Wall\nCOLLISIONLAYERS\n\nBackground\nPlayer\nv2\nagain2 Key\nGem, D, Wall\nRULES\n[ > Player | v2 ] -> [ > Player | > v2 ]\n+ [Key|Gem] -> [ action Key | Gem ]\nWINCONDITIONS\nAny Key on t\n========\nLEVELS\n==\nmessage  fin \n\n" ++ ((195 ∷ 169 ∷ 195 ∷ 169 ∷ []) ++ (codes "i\n" ++ ((195 ∷ 169 ∷ 195 ∷ 169 ∷ 195 ∷ 169 ∷ []) ++ (codes "\n6" ++ ((195 ∷ 169 ∷ 195 ∷ 169 ∷ []) ++ (codes "\n" ++ ((195 ∷ 169 ∷ 195 ∷ 169 ∷ 195 ∷ 169 ∷ []) ++ (codes "\nv" ++ ((195 ∷ 169 ∷ []) ++ (codes "6\n\n")))))))))))))) (codes "zxzxddxdwwzx")
    ≡ Some (codes "= A  Long Title\n! fin\n# level 1\n" ++ ((195 ∷ 169 ∷ 195 ∷ 169 ∷ []) ++ (codes "i\n" ++ ((195 ∷ 169 ∷ 195 ∷ 169 ∷ 195 ∷ 169 ∷ []) ++ (codes "\n6" ++ ((195 ∷ 169 ∷ 195 ∷ 169 ∷ []) ++ (codes "\n" ++ ((195 ∷ 169 ∷ 195 ∷ 169 ∷ 195 ∷ 169 ∷ []) ++ (codes "\nD" ++ ((195 ∷ 169 ∷ []) ++ (codes "6\n\n" ++ ((195 ∷ 169 ∷ 195 ∷ 169 ∷ []) ++ (codes "i\n" ++ ((195 ∷ 169 ∷ 195 ∷ 169 ∷ 195 ∷ 169 ∷ []) ++ (codes "\n6" ++ ((195 ∷ 169 ∷ 195 ∷ 169 ∷ []) ++ (codes "\n" ++ ((195 ∷ 169 ∷ 195 ∷ 169 ∷ 195 ∷ 169 ∷ []) ++ (codes "\nD" ++ ((195 ∷ 169 ∷ []) ++ (codes "6\n\n" ++ ((195 ∷ 169 ∷ 195 ∷ 169 ∷ []) ++ (codes "i\n" ++ ((195 ∷ 169 ∷ 195 ∷ 169 ∷ 195 ∷ 169 ∷ []) ++ (codes "\n6" ++ ((195 ∷ 169 ∷ 195 ∷ 169 ∷ []) ++ (codes "\n" ++ ((195 ∷ 169 ∷ 195 ∷ 169 ∷ 195 ∷ 169 ∷ []) ++ (codes "\nD" ++ ((195 ∷ 169 ∷ []) ++ (codes "6\n\n" ++ ((195 ∷ 169 ∷ 195 ∷ 169 ∷ []) ++ (codes "i\n" ++ ((195 ∷ 169 ∷ 195 ∷ 169 ∷ 195 ∷ 169 ∷ []) ++ (codes "\n" ++ ((195 ∷ 169 ∷ []) ++ (codes "6" ++ ((195 ∷ 169 ∷ []) ++ (codes "\n" ++ ((195 ∷ 169 ∷ 195 ∷ 169 ∷ 195 ∷ 169 ∷ []) ++ (codes "\nD" ++ ((195 ∷ 169 ∷ []) ++ (codes "6\n\n" ++ ((195 ∷ 169 ∷ 195 ∷ 169 ∷ []) ++ (codes "i\n" ++ ((195 ∷ 169 ∷ 195 ∷ 169 ∷ 195 ∷ 169 ∷ []) ++ (codes "\n" ++ ((195 ∷ 169 ∷ 195 ∷ 169 ∷ []) ++ (codes "6\n" ++ ((195 ∷ 169 ∷ 195 ∷ 169 ∷ 195 ∷ 169 ∷ []) ++ (codes "\nD" ++ ((195 ∷ 169 ∷ []) ++ (codes "6\n\n" ++ ((195 ∷ 169 ∷ 195 ∷ 169 ∷ []) ++ (codes "i\n" ++ ((195 ∷ 169 ∷ 195 ∷ 169 ∷ 195 ∷ 169 ∷ []) ++ (codes "\n" ++ ((195 ∷ 169 ∷ 195 ∷ 169 ∷ []) ++ (codes "6\n" ++ ((195 ∷ 169 ∷ 195 ∷ 169 ∷ 195 ∷ 169 ∷ []) ++ (codes "\nD" ++ ((195 ∷ 169 ∷ []) ++ (codes "6\n\n" ++ ((195 ∷ 169 ∷ 195 ∷ 169 ∷ []) ++ (codes "i\n" ++ ((195 ∷ 169 ∷ 195 ∷ 169 ∷ 195 ∷ 169 ∷ []) ++ (codes "\n" ++ ((195 ∷ 169 ∷ 195 ∷ 169 ∷ []) ++ (codes "6\n" ++ ((195 ∷ 169 ∷ 195 ∷ 169 ∷ 195 ∷ 169 ∷ []) ++ (codes "\nD" ++ ((195 ∷ 169 ∷ []) ++ (codes "6\n\n" ++ ((195 ∷ 169 ∷ 195 ∷ 169 ∷ []) ++ (codes "i\n" ++ ((195 ∷ 169 ∷ 195 ∷ 169 ∷ []) ++ (codes "6\n" ++ ((195 ∷ 169 ∷ 195 ∷ 169 ∷ 195 ∷ 169 ∷ []) ++ (codes "\n" ++ ((195 ∷ 169 ∷ 195 ∷ 169 ∷ []) ++ (codes "6\nD" ++ ((195 ∷ 169 ∷ 195 ∷ 169 ∷ []) ++ (codes "\n\n" ++ ((195 ∷ 169 ∷ 195 ∷ 169 ∷ []) ++ (codes "i\n" ++ ((195 ∷ 169 ∷ 195 ∷ 169 ∷ 195 ∷ 169 ∷ []) ++ (codes "\n" ++ ((195 ∷ 169 ∷ 195 ∷ 169 ∷ []) ++ (codes "6\n" ++ ((195 ∷ 169 ∷ 195 ∷ 169 ∷ 195 ∷ 169 ∷ []) ++ (codes "\nD" ++ ((195 ∷ 169 ∷ 195 ∷ 169 ∷ []) ++ (codes "\n\n" ++ ((195 ∷ 169 ∷ 195 ∷ 169 ∷ []) ++ (codes "i\n" ++ ((195 ∷ 169 ∷ 195 ∷ 169 ∷ []) ++ (codes "6\n" ++ ((195 ∷ 169 ∷ 195 ∷ 169 ∷ 195 ∷ 169 ∷ []) ++ (codes "\n" ++ ((195 ∷ 169 ∷ 195 ∷ 169 ∷ []) ++ (codes "6\nD" ++ ((195 ∷ 169 ∷ 195 ∷ 169 ∷ []) ++ (codes "\n\n" ++ ((195 ∷ 169 ∷ 195 ∷ 169 ∷ []) ++ (codes "i\n" ++ ((195 ∷ 169 ∷ 195 ∷ 169 ∷ []) ++ (codes "6\n" ++ ((195 ∷ 169 ∷ 195 ∷ 169 ∷ 195 ∷ 169 ∷ []) ++ (codes "\n" ++ ((195 ∷ 169 ∷ 195 ∷ 169 ∷ []) ++ (codes "6\nD" ++ ((195 ∷ 169 ∷ 195 ∷ 169 ∷ []) ++ (codes "\n\n* end of keys\n")))))))))))))))))))))))))))))))))))))))))))))))))))))))))))))))))))))))))))))))))))))))))))))))))))))))))))))))))
unfolding chars digits is_utf8 utf8_valid_len encode group program_run all_start_turns all_key_turns turn opening_step
play_098 = refl

play_100 : written (codes "noaction" ++ ((13 ∷ []) ++ (codes "\nnoundo" ++ ((13 ∷ []) ++ (codes "\nrequire_player_movement" ++ ((13 ∷ []) ++ (codes "\nOBJECTS" ++ ((13 ∷ []) ++ (codes "\n" ++ ((13 ∷ []) ++ (codes "\nbaCkgRouNd e" ++ ((13 ∷ []) ++ (codes "\nblue" ++ ((13 ∷ []) ++ (codes "\n87807" ++ ((13 ∷ []) ++ (codes "\n32401" ++ ((13 ∷ []) ++ (codes "\n08748" ++ ((13 ∷ []) ++ (codes "\n71297" ++ ((13 ∷ []) ++ (codes "\n0.301" ++ ((13 ∷ []) ++ (codes "\npLaYEr  " ++ ((229 ∷ 173 ∷ 151 ∷ 13 ∷ []) ++ (codes "\nblue" ++ ((13 ∷ []) ++ (codes "\n" ++ ((13 ∷ []) ++ (codes "\nGhost #" ++ ((13 ∷ []) ++ (codes "\n#fff" ++ ((13 ∷ []) ++ (codes "\n02.47" ++ ((13 ∷ []) ++ (codes "\n44769" ++ ((13 ∷ []) ++ (codes "\n12942" ++ ((13 ∷ []) ++ (codes "\n80825" ++ ((13 ∷ []) ++ (codes "\n02132" ++ ((13 ∷ []) ++ (codes "\nD z" ++ ((13 ∷ []) ++ (codes "\nred" ++ ((13 ∷ []) ++ (codes "\nagain2\t!" ++ ((13 ∷ []) ++ (codes "\nlight-blue 12" ++ ((13 ∷ []) ++ (codes "\n" ++ ((13 ∷ []) ++ (codes "\nup1  1 ()" ++ ((13 ∷ []) ++ (codes "\ntransparent" ++ ((13 ∷ []) ++ (codes "\n98157" ++ ((13 ∷ []) ++ (codes "\n51968" ++ ((13 ∷ []) ++ (codes "\n10767" ++ ((13 ∷ []) ++ (codes "\n5..67" ++ ((13 ∷ []) ++ (codes "\n0199." ++ ((13 ∷ []) ++ (codes "\n" ++ ((13 ∷ []) ++ (codes "\nv2  *" ++ ((13 ∷ []) ++ (codes "\nblue" ++ ((13 ∷ []) ++ (codes "\nGem a" ++ ((13 ∷ []) ++ (codes "\n#fff" ++ ((13 ∷ []) ++ (codes "\n" ++ ((13 ∷ []) ++ (codes "\nLEGEND" ++ ((13 ∷ []) ++ (codes "\nP0 = D or up1" ++ ((13 ∷ []) ++ (codes "\nP1 = v2 or up1 or Gem or v2" ++ ((13 ∷ []) ++ (codes "\nP2 = Ghost or Ghost or Ghost" ++ ((13 ∷ []) ++ (codes "\n% = Ghost and v2" ++ ((13 ∷ []) ++ (codes "\nG1 = Gem and Ghost" ++ ((13 ∷ []) ++ (codes "\n" ++ ((195 ∷ 169 ∷ []) ++ (codes " =  up1 and Ghost" ++ ((13 ∷ []) ++ (codes "\nS0 = Gem" ++ ((13 ∷ []) ++ (codes "\nn = p0" ++ ((13 ∷ []) ++ (codes "\nS2 = Player" ++ ((13 ∷ []) ++ (codes "\nCOLLISIONLAYERS" ++ ((13 ∷ []) ++ (codes "\nBackground" ++ ((13 ∷ []) ++ (codes "\nGhost" ++ ((13 ∷ []) ++ (codes "\nPlayer,Gem,D,again2,v2,up1" ++ ((13 ∷ []) ++ (codes "\nRULES" ++ ((13 ∷ []) ++ (codes "\nlate [Gem] -> [  ] restart again" ++ ((13 ∷ []) ++ (codes "\n=========" ++ ((13 ∷ []) ++ (codes "\nWINCONDITIONS" ++ ((13 ∷ []) ++ (codes "\n=========" ++ ((13 ∷ []) ++ (codes "\nAll S0" ++ ((13 ∷ []) ++ (codes "\nlEVElS" ++ ((13 ∷ []) ++ (codes "\nmessage  Hello" ++ ((13 ∷ []) ++ (codes "\n" ++ ((13 ∷ []) ++ (codes "\neee" ++ ((13 ∷ []) ++ (codes "\neea" ++ ((13 ∷ []) ++ (codes "\neee" ++ ((13 ∷ []) ++ (codes "\neee" ++ ((13 ∷ []) ++ (codes "\neee" ++ ((13 ∷ []) ++ (codes "\n" ++ ((13 ∷ []) ++ (codes "\nmessage Bye" ++ ((13 ∷ []) ++ (codes "\n"))))))))))))))))))))))))))))))))))))))))))))))))))))))))))))))))))))))))))))))))))))))))))))))))))))))))))))))))))))))))))))))))))))))))))))))) (codes "xwzx" ++ ((27 ∷ 27 ∷ []) ++ (codes "[Cdaxx")))
    ≡ Some (codes "= \n! Hello\n# level 1\neee\neea\neee\neee\neee\n\neee\neea\neee\neee\neee\n\neee\neea\neee\neee\neee\n\neee\neea\neee\neee\neee\n\neee\neea\neee\neee\neee\n\n* end of keys\n")
unfolding chars digits is_utf8 utf8_valid_len encode group program_run all_start_turns all_key_turns turn opening_step
play_100 = refl

play_105 : written (codes "title T\nrequire_player_movement\nOBJECTS\n\ngrAsS ( )\ntransparent\n58549\n19369\n50695\n79299\n0..88\n\nsAnD\tg\ngreen\n.576.\n4.675\n58564\n8.206\n88549\nPlayer\ntransparent\nKey ^\ngreen\n12071\n88506\n81486\n46781\n45299\nC\nblue\n\nGhost\nlight-blue 12\n\nUp1\nlight-blue 12\nCrate  |\nblue\n\nB\ngreen\n\nLEGEND\nBackground = Grass or Sand\nP0 = C or C or Crate\nP1 = Key or C or C\n' =  up1 and C\nG1= Key and up1\nz = up1 and Key\n" ++ ((195 ∷ 169 ∷ []) ++ (codes " = Player\n# = C\ni = up1\n+ = B\nCOLLISIONLAYERS\nGrass Sand\nKey,C,Crate,B,Player\nup1,Ghost\nRULES\nright [right P1|vertical C] -> [ ^ Crate |  ]\n=====\nWincoNDItIoNs\n==\nLEVELS\nmessage Hello\n\n'i|gg^\n'" ++ ((195 ∷ 169 ∷ []) ++ (codes "iizg\n#+i'g|\ng#" ++ ((195 ∷ 169 ∷ []) ++ (codes "z#" ++ ((195 ∷ 169 ∷ []) ++ (codes "\ni" ++ ((195 ∷ 169 ∷ []) ++ (codes "+" ++ ((195 ∷ 169 ∷ 195 ∷ 169 ∷ []) ++ (codes "g\ni" ++ ((195 ∷ 169 ∷ []) ++ (codes "'z#z\n\n" ++ ((195 ∷ 169 ∷ 195 ∷ 169 ∷ []) ++ (codes "#" ++ ((195 ∷ 169 ∷ 195 ∷ 169 ∷ []) ++ (codes "+\n\nmessage Bye"))))))))))))))))))) (codes "wx" ++ ((27 ∷ []) ++ (codes "[AaxDr" ++ ((27 ∷ []) ++ (codes "[C")))))
    ≡ Some (codes "= T\n! Hello\n# level 1\n'i|gg^\n'" ++ ((195 ∷ 169 ∷ []) ++ (codes "iizg\nCBi'g|\ngC" ++ ((195 ∷ 169 ∷ []) ++ (codes "zC" ++ ((195 ∷ 169 ∷ []) ++ (codes "\ni" ++ ((195 ∷ 169 ∷ []) ++ (codes "B" ++ ((195 ∷ 169 ∷ 195 ∷ 169 ∷ []) ++ (codes "g\ni" ++ ((195 ∷ 169 ∷ []) ++ (codes "'zCz\n\n'i|gg^\n'giizg\nCBi'g|\ngCgzC" ++ ((195 ∷ 169 ∷ []) ++ (codes "\ni" ++ ((195 ∷ 169 ∷ []) ++ (codes "B" ++ ((195 ∷ 169 ∷ 195 ∷ 169 ∷ []) ++ (codes "g\ni" ++ ((195 ∷ 169 ∷ []) ++ (codes "'zCz\n\n'i|gg^\n'giizg\nCBi'g|\ngCgzC" ++ ((195 ∷ 169 ∷ []) ++ (codes "\nigB" ++ ((195 ∷ 169 ∷ 195 ∷ 169 ∷ []) ++ (codes "g\nig'zCz\n\n'i|gg^\n'giizg\nCBi'g|\ngCgzC" ++ ((195 ∷ 169 ∷ []) ++ (codes "\nigB" ++ ((195 ∷ 169 ∷ 195 ∷ 169 ∷ []) ++ (codes "g\nig'zCz\n\n'i|gg^\n'" ++ ((195 ∷ 169 ∷ []) ++ (codes "iizg\nCBi'g|\ngC" ++ ((195 ∷ 169 ∷ []) ++ (codes "zC" ++ ((195 ∷ 169 ∷ []) ++ (codes "\ni" ++ ((195 ∷ 169 ∷ []) ++ (codes "B" ++ ((195 ∷ 169 ∷ 195 ∷ 169 ∷ []) ++ (codes "g\ni" ++ ((195 ∷ 169 ∷ []) ++ (codes "'zCz\n\n'i|gg^\n'giizg\nCBi'g|\ngC" ++ ((195 ∷ 169 ∷ []) ++ (codes "zC" ++ ((195 ∷ 169 ∷ []) ++ (codes "\ni" ++ ((195 ∷ 169 ∷ []) ++ (codes "Bg" ++ ((195 ∷ 169 ∷ 195 ∷ 169 ∷ []) ++ (codes "\ni" ++ ((195 ∷ 169 ∷ []) ++ (codes "'zCz\n\n* end of keys\n")))))))))))))))))))))))))))))))))))))))))))))))))))
unfolding chars digits is_utf8 utf8_valid_len encode group program_run all_start_turns all_key_turns turn opening_step
play_105 = refl

play_108 : written (codes "title A  Long Title " ++ ((13 ∷ []) ++ (codes "\nNOuNdo" ++ ((13 ∷ []) ++ (codes "\n==" ++ ((13 ∷ []) ++ (codes "\nOBJECTS" ++ ((13 ∷ []) ++ (codes "\n===" ++ ((13 ∷ []) ++ (codes "\n" ++ ((13 ∷ []) ++ (codes "\nBackground\tl" ++ ((13 ∷ []) ++ (codes "\nlight-blue 12" ++ ((13 ∷ []) ++ (codes "\nPlayerA" ++ ((13 ∷ []) ++ (codes "\nlight-blue 12" ++ ((13 ∷ []) ++ (codes "\n" ++ ((13 ∷ []) ++ (codes "\nplAyERB  j" ++ ((13 ∷ []) ++ (codes "\ntransparent" ++ ((13 ∷ []) ++ (codes "\n02875" ++ ((13 ∷ []) ++ (codes "\n54913" ++ ((13 ∷ []) ++ (codes "\n54538" ++ ((13 ∷ []) ++ (codes "\n74050" ++ ((13 ∷ []) ++ (codes "\n67542" ++ ((13 ∷ []) ++ (codes "\nGoal i" ++ ((13 ∷ []) ++ (codes "\ngreen" ++ ((13 ∷ []) ++ (codes "\n2273." ++ ((13 ∷ []) ++ (codes "\n76.79" ++ ((13 ∷ []) ++ (codes "\n63071" ++ ((13 ∷ []) ++ (codes "\n16102" ++ ((13 ∷ []) ++ (codes "\n08.14" ++ ((13 ∷ []) ++ (codes "\n" ++ ((13 ∷ []) ++ (codes "\nWater" ++ ((13 ∷ []) ++ (codes "\n#fff" ++ ((13 ∷ []) ++ (codes "\n51.36" ++ ((13 ∷ []) ++ (codes "\n4938." ++ ((13 ∷ []) ++ (codes "\n98560" ++ ((13 ∷ []) ++ (codes "\n61889" ++ ((13 ∷ []) ++ (codes "\n5.369" ++ ((13 ∷ []) ++ (codes "\n" ++ ((13 ∷ []) ++ (codes "\nGem\t_" ++ ((13 ∷ []) ++ (codes "\n#fff" ++ ((13 ∷ []) ++ (codes "\n=" ++ ((13 ∷ []) ++ (codes "\nLEGEND" ++ ((13 ∷ []) ++ (codes "\n=========" ++ ((13 ∷ []) ++ (codes "\n" ++ ((13 ∷ []) ++ (codes "\nPlayer = PlayerA or PlayerB" ++ ((13 ∷ []) ++ (codes "\nG0 = PlayerA and Gem" ++ ((13 ∷ []) ++ (codes "\nO = PlayerA" ++ ((13 ∷ []) ++ (codes "\n4 = PlayerB" ++ ((13 ∷ []) ++ (codes "\n1 = Goal" ++ ((13 ∷ []) ++ (codes "\nn = Water" ++ ((13 ∷ []) ++ (codes "\n====" ++ ((13 ∷ []) ++ (codes "\nCOLLISIONLAYERS" ++ ((13 ∷ []) ++ (codes "\n====" ++ ((13 ∷ []) ++ (codes "\n" ++ ((13 ∷ []) ++ (codes "\nBackground" ++ ((13 ∷ []) ++ (codes "\nPlayerB Goal Water Gem" ++ ((13 ∷ []) ++ (codes "\nPlayerA" ++ ((13 ∷ []) ++ (codes "\nRULES" ++ ((13 ∷ []) ++ (codes "\n[ > Player | PlayerA ] -> [ > Player | > PlayerA ]" ++ ((13 ∷ []) ++ (codes "\n+ VErTICAl [ up O ] -> [ O ]" ++ ((13 ∷ []) ++ (codes "\n===" ++ ((13 ∷ []) ++ (codes "\nWINCONDITIONS" ++ ((13 ∷ []) ++ (codes "\n=====" ++ ((13 ∷ []) ++ (codes "\nNo n on PlayerA" ++ ((13 ∷ []) ++ (codes "\nSome PlayerA" ++ ((13 ∷ []) ++ (codes "\nLEVELS" ++ ((13 ∷ []) ++ (codes "\nlj_nj1j" ++ ((13 ∷ []) ++ (codes "\nl1jll1n" ++ ((13 ∷ []) ++ (codes "\n" ++ ((13 ∷ []) ++ (codes "\nljlll" ++ ((13 ∷ []) ++ (codes "\nlllnl" ++ ((13 ∷ []) ++ (codes "\nlllll" ++ ((13 ∷ []) ++ (codes "\nlllll" ++ ((13 ∷ []) ++ (codes "\nlllll" ++ ((13 ∷ []) ++ (codes "\nlllll" ++ ((13 ∷ []) ++ (codes "\n" ++ ((13 ∷ []) ++ (codes "\ni" ++ ((13 ∷ []) ++ (codes "\nj" ++ ((13 ∷ []) ++ (codes "\n1" ++ ((13 ∷ []) ++ (codes "\n"))))))))))))))))))))))))))))))))))))))))))))))))))))))))))))))))))))))))))))))))))))))))))))))))))))))))))))))))))))))))))))))))))))))))))))))))))))))) (codes "wx" ++ ((27 ∷ [])))
    ≡ Some (codes "= A  Long Title\n# level 1\nlj_njij\nlijllin\n\nlj_njij\nlijllin\n\nlj_njij\nlijllin\n\n* end of keys\n")
unfolding chars digits is_utf8 utf8_valid_len encode group program_run all_start_turns all_key_turns turn opening_step
play_108 = refl

play_112 : written (codes "title A  Long Title \n======\nOBjeCtS\n========\n\nBackground\t_\nlight-blue 12\n97548\n89464\n2.303\n.5426\n30866\n\nPlaYeR  `\ntransparent\n\nGhost\n#fff\n\nWall " ++ ((226 ∷ 134 ∷ 146 ∷ []) ++ (codes "\n#fff\n820.4\n1882.\n07.71\n.5..0\n59013\n\nB\t\"\nred\nC\t/\nlight-blue 12\n..155\n09837\n05255\n56025\n28478\nup1 -\n#fff\nLEGEND\n\nP0 = C or C\nG0 = up1 and Wall and Ghost\n> = up1 and B and Wall\nG2= Wall and B and up1\nS0 = B\n(note)\n: = Ghost\n===\nCOLLISIONLAYERS\n=\nBackground\nGhost\nup1\nWall C\nPlayer, B\nRULES\n( [ A ] -> )\n[ > Player | C ] -> [ > Player | > C ]\nlate [G2|P0|Ghost] -> [ up1 | P0 |  ]\nright left [ horizontal up1 right Background no up1 ] -> [ horizontal up1 right Background no up1 ] win win\n=\nWINCONDITIONS\n=========\nLEVELS\n____\n__`_\n"))) (codes "x" ++ ((27 ∷ []) ++ (codes "[Cw" ++ ((27 ∷ []) ++ (codes "[Dxxdw")))))
    ≡ Some (codes "= A  Long Title\n# level 1\n____\n__`_\n\n____\n__`_\n\n____\n___`\n\n___`\n____\n\n__`_\n____\n\n__`_\n____\n\n__`_\n____\n\n___`\n____\n\n___`\n____\n\n* end of keys\n")
unfolding chars digits is_utf8 utf8_valid_len encode group program_run all_start_turns all_key_turns turn opening_step
play_112 = refl

play_115 : written (codes "title \nrun_rules_on_level_start\noBjecTs\n\nGrass  " ++ ((229 ∷ 173 ∷ 151 ∷ []) ++ (codes " (message hi)\nblue\nSand +\nblue\n83965\n89528\n66354\n71.75\n95493\nPlayer  ?\nred\n\nV2 8\nlight-blue 12\n\nCrate #\ntransparent\nagain2\t3\ntransparent\n\nGhost  q\ngreen\n\nA\tl\ntransparent\n70772\n.159.\n70980\n77757\n05702\n=====\nLEGEND\n=\nBackground = Grass or Sand\nP0 = again2 or again2 or again2\nP1 = v2 or again2\nP2 = A or Crate\nP3 = Ghost or Ghost\nz =  A and again2\nS0 = Background\nSOUNDS\nsfx0 123\nCrate MOVE 4\nCOLLISIONLAYERS\nGrass Sand\nv2 A Player\nCrate, Ghost, again2\nRULES\n\nstartloop\nLatE [ A | no Player A ] -> [  | no Player A ] cancel sfx3\nRIGht [ S0 perpendicular A | S0 v2 | no again2 stationary again2 Background ] -> [|stationary v2|] message Two  blanks \nup [ no Player action P1 ] -> [ z ] message Two  blanks \nLatE [ S0 ] -> [ Ghost ]\n[ left Crate ] [> P2] -> [ left Crate ] [ > P2 ]\nendloop\n======\nWINCONDITIONS\n=========\nNo Background on v2\nSome A on P0\nLEVELS\n\n?3?" ++ ((229 ∷ 173 ∷ 151 ∷ []) ++ (codes "\n\n"))))) (codes "s" ++ ((27 ∷ []) ++ (codes "[Dxxkad" ++ ((27 ∷ []) ++ (codes "[D")))))
    ≡ Some (codes "= \n# level 1\nqqqq\n\nqqqq\n\nqqqq\n\nqqqq\n\nqqqq\n\nqqqq\n\nqqqq\n\nqqqq\n\n* end of keys\n")
unfolding chars digits is_utf8 utf8_valid_len encode group program_run all_start_turns all_key_turns turn opening_step
play_115 = refl

play_116 : written (codes "title \nnoundo\nrUn_RULes_oN_leVEL_sTArt\n=====\nOBJECTS\n=====\nBackground 6\ntransparent\n\nPlayer\n#fff\n46001\n89338\n1.051\n75712\n29788\n\nGhost u\nblue\nGoal 1\nred\n02869\n1..77\n58601\n98780\n8..48\n\nA  z\ntransparent\n\nC " ++ ((195 ∷ 169 ∷ []) ++ (codes "\ngreen\n\nWater _\nred\nup1 (a (b) c)\ntransparent\n\nLEGEND\n\nP0 = C or C\nP1 = P0 or Player or A\nP2 = Goal or C or A\nP3 = Ghost or Player or C or A\nd =  up1 and Ghost and Water\nS0 = A\nSOUNDS\n\nsfx0 123\nCrate MOVE 4\nCOLLISIONLAYERS\nBackground\nup1\nC Ghost\nWater, Goal\nPlayer, A\n====\nRULES\n=======\n[ >P1 | ... | no Player P2 ] -> [ >P1 | ... | no Player P2 ] win again\nWINCONDITIONS\nAny P0\nLEVELS\n666" ++ ((195 ∷ 169 ∷ []) ++ (codes "6\n_6616\n_\nu" ++ ((195 ∷ 169 ∷ []) ++ (codes "6u" ++ ((195 ∷ 169 ∷ []) ++ (codes "\n\nd666666\n66d\n66666u1\n66z6666\n66u6u66\n6" ++ ((195 ∷ 169 ∷ []) ++ (codes "16666\n\n6d6uz1" ++ ((195 ∷ 169 ∷ []) ++ (codes "\n_611" ++ ((195 ∷ 169 ∷ []) ++ (codes "11\n66_d_11\n6u_6_uu\n\n"))))))))))))))) (codes "sradwdsxsswx")
    ≡ Some (codes "= \n# level 1\n666C6\n_6616\n_____\nuC6uC\n\n666C6\n_6616\n_____\nuC6uC\n\n* level 1 done\n# level 2\nd666666\n66ddddd\n66666u1\n66A6666\n66u6u66\n6C16666\n\nd666666\n66ddddd\n66666u1\n66A6666\n66u6u66\n6C16666\n\nd666666\n66ddddd\n66666u1\n66A6666\n66u6u66\n6C16666\n\n* level 2 done\n# level 3\n6d6uA1C\n_611C11\n66_d_11\n6u_6_uu\n\n6d6uA1C\n_611C11\n66_d_11\n6u_6_uu\n\n* level 3 done\n* the end\n")
unfolding chars digits is_utf8 utf8_valid_len encode group program_run all_start_turns all_key_turns turn opening_step
play_116 = refl

play_125 : written (codes "title A  Long Title \nOBJECTS\nBackground\nblue\n\nPlayer  :\nlight-blue 12\n23.06\n04293\n21.94\n55926\n68770\nGOAl\tm\ntransparent\n\nKey\t%\nblue\n42991\n.069.\n34593\n23598\n99.88\n\nB  #\nblue\n74602\n59.52\n68.73\n..415\n33660\n\n=========\nLEGEND\n====\nP0 = Key or Goal or Player or Player\nP1 = Key Or Key\nP2 = Key oR B oR Player oR Goal\nf =  Key and Player\nj = Goal and B\nn =  Goal and Key and B\n? = Player\nCOLLISIONLAYERS\n\nBackground\nPlayer,B\nKey\nGoal\nRULES\n[ > Player | Player ] -> [ > Player | > Player ]\nstartloop\n[ no Goal | no P0 ] -> [ no Goal | no P0 ]\nvERTical [?|P2|?] -> [  | P2 | ? ] again\nendloop\nWINCONDITIONS\nSOme Goal on ?\nAny Key on Player\nlEVels\n?mj:\n:nn%\nn#:?\n\n?%j%:\nmfj:?\n?m%:n\nj?n%%\n\n") (codes "ddd" ++ ((27 ∷ [])))
    ≡ Some (codes "= A  Long Title\n# level 1\n:mj:\n:nn%\nnB::\n\n?mj:\n:nn%\nnB?:\n\n?mj:\n:nn%\nnB??\n\n?mj:\n:nn%\nnB??\n\n?mj:\n:nn%\nnB??\n\n* end of keys\n")
unfolding chars digits is_utf8 utf8_valid_len encode group program_run all_start_turns all_key_turns turn opening_step
play_125 = refl
