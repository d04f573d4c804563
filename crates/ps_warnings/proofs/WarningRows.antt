-- Words and small texts, and what is warned of.
use Rattle.std.proofs.Common.{◌≡◌, ◌++◌, true, false, Some, None, [], ◌∷◌, refl}
use Rattle.std.specs.Prelude.{codes}
use Rattle.std.specs.Str.{chars, is_utf8}
use Rattle.std.specs.Str.Lossy.{utf8_valid_len}
use Rattle.std.proofs.Math.Utf8.{encode}
use Rattle.ps_warnings.specs.declared.kinds.PreludeWord.TheVariants.{NoUndo, RequirePlayerMovement}
use Rattle.ps_warnings.specs.declared.kinds.WarningKind.TheVariants.{ApartWin, NearWord, IdleRule, IdleWin, NoPlayer}
use Rattle.ps_warnings.specs.declared.kinds.WarningKind.TheVariants.{LongRow, RuleTwice, ShortRow, UnusedObject}
use Rattle.ps_warnings.specs.declared.kinds.WarningKind.TheVariants.{IdleRooms, LackingRule, LackingWin, LayerTwice}
use Rattle.ps_warnings.specs.declared.kinds.WarningKind.TheVariants.{NothingWins, UnusedName}
use Rattle.ps_warnings.specs.NearWords.{is_near}
use Rattle.ps_warnings.specs.PreludeWords.{misspelt}
use Rattle.ps_warnings.specs.Warnings.{warnings}

-- words ---------------------------------------------------------------------------------------------------------------

a_byte_put_in : is_near (codes "noundos") (codes "noundo") ≡ true
a_byte_put_in = refl

two_bytes_changed_over : is_near (codes "noudno") (codes "noundo") ≡ true
two_bytes_changed_over = refl

three_bytes_left_out : is_near (codes "nou") (codes "noundo") ≡ false
three_bytes_left_out = refl

two_left_out_of_a_short_word : is_near (codes "titl") (codes "titles") ≡ false
two_left_out_of_a_short_word = refl

one_left_out : misspelt (codes "require_player_movment") ≡ Some RequirePlayerMovement
unfolding misspelt
one_left_out = refl

the_word_itself : misspelt (codes "noundo") ≡ None
unfolding misspelt
the_word_itself = refl

a_word_of_other_players : misspelt (codes "zoomscreen") ≡ None
unfolding misspelt
a_word_of_other_players = refl

no_word : misspelt [] ≡ None
unfolding misspelt
no_word = refl

-- texts ---------------------------------------------------------------------------------------------------------------

all_of_them : warnings (codes "noudno\nOBJECTS\nBackground .\ngreen\nPlayer P\nwhite\nLEGEND\nCOLLISIONLAYERS\n"
    ++ (codes "Background\nPlayer\nRULES\n[ Player ] -> [ Player ]\n[ > Player ] -> [ Player ]\n"
    ++ codes "[ Player ] -> [ Player ] sfx0\nLEVELS\nP\n\n.\n.\n"))
    ≡ record { line = 1; kind = NearWord NoUndo } ∷ record { line = 12; kind = IdleRule }
    ∷ record { line = 15; kind = NothingWins } ∷ record { line = 18; kind = NoPlayer } ∷ []
unfolding warnings misspelt chars is_utf8 encode utf8_valid_len
all_of_them = refl

-- every cell with a Player has one, and nothing is asked of where all of them are
wins_that_always_hold : warnings (codes "OBJECTS\nBackground .\ngreen\nPlayer P\nwhite\nCOLLISIONLAYERS\nBackground\n"
    ++ (codes "Player\nWINCONDITIONS\nAll P on player\nall Player\nall Player on P\nAll Player on PLAYER\n"
    ++ codes "Some Player\nLEVELS\nP\n"))
    ≡ record { line = 11; kind = IdleWin } ∷ record { line = 13; kind = IdleWin } ∷ []
unfolding warnings misspelt chars is_utf8 encode utf8_valid_len
wins_that_always_hold = refl

-- Player and Wall share a layer, and Key and Gem another one. A property asks for one of its objects, an aggregate for
-- each
wins_that_share_a_layer : warnings (codes "OBJECTS\nBackground .\ngreen\nPlayer P\nwhite\nWall #\nred\nKey K\nred\nGem G\nred\n"
    ++ (codes "LEGEND\nThing = Key or Gem\nBoth = Key and Wall\nEither = Wall or Key\nCOLLISIONLAYERS\nBackground\n"
    ++ (codes "Player, Wall\nKey, Gem\nWINCONDITIONS\nSome Player on Wall\nAll Key on GEM\nNo Thing on Player\n"
    ++ (codes "Some Player on Either\nSome Player on Both\nSome Both on P\nSome Thing on Key\nSome Either on Player\n"
    ++ codes "All Both on Either\nLEVELS\nP#KG\n"))))
    ≡ record { line = 21; kind = ApartWin } ∷ record { line = 22; kind = ApartWin }
    ∷ record { line = 25; kind = ApartWin } ∷ record { line = 26; kind = ApartWin } ∷ []
unfolding warnings misspelt chars is_utf8 encode utf8_valid_len
wins_that_share_a_layer = refl

-- no level has Key, and a rule brings Gem. Of a property one object is enough, of an aggregate each is asked for
wins_that_lack_something : warnings (codes "OBJECTS\nBackground .\ngreen\nPlayer P\nwhite\nKey\nred\nGem\nred\nLEGEND\n"
    ++ (codes "Thing = Key or Gem\nBoth = Key and Gem\nCOLLISIONLAYERS\nBackground\nPlayer\nKey\nGem\nRULES\n"
    ++ (codes "[ > Player | ] -> [ > Player | Gem ]\nWINCONDITIONS\nSome KEY\nNo Gem\nAll Player on Key\nNo Key on Player\n"
    ++ codes "Some Thing\nNo Player on Both\nAll Key\nLEVELS\nP.\n")))
    ≡ record { line = 21; kind = LackingWin } ∷ record { line = 23; kind = LackingWin }
    ∷ record { line = 24; kind = LackingWin } ∷ record { line = 26; kind = LackingWin }
    ∷ record { line = 27; kind = IdleWin } ∷ []
unfolding warnings misspelt chars is_utf8 encode utf8_valid_len
wins_that_lack_something = refl

-- rows are measured by the first of their level, and no row by that of another level
rows_of_other_widths : warnings (codes "OBJECTS\nBackground .\ngreen\nPlayer P\nwhite\nCOLLISIONLAYERS\nBackground\n"
    ++ codes "Player\nLEVELS\nP.\nP\nP..\n\nP...\nP...\n")
    ≡ record { line = 11; kind = ShortRow } ∷ record { line = 12; kind = LongRow } ∷ []
unfolding warnings misspelt chars is_utf8 encode utf8_valid_len
rows_of_other_widths = refl

-- the rows of a level come before a level below it
levels_and_rows_in_order : warnings (codes "OBJECTS\nBackground .\ngreen\nPlayer P\nwhite\nCOLLISIONLAYERS\n"
    ++ codes "Background\nPlayer\nLEVELS\nP.\nP\n\n..\n.\n\n.\n")
    ≡ record { line = 11; kind = ShortRow } ∷ record { line = 13; kind = NoPlayer }
    ∷ record { line = 14; kind = ShortRow } ∷ record { line = 16; kind = NoPlayer } ∷ []
unfolding warnings misspelt chars is_utf8 encode utf8_valid_len
levels_and_rows_in_order = refl

-- Wall stands in a level alone. Key is of a property that a rule names, and Gem of one that a win condition names, though
-- no level has them. Ice is Player's own. Sand is named by glyphs and its layer alone
objects_that_nothing_uses : warnings (codes "OBJECTS\nBackground .\ngreen\nHero P\nwhite\nIce\nblue\nWall #\nred\nKey\nred\n"
    ++ (codes "Gem\nred\nSand\nred\nLEGEND\nPlayer = Hero or Ice\nS = Sand\nT = Sand and Wall\nThing = Key or Gem\n"
    ++ (codes "COLLISIONLAYERS\nBackground\nHero, Ice, Wall\nThing, Sand\nRULES\n"
    ++ codes "[ > Player | Thing ] -> [ Player | ]\nWINCONDITIONS\nNo Gem\nLEVELS\nP#\n")))
    ≡ record { line = 14; kind = UnusedObject } ∷ record { line = 26; kind = LackingRule }
    ∷ record { line = 28; kind = LackingWin } ∷ []
unfolding warnings misspelt chars is_utf8 encode utf8_valid_len
objects_that_nothing_uses = refl

-- One is named by a rule, Two by One, and Three by a layer. Both shows in frames by its glyph. Four is named by its synonym
-- alone, and nothing names Five and Pair, whose members are used
names_that_nothing_uses : warnings (codes "OBJECTS\nBackground .\ngreen\nPlayer P\nwhite\nWall #\nred\nKey K\nred\nGem G\nred\n"
    ++ (codes "LEGEND\nOne = Wall or Two\nTwo = Key or Wall\nThree = Gem or Key\nFour = Key or Wall\nFive = Wall or Key\n"
    ++ (codes "Pair = Wall and Key\nBoth = Wall and Key\nB = Both\nOther = Four\nCOLLISIONLAYERS\nBackground\n"
    ++ codes "Player\nWall\nThree\nRULES\n[ > Player | ONE ] -> cancel\nLEVELS\nP#KG\n")))
    ≡ record { line = 16; kind = UnusedName } ∷ record { line = 17; kind = UnusedName }
    ∷ record { line = 18; kind = UnusedName } ∷ record { line = 29; kind = NothingWins } ∷ []
unfolding warnings misspelt chars is_utf8 encode utf8_valid_len
names_that_nothing_uses = refl

-- Ghost is in no level, and no rule brings it: it is moved where it stands. Key is brought, and so is Fire, if by a rule
-- that never applies. A property asks for one of its objects, an aggregate for each, and `no` for none
rules_that_lack_something : warnings (codes "OBJECTS\nBackground .\ngreen\nPlayer P\nwhite\nWall #\nred\nKey\nred\n"
    ++ (codes "Ghost\nred\nFire\nred\nLEGEND\nThing = Ghost or Key\nBoth = Ghost and Key\nCOLLISIONLAYERS\nBackground\n"
    ++ (codes "Player, Wall\nKey, Fire\nGhost\nRULES\n[ > Player | Ghost ] -> [ > Player | > Ghost ]\n[ Ghost | ] -> [ | Ghost ]\n"
    ++ (codes "[ > Player | Wall ] -> [ > Player | Key ]\n[ > Player | Key no Ghost ] -> cancel\n[ > Player | Thing ] -> again\n"
    ++ (codes "[ > Player ] [ Both ] -> cancel\n[ ] [ GHOST ] -> [ Fire ] [ ]\n[ Fire ] -> win\n[ Ghost no Ghost ] -> win\n"
    ++ codes "LEVELS\nP#\n")))))
    ≡ record { line = 23; kind = LackingRule } ∷ record { line = 24; kind = LackingRule }
    ∷ record { line = 28; kind = LackingRule } ∷ record { line = 29; kind = LackingRule }
    ∷ record { line = 31; kind = IdleRule } ∷ []
unfolding warnings misspelt chars is_utf8 encode utf8_valid_len
rules_that_lack_something = refl

-- a rule right below itself stands twice, however it is cut and cased, and one of a group twice in it; another direction
-- or another message makes another rule, and so does a group between
rules_that_stand_twice : warnings (codes "OBJECTS\nBackground .\ngreen\nPlayer P\nwhite\nWall #\nred\nCOLLISIONLAYERS\n"
    ++ (codes "Background\nPlayer, Wall\nRULES\n[ > Player | Wall ] -> cancel\n[>PLAYER|wall]->cancel\n"
    ++ (codes "right [ > Player | Wall ] -> cancel\n+ [ Player | Wall ] -> again\n"
    ++ (codes "+ right [ > Player | Wall ] -> cancel\n[ > Player | Wall ] -> message one\n"
    ++ codes "[ > Player | Wall ] -> message two\n[ > Player | Wall ] -> cancel\nLEVELS\nP#\n"))))
    ≡ record { line = 13; kind = RuleTwice 12 } ∷ record { line = 16; kind = RuleTwice 14 }
    ∷ record { line = 20; kind = NothingWins } ∷ []
unfolding warnings misspelt chars is_utf8 encode utf8_valid_len
rules_that_stand_twice = refl

-- Wall and Key are on the layer of line 17, which names them by a property. Each line above that names one is told once
objects_on_two_lines : warnings (codes "OBJECTS\nBackground .\ngreen\nPlayer P\nwhite\nWall #\nred\nKey K\nred\nLEGEND\n"
    ++ (codes "Thing = Key or Wall\nCOLLISIONLAYERS\nBackground\nWALL, key\n\nPlayer, K\nThing\nRULES\n"
    ++ codes "[ > Player | Thing ] -> cancel\nWINCONDITIONS\nNo Key\nLEVELS\nP#K\n"))
    ≡ record { line = 14; kind = LayerTwice 17 } ∷ record { line = 16; kind = LayerTwice 17 } ∷ []
unfolding warnings misspelt chars is_utf8 encode utf8_valid_len
objects_on_two_lines = refl

-- there is a rule, but no win condition and no `win`
nothing_is_won : warnings (codes "OBJECTS\nBackground .\ngreen\nPlayer P\nwhite\nCOLLISIONLAYERS\nBackground\nPlayer\n"
    ++ codes "RULES\n[ > Player | Player ] -> cancel\nWINCONDITIONS\n\nLEVELS\nP\n\n.\n")
    ≡ record { line = 13; kind = NothingWins } ∷ record { line = 16; kind = NoPlayer } ∷ []
unfolding warnings misspelt chars is_utf8 encode utf8_valid_len
nothing_is_won = refl

a_rule_wins : warnings (codes "OBJECTS\nBackground .\ngreen\nPlayer P\nwhite\nCOLLISIONLAYERS\nBackground\nPlayer\n"
    ++ codes "RULES\n[ > Player | Player ] -> cancel\n[ action Player ] -> WIN\nLEVELS\nP\n") ≡ []
unfolding warnings misspelt chars is_utf8 encode utf8_valid_len
a_rule_wins = refl

nothing_is_to_be_done : warnings (codes "OBJECTS\nBackground .\ngreen\nPlayer P\nwhite\nCOLLISIONLAYERS\nBackground\n"
    ++ codes "Player\nLEVELS\nP\n") ≡ []
unfolding warnings misspelt chars is_utf8 encode utf8_valid_len
nothing_is_to_be_done = refl

-- a level of the size of a room is no larger. The first line with `flickscreen` says how large rooms are
rooms_that_change_nothing : warnings (codes "title T\nFlickscreen 2x1\nnoudno\nflickscreen 1x1\nOBJECTS\nBackground .\ngreen\n"
    ++ codes "Player P\nwhite\nCOLLISIONLAYERS\nBackground\nPlayer\nLEVELS\nP.\n\nP\n")
    ≡ record { line = 2; kind = IdleRooms } ∷ record { line = 3; kind = NearWord NoUndo } ∷ []
unfolding warnings misspelt chars is_utf8 encode utf8_valid_len
rooms_that_change_nothing = refl

rooms_of_a_taller_level : warnings (codes "flickscreen 2x1\nOBJECTS\nBackground .\ngreen\nPlayer P\nwhite\nCOLLISIONLAYERS\n"
    ++ codes "Background\nPlayer\nLEVELS\nP\n\nP\n.\n") ≡ []
unfolding warnings misspelt chars is_utf8 encode utf8_valid_len
rooms_of_a_taller_level = refl

-- a text with a fault has none
none_of_a_fault : warnings (codes "noudno\nOBJECTS\n") ≡ []
unfolding warnings chars is_utf8 encode utf8_valid_len
none_of_a_fault = refl
