-- Examples of views, evaluated: both sides of each compute to the same.
use Rattle.std.proofs.Common.{◌≡◌, ℕ, true, false, [], ◌∷◌, ◌++◌, Some, None, refl}
use Rattle.std.specs.Prelude.{codes, encode_utf8}
use Rattle.std.specs.List.{flat_map}
use Rattle.ps_view.specs.declared.line_kinds.LineKind.TheVariants.{Title, Level, Message, Note, Question, LevelDone}
use Rattle.ps_view.specs.declared.line_kinds.LineKind.TheVariants.{Ending, Empty, Row}
use Rattle.ps_view.specs.HarmlessTexts.{harmless}
use Rattle.ps_view.specs.LineKinds.{kind_of}
use Rattle.ps_view.specs.Orders.{drawn_row}
use Rattle.ps_view.specs.Rows.{fitting, cut, wrapped, shortened}
use Rattle.ps_view.specs.Players.{first_player}
use Rattle.ps_view.specs.Corners.{corner_following, first_changed, frame_part, kept_in, moved, part_from}
use Rattle.ps_view.specs.Screens.{changes, keys_line, level_line}
use Rattle.ps_view.specs.Views.{text_of}
use Rattle.unicode_width.proofs.Computing.{unicode_width}

-- lines ---------------------------------------------------------------------------------------------------------------

title_line : kind_of (codes "= The Cellar") ≡ Title
title_line = refl

level_opens : kind_of (codes "# level 2") ≡ Level
level_opens = refl

message_line : kind_of (codes "! ") ≡ Message
message_line = refl

note_line : kind_of (codes "~ of 7") ≡ Note
note_line = refl

question_line : kind_of (codes "? ") ≡ Question
question_line = refl

done_line : kind_of (codes "* level 1 done") ≡ LevelDone
done_line = refl

ending_line : kind_of (codes "* end of keys") ≡ Ending
ending_line = refl

empty_line : kind_of [] ≡ Empty
empty_line = refl

-- rows of a frame may begin as other lines do
row_of_walls : kind_of (codes "#.=!*") ≡ Row
row_of_walls = refl

row_of_questions : kind_of (codes "?~ ") ≡ Row
row_of_questions = refl

row_of_one_mark : kind_of (codes "*") ≡ Row
row_of_one_mark = refl

-- characters ----------------------------------------------------------------------------------------------------------

escape : harmless 27 ≡ 183
escape = refl

delete : harmless 127 ≡ 183
delete = refl

begins_an_order_by_itself : harmless 155 ≡ 183
begins_an_order_by_itself = refl

turns_the_direction : harmless 8238 ≡ 183
turns_the_direction = refl

keeps_the_direction : harmless 8239 ≡ 8239
keeps_the_direction = refl

turns_a_part : harmless 8294 ≡ 183
turns_a_part = refl

ends_a_part : harmless 8297 ≡ 183
ends_a_part = refl

blank : harmless 32 ≡ 32
blank = refl

no_break_space : harmless 160 ≡ 160
no_break_space = refl

-- a text of five characters in rows of four columns; of `漢`, which covers two, one fits into three
cut_text : cut 4 (codes "abcde") ≡ codes "abc…"
unfolding unicode_width
cut_text = refl

whole_text : cut 5 (codes "abcde") ≡ codes "abcde"
unfolding unicode_width
whole_text = refl

wide_text : fitting 3 (codes "漢漢") ≡ 1
unfolding unicode_width
wide_text = refl

-- a row ends after the last blank that fits; one that doesn't fit isn't shown; a word is broken that is longer than a row
wrapped_text : wrapped 6 (codes "a bc def gh") ≡ codes "a bc " ∷ codes "def gh" ∷ []
unfolding unicode_width
wrapped_text = refl

wrapped_at_blank : wrapped 4 (codes "a bc def") ≡ codes "a bc" ∷ codes "def" ∷ []
unfolding unicode_width
wrapped_at_blank = refl

wrapped_at_blanks : wrapped 4 (codes "abcd  e") ≡ codes "abcd" ∷ codes " e" ∷ []
unfolding unicode_width
wrapped_at_blanks = refl

wrapped_within_word : wrapped 4 (codes "a bcdefg") ≡ codes "a " ∷ codes "bcde" ∷ codes "fg" ∷ []
unfolding unicode_width
wrapped_within_word = refl

wrapped_wide_text : wrapped 3 (codes "漢漢a") ≡ codes "漢" ∷ codes "漢a" ∷ []
unfolding unicode_width
wrapped_wide_text = refl

wrapped_nothing : wrapped 4 [] ≡ [] ∷ []
wrapped_nothing = refl

shortened_text : shortened 3 (codes "a" ∷ codes "b" ∷ codes "c" ∷ codes "d" ∷ [])
    ≡ codes "a" ∷ codes "…" ∷ codes "d" ∷ []
shortened_text = refl

-- parts of frames -----------------------------------------------------------------------------------------------------

-- four of six, between edges: at the left end, in the middle, at the right end
part_at_left : part_from {A = ℕ} 4 0 0 9 (1 ∷ 2 ∷ 3 ∷ 4 ∷ 5 ∷ 6 ∷ []) ≡ 9 ∷ 1 ∷ 2 ∷ 0 ∷ []
part_at_left = refl

part_within : part_from {A = ℕ} 4 2 0 9 (1 ∷ 2 ∷ 3 ∷ 4 ∷ 5 ∷ 6 ∷ []) ≡ 0 ∷ 3 ∷ 4 ∷ 0 ∷ []
part_within = refl

part_at_right : part_from {A = ℕ} 4 4 0 9 (1 ∷ 2 ∷ 3 ∷ 4 ∷ 5 ∷ 6 ∷ []) ≡ 0 ∷ 5 ∷ 6 ∷ 9 ∷ []
part_at_right = refl

whole_list : part_from {A = ℕ} 4 2 0 9 (1 ∷ 2 ∷ 3 ∷ 4 ∷ []) ≡ 1 ∷ 2 ∷ 3 ∷ 4 ∷ []
whole_list = refl

-- three items from the fifth on: shown are the second, the sixth, the eighth
moved_back : moved 3 5 2 ≡ 2
moved_back = refl

not_moved : moved 3 5 6 ≡ 5
not_moved = refl

moved_on : moved 3 5 8 ≡ 6
moved_on = refl

-- eight of twenty items from the sixth on; a quarter of eight are two. The sixth to the thirteenth are shown, and the
-- part stays where the eighth to the eleventh is followed
kept_back : kept_in 10 20 5 6 ≡ 4
kept_back = refl

kept_at_two : kept_in 10 20 5 7 ≡ 5
kept_at_two = refl

kept_at_eleven : kept_in 10 20 5 10 ≡ 5
kept_at_eleven = refl

kept_on : kept_in 10 20 5 11 ≡ 6
kept_on = refl

kept_at_left : kept_in 10 20 5 1 ≡ 0
kept_at_left = refl

kept_at_right : kept_in 10 20 5 18 ≡ 12
kept_at_right = refl

-- of less room for more items, where the part has begun too far to the right
kept_in_less : kept_in 5 8 7 1 ≡ 1
kept_in_less = refl

-- the leftmost column that has a player, and there the topmost; `Q` shows a player on something else
first_of_players : first_player (codes "PQ") (codes "...P" ∷ codes "..Q." ∷ codes "..P." ∷ [])
    ≡ Some (record { row = 1; column = 2 })
first_of_players = refl

no_player : first_player (codes "PQ") (codes "...." ∷ codes "..p." ∷ []) ≡ None
no_player = refl

-- a frame of two rows of twelve in four rows of ten columns: the player is in the eighth column, and shown are the third
-- to the tenth
part_with_player : frame_part 4 10 (corner_following (codes "P") 4 10 (record { top = 0; left = 0 })
    (codes "............" ∷ codes ".......P...." ∷ []) (record { row = 0; column = 0 }))
    (codes "............" ∷ codes ".......P...." ∷ []) ≡ codes "…........…" ∷ codes "….....P..…" ∷ []
unfolding unicode_width
part_with_player = refl

-- beside a wide character each cell covers two columns
part_of_mixed_width : frame_part 4 16 (record { top = 0; left = 0 }) (codes "a漢" ∷ codes "bc" ∷ [])
    ≡ codes "a 漢" ∷ codes "b c " ∷ []
unfolding unicode_width
part_of_mixed_width = refl

-- six columns have room for three such cells, two of them edges; five have room for two, without edges; one has room for
-- none
edges_of_mixed_width : frame_part 4 6 (record { top = 0; left = 1 }) (codes "a漢bcd" ∷ codes "efghi" ∷ [])
    ≡ codes "… 漢… " ∷ codes "… f … " ∷ []
unfolding unicode_width
edges_of_mixed_width = refl

two_cells_of_mixed_width : frame_part 4 5 (record { top = 0; left = 1 }) (codes "a漢bcd" ∷ codes "efghi" ∷ [])
    ≡ codes "漢b " ∷ codes "f g " ∷ []
unfolding unicode_width
two_cells_of_mixed_width = refl

narrower_than_a_cell : frame_part 4 1 (record { top = 0; left = 1 }) (codes "a漢bcd" ∷ codes "efghi" ∷ [])
    ≡ [] ∷ [] ∷ []
unfolding unicode_width
narrower_than_a_cell = refl

-- a frame without a player, of two rows of six in four rows of five columns: the fourth cell of its second row is the
-- first that changed
part_of_frame : frame_part 4 5 (corner_following (codes "P") 4 5 (record { top = 0; left = 0 })
    (codes "......" ∷ codes "...o.." ∷ [])
    (first_changed (codes "......" ∷ codes "....o." ∷ []) (codes "......" ∷ codes "...o.." ∷ [])))
    (codes "......" ∷ codes "...o.." ∷ []) ≡ codes "…...…" ∷ codes "…..o…" ∷ []
unfolding unicode_width
part_of_frame = refl

-- levels --------------------------------------------------------------------------------------------------------------

level_with_note : level_line (codes "# level 3") (text_of (codes "~ of 7, 12 moves")) ≡ codes "# level 3  of 7, 12 moves"
level_with_note = refl

level_without_note : level_line (codes "# level 3") (text_of (codes "~ ")) ≡ codes "# level 3"
level_without_note = refl

-- keys ----------------------------------------------------------------------------------------------------------------

all_keys : keys_line (record { acts = true; undoes = true; restarts = true })
    ≡ codes "w a s d move, x act, z undo, r restart, q quit"
all_keys = refl

keys_of_a_game_without_actions : keys_line (record { acts = false; undoes = true; restarts = false })
    ≡ codes "w a s d move, z undo, q quit"
keys_of_a_game_without_actions = refl

-- screens -------------------------------------------------------------------------------------------------------------

-- of three rows the second one changes, and the third one is no more
changed_rows : changes (codes "a" ∷ codes "b" ∷ codes "c" ∷ []) (codes "a" ∷ codes "d" ∷ [])
    ≡ drawn_row 2 (flat_map encode_utf8 (codes "d")) ++ (drawn_row 3 [] ++ [])
changed_rows = refl

no_changes : changes (codes "a" ∷ codes "b" ∷ []) (codes "a" ∷ codes "b" ∷ []) ≡ []
no_changes = refl
