-- Whole texts, worked by hand: the first fault of each, or its game.
use Rattle.std.proofs.Common.{◌≡◌, ℕ, List, [], ◌∷◌, ◌++◌, ap, map, length, refl, Option, Some, None, true, false, Bool}
use Rattle.std.specs.Prelude.{codes, option_map, is_some, if◌then◌else◌, ◌==◌, nat_lt}
use Rattle.std.specs.List.{flat_map}
use Rattle.std.specs.Str.{chars, is_utf8}
use Rattle.std.specs.Str.Lossy.{utf8_valid_len}
use Rattle.std.specs.Fmt.{digits}
use Rattle.std.proofs.Math.Utf8.{encode}
use Rattle.ps_model.specs.declared.pieces.ObjectId.{ObjectId}
use Rattle.ps_model.specs.declared.rules.Quantifier.TheVariants.{All}
use Rattle.ps_model.specs.declared.faults.Fault.{Fault}
use Rattle.ps_model.specs.declared.faults.FaultKind.{FaultKind}
use Rattle.ps_model.specs.declared.faults.FaultKind.TheVariants.{TooLong, NotUtf8, SectionOrder, NoSection, Realtime, UnknownGlyph, PropertyGlyph, NoLevel, BadWin, UnknownWinName, UnknownName, NothingRight, TooManyReadings, Impossible}
use Rattle.ps_model.specs.declared.limits.TheConstants.{TEXT_LIMIT}
use Rattle.ps_model.specs.text.Faults.{first_fault}
use Rattle.ps_model.specs.text.TextFaults.{utf8_fault}
use Rattle.ps_model.specs.text.Lines.{lines_of}
use Rattle.ps_model.specs.declared.options.Options.{Options}
use Rattle.ps_model.specs.names.Names.{One, AllOf}
use Rattle.ps_model.specs.session.LevelLines.{Entry, MessageEntry, LevelEntry}
use Rattle.ps_model.specs.game.Games.{line_faults, faults, game}
use Rattle.ps_examples.proofs.games.BaseText.{base_head, base_text, base_game}

-- the base text without rules, with these lines of WINCONDITIONS and of LEVELS
abbrev text_with : List ℕ → List ℕ → List ℕ
text_with wins rows = base_game [] wins rows

-- the first fault of a text
abbrev first : List ℕ → Option Fault
first text = first_fault (faults text)

-- a fault of that kind at that line
abbrev at_line : ℕ → FaultKind → Option Fault
at_line line kind = Some (record { kind = kind; line = line })

abbrev is_game : List ℕ → Bool
is_game text = is_some (game text)

-- games ------------------------------------------------------------------------------------------------------------------

abbrev object : ℕ → ObjectId
object number = record { 0 = number }

-- the level of the row `P@.`
abbrev one_level : Entry
one_level = LevelEntry (record { width = 3; height = 1; cells = map (map object) ((2 ∷ 0 ∷ []) ∷ (3 ∷ 4 ∷ 0 ∷ []) ∷ (0 ∷ []) ∷ []) })

-- the parts of a game
entries : option_map (λ read. read.entries) (game (text_with [] (codes "message One\nP@.\n\nP@."))) ≡ Some (MessageEntry (codes "One") ∷ one_level ∷ one_level ∷ [])
unfolding chars is_utf8 encode utf8_valid_len
entries = refl

wins : option_map (λ read. read.wins) (game (text_with (codes "All Target on @\n") (codes "P")))
    ≡ Some (record { quantifier = All; subject = One (object 4); place = Some (AllOf 22 (object 3 ∷ object 4 ∷ [])) } ∷ [])
unfolding chars is_utf8 encode utf8_valid_len
wins = refl

prelude : option_map {U = List ℕ × Options} (λ read. (read.title, read.options)) (game (codes "noundo\n" ++ base_text (codes "P")))
    ≡ Some (codes "T", record { no_action = false; no_undo = true; no_restart = false; require_player_movement = false; run_rules_on_level_start = false; flickscreen = None })
unfolding chars is_utf8 encode utf8_valid_len
prelude = refl

-- a byte order mark and line ends of two bytes change nothing
abbrev with_returns : List ℕ → List ℕ
with_returns text = 239 ∷ 187 ∷ 191 ∷ flat_map (λ byte. if byte == 10 then 13 ∷ 10 ∷ [] else byte ∷ []) text

line_ends : option_map {U = List ℕ × List Entry} (λ read. (read.title, read.entries)) (game (with_returns (text_with [] (codes "P@.\n")))) ≡ Some (codes "T", one_level ∷ [])
unfolding chars is_utf8 encode utf8_valid_len
line_ends = refl

-- RULES and WINCONDITIONS may be absent
no_rules : is_game (base_head ++ codes "LEVELS\nP") ≡ true
unfolding chars is_utf8 encode utf8_valid_len
no_rules = refl

-- a comment that isn't closed runs to the end
open_comment : is_game (text_with [] (codes "P.\n(never closed")) ≡ true
unfolding chars is_utf8 encode utf8_valid_len
open_comment = refl

-- a text with a fault is no game
no_game : is_game (text_with [] (codes "P?")) ≡ false
unfolding chars is_utf8 encode utf8_valid_len
no_game = refl

no_text : is_game (255 ∷ text_with [] (codes "P")) ≡ false
unfolding chars is_utf8 encode utf8_valid_len
no_text = refl

-- faults -----------------------------------------------------------------------------------------------------------------

fine : first (text_with (codes "All Target on Crate\n") (codes "#P*O#\n")) ≡ None
unfolding chars is_utf8 encode utf8_valid_len
fine = refl

-- the faults of a text that is none for this cause, if there is one
abbrev faults_behind : Option Fault → List ℕ → List Fault
faults_behind cause text = elim cause [ Some fault ↦ fault ∷ [] | None ↦ line_faults (lines_of text) ]

-- bytes that are no text have that fault alone; too many bytes are told before wrong ones
wrong_byte : faults (codes "ti\n" ++ 255 ∷ []) ≡ record { kind = NotUtf8; line = 2 } ∷ []
unfolding chars is_utf8 encode utf8_valid_len
wrong_byte = refl

too_long : (text : List ℕ) → nat_lt TEXT_LIMIT (length text) ≡ true → faults text ≡ record { kind = TooLong; line = 1 } ∷ []
too_long text long = ap (λ test. faults_behind (elim test [ true ↦ Some (record { kind = TooLong; line = 1 }) | false ↦ utf8_fault text ]) text) long

-- no section at all, and a text of comment alone
empty : first [] ≡ at_line 1 NoSection
unfolding chars is_utf8 encode utf8_valid_len
empty = refl

comment_alone : first (codes "((((((((") ≡ at_line 1 NoSection
unfolding chars is_utf8 encode utf8_valid_len
comment_alone = refl

order : first (codes "LEGEND\nOBJECTS\n") ≡ at_line 2 SectionOrder
unfolding chars is_utf8 encode utf8_valid_len
order = refl

-- a comment from a header on hides it, and all below it
hidden : first (base_head ++ codes "RULES (\nWINCONDITIONS\nLEVELS\nP.\n") ≡ at_line 32 NoSection
unfolding chars is_utf8 encode utf8_valid_len
hidden = refl

-- a text that is cut off: within the last header, after it, after the first character of a level
cut_off : map (λ end. first (base_head ++ codes "WINCONDITIONS\n" ++ end)) (codes "LEVEL" ∷ codes "LEVELS" ∷ codes "LEVELS\n#" ∷ [])
    ≡ at_line 30 NoSection ∷ at_line 30 NoLevel ∷ None ∷ []
unfolding chars is_utf8 encode utf8_valid_len
cut_off = refl

real_time : first (codes "realtime_interval 1\n" ++ base_text (codes "P")) ≡ at_line 1 Realtime
unfolding chars is_utf8 encode utf8_valid_len
real_time = refl

unknown_glyph : first (text_with [] (codes "P?")) ≡ at_line 32 UnknownGlyph
unfolding chars is_utf8 encode utf8_valid_len
unknown_glyph = refl

property_glyph : first (codes "OBJECTS\nBackground .\ngreen\nPlayer P\nwhite\nLEGEND\nQ = Player or Background\nCOLLISIONLAYERS\nBackground\nPlayer\nLEVELS\n..\nPQ\n") ≡ at_line 13 PropertyGlyph
unfolding chars is_utf8 encode utf8_valid_len
property_glyph = refl

no_level : first (text_with [] []) ≡ at_line 31 NoLevel
unfolding chars is_utf8 encode utf8_valid_len
no_level = refl

bad_win : first (text_with (codes "No A\nNo\n") (codes "P")) ≡ at_line 32 BadWin
unfolding chars is_utf8 encode utf8_valid_len
bad_win = refl

unknown_name : first (text_with (codes "No Q\n") (codes "P")) ≡ at_line 31 UnknownWinName
unfolding chars is_utf8 encode utf8_valid_len
unknown_name = refl

-- levels before win conditions, although they stand below them; a missing level too
levels_first : first (text_with (codes "No Q\n") (codes "P?")) ≡ at_line 33 UnknownGlyph
unfolding chars is_utf8 encode utf8_valid_len
levels_first = refl

no_level_first : first (text_with (codes "No Q\n") (codes "message P")) ≡ at_line 32 NoLevel
unfolding chars is_utf8 encode utf8_valid_len
no_level_first = refl

-- a missing section before whatever the other sections have
section_first : first (base_head ++ codes "WINCONDITIONS\nNo Q\n") ≡ at_line 30 NoSection
unfolding chars is_utf8 encode utf8_valid_len
section_first = refl

-- a repeated header before them too
repeated_first : first (text_with (codes "No Q\n") (codes "P?\nLEVELS\n")) ≡ at_line 34 SectionOrder
unfolding chars is_utf8 encode utf8_valid_len
repeated_first = refl

-- the order of the parts ---------------------------------------------------------------------------------------------------

-- an unknown name on a layer line comes before a rule without a right side
names_first : first (base_head ++ codes "Q\nRULES\n[ A ] ->\nWINCONDITIONS\nNo Q\nLEVELS\nP?\n") ≡ at_line 29 UnknownName
unfolding chars digits is_utf8 encode utf8_valid_len
names_first = refl

-- that before the rows of levels and the win conditions
rules_second : first (base_game (codes "[ A ] ->\n") (codes "No Q\n") (codes "P?")) ≡ at_line 30 NothingRight
unfolding chars digits is_utf8 encode utf8_valid_len
rules_second = refl

-- a rule of which every reading is impossible comes after them all
abbrev impossible_rule : List ℕ
impossible_rule = codes "[ Player Wall ] -> [ Player ]\n"

levels_third : first (base_game impossible_rule (codes "No Q\n") (codes "P?")) ≡ at_line 34 UnknownGlyph
unfolding chars digits is_utf8 encode utf8_valid_len
levels_third = refl

wins_fourth : first (base_game impossible_rule (codes "No Q\n") (codes "P")) ≡ at_line 32 UnknownWinName
unfolding chars digits is_utf8 encode utf8_valid_len
wins_fourth = refl

impossible_last : first (base_game impossible_rule (codes "No A\n") (codes "P")) ≡ at_line 30 Impossible
unfolding chars digits is_utf8 encode utf8_valid_len
impossible_last = refl

-- too many readings of a rule come before that, also in a line below it
readings_before : first (base_game (impossible_rule ++ codes "right [ AT | AT | AT | AT | AT | AT | AT | AT | AT | AT | AT | AT | AT ] -> cancel\n") [] (codes "P")) ≡ at_line 31 TooManyReadings
unfolding chars digits is_utf8 encode utf8_valid_len
readings_before = refl
