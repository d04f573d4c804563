-- Sections, headers and preludes, worked by hand.
use Rattle.std.proofs.Common.{◌≡◌, ℕ, List, [], ◌∷◌, ◌++◌, map, replicate, refl, Option, Some, None, true, false, Bool}
use Rattle.std.specs.Prelude.{codes}
use Rattle.ps_model.specs.declared.texts.Section.{Section}
use Rattle.ps_model.specs.declared.texts.Section.TheVariants.{Prelude, Objects, Legend, Sounds, Layers, Rules, Wins}
use Rattle.ps_model.specs.declared.texts.Section.TheVariants.{Levels}
use Rattle.ps_model.specs.declared.faults.Fault.{Fault}
use Rattle.ps_model.specs.declared.faults.FaultKind.{FaultKind}
use Rattle.ps_model.specs.declared.faults.FaultKind.TheVariants.{SectionOrder, NoSection, Realtime, BadFlickscreen}
use Rattle.ps_model.specs.text.Faults.{first_fault}
use Rattle.ps_model.specs.text.Lines.{lines_of}
use Rattle.ps_model.specs.declared.options.Options.{Options}
use Rattle.ps_model.specs.declared.rooms.RoomSize.{RoomSize}
use Rattle.ps_model.specs.text.WrittenSizes.{size_of_word}
use Rattle.ps_model.specs.text.Preludes.{options_of, title_of}
use Rattle.ps_model.specs.text.Sections.{section_lines, header_number, heading_faults}

-- the numbers of the lines of a section
abbrev numbers : List ℕ → Section → List ℕ
numbers text section = map (λ line. line.number) (section_lines (lines_of text) section)

-- lines of a section: without its header, without lines that aren't there, with blank lines
lines_of_sections : map (numbers
    (codes "title T\n\nobjects (x)\nA\n(a)\nred\n\n==\nB\nLegend\nSOUNDS\nx\nCOLLISIONLAYERS\nLEVELS\nP\n(a\n\n) b"))
    (Prelude ∷ Objects ∷ Legend ∷ Sounds ∷ Layers ∷ Rules ∷ Wins ∷ Levels ∷ [])
    ≡ (1 ∷ 2 ∷ []) ∷ (4 ∷ 6 ∷ 7 ∷ 9 ∷ []) ∷ [] ∷ (12 ∷ []) ∷ [] ∷ [] ∷ [] ∷ (15 ∷ 18 ∷ []) ∷ []
lines_of_sections = refl

-- where sections begin
header_numbers : map (header_number (lines_of (codes "OBJECTS\nA\nlevels\nP"))) (Objects ∷ Rules ∷ Levels ∷ []) ≡ 1 ∷ 0
    ∷ 3 ∷ []
header_numbers = refl

-- headers -------------------------------------------------------------------------------------------------------------

-- the first fault of headers and prelude
abbrev first : List ℕ → Option Fault
first text = first_fault (heading_faults (lines_of text))

abbrev at_line : ℕ → FaultKind → Option Fault
at_line line kind = Some (record { kind = kind; line = line })

all_sections : first (codes "x\nOBJECTS\nLEGEND\nSOUNDS\nCOLLISIONLAYERS\nRULES\nWINCONDITIONS\nLEVELS") ≡ None
all_sections = refl

-- four sections may be absent
needed_sections : first (codes "OBJECTS\nCOLLISIONLAYERS\nLEVELS\n\n") ≡ None
needed_sections = refl

-- each of the others may not; the last line is told
without_one : map first (codes "OBJECTS\nCOLLISIONLAYERS" ∷ codes "x\nOBJECTS\nLEVELS\n\n" ∷ codes
    "COLLISIONLAYERS\nLEVELS\nP\n\n\n" ∷ codes "x" ∷ [] ∷ [])
    ≡ at_line 2 NoSection ∷ at_line 4 NoSection ∷ at_line 5 NoSection ∷ at_line 1 NoSection ∷ at_line 1 NoSection ∷ []
without_one = refl

-- a comment that isn't closed hides the headers below
hidden : first (codes "OBJECTS\nCOLLISIONLAYERS (\nLEVELS\nP") ≡ at_line 4 NoSection
hidden = refl

order : first (codes "LEGEND\nOBJECTS\n") ≡ at_line 2 SectionOrder
order = refl

order_of_sounds : first (codes "OBJECTS\nSOUNDS\nLEGEND\nCOLLISIONLAYERS\nLEVELS") ≡ at_line 3 SectionOrder
order_of_sounds = refl

-- a later section among the headers above is enough
not_right_above : first (codes "OBJECTS\nCOLLISIONLAYERS\nRULES\nLEGEND\nLEVELS") ≡ at_line 4 SectionOrder
not_right_above = refl

repeated : first (codes "OBJECTS\nCOLLISIONLAYERS\nLEVELS\nP\n\nP\nlevels") ≡ at_line 7 SectionOrder
repeated = refl

-- a header is one wherever it stands, whatever the case of its letters, with comments beside it
as_colours : first (codes "OBJECTS\nA\n (x) Legend (y\n) \nCOLLISIONLAYERS\nObjects\nLEVELS") ≡ at_line 6 SectionOrder
as_colours = refl

-- with another word beside it, or as a text that is taken as it stands, it is none
no_header : first (codes "title OBJECTS\nOBJECTS\nOBJECTS x\nCOLLISIONLAYERS\nCOLLISIONLAYERS,\nLEVELS\nmessage OBJECTS") ≡ None
no_header = refl

-- real time -----------------------------------------------------------------------------------------------------------

real_time : first (codes "title T\n Realtime_Interval(x)0.5\nOBJECTS\nCOLLISIONLAYERS\nLEVELS") ≡ at_line 2 Realtime
real_time = refl

-- before a header out of order below it, and before a missing section
real_time_first : first (codes "realtime_interval\nLEVELS\nOBJECTS") ≡ at_line 1 Realtime
real_time_first = refl

-- not as a longer word, nor as another than the first, nor after a title, nor in a comment, nor below the prelude
no_real_time : first (codes "realtime_intervals 1\nx realtime_interval 1\n(\nrealtime_interval 1\n)\ntitle (\nrealtime_interval 1)\nOBJECTS\nrealtime_interval\nCOLLISIONLAYERS\nLEVELS")
    ≡ None
no_real_time = refl

-- options -------------------------------------------------------------------------------------------------------------

abbrev options : List ℕ → List Bool
options text =
    let set : Options = options_of (section_lines (lines_of text) Prelude) in
    set.no_action ∷ set.no_undo ∷ set.no_restart ∷ set.require_player_movement ∷ set.run_rules_on_level_start ∷ []

each_option : map options (codes "noaction" ∷ codes "noundo" ∷ codes "norestart" ∷ codes "require_player_movement" ∷
    codes "run_rules_on_level_start" ∷ [])
    ≡ (true ∷ false ∷ false ∷ false ∷ false ∷ []) ∷ (false ∷ true ∷ false ∷ false ∷ false ∷ []) ∷
    (false ∷ false ∷ true ∷ false ∷ false ∷ [])
    ∷ (false ∷ false ∷ false ∷ true ∷ false ∷ []) ∷ (false ∷ false ∷ false ∷ false ∷ true ∷ []) ∷ []
each_option = refl

-- in any case of letters, with other words after, with comments beside, and more than once
several_options : options (codes "NoAction 1\n\n(x) noundo(y)\nNORESTART\nnorestart\nOBJECTS\n") ≡ true ∷ true ∷ true ∷
    false ∷ false ∷ []
several_options = refl

-- not as a longer word, nor as another than the first, nor after a title, nor in a comment, nor below the prelude
no_options : options (codes "noactions\nx noundo\ntitle noundo\n(norestart)\nzoomscreen 3x3\nOBJECTS\nnorestart\n") ≡
    false ∷ false ∷ false ∷ false ∷ false ∷ []
no_options = refl

-- rooms ---------------------------------------------------------------------------------------------------------------

abbrev sized : ℕ → ℕ → Option RoomSize
sized width height = Some (record { width = width; height = height })

-- one to three digits each, and `x` in either case
sizes : map size_of_word (codes "3x1" ∷ codes "003X1" ∷ codes "1x256" ∷ codes "256X256" ∷ codes "10x020" ∷ [])
    ≡ sized 3 1 ∷ sized 3 1 ∷ sized 1 256 ∷ sized 256 256 ∷ sized 10 20 ∷ []
sizes = refl

-- not without two sides, nor with a third one
other_sides : map size_of_word ([] ∷ codes "3" ∷ codes "x" ∷ codes "3x" ∷ codes "x3" ∷ codes "3x1x2" ∷ codes "3xx1" ∷
    codes "3x1x" ∷ []) ≡ replicate 8 None
other_sides = refl

-- nor with a side of no column, or over the limit, or over three digits, or of other characters
other_words : map size_of_word (codes "0x1" ∷ codes "1x000" ∷ codes "257x1" ∷ codes "1x257" ∷ codes "1234x1" ∷ codes
    "0003x1" ∷ codes "1x0001" ∷ codes "3*1" ∷ codes "+3x1" ∷ codes "-3x1" ∷ codes "3x1," ∷ codes "3x0A" ∷ [])
    ≡ replicate 12 None
other_words = refl

abbrev rooms : List ℕ → Option RoomSize
rooms text = let set : Options = options_of (section_lines (lines_of text) Prelude) in set.flickscreen

-- the first line counts, in any case of letters, with other words after and comments beside it
first_rooms : map rooms (codes "flickscreen 3x1" ∷ codes
    "\n (x) FlickScreen\t(y) 003X1 (z) 4x4\nflickscreen 2x2\nOBJECTS" ∷ []) ≡ sized 3 1 ∷ sized 3 1 ∷ []
first_rooms = refl

-- not as a longer word, nor as another than the first, nor after a title, nor in a comment, nor below the prelude
no_rooms : rooms (codes "flickscreens 2x2\nx flickscreen 2x2\ntitle flickscreen 2x2\n(flickscreen 2x2)\nzoomscreen 2x2\nOBJECTS\nflickscreen 2x2\n") ≡ None
no_rooms = refl

-- a prelude of these lines
abbrev first_of_prelude : List ℕ → Option Fault
first_of_prelude prelude = first (prelude ++ codes "OBJECTS\nCOLLISIONLAYERS\nLEVELS\nP")

-- a size is the second word, and is there
no_size : map first_of_prelude (codes "flickscreen\n" ∷ codes "flickscreen 3 x 1\n" ∷ codes "Flickscreen (3x1) \n" ∷
    codes "flickscreen 3(x)1\n" ∷ codes "flickscreen x 3x1\n" ∷ codes "flickscreen 0x1\r\n" ∷ [])
    ≡ replicate 6 (at_line 1 BadFlickscreen)
no_size = refl

-- no line that asks for rooms may be without one, after one with a size neither
later_size : first_of_prelude (codes "flickscreen 3x1\n\nflickscreen 2x2\nflickscreen 3\nflickscreen\n") ≡ at_line 4
    BadFlickscreen
later_size = refl

-- line by line with real time and headers out of order, and before a missing section
size_by_line : map first (codes "flickscreen\nrealtime_interval 1" ∷ codes "realtime_interval 1\nflickscreen" ∷ codes
    "flickscreen\nLEVELS\nOBJECTS" ∷ [])
    ≡ at_line 1 BadFlickscreen ∷ at_line 1 Realtime ∷ at_line 1 BadFlickscreen ∷ []
size_by_line = refl

-- what isn't looked at
no_bad_size : first_of_prelude (codes
    "flickscreens 0\nx flickscreen 0\ntitle flickscreen 0\n(flickscreen 0)\nflickscreen 3x1 0x0\nzoomscreen 0\n") ≡ None
no_bad_size = refl

-- titles --------------------------------------------------------------------------------------------------------------

abbrev titles : List (List ℕ) → List (List ℕ)
titles texts = map (λ text. title_of (section_lines (lines_of text) Prelude)) texts

-- as it stands but for the blanks at its ends, in any case of the word `title`, up to a comment
one_title : titles (codes "title  The  Title \t\r\nOBJECTS" ∷ codes "\n (x) TITLE a = b\nOBJECTS" ∷ codes
    "title a (b) c" ∷ codes "title = =" ∷ [])
    ≡ codes "The  Title" ∷ codes "a = b" ∷ codes "a" ∷ codes "= =" ∷ []
one_title = refl

-- the first line counts, also where it is empty
first_title : titles (codes "author A\ntitle B\ntitle C" ∷ codes "title\ntitle C" ∷ codes "title(x)\ntitle C" ∷ codes
    "title (x) y\ntitle C" ∷ [])
    ≡ codes "B" ∷ [] ∷ [] ∷ [] ∷ []
first_title = refl

-- without a title line it is empty
no_title : titles ([] ∷ codes "titles A" ∷ codes "a title A" ∷ codes "OBJECTS\ntitle A" ∷ codes "(title A)" ∷ []) ≡ []
    ∷ [] ∷ [] ∷ [] ∷ [] ∷ []
no_title = refl
