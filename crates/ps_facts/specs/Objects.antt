-- The lines of OBJECTS read one after the other: each stands between objects, right below a name line, or below the
-- colours of an object, where rows of a sprite may stand.
use Rattle.std.specs.Prelude.{ℕ, ◌-◌, ◌==◌, nat_lt, Bool, false, ◌&&◌, not, if◌then◌else◌, List, [], ◌∷◌, ◌++◌}
use Rattle.std.specs.Prelude.{length}
use Rattle.std.specs.List.{list_all}
use Rattle.ps_model.specs.text.Lines.{Line, is_blank_line, words_of_line}
use Rattle.ps_model.specs.names.ObjectLines.{is_sprite_word, is_sprite_row}
use Rattle.ps_facts.specs.declared.objects.Place.{Place}
use Rattle.ps_facts.specs.declared.objects.Place.TheVariants.{Between, BelowName, BelowColours}
use Rattle.ps_facts.specs.Declarations.{Declared, declared_in}

-- words that are a row of a sprite
abbrev pub is_row : List (List ℕ) → Bool
is_row words = length words == 1 && list_all is_sprite_word words

-- a row of a sprite is the object's at this place
abbrev pub takes_row : Place → Bool → Bool
takes_row Between row = false
takes_row BelowName row = false
takes_row (BelowColours rows) row = nat_lt 0 rows && row

-- a line that isn't the object's above names another, where no colours are due and it isn't blank
abbrev pub names_other : Place → Bool → Bool
names_other Between blank = not blank
names_other BelowName blank = false
names_other (BelowColours rows) blank = not blank

-- a line at a place names an object, which is blank or the row of a sprite, or neither
abbrev pub names_object : Place → Bool → Bool → Bool
names_object place blank row = not (takes_row place row) && names_other place blank

-- the place below a line with words
abbrev pub below_words : Place → Place
below_words Between = BelowName
below_words BelowName = BelowColours 5
below_words (BelowColours rows) = BelowName

-- the place below a row of a sprite
abbrev pub below_row : Place → Place
below_row Between = Between
below_row BelowName = Between
below_row (BelowColours rows) = BelowColours (rows - 1)

-- the place below a line that is blank or the row of a sprite, or neither
abbrev pub place_below : Place → Bool → Bool → Place
place_below place blank row =
    if takes_row place row then below_row place else (if blank then Between else below_words place)

-- the names that a line at a place declares
abbrev pub names_at : Place → Line → List Declared
names_at place line =
    if names_object place (is_blank_line line) (is_sprite_row line) then declared_in line.number (words_of_line line)
    else []

-- the names that lines declare, the first of them at that place
abbrev pub names_from : Place → List Line → List Declared
names_from place [] = []
names_from place (line ∷ others) =
    names_at place line ++ names_from (place_below place (is_blank_line line) (is_sprite_row line)) others
