-- The warnings of a text, of its lines, and of its sections.
use Rattle.std.proofs.Common.{◌≡◌, ◌∙◌, ◌++◌, ℕ, Bool, List, [], ◌∷◌, Option, Some, None, map, refl, sym, ap, ap₂, subst}
use Rattle.std.proofs.Common.{append_assoc}
use Rattle.std.proofs.lemmas.Option.{same_Some}
use Rattle.ps_model.specs.declared.texts.Section.TheVariants.{Prelude, Layers, Rules, Wins, Levels}
use Rattle.ps_model.specs.declared.faults.Fault.{Fault}
use Rattle.ps_model.specs.text.Faults.{first_fault}
use Rattle.ps_model.specs.text.TextFaults.{text_fault}
use Rattle.ps_model.specs.text.Lines.{Line, lines_of}
use Rattle.ps_model.specs.text.Sections.{header_number, heading_faults, section_lines}
use Rattle.ps_model.specs.names.Names.{Names}
use Rattle.ps_model.specs.rules.SourceRules.{RuleLine}
use Rattle.ps_model.specs.session.LevelLines.{Entry, entries_read, entry_lines}
use Rattle.ps_model.specs.game.Games.{Game, faults, faults_beside, game, game_of_lines, game_read, unless}
use Rattle.ps_laws.proofs.texts.OneGame.{fault_bars_game, first_is_fault}
use Rattle.ps_warnings.specs.declared.kinds.Warning.{Warning}
use Rattle.ps_warnings.specs.Brought.{objects_there}
use Rattle.ps_warnings.specs.GroundWarnings.{ground_warnings}
use Rattle.ps_warnings.specs.InOrder.{in_order}
use Rattle.ps_warnings.specs.LayerWarnings.{layer_warnings}
use Rattle.ps_warnings.specs.LevelStarts.{number_of}
use Rattle.ps_warnings.specs.LevelWarnings.{level_warnings, warnings_at}
use Rattle.ps_warnings.specs.OptionWarnings.{option_warnings}
use Rattle.ps_warnings.specs.RoomWarnings.{room_warnings}
use Rattle.ps_warnings.specs.RuleWarnings.{rule_warnings}
use Rattle.ps_warnings.specs.Sounds.{sounding_lines}
use Rattle.ps_warnings.specs.UnwonWarnings.{unwon_warnings}
use Rattle.ps_warnings.specs.WinWarnings.{win_warnings}
use Rattle.ps_warnings.specs.WordWarnings.{level_line_warnings, written_warnings}
use Rattle.ps_warnings.specs.Warnings.{declarations_in, prelude_in, rules_in, unused_in, warnings, warnings_in}
use Rattle.ps_warnings.specs.Warnings.{warnings_of_lines, wins_in}
use Rattle.ps_warnings.proofs.EntriesWarned.{warned_alike}

-- lines ---------------------------------------------------------------------------------------------------------------

-- those of lines by their game, if they have one
abbrev by_game : List Line → Option Game → List Warning
by_game lines read = elim read [ Some own ↦ warnings_in own lines | None ↦ [] ]

pub lines_fine : (lines : List Line) (read : Game) (told : List Warning) → game_of_lines lines ≡ Some read →
    told ≡ warnings_in read lines → told ≡ warnings_of_lines lines
lines_fine lines read told is e = e ∙ sym (ap (by_game lines) is)

barred : (found others : List Fault) (fault : Fault) (read : Game) → first_fault found ≡ Some fault →
    unless (found ++ others) read ≡ None
barred [] others fault read first = absurd (let h = first in cc)
barred (head ∷ found) others fault read first = refl

pub lines_faulty : (lines : List Line) (fault : Fault) (told : List Warning) →
    first_fault (heading_faults lines) ≡ Some fault → told ≡ [] → told ≡ warnings_of_lines lines
lines_faulty lines fault told first e =
    e ∙ sym (ap (by_game lines) (barred (heading_faults lines) _ fault (game_read lines) first))

-- texts ---------------------------------------------------------------------------------------------------------------

-- the game of a text by its fault as bytes, if it has one, and its warnings
abbrev game_if : List ℕ → Option Fault → Option Game
game_if text fault = elim fault [ Some only ↦ None | None ↦ game_of_lines (lines_of text) ]

abbrev warned_if : List ℕ → Option Fault → List Warning
warned_if text fault = elim fault [ Some only ↦ [] | None ↦ warnings_of_lines (lines_of text) ]

pub text_fine : (text : List ℕ) (told : List Warning) → text_fault text ≡ None →
    told ≡ warnings_of_lines (lines_of text) → told ≡ warnings text
unfolding warnings
text_fine text told none e = e ∙ sym (ap (warned_if text) none)

pub text_faulty : (text : List ℕ) (fault : Fault) (told : List Warning) → text_fault text ≡ Some fault → told ≡ [] →
    told ≡ warnings text
unfolding warnings
text_faulty text fault told some e = e ∙ sym (ap (warned_if text) some)

pub game_by_lines : (text : List ℕ) (read : Game) → text_fault text ≡ None → game text ≡ Some read →
    game_of_lines (lines_of text) ≡ Some read
game_by_lines text read none is = sym (ap (game_if text) none) ∙ is

without_game : (text : List ℕ) (fault : Option Fault) → game_if text fault ≡ None → [] ≡ warned_if text fault
without_game text None e = sym (ap (by_game (lines_of text)) e)
without_game text (Some only) e = refl

pub none_of_refused : (text : List ℕ) (fault : Fault) (told : List Warning) → first_fault (faults text) ≡ Some fault →
    told ≡ [] → told ≡ warnings text
unfolding warnings
none_of_refused text fault told first e =
    e ∙ without_game text (text_fault text) (fault_bars_game text fault (first_is_fault text fault first))

-- sections ------------------------------------------------------------------------------------------------------------

unrefused : (found : List Fault) (read made : Game) → unless found read ≡ Some made → made ≡ read
unrefused [] read made e = same_Some made read (sym e)
unrefused (first ∷ others) read made e = absurd (cc)

-- the entries of the game of lines are those of LEVELS
entries_are : (lines : List Line) (read : Game) → game_of_lines lines ≡ Some read →
    read.entries ≡ entries_read read.names (section_lines lines Levels)
entries_are lines read is =
    let same : read ≡ game_read lines = unrefused (faults_beside (game_read lines) lines) (game_read lines) read is in
    subst (λ (own : Game). own.entries ≡ entries_read own.names (section_lines lines Levels)) (sym same) refl

levels_warned : (names : Names) (lines : List Line) (numbers : List ℕ) (entries : List Entry) →
    numbers ≡ map number_of (entry_lines lines) → entries ≡ entries_read names lines →
    warnings_at names numbers entries ≡ level_warnings names lines
levels_warned names lines numbers entries n e = ap₂ (warnings_at names) n e ∙ warned_alike names (entry_lines lines)

-- section by section
pub sections_warned : (lines levels : List Line) (read : Game) (names : Names)
    (entries : List Entry) (numbers : List ℕ) (words first second third none ones owned nothing others lent
    whole : List Warning) →
    game_of_lines lines ≡ Some read → section_lines lines Levels ≡ levels → names ≡ read.names →
    entries ≡ read.entries → numbers ≡ map number_of (entry_lines levels) →
    words ≡ prelude_in read lines → first ≡ words ++ declarations_in read lines →
    second ≡ first ++ rules_in read lines →
    third ≡ second ++ wins_in read lines → none ≡ [] → ones ≡ none ++ warnings_at names numbers entries → owned ≡ ones →
    nothing ≡ [] → others ≡ nothing ++ level_line_warnings levels → lent ≡ others → whole ≡ third ++ in_order owned lent →
    whole ≡ warnings_in read lines
sections_warned lines levels read names entries numbers words first second third none ones owned nothing
    others lent whole is l n e m a h b c u d x v f y g =
    let O : List Warning = prelude_in read lines in
    let U : List Warning = declarations_in read lines in
    let R : List Warning = rules_in read lines in
    let W : List Warning = wins_in read lines in
    let L : List Warning = level_warnings read.names (section_lines lines Levels) in
    let Rows : List Warning = level_line_warnings (section_lines lines Levels) in
    let join : List Warning → List Warning → List Warning = λ xs ys. xs ++ ys in
    let options : first ≡ O ++ U =
    h ∙ ap (λ (told : List Warning). told ++ U) a in
    let starts : numbers ≡ map number_of (entry_lines (section_lines lines Levels)) =
    m ∙ ap (λ (ls : List Line). map number_of (entry_lines ls)) (sym l) in
    let levelled : owned ≡ L =
    x ∙ d ∙ ap (λ (told : List Warning). told ++ warnings_at names numbers entries) u
    ∙ ap (λ (ns : Names). warnings_at ns numbers entries) n
    ∙ levels_warned read.names (section_lines lines Levels) numbers entries starts (e ∙ entries_are lines read is) in
    let two : second ≡ (O ++ U) ++ R = b ∙ ap (λ (told : List Warning). told ++ R) options in
    let three : third ≡ ((O ++ U) ++ R) ++ W = c ∙ ap (λ (told : List Warning). told ++ W) two in
    let rows : lent ≡ Rows =
    y ∙ f ∙ ap (λ (told : List Warning). told ++ level_line_warnings levels) v ∙ ap level_line_warnings (sym l) in
    g ∙ ap₂ join three (ap₂ in_order levelled rows)
    ∙ append_assoc ((O ++ U) ++ R) W (in_order L Rows)
    ∙ append_assoc (O ++ U) R (W ++ in_order L Rows)
    ∙ append_assoc O U (R ++ (W ++ in_order L Rows))

-- rules ---------------------------------------------------------------------------------------------------------------

pub rules_told : (lines rules : List Line) (read : Game) (names : Names) (own : List RuleLine) (sounding sounds : List ℕ)
    (there marks : List Bool) (wrong others ones twice none nothing : List Warning) →
    section_lines lines Rules ≡ rules → names ≡ read.names → own ≡ read.rules →
    sounding ≡ sounding_lines rules → sounds ≡ sounding →
    there ≡ objects_there read.names read.rules read.entries → marks ≡ there → none ≡ [] →
    wrong ≡ none ++ rule_warnings names sounds marks own → ones ≡ wrong → nothing ≡ [] →
    others ≡ nothing ++ written_warnings rules → twice ≡ others → in_order ones twice ≡ rules_in read lines
rules_told lines rules read names own sounding sounds there marks wrong others ones twice none nothing r n o s q t m e i
    a z h b =
    let heard : sounds ≡ sounding_lines (section_lines lines Rules) = q ∙ s ∙ ap sounding_lines (sym r) in
    let seen : marks ≡ objects_there read.names read.rules read.entries = m ∙ t in
    let ruled : rule_warnings names sounds marks own
    ≡ rule_warnings read.names (sounding_lines (section_lines lines Rules))
    (objects_there read.names read.rules read.entries) read.rules = rw (n, o, heard, seen) refl in
    ap₂ in_order
    (a ∙ i ∙ ap (λ (told : List Warning). told ++ rule_warnings names sounds marks own) e ∙ ruled)
    (b ∙ h ∙ ap (λ (told : List Warning). told ++ written_warnings rules) z ∙ ap written_warnings (sym r))

-- win conditions ------------------------------------------------------------------------------------------------------

pub wins_told : (lines wins : List Line) (read : Game) (names : Names) (there marks : List Bool) (header : ℕ)
    (before first : List Warning) → section_lines lines Wins ≡ wins → names ≡ read.names →
    there ≡ objects_there read.names read.rules read.entries → marks ≡ there → header_number lines Levels ≡ header →
    first ≡ before ++ win_warnings names marks wins →
    first ++ unwon_warnings read header ≡ before ++ wins_in read lines
wins_told lines wins read names there marks header before first w n t m h e =
    let seen : marks ≡ objects_there read.names read.rules read.entries = m ∙ t in
    let own : win_warnings names marks wins
    ≡ win_warnings read.names (objects_there read.names read.rules read.entries) (section_lines lines Wins) =
    rw (n, seen, ← w) refl in
    ap (λ (told : List Warning). told ++ unwon_warnings read header) e
    ∙ append_assoc before (win_warnings names marks wins) (unwon_warnings read header)
    ∙ ap₂ (λ (told : List Warning) (number : ℕ). before ++ (told ++ unwon_warnings read number)) own (sym h)

-- declarations --------------------------------------------------------------------------------------------------------

pub declarations_told : (lines layers : List Line) (read : Game) (names : Names) (before first none twice ones nothing
    crowded others : List Warning) → section_lines lines Layers ≡ layers → names ≡ read.names →
    first ≡ before ++ unused_in read lines → none ≡ [] → twice ≡ none ++ layer_warnings names layers → ones ≡ twice →
    nothing ≡ [] → crowded ≡ nothing ++ ground_warnings read.names read.rules layers → others ≡ crowded →
    first ++ in_order ones others ≡ before ++ declarations_in read lines
declarations_told lines layers read names before first none twice ones nothing crowded others l n e m t o v c h =
    let ground : List Line → List Warning = λ ls. ground_warnings read.names read.rules ls in
    let told : in_order ones others ≡ in_order (layer_warnings read.names (section_lines lines Layers))
    (ground (section_lines lines Layers)) =
    ap₂ in_order
    (o ∙ t ∙ ap (λ (xs : List Warning). xs ++ layer_warnings names layers) m
    ∙ ap₂ (λ (own : Names) (ls : List Line). layer_warnings own ls) n (sym l))
    (h ∙ c ∙ ap (λ (xs : List Warning). xs ++ ground layers) v ∙ ap ground (sym l)) in
    ap₂ (λ (xs ys : List Warning). xs ++ ys) e told
    ∙ append_assoc before (unused_in read lines) (in_order (layer_warnings read.names (section_lines lines Layers))
    (ground (section_lines lines Layers)))

-- the prelude ---------------------------------------------------------------------------------------------------------

pub prelude_told : (lines prelude : List Line) (read : Game) (none words ones nothing rooms others : List Warning) →
    section_lines lines Prelude ≡ prelude → none ≡ [] → words ≡ none ++ option_warnings prelude → ones ≡ words →
    nothing ≡ [] → rooms ≡ nothing ++ room_warnings read.options.flickscreen read.entries prelude → others ≡ rooms →
    in_order ones others ≡ prelude_in read lines
prelude_told lines prelude read none words ones nothing rooms others p n w o m r t =
    let own : List Line → List Warning = λ ls. room_warnings read.options.flickscreen read.entries ls in
    ap₂ in_order
    (o ∙ w ∙ ap (λ (told : List Warning). told ++ option_warnings prelude) n ∙ ap option_warnings (sym p))
    (t ∙ r ∙ ap (λ (told : List Warning). told ++ own prelude) m ∙ ap own (sym p))
