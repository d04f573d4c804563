-- No object on a text has a number with a point: so its text is the compact one.
use Rattle.std.proofs.Common.{◌≡◌, ℕ, Bool, true, false, List, [], ◌∷◌, Option, Some, None, refl}
use Rattle.std.proofs.Common.{length}
use Rattle.std.specs.Prelude.{nat_le}
use Rattle.ps_model.specs.declared.faults.Fault.{Fault}
use Rattle.ps_model.specs.text.TextFaults.{text_fault}
use Rattle.ps_model.specs.text.Lines.{Line, lines_of}
use Rattle.ps_model.specs.text.Sections.{section_lines, heading_faults}
use Rattle.ps_model.specs.declared.texts.Section.TheVariants.{Prelude}
use Rattle.ps_model.specs.session.LevelLines.{Entry, MessageEntry, LevelEntry}
use Rattle.ps_model.specs.game.Games.{Game}
use Rattle.serde_json.specs.Data.{Data, Members, null, array}
use Rattle.serde_json.specs.View.{items_of}
use Rattle.serde_json.specs.Written.{has_float, items_have_float, members_have_float}
use Rattle.ps_report.specs.Objects.{IsFaultTold, counts_of, game_data, levels_data, object_with, refused_data}
use Rattle.ps_report.specs.Pages.{StandFor}
use Rattle.ps_report.specs.Preludes.{Said, said_by, said_unless}
use Rattle.ps_report.specs.ToldWarnings.{last_members, told_warnings, warning_members, warnings_data}
use Rattle.ps_report.specs.declared.details.How.{How}
use Rattle.ps_warnings.specs.declared.kinds.Warning.{Warning}
use Rattle.ps_report.proofs.WordsSaid.{said_if}

-- levels
levels_plain : (entries : List Entry) → items_have_float (items_of (levels_data entries)) ≡ false
levels_plain [] = refl
levels_plain (MessageEntry text ∷ entries) = levels_plain entries
levels_plain (LevelEntry level ∷ entries) = levels_plain entries

-- faults
faults_plain : (text : List ℕ) (faults : List Fault) (told : List Data) → StandFor (IsFaultTold text) faults told →
    items_have_float (items_of told) ≡ false
faults_plain text [] told none = rw none refl
faults_plain text (fault ∷ faults) told was = rw (was.are, was.first.are) (faults_plain text faults was.rest was.others)

-- what a text says of itself
pub record IsPlain (said : Said) : Type 0 where
  pub author : has_float said.author ≡ false
  pub homepage : has_float said.homepage ≡ false
  pub title : has_float said.title ≡ false

unless_plain : (faults : List Fault) (prelude : List Line) → IsPlain (said_unless faults prelude)
unless_plain [] prelude = record { author = refl; homepage = refl; title = refl }
unless_plain (fault ∷ faults) prelude = record { author = refl; homepage = refl; title = refl }

if_plain : (text : List ℕ) (fault : Option Fault) → IsPlain (said_if text fault)
if_plain text None = unless_plain (heading_faults (lines_of text)) (section_lines (lines_of text) Prelude)
if_plain text (Some fault) = record { author = refl; homepage = refl; title = refl }

said_plain : (text : List ℕ) → IsPlain (said_by text)
said_plain text = if_plain text (text_fault text)

-- an object
object_plain : (said : Said) (complete : Bool) (counts : Data) (faults : List Data) (file : List ℕ) (levels : Data)
    (ok : Bool) (last : Members) → IsPlain said → has_float counts ≡ false → items_have_float (items_of faults) ≡ false →
    has_float levels ≡ false → members_have_float last ≡ false →
    has_float (object_with said complete counts faults file levels ok last) ≡ false
object_plain said complete counts faults file levels ok last plain few none flat end =
    rw (plain.author, few, none, plain.homepage, flat, plain.title) end

-- warnings
warnings_plain : (warnings : List Warning) → items_have_float (items_of (warnings_data warnings)) ≡ false
warnings_plain [] = refl
warnings_plain (warning ∷ warnings) = warnings_plain warnings

last_plain : (asked : Bool) (warnings : List Warning) → members_have_float (warning_members asked warnings) ≡ false
last_plain true warnings = rw (warnings_plain warnings) refl
last_plain false warnings = refl

pub game_plain : (how : How) (name text : List ℕ) (read : Game) → has_float (game_data how name text read) ≡ false
unfolding game_data
game_plain how name text read =
    object_plain (said_by text) true (counts_of read) [] name (array (items_of (levels_data read.entries))) true
    (last_members how text) (said_plain text) refl refl (levels_plain read.entries)
    (last_plain how.warns (told_warnings how text))

pub refused_plain : (how : How) (name text : List ℕ) (told shown : List Fault) (faults : List Data) →
    StandFor (IsFaultTold text) shown faults → has_float (refused_data how name text told faults) ≡ false
unfolding refused_data
refused_plain how name text told shown faults was =
    object_plain (said_by text) (nat_le (length told) how.most) null faults name null false (last_members how text)
    (said_plain text) refl (faults_plain text shown faults was) refl (last_plain how.warns (told_warnings how text))
