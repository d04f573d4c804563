-- What is made of the parts of an object on a text is the object, and its line.
use Rattle.std.proofs.Common.{◌≡◌, ◌∙◌, ℕ, Bool, true, false, List, [], refl, ap, length, take}
use Rattle.std.specs.Prelude.{nat_le}
use Rattle.ps_model.specs.declared.faults.Fault.{Fault}
use Rattle.ps_model.specs.game.Games.{Game}
use Rattle.serde_json.specs.Data.{Data, null, array}
use Rattle.serde_json.specs.View.{items_of}
use Rattle.serde_json.specs.Written.{has_float}
use Rattle.ps_report.specs.Objects.{IsFaultTold, IsRefusedLine, counts_of, data_line, game_data, levels_data, object_with}
use Rattle.ps_report.specs.Objects.{refused_data}
use Rattle.ps_report.specs.Pages.{StandFor}
use Rattle.ps_report.specs.Preludes.{said_by}
use Rattle.ps_report.specs.ToldWarnings.{last_members}
use Rattle.ps_report.specs.declared.details.How.{How}
use Rattle.ps_report.proofs.DataPlain.{game_plain, refused_plain}

-- of a game
pub game_made : (how : How) (name text : List ℕ) (read : Game) (counts : Data) (faults : List Data) (sizes : Data)
    (levels : List Data) (told : Data) →
    told ≡ object_with (said_by text) true counts faults name sizes true (last_members how text) → faults ≡ [] →
    sizes ≡ array (items_of levels) → counts ≡ counts_of read → levels ≡ levels_data read.entries →
    told ≡ game_data how name text read
unfolding game_data
game_made how name text read counts faults sizes levels told is none flat b c = rw (is, none, flat, b, c) refl

pub game_line_made : (how : How) (name text : List ℕ) (read : Game) (told : Data) (line : List ℕ) →
    told ≡ game_data how name text read → (has_float told ≡ false → line ≡ data_line told) →
    line ≡ data_line (game_data how name text read)
game_line_made how name text read told line is written =
    written (ap has_float is ∙ game_plain how name text read) ∙ ap data_line is

-- of a text with faults
pub refused_made : (how : How) (name text : List ℕ) (told : List Fault) (shown : List Data) (complete ok : Bool)
    (counts levels made : Data) → complete ≡ nat_le (length told) how.most → counts ≡ null → levels ≡ null →
    ok ≡ false →
    made ≡ object_with (said_by text) complete counts shown name levels ok (last_members how text) →
    made ≡ refused_data how name text told shown
unfolding refused_data
refused_made how name text told shown complete ok counts levels made full none flat refused is =
    is ∙ rw (full, none, flat, refused) refl

pub refused_line_made : (how : How) (name text : List ℕ) (told : List Fault) (shown : List Data) (made : Data)
    (line : List ℕ) → StandFor (IsFaultTold text) (take how.most told) shown →
    made ≡ refused_data how name text told shown → (has_float made ≡ false → line ≡ data_line made) →
    IsRefusedLine how name text told line
refused_line_made how name text told shown made line each is written =
    record {
      faults = shown;
      each = each;
      are = written (ap has_float is ∙ refused_plain how name text told (take how.most told) shown each)
          ∙ ap data_line is;
    }
