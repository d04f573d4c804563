-- Lines on the levels of texts, one text after the other.
use Rattle.std.proofs.Common.{◌≡◌, ℕ, ◌++◌, ◌∷◌, inl, inr, List, [], Option, Bool, true, refl, subst}
use Rattle.ps_devices.proofs.Unmoved.{nothing_taken}
use Rattle.ps_answers.specs.Forms.{told_in}
use Rattle.ps_answers.specs.SolvedTexts.{LacksAsked}
use Rattle.ps_answers.specs.TellsLevels.{AreLinesOn, Tells}
use Rattle.ps_answers.specs.declared.forms.Form.{Form}
use Rattle.ps_devices.specs.Devices.{Loses}
use Rattle.ps_report.specs.declared.details.How.{How}
use Rattle.ps_command.specs.Reported.{TellsReportOn}
use Rattle.ps_command.specs.Searched.{AreLinesToldOf, AreLinesToldOfText, AreWonLines, IsLineOnRefused, IsRefused}
use Rattle.ps_command.specs.Searched.{TellsOfGivenText, form_of, how_refused, telling_of}
use Rattle.ps_command.specs.Told.{TellsInOrder}
use Rattle.ps_command.specs.declared.solving.Question.{Question}
use Rattle.ps_command.proofs.GamesTold.{told_more}

-- one more text
pub tells_more : (Belongs : List ℕ → List ℕ → Type 0) (names : List (List ℕ)) (name : List ℕ)
    (before between after : Option (List ℕ)) → TellsInOrder Belongs names before between →
    Tells (Belongs name) between after → TellsInOrder Belongs (names ++ name ∷ []) before after
tells_more Belongs names name before between after was told =
    told_more Belongs names name told.lines before between after was told.are told.wrote

module _ (asked : Question) (name text : List ℕ) (form : Form) (is : form ≡ form_of asked) (won : Bool)
    (before after : Option (List ℕ))
    (told : Tells (AreLinesOn asked.level text (told_in form name) asked.limit won) before after)
  where
    own : AreLinesOn asked.level text (telling_of asked name) asked.limit won told.lines
    own = subst (λ (f : Form). AreLinesOn asked.level text (told_in f name) asked.limit won told.lines) is told.are

    -- the lines on the levels of a text
    pub lines_told : Tells (AreLinesToldOfText asked name text) before after
    lines_told = record { lines = told.lines; are = inl (record { won = won; are = own }); wrote = told.wrote }

    -- the same, where all are won
    pub lines_won : won ≡ true → Tells (AreWonLines asked name) before after
    lines_won all =
        record {
          lines = told.lines;
          are = record {
            text = text;
            are = subst (λ (b : Bool). AreLinesOn asked.level text (telling_of asked name) asked.limit b told.lines)
                all own;
          };
          wrote = told.wrote;
        }

-- nothing, as the text's game lacks the level
pub lacking_told : (asked : Question) (name text : List ℕ) (before after : Option (List ℕ)) →
    LacksAsked text asked.level → after ≡ before → Tells (AreLinesToldOfText asked name text) before after
lacking_told asked name text before after lacks same =
    rw same (record { lines = []; are = inr (inr (lacks, refl)); wrote = nothing_taken before })

-- what is told of a text that is refused
pub refused_told : (asked : Question) (name text : List ℕ) (before after : Option (List ℕ)) →
    Tells (IsLineOnRefused asked name text) before after → Tells (AreLinesToldOfText asked name text) before after
refused_told asked name text before after told =
    record { lines = told.lines; are = inr (inl told.are); wrote = told.wrote }

-- the report of a check is told
pub report_refused : (asked : Question) (name text : List ℕ) (how : How) (before after : Option (List ℕ)) →
    how ≡ how_refused asked → IsRefused text → TellsReportOn how name text before after →
    Tells (IsLineOnRefused asked name text) before after
report_refused asked name text how before after is refused told =
    let own : TellsReportOn (how_refused asked) name text before after =
    subst (λ (h : How). TellsReportOn h name text before after) is told in
    record { lines = own.lines; are = record { refused = refused; is = own.are }; wrote = own.wrote }

-- what is told of a text is told of some text
pub text_told : (asked : Question) (name text : List ℕ) (before after : Option (List ℕ)) →
    Tells (AreLinesToldOfText asked name text) before after → Tells (AreLinesToldOf asked name) before after
text_told asked name text before after told =
    record { lines = told.lines; are = inr (record { text = text; are = told.are }); wrote = told.wrote }

-- of a text that a reader has given
pub given_told : (asked : Question) (name text : List ℕ) (had left before after : Option (List ℕ)) →
    Loses had left text → Tells (AreLinesToldOfText asked name text) before after →
    TellsOfGivenText asked name had left before after
given_told asked name text had left before after given told = record { text = text; given = given; told = told }

-- nothing of a file that can't be read
pub unread_told : (asked : Question) (name : List ℕ) (before after : Option (List ℕ)) → after ≡ before →
    Tells (AreLinesToldOf asked name) before after
unread_told asked name before after same =
    rw same (record { lines = []; are = inl refl; wrote = nothing_taken before })

-- what is told of a file, whether it can be read or not
pub ruleset files_read = (text_told, given_told, unread_told)
