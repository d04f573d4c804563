-- Reports of texts that are told one behind the other.
use Rattle.std.proofs.Common.{◌≡◌, ◌++◌, ◌∷◌, ℕ, inl, inr, List, [], Option, Bool, true, refl}
use Rattle.std.specs.Prelude.{codes}
use Rattle.ps_devices.specs.Devices.{Loses}
use Rattle.ps_devices.proofs.Unmoved.{nothing_taken}
use Rattle.ps_report.specs.Reports.{is_well}
use Rattle.ps_report.specs.declared.details.How.{How}
use Rattle.ps_command.specs.Reported.{IsReportOfFile, IsReportOfGame, IsReportOfText, TellsReport, TellsReportRead}
use Rattle.ps_command.specs.Reported.{TellsReportOn}
use Rattle.ps_command.specs.Told.{TellsInOrder}
use Rattle.ps_command.proofs.GamesTold.{told_more}

-- of this text, which is some text
pub report_told : (how : How) (name text : List ℕ) (well : Bool) (before after : Option (List ℕ)) →
    TellsReportOn how name text before after → well ≡ is_well how text → TellsReport how name well before after
report_told how name text well before after told is =
    record { lines = told.lines; are = record { text = text; is = is; are = told.are }; wrote = told.wrote }

-- of this text, which a reader has given, if it is that of standard input
pub read_told : (how : How) (name text : List ℕ) (well : Bool) (had left before after : Option (List ℕ)) →
    (name ≡ codes "-" → Loses had left text) → TellsReportOn how name text before after → well ≡ is_well how text →
    TellsReportRead how name well had left before after
read_told how name text well had left before after given told is =
    record { text = text; given = given; is = is; told = told }

-- that of one more game
pub game_reported : (names : List (List ℕ)) (how : How) (name : List ℕ) (before between after : Option (List ℕ)) →
    TellsInOrder (IsReportOfGame how) names before between → TellsReport how name true between after →
    TellsInOrder (IsReportOfGame how) (names ++ name ∷ []) before after
game_reported names how name before between after was told =
    told_more (IsReportOfGame how) names name told.lines before between after was told.are told.wrote

-- that of one more text
pub text_reported : (names : List (List ℕ)) (how : How) (name : List ℕ) (well : Bool)
    (before between after : Option (List ℕ)) → TellsInOrder (IsReportOfText how) names before between →
    TellsReport how name well between after → TellsInOrder (IsReportOfText how) (names ++ name ∷ []) before after
text_reported names how name well before between after was told =
    told_more (IsReportOfText how) names name told.lines before between after was
    (record { well = well; are = told.are }) told.wrote

-- that of one more file
pub file_reported : (names : List (List ℕ)) (how : How) (name : List ℕ) (well : Bool)
    (before between after : Option (List ℕ)) → TellsInOrder (IsReportOfFile how) names before between →
    TellsReport how name well between after → TellsInOrder (IsReportOfFile how) (names ++ name ∷ []) before after
file_reported names how name well before between after was told =
    told_more (IsReportOfFile how) names name told.lines before between after was
    (inr (record { well = well; are = told.are })) told.wrote

-- one more file that can't be read
pub file_unread : (names : List (List ℕ)) (how : How) (name : List ℕ) (before between after : Option (List ℕ)) →
    TellsInOrder (IsReportOfFile how) names before between → after ≡ between →
    TellsInOrder (IsReportOfFile how) (names ++ name ∷ []) before after
file_unread names how name before between after was same =
    rw same (told_more (IsReportOfFile how) names name [] before between between was (inl refl)
    (nothing_taken between))
