use Rattle.std.proofs.Common.{◌≡◌, ◌∙◌, ◌<◌, ◌+◌, ◌++◌, ◌∷◌, ℕ, List, [], Some, Option, Bool, true, false}
use Rattle.std.proofs.Common.{Ok, length, map, take, get_or, refl}
use Rattle.std.proofs.Common.{ap, subst, arith}
use Rattle.std.specs.Prelude.{IfSome}
use Rattle.ps_report.specs.declared.details.How.{How}
use Rattle.ps_command.specs.Reported.{IsReportOfFile, IsReportOfGame, IsReportOfText, TellsReport}
use Rattle.ps_command.proofs.GamesTold.{names_more, told_none}
use Rattle.ps_command.proofs.ReportsTold.{file_reported, file_unread, game_reported, text_reported}
use Rattle.ps_command.proofs.reporting.report_each.Goals.{in-Some-true, in-Some-false, in-None}
use Rattle.ps_command.proofs.reporting.report_each.Goals as goal

pub loop-path-init : goal.loop-path-init
loop-path-init g c =
    record {
      heard = c.requires.heard;
      well = c.requires.well;
      each = refl;
      games = λ none. told_none (IsReportOfGame c.args.how) (g.O.ByteWriter.state c.args.screen.now).contents;
      texts = λ none. told_none (IsReportOfText c.args.how) (g.O.ByteWriter.state c.args.screen.now).contents;
      files = told_none (IsReportOfFile c.args.how) (g.O.ByteWriter.state c.args.screen.now).contents;
    }

pub loop-path-preserved : goal.loop-path-preserved
loop-path-preserved g c =
    let was = c.loop-path.invariant in
    let told = c.in_ok-report_one.ensures in
    let before : Option (List ℕ) = (g.O.ByteWriter.state c.args.screen.now).contents in
    let between : Option (List ℕ) = (g.O.ByteWriter.state c.loop-path.screen).contents in
    let after : Option (List ℕ) = (g.O.ByteWriter.state c.report_one.new.screen).contents in
    let k : ℕ = c.loop-path.path-index in
    let inside : k < length c.args.paths.now = omega (arith, c.loop-path-test.true) in
    let how : How = c.args.how in
    let name : List ℕ = (get_or c.args.paths.now k (record { ref_ptr = (0, 0); now = [] })).now in
    let names : List (List ℕ) = map (λ path. path.now) (take k c.args.paths.now) in
    let more : map (λ path. path.now) (take (k + 1) c.args.paths.now) ≡ names ++ name ∷ [] =
    names_more c.args.paths.now k _ inside in
    elim c.match-branch-2.branch [
      | in-Some-true w ↦
          let said : c.in_ok-report_one.field-0 ≡ Some true = w.in-Some-true.is ∙ ap Some w.in-Some-true.field-0-test in
          let game : TellsReport how name true between after =
          subst (λ (o : Option Bool). IfSome o (λ well. TellsReport how name well between after)) said told.told in
          record {
            heard = told.heard;
            well = told.well;
            each = omega (arith, was.each, w.games-is, w.faulty-is, w.unread-is);
            games = λ all.
                let early : c.loop-path.games ≡ k = omega (arith, all, w.games-is) in
                rw more (game_reported names how name before between after (was.games early) game);
            texts = λ none.
                let early : c.loop-path.unread ≡ 0 = omega (arith, none, w.unread-is) in
                rw more (text_reported names how name true before between after (was.texts early) game);
            files = rw more (file_reported names how name true before between after was.files game);
          }
      | in-Some-false w ↦
          let said : c.in_ok-report_one.field-0 ≡ Some false = w.in-Some-false.is ∙ ap Some w.in-Some-false.field-0-test
          in
          let text : TellsReport how name false between after =
          subst (λ (o : Option Bool). IfSome o (λ well. TellsReport how name well between after)) said told.told in
          record {
            heard = told.heard;
            well = told.well;
            each = omega (arith, was.each, w.games-is, w.faulty-is, w.unread-is);
            games = λ all. absurd (omega (arith, all, was.each, w.games-is));
            texts = λ none.
                let early : c.loop-path.unread ≡ 0 = omega (arith, none, w.unread-is) in
                rw more (text_reported names how name false before between after (was.texts early) text);
            files = rw more (file_reported names how name false before between after was.files text);
          }
      | in-None w ↦
          record {
            heard = told.heard;
            well = told.well;
            each = omega (arith, was.each, w.games-is, w.faulty-is, w.unread-is);
            games = λ all. absurd (omega (arith, all, was.each, w.games-is));
            texts = λ none. absurd (omega (arith, none, w.unread-is));
            files = rw more (file_unread names how name before between after was.files
                (told.unread (ap Ok w.in-None.is)));
          }
    ]
