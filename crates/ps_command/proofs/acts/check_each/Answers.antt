use Rattle.std.proofs.Common.{◌≡◌, ◌∙◌, ◌<◌, ◌+◌, ◌++◌, ◌∷◌, ℕ, List, [], Some, Option, Bool, true, false}
use Rattle.std.proofs.Common.{Ok, length, map, take, get_or, refl}
use Rattle.std.proofs.Common.{ap, subst, arith}
use Rattle.std.specs.Prelude.{IfSome}
use Rattle.ps_command.specs.Told.{AreLinesOnFile, IsLineOfGame, TellsOf}
use Rattle.ps_report.specs.declared.details.Detail.{Detail}
use Rattle.ps_command.proofs.GamesTold.{files_more, files_unread, games_more, names_more, told_none}
use Rattle.ps_command.proofs.acts.check_each.Goals.{in-Some-true, in-Some-false, in-None}
use Rattle.ps_command.proofs.acts.check_each.Goals as goal

pub loop-path-init : goal.loop-path-init
loop-path-init g c =
    record {
      heard = c.requires.heard;
      well = c.requires.well;
      each = refl;
      written = omega arith;
      games = λ none. told_none IsLineOfGame (g.O.ByteWriter.state c.args.screen.now).contents;
      files = told_none (AreLinesOnFile c.args.detail) (g.O.ByteWriter.state c.args.screen.now).contents;
    }

pub loop-path-preserved : goal.loop-path-preserved
loop-path-preserved g c =
    let was = c.loop-path.invariant in
    let told = c.in_ok-check_one.ensures in
    let before : Option (List ℕ) = (g.O.ByteWriter.state c.args.screen.now).contents in
    let between : Option (List ℕ) = (g.O.ByteWriter.state c.loop-path.screen).contents in
    let after : Option (List ℕ) = (g.O.ByteWriter.state c.check_one.new.screen).contents in
    let called : ℕ = (g.O.ByteWriter.state c.loop-path.screen).calls in
    let calls : ℕ = (g.O.ByteWriter.state c.check_one.new.screen).calls in
    let k : ℕ = c.loop-path.path-index in
    let inside : k < length c.args.paths.now = omega (arith, c.loop-path-test.true) in
    let detail : Detail = c.args.detail in
    let name : List ℕ = (get_or c.args.paths.now k (record { ref_ptr = (0, 0); now = [] })).now in
    let names : List (List ℕ) = map (λ path. path.now) (take k c.args.paths.now) in
    let more : map (λ path. path.now) (take (k + 1) c.args.paths.now) ≡ names ++ name ∷ [] =
    names_more c.args.paths.now k _ inside in
    elim c.match-branch-2.branch [
      | in-Some-true w ↦
          let said : c.in_ok-check_one.field-0 ≡ Some true = w.in-Some-true.is ∙ ap Some w.in-Some-true.field-0-test in
          let game : TellsOf detail name true between after =
          subst (λ (o : Option Bool). IfSome o (λ accepted. TellsOf detail name accepted between after)) said told.told
          in
          record {
            heard = told.heard;
            well = told.well;
            each = omega (arith, was.each, w.games-is, w.faulty-is, w.unread-is);
            written = omega (
              arith,
              was.written,
              w.games-is,
              w.faulty-is,
              (subst (λ (o : Option Bool). IfSome o (λ accepted.
                  called < calls)) said
                  told.written),
            );
            games = λ all.
                let early : c.loop-path.games ≡ k = omega (arith, all, w.games-is) in
                rw more (games_more names detail name before between after (was.games early) game);
            files = rw more (files_more names detail name true before between after was.files game);
          }
      | in-Some-false w ↦
          let said : c.in_ok-check_one.field-0 ≡ Some false = w.in-Some-false.is ∙ ap Some w.in-Some-false.field-0-test
          in
          let text : TellsOf detail name false between after =
          subst (λ (o : Option Bool). IfSome o (λ accepted. TellsOf detail name accepted between after)) said told.told
          in
          record {
            heard = told.heard;
            well = told.well;
            each = omega (arith, was.each, w.games-is, w.faulty-is, w.unread-is);
            written = omega (
              arith,
              was.written,
              w.games-is,
              w.faulty-is,
              (subst (λ (o : Option Bool). IfSome o (λ accepted.
                  called < calls)) said
                  told.written),
            );
            games = λ all. absurd (omega (arith, all, was.each, w.games-is));
            files = rw more (files_more names detail name false before between after was.files text);
          }
      | in-None w ↦
          record {
            heard = told.heard;
            well = told.well;
            each = omega (arith, was.each, w.games-is, w.faulty-is, w.unread-is);
            written = omega (arith, was.written, w.games-is, w.faulty-is, told.on);
            games = λ all. absurd (omega (arith, all, was.each, w.games-is));
            files = rw more (files_unread names detail name before between after was.files
                (told.unread (ap Ok w.in-None.is)));
          }
    ]
