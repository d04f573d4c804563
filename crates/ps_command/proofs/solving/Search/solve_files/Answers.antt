use Rattle.std.proofs.Common.{◌≡◌, ◌∙◌, ◌<◌, ◌+◌, ◌++◌, ◌∷◌, ℕ, List, [], Option, Bool, true, false}
use Rattle.std.proofs.Common.{length, map, take, get_or, ap, subst, sym, arith}
use Rattle.std.proofs.lemmas.Bool.{true≢false}
use Rattle.ps_answers.specs.TellsLevels.{Tells}
use Rattle.ps_command.specs.Searched.{AreLinesToldOf, AreWonLines}
use Rattle.ps_command.specs.Told.{TellsInOrder}
use Rattle.ps_command.specs.declared.solving.Question.{Question}
use Rattle.ps_command.proofs.GamesTold.{names_more, told_none}
use Rattle.ps_command.proofs.LinesOnLevels.{tells_more}
use Rattle.ps_command.proofs.solving.Search.solve_files.Goals.{then-all_won, else-all_won}
use Rattle.ps_command.proofs.solving.Search.solve_files.Goals as goal

pub loop-path-init : goal.loop-path-init
loop-path-init g c =
    let before : Option (List ℕ) = (g.O.ByteWriter.state c.args.screen.now).contents in
    record {
      heard = c.requires.heard;
      well = c.requires.well;
      won = λ all. told_none (AreWonLines c.args.self.now.question) before;
      told = told_none (AreLinesToldOf c.args.self.now.question) before;
    }

pub loop-path-preserved : goal.loop-path-preserved
loop-path-preserved g c =
    let asked : Question = c.args.self.now.question in
    let was = c.loop-path.invariant in
    let next = c.in_ok-won.ensures in
    let before : Option (List ℕ) = (g.O.ByteWriter.state c.args.screen.now).contents in
    let between : Option (List ℕ) = (g.O.ByteWriter.state c.loop-path.screen).contents in
    let after : Option (List ℕ) = (g.O.ByteWriter.state c.solve_file.new.screen).contents in
    let k : ℕ = c.loop-path.path-index in
    let inside : k < length c.args.paths.now = omega (arith, c.loop-path-test.true) in
    let name : List ℕ = (get_or c.args.paths.now k (record { ref_ptr = (0, 0); now = [] })).now in
    let names : List (List ℕ) = map (λ path. path.now) (take k c.args.paths.now) in
    let more : map (λ path. path.now) (take (k + 1) c.args.paths.now) ≡ names ++ name ∷ [] =
    names_more c.args.paths.now k _ inside in
    record {
      heard = next.heard;
      well = next.well;
      won = elim c.if-all_won.branch [
        | then-all_won w ↦ λ all.
            rw more (tells_more (AreWonLines asked) names name before between after (was.won w.if-all_won.true)
            (next.won (sym w.all_won-is ∙ all)))
        | else-all_won w ↦ λ all. absurd (true≢false (sym all ∙ w.all_won-is ∙ w.if-all_won.false))
      ];
      told = rw more (tells_more (AreLinesToldOf asked) names name before between after was.told next.told);
    }
