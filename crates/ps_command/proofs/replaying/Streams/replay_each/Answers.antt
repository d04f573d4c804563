use Rattle.std.proofs.Common.{◌≡◌, ◌∙◌, ◌<◌, ◌+◌, ◌++◌, ◌∷◌, ℕ, List, [], Option, Bool, true, false}
use Rattle.std.proofs.Common.{length, map, take, get_or, sym, arith}
use Rattle.std.proofs.lemmas.Bool.{true≢false}
use Rattle.ps_command.specs.Replayed.{AreLinesOnWon, AreLinesTold}
use Rattle.ps_command.proofs.GamesTold.{names_more, told_none}
use Rattle.ps_command.proofs.LinesOnLevels.{tells_more}
use Rattle.ps_command.proofs.replaying.Streams.replay_each.Goals.{then-all_won, else-all_won}
use Rattle.ps_command.proofs.replaying.Streams.replay_each.Goals as goal

pub loop-path-init : goal.loop-path-init
loop-path-init g c =
    let Won : List ℕ → List ℕ → Type 0 =
    AreLinesOnWon c.args.self.now.form c.args.self.now.game.now c.args.self.now.text.now in
    let Told : List ℕ → List ℕ → Type 0 =
    AreLinesTold c.args.self.now.form c.args.self.now.game.now c.args.self.now.text.now in
    let before : Option (List ℕ) = (g.O.ByteWriter.state c.args.screen.now).contents in
    record {
      heard = c.requires.heard;
      well = c.requires.well;
      won = λ all. told_none Won before;
      told = told_none Told before;
    }

pub loop-path-preserved : goal.loop-path-preserved
loop-path-preserved g c =
    let Won : List ℕ → List ℕ → Type 0 =
    AreLinesOnWon c.args.self.now.form c.args.self.now.game.now c.args.self.now.text.now in
    let Told : List ℕ → List ℕ → Type 0 =
    AreLinesTold c.args.self.now.form c.args.self.now.game.now c.args.self.now.text.now in
    let was = c.loop-path.invariant in
    let next = c.in_ok-won.ensures in
    let before : Option (List ℕ) = (g.O.ByteWriter.state c.args.screen.now).contents in
    let between : Option (List ℕ) = (g.O.ByteWriter.state c.loop-path.screen).contents in
    let after : Option (List ℕ) = (g.O.ByteWriter.state c.replay_file.new.screen).contents in
    let k : ℕ = c.loop-path.path-index in
    let inside : k < length c.args.paths.now = omega (arith, c.loop-path-test.true) in
    let name : List ℕ = (get_or c.args.paths.now k (record { ref_ptr = (0, 0); now = [] })).now in
    let names : List (List ℕ) = map (λ path. path.now) (take k c.args.paths.now) in
    let more : map (λ path. path.now) (take (k + 1) c.args.paths.now) ≡ names ++ name ∷ [] =
    names_more c.args.paths.now k _ inside in
    record {
      heard = next.heard;
      well = next.well;
      won = elim c.if-all_won.branch [
        | then-all_won w ↦ λ all.
            rw more (tells_more Won names name before between after (was.won w.if-all_won.true)
            (next.won (sym w.all_won-is ∙ all)))
        | else-all_won w ↦ λ all. absurd (true≢false (sym all ∙ w.all_won-is ∙ w.if-all_won.false))
      ];
      told = rw more (tells_more Told names name before between after was.told next.told);
    }
