use Rattle.std.proofs.Common.{◌≡◌, ◌∙◌, ℕ, ◌+◌, ◌&&◌, Bool, List, Option, ap, subst, sym, rules}
use Rattle.ps_answers.specs.Forms.{told_in}
use Rattle.ps_answers.specs.TellsLevels.{AreLinesOnFirst, IsLineOnLevel, Telling, Tells}
use Rattle.ps_answers.specs.declared.forms.Form.{Form}
use Rattle.ps_answers.proofs.FirstLevels.{first_more}
use Rattle.ps_answers.proofs.tellers.LevelTeller.tell_first.Goals.{then-all_won, else-all_won}
use Rattle.ps_answers.proofs.tellers.LevelTeller.tell_first.Goals as goal

pub loop-before-preserved : goal.loop-before-preserved
loop-before-preserved g c =
    let text : List ℕ = g.G.SolvableGame.text c.args.self.now.game.now in
    let tell : Telling = told_in c.args.self.now.form c.args.self.now.name.now in
    let limit : ℕ = c.args.self.now.limit in
    let level : ℕ = c.loop-before.before + 1 in
    let before : Option (List ℕ) = (g.W.ByteWriter.state c.args.writer.now).contents in
    let between : Option (List ℕ) = (g.W.ByteWriter.state c.loop-before.writer).contents in
    let after : Option (List ℕ) = (g.W.ByteWriter.state c.tell_level.new.writer).contents in
    let was = c.loop-before.invariant in
    let won : Bool = c.in_ok-won.won in
    let same_text : g.G.SolvableGame.text c.loop-before.self.game.now ≡ text =
    ap (λ game. g.G.SolvableGame.text game.now) was.game in
    let same_tell : told_in c.loop-before.self.form c.loop-before.self.name.now ≡ tell =
    ap (λ (form : Form). told_in form c.loop-before.self.name.now) was.form
    ∙ ap (λ name. told_in c.args.self.now.form name.now) was.name in
    let own : Telling = told_in c.loop-before.self.form c.loop-before.self.name.now in
    let line : Tells (IsLineOnLevel text tell limit level won) between after =
    subst (λ (n : ℕ). Tells (IsLineOnLevel text tell n level won) between after) was.limit
    (subst (λ (t : Telling). Tells (IsLineOnLevel text t c.loop-before.self.limit level won) between after) same_tell
    (subst (λ (t : List ℕ). Tells (IsLineOnLevel t own c.loop-before.self.limit level won) between after) same_text
    c.in_ok-won.ensures.told)) in
    let more : Tells (AreLinesOnFirst text tell limit level (c.loop-before.all_won && won)) before after =
    first_more text tell limit c.loop-before.before c.loop-before.all_won won before between after was.told line in
    let is : (c.loop-before.all_won && won) ≡ c.if-all_won.all_won = elim c.if-all_won.branch [
      | then-all_won w ↦ ap (λ (b : Bool). b && won) w.if-all_won.true ∙ sym w.all_won-is
      | else-all_won w ↦ ap (λ (b : Bool). b && won) w.if-all_won.false ∙ sym w.if-all_won.false ∙ sym w.all_won-is
    ] in
    record {
      game = c.in_ok-won.ensures.game ∙ was.game;
      form = c.in_ok-won.ensures.form ∙ was.form;
      name = c.in_ok-won.ensures.name ∙ was.name;
      limit = c.in_ok-won.ensures.limit ∙ was.limit;
      well = c.in_ok-won.ensures.well (search rules);
      told = subst (λ (b : Bool). Tells (AreLinesOnFirst text tell limit level b) before after) is more;
    }
