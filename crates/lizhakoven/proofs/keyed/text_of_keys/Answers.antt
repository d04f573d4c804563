use Rattle.std.proofs.Common.{◌++◌, ◌∙◌, List, ℕ, ap, sym}
use Rattle.ps_laws.specs.Fronts.{whole_front}
use Rattle.ps_model.specs.board.Turns.{Script}
use Rattle.ps_model.specs.game.Outputs.{opening_step}
use Rattle.ps_run.specs.GamesInPlay.{script_in}
use Rattle.lizhakoven.proofs.KeyedBytes.{opened}
use Rattle.lizhakoven.proofs.keyed.text_of_keys.Goals as goal

pub returns : goal.returns
returns c =
    let script : Script = script_in c.in_ok-play.play in
    let begun = c.in_ok-play.ensures.written
    ∙ ap (λ (l : List ℕ). l ++ (opening_step script).text) c.new-output.ensures
    ∙ sym (opened script) in
    c.in_default.ensures c.in_ok-play.ensures.session begun
    ∙ ap (λ (s : Script). whole_front s c.args.bytes.now) c.in_ok-play.ensures.script
