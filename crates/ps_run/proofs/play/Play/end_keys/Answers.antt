use Rattle.std.proofs.Common.{◌≡◌, ◌++◌, ◌∙◌, [], List, ℕ, ap}
use Rattle.std.specs.Prelude.{codes}
use Rattle.ps_model.specs.session.Frames.{written_line}
use Rattle.ps_model.specs.game.Outputs.{end_of_keys_line}
use Rattle.ps_run.proofs.play.Play.end_keys.Goals as goal

pub returns-clause-written : goal.returns-clause-written
returns-clause-written g c =
    let shown : c.add_line.new.self ≡ end_of_keys_line = c.in_ok-add_line.ensures.added
    ∙ ap (λ (bytes : List ℕ). bytes ++ written_line (codes "* end of keys") []) c.clear.ensures in
    rw shown at c.write_output.ensures.written

pub returns-clause-stops : goal.returns-clause-stops
returns-clause-stops g c =
    let shown : c.add_line.new.self ≡ end_of_keys_line = c.in_ok-add_line.ensures.added
    ∙ ap (λ (bytes : List ℕ). bytes ++ written_line (codes "* end of keys") []) c.clear.ensures in
    rw shown at c.write_output.ensures.stops
