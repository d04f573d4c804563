use Rattle.std.proofs.Common.{◌≡◌, List, ℕ, subst}
use Rattle.ps_answers.specs.SolvedTexts.{LacksLevel}
use Rattle.ps_command.proofs.solving.Search.solve_led.Goals as goal

pub returns-in-Ok-clause-lacking : goal.returns-in-Ok-clause-lacking
returns-in-Ok-clause-lacking g c = λ level levels same.
    subst (λ (text : List ℕ). LacksLevel text c.args.self.now.question.level level levels
    × ((g.O.ByteWriter.state c.tell_led.new.screen).contents ≡ (g.O.ByteWriter.state c.args.screen.now).contents))
    c.in-Ok.ensures.text (c.tell_led.ensures.lacking level levels same)
