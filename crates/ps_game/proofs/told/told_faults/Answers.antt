use Rattle.std.proofs.Common.{◌≡◌, ◌∙◌, ℕ, List, length, sym, ap}
use Rattle.std.specs.Prelude.{nat_eq}
use Rattle.ps_model.specs.declared.faults.Fault.{Fault as TheFault}
use Rattle.ps_game.specs.ToldFaults.{told_faults, told_of_text, told_once}
use Rattle.ps_game.proofs.ToldTexts.{none_of_games}
use Rattle.ps_game.proofs.told.told_faults.Goals as goal

pub returns-clause-told : goal.returns-clause-told
returns-clause-told c = rw (← c.in_ok-faults.ensures, ← c.deref.ensures.value) c.in_ok-told.ensures

pub returns-clause-games : goal.returns-clause-games
returns-clause-games c = λ less e.
    let told : c.in_ok-told.told.items ≡ told_faults c.args.most c.args.text.now =
    rw (← c.in_ok-faults.ensures, ← c.deref.ensures.value) c.in_ok-told.ensures in
    none_of_games less c.args.text.now
    ∙ ap (λ (n : ℕ). nat_eq (length (told_faults n c.args.text.now)) 0) (sym e)
    ∙ ap (λ (fs : List TheFault). nat_eq (length fs) 0) (sym told)
