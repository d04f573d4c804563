use Rattle.std.proofs.Common.{◌≡◌, ◌∙◌, ap}
use Rattle.ps_levels.specs.EntriesShown.{entries_shown}
use Rattle.ps_laws.proofs.texts.SizedRooms.{game-rooms}
use Rattle.ps_solve.specs.declared.solver.SolvableText.TheInside.{Inside}
use Rattle.ps_solve.proofs.LedLevels.{led_there}
use Rattle.ps_solve.proofs.solver.SolvableTextSolvableGame.solve_after.Goals as goal

pub solve_after-found-requires-clause-rooms : goal.solve_after-found-requires-clause-rooms
solve_after-found-requires-clause-rooms g c =
    game-rooms c.self.inside.text.value.items c.self.inside.game c.self.invariant.is

pub returns : goal.returns
returns g c =
    let entries : entries_shown c.deref-2.result.now ≡ c.self.inside.game.entries =
    ap entries_shown c.deref-2.ensures.value ∙ ap (λ (t : Inside). t.game.entries) c.self-inside.view_is in
    led_there c.args.self.now c.self.inside.text.value.items c.self.inside.game (entries_shown c.deref-2.result.now)
    (c.self.view_is, c.self.invariant, entries) _ c.args.run.level c.args.run.keys.now c.deref.result.now
    c.first_entry-entry.result c.args.limit c.solve_after-found.result c.found_after.result c.first_entry-entry.ensures
    (c.deref.ensures.value ∙ c.in_ok-keys.ensures) c.solve_after-found.ensures c.found_after.ensures
