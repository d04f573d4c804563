use Rattle.std.proofs.Common.{◌≡◌, ◌∙◌, ℕ, Option, Some, ap, refl, subst, sym}
use Rattle.ps_answers.specs.SolvedAfterKeys.{HasStart, script_from}
use Rattle.ps_levels.specs.EntriesShown.{entries_shown}
use Rattle.ps_model.specs.board.Turns.{script_at}
use Rattle.ps_solve.specs.declared.solver.SolvableText.TheInside.{Inside}
use Rattle.ps_solve.proofs.LedLevels.{from_level, from_start}
use Rattle.ps_solve.proofs.ReadLevels.{has_entry}
use Rattle.ps_solve.proofs.solver.SolvableText.first_entry.Goals as goal

pub returns-in_default : goal.returns-in_default
returns-in_default c =
    subst (λ (s : Option ℕ). script_from c.args.self.now.text s ≡ Some (script_at c.args.self.now.read 0))
    (sym c.in_default.is)
    (from_start c.args.self.now c.self.inside.text.value.items c.self.inside.game c.self.inside.game.entries
    (c.self.view_is, c.self.invariant, refl))

pub unreachable-requires : goal.unreachable-requires
unreachable-requires c =
    let entries : entries_shown c.deref.result.now ≡ c.self.inside.game.entries =
    ap entries_shown c.deref.ensures.value ∙ ap (λ (t : Inside). t.game.entries) c.self-inside.view_is in
    has_entry c.args.self.now c.self.inside.text.value.items c.self.inside.game (entries_shown c.deref.result.now)
    c.in-Some.level (c.self.view_is, c.self.invariant, entries)
    (subst (λ (s : Option ℕ). HasStart c.args.self.now.text s) c.in-Some.is c.requires)
    (sym c.level_entry.ensures ∙ c.in-None.is)

pub returns : goal.returns
returns c =
    let entries : entries_shown c.deref.result.now ≡ c.self.inside.game.entries =
    ap entries_shown c.deref.ensures.value ∙ ap (λ (t : Inside). t.game.entries) c.self-inside.view_is in
    let entry : ℕ = c.in-Some-level_entry.entry in
    subst (λ (s : Option ℕ). script_from c.args.self.now.text s ≡ Some (script_at c.args.self.now.read entry))
    (sym c.in-Some.is)
    (from_level c.args.self.now c.self.inside.text.value.items c.self.inside.game (entries_shown c.deref.result.now)
    (c.self.view_is, c.self.invariant, entries) c.in-Some.level entry
    (sym c.in-Some-level_entry.is ∙ c.level_entry.ensures))
