use Rattle.std.proofs.Common.{◌≡◌, ◌<◌, ℕ, List, length, sym, subst, rules}
use Rattle.std.specs.Prelude.{slice_index_or, vec_len}
use Rattle.ps_program.specs.declared.program.CompiledSection.{CompiledSection}
use Rattle.ps_engine.specs.Scratch.{SectionHasScratch}
use Rattle.ps_rulebook.proofs.game_rules.GameRules.try_new.Goals as goal

pub invariant_of-result : goal.invariant_of-result
invariant_of-result g c = λ k d low.
    let count : ℕ = length c.in_ok-scratch.scratch.items in
    let long : vec_len c.in_ok-scratch.scratch ≡ count = search rules in
    let Have : ℕ → List CompiledSection → Type 0 = λ n sections.
    k < length sections → SectionHasScratch n (slice_index_or sections k d) in
    subst (λ (n : ℕ). Have n c.new-program.result.sections) (sym long)
    (subst (Have count) (sym c.new-program.ensures) (c.in_ok-scratch.ensures k d)) low
