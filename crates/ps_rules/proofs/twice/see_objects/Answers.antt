use Rattle.std.proofs.Common.{◌∙◌, ◌||◌, ℕ, List, ◌+◌, ◌++◌, drop, sym, ap}
use Rattle.ps_rules.specs.Twice.{twice_behind, object_numbers}
use Rattle.ps_rules.proofs.ItemSteps.{numbers-from}
use Rattle.ps_rules.proofs.twice.see_objects.Goals as goal

pub loop-object-preserved : goal.loop-object-preserved
loop-object-preserved c rest =
    let others : List ℕ = object_numbers (drop (c.loop-object.object-index + 1) c.args.objects.now) ++ rest in
    sym (ap (twice_behind c.loop-object.seen.items)
    (numbers-from c.args.objects.now c.loop-object.object-index _ rest c.loop-object-test.true)
    ∙ c.in_ok-see.ensures others ∙ ap (λ b. b || twice_behind c.see.new.seen.items others) c.if-branch.false)
    ∙ c.loop-object.invariant rest

pub returns-then-branch : goal.returns-then-branch
returns-then-branch c rest =
    let others : List ℕ = object_numbers (drop (c.loop-object.object-index + 1) c.args.objects.now) ++ rest in
    sym (c.loop-object.invariant rest) ∙ ap (twice_behind c.loop-object.seen.items)
    (numbers-from c.args.objects.now c.loop-object.object-index _ rest c.loop-object-test.true)
    ∙ c.in_ok-see.ensures others ∙ ap (λ b. b || twice_behind c.see.new.seen.items others) c.if-branch.true
