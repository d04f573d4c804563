use Rattle.std.proofs.Common.{◌≡◌, ◌∙◌, ℕ, ◌+◌, ◌<◌, ◌==◌, Bool, true, false, List, [], ◌∷◌, length, drop, get_or}
use Rattle.std.proofs.Common.{replicate, reverse, refl, sym, ap, arith, add-one}
use Rattle.std.proofs.lemmas.List.{length-map, at_drop_all}
use Rattle.std.proofs.lemmas.List.Sums.{sum_by-cons}
use Rattle.std.proofs.lemmas.Bool.Decides.{nat_tests}
use Rattle.ps_model.specs.declared.pieces.ObjectId.{ObjectId}
use Rattle.ps_model.specs.names.Meanings.{LegendName as Meant, Mention as Mentioned, mention_count}
use Rattle.ps_names.specs.declared.legend_names.LegendName.{LegendName}
use Rattle.ps_names.specs.declared.mention.Mention.{Mention}
use Rattle.ps_names.specs.declared.reach.Reach.{Reach}
use Rattle.ps_names.specs.Known.{mention_shown, mentions_shown}
use Rattle.ps_names.specs.LegendNames.{Reached, name_shown, legend_shown, waiting, reached_from, reached_shown}
use Rattle.ps_names.specs.LegendNames.{reached_with}
use Rattle.ps_names.proofs.common.Elements.{element-first}
use Rattle.ps_names.proofs.reach.reach_of.Goals as goal

-- at the start nothing is reached, and the mentions wait
at-start : (legend : List LegendName) (steps : ℕ) (reach : Reach) (mentions : List Mention) →
    reach.objects.items ≡ [] → reach.lines.items ≡ replicate (length legend) false →
    waiting reach ≡ mentions_shown mentions → reached_with legend steps reach
    ≡ reached_from (legend_shown legend) steps (record { objects = []; lines = replicate (length legend) false })
    (mentions_shown mentions)
at-start legend steps reach mentions o l w =
    ap (λ (objects : List ObjectId). reached_from (legend_shown legend) steps
    (record { objects = objects; lines = reach.lines.items }) (waiting reach)) o
    ∙ ap (λ (lines : List Bool). reached_from (legend_shown legend) steps (record { objects = []; lines = lines })
    (waiting reach)) l
    ∙ ap (reached_from (legend_shown legend) steps
    (record { objects = []; lines = replicate (length legend) false })) w

-- where nothing waits, all is reached
none-waits : (legend : List LegendName) (steps : ℕ) (reach : Reach) → reach.waiting.items ≡ [] →
    reached_with legend steps reach ≡ reached_shown reach
none-waits legend steps reach none = ap (λ (ms : List Mention).
    reached_from (legend_shown legend) steps (reached_shown reach) (reverse (mentions_shown ms))) none

no-steps : (legend : List Meant) (reached : Reached) (mentions : List Mentioned) →
    reached_from legend 0 reached mentions ≡ reached
no-steps legend reached [] = refl
no-steps legend reached (mention ∷ mentions) = refl

is-zero : (n : ℕ) → true ≡ (n == 0) → n ≡ 0
is-zero n e = grind (arith, nat_tests)

none-there : {A : Type 0} (xs : List A) → length xs ≡ 0 → xs ≡ []
none-there [] none = refl
none-there (x ∷ xs) none = absurd (omega arith)

-- how many mentions the lines from a place on have
counted : (legend : List LegendName) (i count : ℕ) (name : LegendName) → i < length legend →
    name ≡ get_or legend i name → count ≡ length name.mentions.items →
    count + mention_count (legend_shown (drop (i + 1) legend)) ≡ mention_count (legend_shown (drop i legend))
counted legend i count name less is long =
    ap (λ (n : ℕ). n + mention_count (legend_shown (drop (i + 1) legend)))
    (long ∙ sym (length-map name.mentions.items mention_shown))
    ∙ sym (sum_by-cons (λ (each : Meant). length each.mentions) (name_shown name)
    (legend_shown (drop (i + 1) legend)))
    ∙ sym (ap (λ (names : List LegendName). mention_count (legend_shown names))
    (element-first legend i (i + 1) name name less (add-one i) is))

pub loop-name-init : goal.loop-name-init
loop-name-init c = c.in_ok-steps.ensures (mention_count (legend_shown c.args.legend.now))
    ∙ at-start c.args.legend.now _ c.in_ok-reach.reach c.args.mentions.now c.in_ok-reach.ensures.objects
    c.in_ok-reach.ensures.lines c.in_ok-reach.ensures.waits

pub returns-then-is_empty : goal.returns-then-is_empty
returns-then-is_empty c =
    let none : length c.loop-name.reach.waiting.items ≡ 0 =
    sym c.loop-name.reach.waiting.ok.0 ∙ is-zero _ c.if-is_empty.ensures in
    sym (none-waits c.args.legend.now _ c.loop-name.reach (none-there c.loop-name.reach.waiting.items none))
    ∙ c.loop-name.invariant

pub loop-name-preserved : goal.loop-name-preserved
loop-name-preserved c =
    let next : ℕ = c.loop-name.name-index + 1 in
    let long : c.len.result ≡ length c.name-item.result.mentions.items =
    c.len.ensures ∙ c.name-item.result.mentions.ok.0 in
    c.in_ok-steps-2.ensures (mention_count (legend_shown (drop next c.args.legend.now)))
    ∙ ap (λ (n : ℕ). reached_with c.args.legend.now n c.loop-name.reach)
    (counted c.args.legend.now c.loop-name.name-index c.len.result c.name-item.result c.loop-name-test.true
    c.name-item.is long) ∙ c.loop-name.invariant

pub returns : goal.returns
returns c =
    sym (no-steps (legend_shown c.args.legend.now) (reached_shown c.loop-name.reach) (waiting c.loop-name.reach))
    ∙ sym (at_drop_all (λ (names : List LegendName). reached_with c.args.legend.now
    (mention_count (legend_shown names)) c.loop-name.reach) c.args.legend.now c.loop-name.name-index
    c.loop-name-test.false) ∙ c.loop-name.invariant
