-- By which rules the arguments of the command line are read, as they are built.
use Rattle.std.proofs.Common.{◌≡◌, ◌∙◌, ◌++◌, ◌∷◌, ◌&&◌, ◌==◌, ◌<◌, ℕ, suc, Bool, true, false, not, List, [], length}
use Rattle.std.proofs.Common.{◌+◌, zero, refl, sym, ap, arith, map, take, get_or}
use Rattle.std.proofs.lemmas.List.{append-nil}
use Rattle.std.proofs.lemmas.Bool.Decides.{nat_tests}
use Rattle.std.specs.Borrow.{Bor}
use Rattle.clap.specs.Walk.{is_empty, is_free_arg}
use Rattle.clap.specs.Words.{AddsArg, AddsConflicts, AddsRequirements, App, HasMatchesOf, Rule}
use Rattle.clap.specs.Words.{Text, app_of, is_simple, matches_of, rule_of, with_rule}
use Rattle.clap.specs.declared.builder.arg.Arg.{Arg}
use Rattle.clap.specs.declared.builder.arg.ArgPredicate.{ArgPredicate}
use Rattle.clap.specs.declared.builder.command.Command.{Command}
use Rattle.clap.specs.declared.parser.matches.ArgMatches.{ArgMatches}
use Rattle.ps_command.specs.ArgumentTable.{bound_if, rule_for}
use Rattle.ps_command.specs.CommandLines.{IsArgument, bound, matched, player, with_rules}
use Rattle.ps_command.specs.Given.{rows_in}
use Rattle.ps_command.specs.declared.argument_table.Argument.{Argument}

-- a number from 1 isn't 0
not_none : (n : ℕ) (b : Bool) → (n == 0) ≡ b → 0 < n → b ≡ false
not_none n false test from = refl
not_none n true test from = let none : n ≡ 0 = grind (arith, nat_tests) in absurd (omega arith)

-- a list with one more isn't empty
filled : {X : Type 0} (xs : List X) (x : X) (more : List X) → is_empty (xs ++ x ∷ more) ≡ false
filled [] x more = not_none (suc (length more)) _ refl (omega arith)
filled (y ∷ xs) x more = not_none (suc (length (xs ++ x ∷ more))) _ refl (omega arith)

false_and : (p q : Bool) → p ≡ false → p && q ≡ false
false_and p q e = rw e refl

and_false : (p q : Bool) → q ≡ false → p && q ≡ false
and_false false q e = refl
and_false true q e = e

-- whether an argument is free of others is all that a rule on others changes
bound_rule : (rule : Rule) (a : Arg) (b : Arg) → rule_of b ≡ record (rule_of a) { is_free = is_free_arg b } →
    is_free_arg b ≡ false → rule_of a ≡ rule → rule_of b ≡ bound rule
bound_rule rule a b same free is =
    same ∙ ap (λ (f : Bool). record (rule_of a) { is_free = f }) free ∙ ap bound is

-- whether it is free depends on its conflicts and on what stays
free_by : (a : Arg) (none : Bool) → none ≡ is_empty a.conflicts.items →
    (not a.exclusive && (none && (is_empty a.needs.items && (is_empty a.r_ifs.items && (is_empty a.r_ifs_all.items
    && (is_empty a.r_unless.items && is_empty a.r_unless_all.items)))))) ≡ is_free_arg a
free_by a none is = rw is refl

-- it requires another
pub requires_other : (rule : Rule) (a b : Arg) (x : ArgPredicate × Bor Text) → AddsRequirements a b (x ∷ []) →
    IsArgument rule a → IsArgument (bound rule) b
requires_other rule a b x adds is =
    let free : is_free_arg b ≡ false =
    and_false (not b.exclusive) _ (and_false (is_empty b.conflicts.items) _
    (false_and (is_empty b.needs.items) _ (ap is_empty adds.1 ∙ filled a.needs.items x []))) in
    let same : rule_of b ≡ record (rule_of a) { is_free = is_free_arg b } =
    ap (λ (r : Arg). record (rule_of r) { is_free = is_free_arg b }) adds.0 in
    (bound_rule rule a b same free is.0, ap (λ (r : Arg). r.global) adds.0 ∙ is.1)

-- it can't stand beside others, if there are any
pub conflicts_with : (rule : Rule) (a b : Arg) (others : List (Bor Text)) → AddsConflicts a b others →
    IsArgument rule a → IsArgument (bound_if (not (is_empty others)) rule) b
conflicts_with rule a b [] adds is =
    let none : is_empty b.conflicts.items ≡ is_empty a.conflicts.items =
    ap is_empty (adds.1 ∙ append-nil a.conflicts.items) in
    let free : is_free_arg b ≡ is_free_arg a = ap is_free_arg adds.0 ∙ free_by a (is_empty b.conflicts.items) none in (
      ap (λ (r : Arg). record (rule_of r) { is_free = is_free_arg b }) adds.0
          ∙ ap (λ (f : Bool). record (rule_of a) { is_free = f }) free ∙ is.0,
      ap (λ (r : Arg). r.global) adds.0 ∙ is.1,
    )
conflicts_with rule a b (x ∷ more) adds is =
    let free : is_free_arg b ≡ false =
    and_false (not b.exclusive) _
    (false_and (is_empty b.conflicts.items) _ (ap is_empty adds.1 ∙ filled a.conflicts.items x more)) in
    let same : rule_of b ≡ record (rule_of a) { is_free = is_free_arg b } =
    ap (λ (r : Arg). record (rule_of r) { is_free = is_free_arg b }) adds.0 in
    rw (filled [] x more) (bound_rule rule a b same free is.0, ap (λ (r : Arg). r.global) adds.0 ∙ is.1)

-- a command that gets an argument after others
with_more : (app : App) (rules : List Rule) (rule : Rule) →
    with_rules app (rules ++ rule ∷ []) ≡ with_rule (with_rules app rules) rule
unfolding with_rules
with_more app [] rule = refl
with_more app (first ∷ rules) rule = with_more (with_rule app first) rules rule

-- the rules of a table up to an argument, and that of this one
rules_more : (table : List Argument) (k : ℕ) (default : Argument) → k < length table →
    map rule_for (take (k + 1) table) ≡ map rule_for (take k table) ++ rule_for (get_or table k default) ∷ []
rules_more [] k default few = absurd (omega (arith, few))
rules_more (argument ∷ table) zero default few = refl
rules_more (argument ∷ table) (suc k) default few =
    let next : suc k + 1 ≡ suc (k + 1) = omega arith in
    ap (λ (n : ℕ). map rule_for (take n (argument ∷ table))) next
    ∙ ap (λ (rules : List Rule). rule_for argument ∷ rules) (rules_more table k default (omega (arith, few)))

-- a command without an argument has none of a table yet
pub table_none : (app : App) (table : List Argument) (command : Command) → app_of command ≡ app →
    app_of command ≡ with_rules app (map rule_for (take 0 table))
unfolding with_rules
table_none app [] command is = is
table_none app (argument ∷ table) command is = is

-- a command with the arguments of a table up to one, and with this one
pub table_more : (app : App) (table : List Argument) (k : ℕ) (default : Argument) (old new : Command) (a : Arg) →
    k < length table → AddsArg old a new → IsArgument (rule_for (get_or table k default)) a →
    app_of old ≡ with_rules app (map rule_for (take k table)) →
    app_of new ≡ with_rules app (map rule_for (take (k + 1) table))
table_more app table k default old new a few adds is so_far =
    let rule : Rule = rule_for (get_or table k default) in
    adds.shape is.1
    ∙ ap (with_rule (app_of old)) is.0
    ∙ ap (λ (before : App). with_rule before rule) so_far
    ∙ sym (with_more app (map rule_for (take k table)) rule)
    ∙ ap (with_rules app) (sym (rules_more table k default few))

-- clap says what it matches for the player's command line
pub player_is_simple : is_simple player ≡ true
unfolding player with_rules
player_is_simple = refl

pub matched_by : (app : App) (words : List Text) (m : ArgMatches) → app ≡ player → HasMatchesOf app words m →
    rows_in m ≡ matched words
unfolding matched
matched_by app words m is has =
    (has (ap is_simple is ∙ player_is_simple)).0 ∙ ap (λ (a : App). matches_of a words) is
