-- Compiled groups in the making.
use Rattle.std.proofs.Common.{◌≡◌, ℕ, suc, ◌+◌, ◌<◌, length, drop, get_or, arith, Bool, true, false, cond, Option, Some}
use Rattle.std.proofs.Common.{None, List, [], ◌∷◌, ◌++◌, map, refl, sym, ap, ◌∙◌, append_assoc}
use Rattle.std.specs.Prelude.{filter}
use Rattle.std.proofs.lemmas.List.{append-nil, map-append}
use Rattle.ps_rules.proofs.Loops.{drop-at}
use Rattle.ps_readings.proofs.Pieces.{list_more}
use Rattle.ps_model.specs.meaning.Readings.{Reading}
use Rattle.ps_model.specs.meaning.ReadingMeanings.{is_possible}
use Rattle.ps_model.specs.meaning.CompiledRules.{rule_by}
use Rattle.ps_compile.specs.PossibleRules.{rule_if}
use Rattle.ps_model.specs.names.Names.{Names}
use Rattle.ps_model.specs.rules.SourceRules.{SourceRule}
use Rattle.ps_model.specs.board.RulePrograms.{is_joined, before_groups}
use Rattle.ps_model.specs.meaning.Compiled.{CompiledRule}
use Rattle.ps_compile.specs.CompactPrograms.{rule_forwards, is_busy, compact, compact_rules}
use Rattle.ps_compile.proofs.TurnedRules.{compact-more}
use Rattle.ps_compile.specs.GroupsMade.{compiled_group, behind_open, behind}
use Rattle.ps_compile.specs.OpenGroups.{opened_rules, closed_by, left_open}

-- a rule that opens a group
opens : (names : Names) (rule : SourceRule) (group : List SourceRule) (groups : List (List SourceRule)) (joined : Bool)
    →
    map (compiled_group names) (cond joined ((rule ∷ group) ∷ groups) ((rule ∷ []) ∷ group ∷ groups))
    ≡ cond joined ((compact_rules names rule ++ compiled_group names group) ∷ map (compiled_group names) groups)
    (compact_rules names rule ∷ map (compiled_group names) (group ∷ groups))
opens names rule group groups true = refl
opens names rule group groups false = ap (λ rules.
    rules ∷ map (compiled_group names) (group ∷ groups)) (append-nil (compact_rules names rule))

opened : (names : Names) (rule : SourceRule) (groups : List (List SourceRule)) →
    map (compiled_group names) (before_groups rule groups) ≡ behind_open names (compact_rules names rule) groups
opened names rule [] = ap (λ rules. rules ∷ []) (append-nil (compact_rules names rule))
opened names rule (group ∷ groups) = opens names rule group groups (is_joined group)

-- a rule that is joined to the open group
joins : (names : Names) (rule : SourceRule) (made : List CompiledRule) (group : List SourceRule)
    (groups : List (List SourceRule)) (joined : Bool) → rule.joined ≡ true →
    behind_open names made (cond joined ((rule ∷ group) ∷ groups) ((rule ∷ []) ∷ group ∷ groups))
    ≡ cond joined (((made ++ compact_rules names rule) ++ compiled_group names group) ∷ map (compiled_group names)
    groups)
    ((made ++ compact_rules names rule) ∷ map (compiled_group names) (group ∷ groups))
joins names rule made group groups true j = rw j
    (ap (λ rules. rules ∷ map (compiled_group names) groups)
    (sym (append_assoc made (compact_rules names rule) (compiled_group names group))))
joins names rule made group groups false j = rw j
    (ap (λ rules. (made ++ rules) ∷ map (compiled_group names) (group ∷ groups))
    (append-nil (compact_rules names rule)))

joined-open : (names : Names) (rule : SourceRule) (made : List CompiledRule) (groups : List (List SourceRule)) →
    rule.joined ≡ true →
    behind_open names made (before_groups rule groups) ≡ behind_open names (made ++ compact_rules names rule) groups
joined-open names rule made [] j = rw j (ap (λ rules. (made ++ rules) ∷ []) (append-nil (compact_rules names rule)))
joined-open names rule made (group ∷ groups) j = joins names rule made group groups (is_joined group) j

-- one that isn't
parts : (names : Names) (rule : SourceRule) (made : List CompiledRule) (group : List SourceRule)
    (groups : List (List SourceRule)) (joined : Bool) → rule.joined ≡ false →
    behind_open names made (cond joined ((rule ∷ group) ∷ groups) ((rule ∷ []) ∷ group ∷ groups))
    ≡ made ∷ map (compiled_group names) (cond joined ((rule ∷ group) ∷ groups) ((rule ∷ []) ∷ group ∷ groups))
parts names rule made group groups true j = rw j refl
parts names rule made group groups false j = rw j refl

parted-open : (names : Names) (rule : SourceRule) (made : List CompiledRule) (groups : List (List SourceRule)) →
    rule.joined ≡ false →
    behind_open names made (before_groups rule groups) ≡ made ∷ map (compiled_group names) (before_groups rule groups)
parted-open names rule made [] j = rw j refl
parted-open names rule made (group ∷ groups) j = parts names rule made group groups (is_joined group) j

-- one rule more
adds : (names : Names) (rule : SourceRule) (open' : Option (List CompiledRule)) (closed : List (List CompiledRule))
    (groups : List (List SourceRule)) (joined : Bool) → rule.joined ≡ joined →
    (closed ++ closed_by joined open') ++ behind_open names
    (opened_rules (left_open joined open') ++ compact_rules names rule) groups
    ≡ closed ++ behind names open' (before_groups rule groups)
adds names rule None closed groups true j = rw (append-nil closed)
    (ap (λ made. closed ++ made) (sym (opened names rule groups)))
adds names rule None closed groups false j = rw (append-nil closed)
    (ap (λ made. closed ++ made) (sym (opened names rule groups)))
adds names rule (Some made) closed groups true j =
    rw (append-nil closed) (ap (λ all. closed ++ all) (sym (joined-open names rule made groups j)))
adds names rule (Some made) closed groups false j =
    append_assoc closed (made ∷ []) (behind_open names (compact_rules names rule) groups)
    ∙ ap (λ all. closed ++ (made ∷ all)) (sym (opened names rule groups))
    ∙ ap (λ all. closed ++ all) (sym (parted-open names rule made groups j))

pub added : (names : Names) (rule : SourceRule) (open' left : Option (List CompiledRule))
    (closed grown : List (List CompiledRule)) (begun made : List CompiledRule) (groups : List (List SourceRule)) →
    grown ≡ closed ++ closed_by rule.joined open' → left ≡ left_open rule.joined open' → begun ≡ opened_rules left →
    made ≡ begun ++ compact_rules names rule →
    grown ++ behind names (Some made) groups ≡ closed ++ behind names open' (before_groups rule groups)
added names rule open' left closed grown begun made groups g l b m =
    rw (m, b, l, g) (adds names rule open' closed groups rule.joined refl)

-- all groups, where no rule is to come any more
pub finished : (names : Names) (open' : Option (List CompiledRule)) (closed all : List (List CompiledRule)) →
    all ≡ closed ++ closed_by false open' → all ≡ closed ++ behind names open' []
finished names None closed all e = e
finished names (Some made) closed all e = e

-- lists made piece by piece -------------------------------------------------------------------------------------------

-- one more element is made, shown as it is meant
pub shown-more : {A B C D : Type 0} (show : A → B) (f : D → B) (h : C →
    D) (made grown : List A) (all : List B) (x : A) (y : C) (ys : List C) (i : ℕ) → grown ≡ made ++ x ∷ [] →
    show x ≡ f (h y) →
    i < length ys → y ≡ get_or ys i y → map show made ++ map f (map h (drop i ys)) ≡ all →
    map show grown ++ map f (map h (drop (i + 1) ys)) ≡ all
shown-more {A} {B} {C} {D} show f h made grown all x y ys i e shows less is before =
    let next : i + 1 ≡ suc i = omega arith in
    let there : drop i ys ≡ y ∷ drop (i + 1) ys = drop-at y ys i (i + 1) less is next in
    let rest : List B = map f (map h (drop (i + 1) ys)) in
    ap (λ (l : List A). map show l ++ rest) e
    ∙ ap (λ (l : List B). l ++ rest) (map-append show made (x ∷ []))
    ∙ append_assoc (map show made) (show x ∷ []) rest
    ∙ ap (λ (z : B). map show made ++ z ∷ rest) shows
    ∙ ap (λ (l : List C). map show made ++ map f (map h l)) (sym there)
    ∙ before

-- one more of a list passes, or doesn't
pub passed_more : {A B : Type 0} (p : A → Bool) (f : A → B) (made grown all : List B) (d : A) (xs : List A) (i : ℕ) →
    i < length xs → p (get_or xs i d) ≡ true → grown ≡ made ++ f (get_or xs i d) ∷ [] →
    made ++ map f (filter p (drop i xs)) ≡ all → grown ++ map f (filter p (drop (i + 1) xs)) ≡ all
passed_more {A} {B} p f made grown all d xs i less passes e before =
    let x : A = get_or xs i d in
    let rest : List A = filter p (drop (i + 1) xs) in
    list_more (λ (l : List A). map f (filter p l)) made grown all (f x ∷ []) x d xs i
    (ap (λ (pass : Bool). map f (cond pass (x ∷ rest) rest)) passes) less refl e before

pub kept_more : {A B : Type 0} (p : A → Bool) (f : A → B) (made grown all : List B) (d : A) (xs : List A) (i : ℕ) →
    i < length xs → p (get_or xs i d) ≡ false → grown ≡ made →
    made ++ map f (filter p (drop i xs)) ≡ all → grown ++ map f (filter p (drop (i + 1) xs)) ≡ all
kept_more {A} {B} p f made grown all d xs i less stays e before =
    let x : A = get_or xs i d in
    let rest : List A = filter p (drop (i + 1) xs) in
    list_more (λ (l : List A). map f (filter p l)) made grown all [] x d xs i
    (ap (λ (pass : Bool). map f (cond pass (x ∷ rest) rest)) stays) less refl (e ∙ sym (append-nil made)) before

-- one more is made of what passes
passed : {A : Type 0} (names : Names) (f : A → CompiledRule) (x : A) (xs : List A) (made : List CompiledRule)
    (yes : Bool) → (made ++ compact names (cond yes (f x ∷ []) [])) ++ compact names (map f xs)
    ≡ made ++ compact names (map f (cond yes (x ∷ xs) xs))
passed names f x xs made true =
    compact-more made (compact names (map f xs)) (rule_forwards (f x)) (is_busy names (rule_forwards (f x)))
passed names f x xs made false = ap (λ l. l ++ compact names (map f xs)) (append-nil made)

pub read-more : (names : Names) (rule : SourceRule) (reading : Reading) (left before : List Reading)
    (made grown all : List CompiledRule) → before ≡ reading ∷ left →
    grown ≡ made ++ compact names (rule_if names rule reading) →
    made ++ compact names (map (rule_by names rule) (filter (is_possible names rule) before)) ≡ all →
    grown ++ compact names (map (rule_by names rule) (filter (is_possible names rule) left)) ≡ all
read-more names rule reading left before made grown all e g invariant =
    ap (λ (l : List CompiledRule).
    l ++ compact names (map (rule_by names rule) (filter (is_possible names rule) left))) g
    ∙ passed names (rule_by names rule) reading (filter (is_possible names rule) left) made
    (is_possible names rule reading)
    ∙ ap (λ (readings : List Reading). made ++ compact names
    (map (rule_by names rule) (filter (is_possible names rule) readings))) (sym e)
    ∙ invariant
