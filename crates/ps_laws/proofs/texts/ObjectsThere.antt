-- Names without faults have an object: without one each line of the legend would mention a legend line first.
use Rattle.std.proofs.Common.{◌≡◌, ℕ, zero, suc, ◌+◌, ◌<◌, ◌≤◌, ◌||◌, Bool, true, false, Option, Some, None, is_some}
use Rattle.std.proofs.Common.{List, [], ◌∷◌, length, map, refl, sym, ap, ◌∙◌, arith}
use mathlib.Core.Path.{subst}
use Rattle.std.specs.Prelude.{All, IfSome, ⊤, option_map, slice_get, not, drop, codes}
use Rattle.std.specs.Option.{is_none}
use Rattle.std.specs.List.{flat_map, filter_map, enumerate_from, list_all, list_any}
use Rattle.std.specs.Str.{bytes_eq}
use Rattle.std.specs.Map.{lookup}
use Rattle.std.proofs.lemmas.List.{length-map}
use Rattle.std.proofs.lemmas.List.Elements.{All-nil, All-cons, All-head, All-tail, All-map, All-weaker}
use Rattle.std.proofs.lemmas.Map.Entries.{All-lookup}
use Rattle.std.proofs.lemmas.Bool.{not-false, eq-eqb}
use Rattle.ps_model.specs.declared.texts.Joiner.{Joiner}
use Rattle.ps_model.specs.declared.texts.Joiner.TheVariants.{And, Or}
use Rattle.ps_model.specs.declared.faults.Fault.{Fault}
use Rattle.ps_model.specs.declared.faults.FaultKind.TheVariants.{UnknownName, Cycle, NoBackground}
use Rattle.ps_model.specs.text.Faults.{when}
use Rattle.ps_model.specs.text.Lines.{folded}
use Rattle.ps_model.specs.text.WrittenLines.{WrittenLine}
use Rattle.ps_model.specs.names.Names.{Meaning}
use Rattle.ps_model.specs.names.ObjectLines.{ObjectText}
use Rattle.ps_model.specs.names.LegendLines.{RightSide, Declaration, joined_by, side_by, right_side, name_declared}
use Rattle.ps_model.specs.names.LegendLines.{is_key_word, is_equals_sign, declared_with, declared_by, declarations}
use Rattle.ps_model.specs.names.Meanings.{LegendName, Mention, OfObject, OfLine, line_mention, legend_name}
use Rattle.ps_model.specs.names.Meanings.{legend_names, legend_meanings, mentions_of, mentions_of_name, all_mentioned}
use Rattle.ps_model.specs.names.Meanings.{is_on_cycle, meaning_of_mention}
use Rattle.ps_model.specs.names.NamesRead.{NameSections, all_declared, entries_of, layer_numbers, sections_of}
use Rattle.ps_model.specs.names.NamesRead.{name_sections}
use Rattle.ps_model.specs.names.DeclarationFaults.{faults_of_legend_name}
use Rattle.ps_laws.specs.GamesOfTexts.{HasObject, NamesReadHaveObjects, GamesHaveObjects}
use Rattle.ps_laws.proofs.common.Everywhere.{either_one, All-always, All-mapped, All-filter_map, All-slice_get}
use Rattle.ps_laws.proofs.common.OptionalSteps.{step-each, mapped-each}
use Rattle.ps_laws.proofs.texts.AllMentioned.{has}
use Rattle.ps_laws.proofs.texts.NoObjects.{StartsWithLine, no_such_legend}
use Rattle.ps_laws.proofs.texts.FaultlessNames.{IsFaultless, faultless_sections, names_of_every_game}
use Rattle.ps_laws.proofs.texts.BoundedNames.{layers_found-counted, names_read-bounded}
use Rattle.ps_laws.proofs.common.Lists.{none-before, none-behind}
use Rattle.ps_laws.proofs.common.FirstFaults.{untold}

-- what lines declare --------------------------------------------------------------------------------------------------

abbrev IsSome : {A : Type 0} → List A → Type 0
IsSome xs = 0 < length xs

joined_by-some : (key : List ℕ) (words : List (List ℕ)) → IfSome (joined_by key words) IsSome
joined_by-some key [] = tt
joined_by-some key (name ∷ []) = omega arith
joined_by-some key (name ∷ word ∷ others) =
    either_one (λ (found : Option (List (List ℕ))).
    IfSome found IsSome) (is_key_word key word) (option_map (λ names. name ∷ names) (joined_by key others)) None
    (mapped-each (λ names. ⊤) IsSome (joined_by key others) (λ names.
    name ∷ names) (anything (joined_by key others)) (λ names h. omega arith)) tt
  where
    anything : (found : Option (List (List ℕ))) → IfSome found (λ names. ⊤)
    anything None = tt
    anything (Some names) = tt

abbrev HasMentions : RightSide → Type 0
HasMentions right = IsSome right.mentions

side_by-some : (joiner : Joiner) (key : List ℕ) (words : List (List ℕ)) → IfSome (side_by joiner key words) HasMentions
side_by-some joiner key words = mapped-each IsSome HasMentions (joined_by key words) _ (joined_by-some key words)
    (λ names h. h)

right_side-some : (words : List (List ℕ)) → IfSome (right_side words) HasMentions
right_side-some [] = tt
right_side-some (name ∷ []) = omega arith
right_side-some (name ∷ word ∷ others) =
    either_one (λ (found : Option RightSide). IfSome found HasMentions) (is_key_word (codes "and") word)
    (side_by And (codes "and") (name ∷ word ∷ others)) (side_by Or (codes "or") (name ∷ word ∷ others))
    (side_by-some And (codes "and") (name ∷ word ∷ others)) (side_by-some Or (codes "or") (name ∷ word ∷ others))

abbrev Mentions : Declaration → Type 0
Mentions declared = HasMentions declared.right

name_given : (words : List (List ℕ)) → IfSome (name_declared words) (λ name. ⊤)
name_given words = anything (name_declared words)
  where
    anything : (found : Option (List ℕ)) → IfSome found (λ name. ⊤)
    anything None = tt
    anything (Some name) = tt

declared_with-some : (number : ℕ) (name : List ℕ) (others : List (List ℕ)) →
    IfSome (declared_with number name others) Mentions
declared_with-some number name others =
    either_one (λ (found : Option Declaration).
    IfSome found Mentions) (is_equals_sign name || list_any is_equals_sign others) None
    (option_map (λ right. record { line = number; name = name; right = right }) (right_side others))
    tt (mapped-each HasMentions Mentions (right_side others) _ (right_side-some others) (λ right h. h))

declared_by-some : (line : WrittenLine) → IfSome (declared_by line) Mentions
declared_by-some line =
    step-each (λ name. ⊤) Mentions (name_declared line.words) (λ name.
    declared_with line.number name (drop 2 line.words)) (name_given line.words)
    (λ name h. declared_with-some line.number name (drop 2 line.words))

declarations-some : (lines : List WrittenLine) → All Mentions (declarations lines)
declarations-some lines = All-filter_map Mentions (λ line. ⊤) declared_by lines (λ line h.
    declared_by-some line) (All-always (λ line. ⊤) lines (λ line. tt))

-- what names mention where there is no object -------------------------------------------------------------------------

-- the mention is that of one of `count` lines
abbrev IsLine : ℕ → Mention → Type 0
IsLine count (OfObject object) = ⊥
IsLine count (OfLine place) = place < count

lines-numbered : (count number : ℕ) (declared : List Declaration) → number + length declared ≤ count →
    All (λ known. IsLine count known.1) (map line_mention (enumerate_from number declared))
lines-numbered count number [] h = All-nil (λ (known : List ℕ × Mention). IsLine count known.1)
lines-numbered count number (first ∷ declared) h =
    All-cons (λ (known : List ℕ × Mention). IsLine count known.1) (line_mention (number, first))
    (map line_mention (enumerate_from (number + 1) declared)) (omega arith)
    (lines-numbered count (number + 1) declared (omega arith))

starts_with_line : (count : ℕ) (found : List (Option Mention)) → IsSome found →
    All (λ mention. IfSome mention (IsLine count)) found → list_all is_some found ≡ true →
    StartsWithLine count (filter_map (λ mention. mention) found)
starts_with_line count [] some all e = absurd (omega arith)
starts_with_line count (None ∷ found) some all e = absurd (let h = e in cc)
starts_with_line count (Some (OfObject object) ∷ found) some all e =
    absurd (All-head (λ (mention : Option Mention). IfSome mention (IsLine count)) (Some (OfObject object)) found all)
starts_with_line count (Some (OfLine place) ∷ found) some all e = record {
  within = All-head (λ (mention : Option Mention). IfSome mention (IsLine count)) (Some (OfLine place)) found all;
  there = ap (λ (b : Bool). b || has (filter_map (λ mention. mention) found) place) (eq-eqb place place refl);
}

-- a name whose names on the right are all declared
abbrev StartsIfDeclared : ℕ → LegendName → Type 0
StartsIfDeclared count name = name.all_declared ≡ true → StartsWithLine count name.mentions

legend_name-starts : (count : ℕ) (known : List (List ℕ × Mention)) → All (λ each. IsLine count each.1) known →
    (declared : Declaration) → Mentions declared → StartsIfDeclared count (legend_name known declared)
legend_name-starts count known all declared some e =
    let found : List ℕ → Option Mention = λ name. lookup (bytes_eq (folded name)) known in
    let long : length (map found declared.right.mentions) ≡ length declared.right.mentions =
    length-map declared.right.mentions found in
    starts_with_line count (map found declared.right.mentions) (omega (arith, long, some))
    (All-map (λ (mention : Option Mention). IfSome mention (IsLine count)) found declared.right.mentions
    (All-always (λ name. IfSome (found name) (IsLine count)) declared.right.mentions (λ name.
    All-lookup (IsLine count) (bytes_eq (folded name)) known all))) e

-- the legend of these declarations, where there is no object
abbrev legend_alone : List Declaration → List LegendName
legend_alone declared = legend_names [] declared

legend-starts : (declared : List Declaration) → All Mentions declared →
    All (StartsIfDeclared (length (legend_alone declared))) (legend_alone declared)
legend-starts declared all =
    let known : List (List ℕ × Mention) = map line_mention (enumerate_from 0 declared) in
    let count : ℕ = length (legend_alone declared) in
    let long : length (legend_alone declared) ≡ length declared = length-map declared (legend_name known) in
    All-mapped (StartsIfDeclared count) Mentions (legend_name known) declared
    (legend_name-starts count known (lines-numbered count 0 declared (omega (arith, long)))) all

-- faults --------------------------------------------------------------------------------------------------------------

none-each : {X : Type 0} (f : X → List Fault) (xs : List X) → flat_map f xs ≡ [] → All (λ x. f x ≡ []) xs
none-each f [] e = All-nil (λ (x : _). f x ≡ [])
none-each f (x ∷ xs) e = All-cons (λ (x : _). f x ≡ []) x xs (none-before (f x) (flat_map f xs) e)
    (none-each f xs (none-behind (f x) (flat_map f xs) e))

-- what each numbered name has, the name at a place has
at-place : (P : ℕ → LegendName → Type 0) (number step : ℕ) (names : List LegendName) → step < length names →
    All (λ each. P each.0 each.1) (enumerate_from number names) →
    (name : LegendName) × (slice_get names step ≡ Some name) × P (number + step) name
at-place P number step [] h all = absurd (omega arith)
at-place P number zero (name ∷ names) h all =
    let e : number ≡ number + 0 = omega arith in (
      name,
      refl,
      subst (λ (n : ℕ). P n name) e
          (All-head (λ (each : ℕ × LegendName).
          P each.0 each.1) (number, name) (enumerate_from (number + 1) names) all),
    )
at-place P number (suc step) (name ∷ names) h all =
    let found = at-place P (number + 1) step names (omega arith)
    (All-tail (λ (each : ℕ × LegendName). P each.0 each.1) (number, name) (enumerate_from (number + 1) names) all)
    in
    let e : number + 1 + step ≡ number + suc step = omega arith in
    (found.0, found.1, subst (λ (n : ℕ). P n found.0) e found.2)

-- a name that is well named
record IsWell (legend : List LegendName) (place : ℕ) (name : LegendName) : Type 0 where
  declared : name.all_declared ≡ true
  straight : is_on_cycle legend place name ≡ false

well : (legend : List LegendName) (place : ℕ) (name : LegendName) (meanings : List (Option Meaning)) →
    faults_of_legend_name legend place name meanings ≡ [] → IsWell legend place name
well legend place name meanings e =
    let unknown : List Fault = when (not name.all_declared) UnknownName name.line in
    let cycle : List Fault = when (is_on_cycle legend place name) Cycle name.line in
    record {
      declared = not-false name.all_declared (untold (not name.all_declared) UnknownName name.line
          (none-before unknown _ e));
      straight = untold (is_on_cycle legend place name) Cycle name.line (none-before cycle _ (none-behind unknown _ e));
    }

-- no legend without faults, where there is no object
alone-none : (legend : List LegendName) → 0 < length legend → All (StartsIfDeclared (length legend)) legend →
    ((place : ℕ) → place < length legend → (name : LegendName) × (slice_get legend place ≡ Some name) × IsWell legend
    place name) → ⊥
alone-none legend some starts wells =
    let mentions_at : (place : ℕ) (name : LegendName) → slice_get legend place ≡ Some name →
    mentions_of legend (OfLine place) ≡ name.mentions = λ place name e. ap mentions_of_name e in
    no_such_legend legend some
    (λ place h.
    let found = wells place h in
    subst (StartsWithLine (length legend)) (sym (mentions_at place found.0 found.1))
    (All-slice_get (StartsIfDeclared (length legend)) legend place found.0 starts found.1 found.2.declared))
    (λ place h.
    let found = wells place h in
    ap (λ (mentions : List Mention). has (all_mentioned legend mentions) place) (mentions_at place found.0 found.1)
    ∙ found.2.straight)

-- the background that has to be there is declared by a line of the legend
some-line : (declared : List Declaration) → is_none
    (lookup (bytes_eq (codes "background")) (entries_of
    (all_declared [] (legend_alone declared) (legend_meanings (legend_alone declared))))) ≡ false →
    0 < length (legend_alone declared)
some-line [] e = absurd (let h = e in cc)
some-line (first ∷ declared) e = omega arith

sections-alone : (header : ℕ) (lines layer_lines : List WrittenLine) →
    IsFaultless header (sections_of [] lines layer_lines) → ⊥
sections-alone header lines layer_lines h =
    let declared : List Declaration = declarations lines in
    let legend : List LegendName = legend_alone declared in
    let meanings : List (Option Meaning) = legend_meanings legend in
    let told : ℕ × LegendName → List Fault = λ numbered.
    faults_of_legend_name legend numbered.0 numbered.1 (map (meaning_of_mention meanings) numbered.1.mentions) in
    let background : Bool = is_none (lookup (bytes_eq (codes "background"))
    (entries_of (all_declared [] legend meanings))) in
    let wells : All (λ (numbered : ℕ × LegendName). IsWell legend numbered.0 numbered.1) (enumerate_from 0 legend) =
    All-weaker (λ (numbered : ℕ × LegendName). told numbered ≡ []) (λ (numbered : ℕ × LegendName).
    IsWell legend numbered.0 numbered.1)
    (λ numbered e. well legend numbered.0 numbered.1 (map (meaning_of_mention meanings) numbered.1.mentions) e)
    (enumerate_from 0 legend) (none-each told (enumerate_from 0 legend) h.naming) in
    alone-none legend (some-line declared (untold background NoBackground header
    (none-before (when background NoBackground header) _ h.there)))
    (legend-starts declared (declarations-some lines))
    (λ place less.
    let found = at-place (IsWell legend) 0 place legend less wells in
    let e : 0 + place ≡ place = omega arith in
    (found.0, found.1, subst (λ (n : ℕ). IsWell legend n found.0) e found.2))

-- objects -------------------------------------------------------------------------------------------------------------

objects-there : (header : ℕ) (objects : List ObjectText) (lines layer_lines : List WrittenLine) →
    IsFaultless header (sections_of objects lines layer_lines) → 0 < length objects
objects-there header [] lines layer_lines h = absurd (sections-alone header lines layer_lines h)
objects-there header (object ∷ objects) lines layer_lines h = omega arith

pub names_read-have : NamesReadHaveObjects
names_read-have header object_lines legend_lines layer_lines e =
    let sections : NameSections = name_sections object_lines legend_lines layer_lines in
    let bounded = names_read-bounded header object_lines legend_lines layer_lines e in
    let long : length (layer_numbers sections.object_layers) ≡ length sections.objects =
    layers_found-counted (length sections.objects) sections.layers in
    let some : 0 < length sections.objects = objects-there header sections.objects sections.legend_lines _
    (faultless_sections header sections e) in
    let objects : 0 < length (layer_numbers sections.object_layers) = omega (arith, long, some) in
    (objects, omega (arith, bounded.layers_below 0 0 objects))

pub game-has : GamesHaveObjects
game-has text read e = names_of_every_game HasObject names_read-have text read e
