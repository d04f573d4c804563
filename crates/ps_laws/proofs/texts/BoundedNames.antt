-- The names of lines without faults are bounded, and so are those of every game.
use Rattle.std.proofs.Common.{◌≡◌, ℕ, suc, ◌+◌, ◌<◌, ◌≤◌, ◌==◌, Bool, true, false, List, [], ◌∷◌, ◌++◌, map, length}
use Rattle.std.proofs.Common.{refl, sym, Option, Some, None, arith, All}
use mathlib.Core.Path.{subst}
use Rattle.std.specs.Prelude.{IfSome, filter}
use Rattle.std.specs.List.{filter_map, enumerate_from, range_with_len, last_or, zip, list_any}
use Rattle.std.specs.Option.{is_none}
use Rattle.std.specs.List.{flat_map}
use Rattle.std.proofs.lemmas.Bool.Decides.{nat_tests}
use Rattle.std.proofs.lemmas.List.{length-map}
use Rattle.std.proofs.lemmas.List.Elements.{All-nil, All-cons, All-head, All-tail, All-map}
use Rattle.std.proofs.lemmas.List.FromFn.{length-map-range_with_len}
use Rattle.ps_model.specs.declared.pieces.ObjectId.{ObjectId}
use Rattle.ps_model.specs.declared.faults.Fault.{Fault}
use Rattle.ps_model.specs.declared.faults.FaultKind.TheVariants.{NoLayer, BadObject, Twice, TooManyNames, UnknownName}
use Rattle.ps_model.specs.declared.faults.FaultKind.TheVariants.{AggregateInLayer, BadLine}
use Rattle.ps_model.specs.text.Faults.{when}
use Rattle.ps_model.specs.declared.limits.TheConstants.{OBJECT_LIMIT, LAYER_LIMIT}
use Rattle.ps_model.specs.text.Lines.{folded}
use Rattle.ps_model.specs.names.Names.{Meaning, One, AllOf, AnyOf, Glyph, is_among}
use Rattle.ps_model.specs.names.NameBounds.{IsBelow, AreBounded}
use Rattle.ps_model.specs.text.WrittenLines.{WrittenLine}
use Rattle.ps_model.specs.names.ObjectLines.{ObjectText, one_character}
use Rattle.ps_model.specs.names.Meanings.{is_aggregate}
use Rattle.ps_model.specs.names.LayerLines.{Layer, objects_of_layer, last_among, layers_found}
use Rattle.ps_model.specs.names.NamesRead.{Declared, NameSections, entry_of, entries_of, glyph_of, glyph_with}
use Rattle.ps_model.specs.names.NamesRead.{layer_numbers, names_of, sections_of, name_sections}
use Rattle.ps_model.specs.names.DeclarationFaults.{are_declared_again, is_bad_object, faults_of_object, object_faults}
use Rattle.ps_model.specs.names.DeclarationFaults.{faults_of_layer}
use Rattle.ps_model.specs.names.NameFaults.{no_layer_faults}
use Rattle.ps_laws.specs.GamesOfTexts.{NamesReadAreBounded, GamesAreBounded}
use Rattle.ps_laws.proofs.common.Everywhere.{All-filter_map}
use Rattle.ps_laws.proofs.texts.MentionedObjects.{Speaks, all_declared-below}
use Rattle.ps_laws.proofs.texts.FaultlessNames.{IsFaultless, faultless_sections, names_of_every_game}
use Rattle.ps_laws.proofs.common.Lists.{none-before, none-behind}
use Rattle.ps_laws.proofs.common.FirstFaults.{untold}

-- how many there are --------------------------------------------------------------------------------------------------

not_it : (number limit : ℕ) → (number == limit) ≡ false → number ≤ limit → suc number ≤ limit
not_it number limit e h = grind (arith, nat_tests)

objects-few : (number : ℕ) (before : List (List ℕ)) (objects : List ObjectText) →
    object_faults number before objects ≡ [] → number ≤ OBJECT_LIMIT → number + length objects ≤ OBJECT_LIMIT
objects-few number before [] e h = omega arith
objects-few number before (object ∷ others) e h =
    let more : List Fault = object_faults (suc number) (before ++ map folded object.words) others in
    let own : faults_of_object number before object ≡ [] = none-before (faults_of_object number before object) more e in
    let bad : List Fault = when (is_bad_object object) BadObject object.line in
    let twice : List Fault = when (are_declared_again before object.words) Twice object.line in
    let over : List Fault = when (number == OBJECT_LIMIT) TooManyNames object.line in
    let none : over ≡ [] = none-behind twice over (none-behind bad (twice ++ over) own) in
    let next : suc number ≤ OBJECT_LIMIT = not_it number OBJECT_LIMIT
    (untold (number == OBJECT_LIMIT) TooManyNames object.line none) h in
    let rest : suc number + length others ≤ OBJECT_LIMIT =
    objects-few (suc number) (before ++ map folded object.words) others
    (none-behind (faults_of_object number before object) more e) next in
    omega arith

layers-few : (number : ℕ) (layers : List Layer) → flat_map faults_of_layer (enumerate_from number layers) ≡ [] →
    number ≤ LAYER_LIMIT → number + length layers ≤ LAYER_LIMIT
layers-few number [] e h = omega arith
layers-few number (layer ∷ others) e h =
    let more : List Fault = flat_map faults_of_layer (enumerate_from (number + 1) others) in
    let own : faults_of_layer (number, layer) ≡ [] = none-before (faults_of_layer (number, layer)) more e in
    let unknown : List Fault = when (list_any is_none layer.named) UnknownName layer.line in
    let aggregate : List Fault = when (list_any is_aggregate layer.named) AggregateInLayer layer.line in
    let over : List Fault = when (number == LAYER_LIMIT) TooManyNames layer.line in
    let bare : List Fault = when (length layer.named == 0) BadLine layer.line in
    let none : over ≡ [] = none-before over bare
    (none-behind aggregate (over ++ bare) (none-behind unknown (aggregate ++ (over ++ bare)) own)) in
    let next : suc number ≤ LAYER_LIMIT = not_it number LAYER_LIMIT
    (untold (number == LAYER_LIMIT) TooManyNames layer.line none) h in
    let rest : (number + 1) + length others ≤ LAYER_LIMIT =
    layers-few (number + 1) others (none-behind (faults_of_layer (number, layer)) more e) (omega arith) in
    omega arith

-- layers --------------------------------------------------------------------------------------------------------------

abbrev IsUnder : ℕ → ℕ → Type 0
IsUnder count number = number < count

abbrev IsUnderIf : ℕ → Option ℕ → Type 0
IsUnderIf count layer = IfSome layer (IsUnder count)

last-under : (count : ℕ) (before : Option ℕ) (numbers : List ℕ) → IsUnderIf count before →
    All (IsUnder count) numbers → IsUnderIf count (last_or before numbers)
last-under count before [] h all = h
last-under count before (number ∷ numbers) h all =
    last-under count (Some number) numbers (All-head (IsUnder count) number numbers all)
    (All-tail (IsUnder count) number numbers all)

one-under : (count number : ℕ) (objects : List ObjectId) (rest : List (ℕ × List ObjectId)) (object : ObjectId)
    (b : Bool) → is_among objects object ≡ b → number < count →
    All (IsUnder count) (map (λ numbered. numbered.0) (filter (λ numbered. is_among numbered.1 object) rest)) →
    All (IsUnder count) (map (λ numbered. numbered.0)
    (filter (λ numbered. is_among numbered.1 object) ((number, objects) ∷ rest)))
one-under count number objects rest object true e less h = rw e (All-cons (IsUnder count) number _ less h)
one-under count number objects rest object false e less h = rw e h

places-under : (count number : ℕ) (lists : List (List ObjectId)) (object : ObjectId) → number + length lists ≤ count →
    All (IsUnder count) (map (λ numbered. numbered.0)
    (filter (λ numbered. is_among numbered.1 object) (enumerate_from number lists)))
places-under count number [] object h = All-nil (IsUnder count)
places-under count number (objects ∷ lists) object h =
    one-under count number objects (enumerate_from (number + 1) lists) object (is_among objects object) refl
    (omega arith) (places-under count (number + 1) lists object (omega arith))

-- the layers that are found are layers
found-under : (count : ℕ) (layers : List Layer) → All (IsUnderIf (length layers)) (layers_found count layers)
found-under count layers =
    All-map (IsUnderIf (length layers)) (λ number.
    last_among (map objects_of_layer layers) (record { 0 = number })) (range_with_len 0 count)
    (λ k d less. last-under (length layers) None _ tt
    (places-under (length layers) 0 (map objects_of_layer layers) _ (rw length-map (omega arith))))

each-under : (count : ℕ) (objects : List ObjectText) (places : List (Option ℕ)) → length places ≡ length objects →
    flat_map (λ each. when (is_none each.1) NoLayer each.0.line) (zip objects places) ≡ [] →
    All (IsUnderIf count) places → All (IsUnder count) (layer_numbers places)
each-under count objects [] long e h = All-nil (IsUnder count)
each-under count [] (place ∷ places) long e h = absurd (omega arith)
each-under count (object ∷ objects) (None ∷ places) long e h = cc
each-under count (object ∷ objects) (Some place ∷ places) long e h =
    All-cons (IsUnder count) place (layer_numbers places) (All-head (IsUnderIf count) (Some place) places h)
    (each-under count objects places (omega arith) e (All-tail (IsUnderIf count) (Some place) places h))

-- a place for each object
pub length-found : (count : ℕ) (layers : List Layer) → length (layers_found count layers) ≡ count
length-found count layers = length-map-range_with_len (λ number.
    last_among (map objects_of_layer layers) (record { 0 = number })) 0 count

-- how many objects there are
pub layers_found-counted : (count : ℕ) (layers : List Layer) →
    length (layer_numbers (layers_found count layers)) ≡ count
layers_found-counted count layers = rw length-map (length-found count layers)

-- names ---------------------------------------------------------------------------------------------------------------

abbrev IsGlyphBelow : ℕ → Glyph → Type 0
IsGlyphBelow count glyph = IsBelow count glyph.meaning

glyph_with-below : (count : ℕ) (character : Option ℕ) (meaning : Meaning) → IsBelow count meaning →
    IfSome (glyph_with character meaning) (IsGlyphBelow count)
glyph_with-below count None meaning h = tt
glyph_with-below count (Some character) (One object) h = h
glyph_with-below count (Some character) (AllOf line objects) h = h
glyph_with-below count (Some character) (AnyOf line objects) h = tt

glyphs-below : (count : ℕ) (declared : List Declared) → All (Speaks count) declared →
    All (IsGlyphBelow count) (filter_map glyph_of declared)
glyphs-below count declared all =
    All-filter_map (IsGlyphBelow count) (Speaks count) glyph_of declared (λ each h.
    glyph_with-below count (one_character each.name) each.meaning h) all

abbrev IsEntryBelow : ℕ → List ℕ × Meaning → Type 0
IsEntryBelow count entry = IsBelow count entry.1

-- names of few objects and layers, where each object has its layer
pub few-bounded : (objects : List ObjectText) (lines layer_lines : List WrittenLine) → length objects ≤ OBJECT_LIMIT →
    length (sections_of objects lines layer_lines).layers ≤ LAYER_LIMIT →
    no_layer_faults (sections_of objects lines layer_lines) ≡ [] →
    AreBounded (names_of (sections_of objects lines layer_lines))
few-bounded objects lines layer_lines few few_layers placed =
    let sections : NameSections = sections_of objects lines layer_lines in
    let count : ℕ = length objects in
    let places : List (Option ℕ) = layers_found count sections.layers in
    let long : length (layer_numbers places) ≡ count = layers_found-counted count sections.layers in
    let speak : All (Speaks count) sections.declared = all_declared-below objects lines in
    record {
      few_objects = omega (arith, long, few);
      few_layers = omega (arith, few_layers);
      layers_below = each-under (length sections.layers) objects places (length-found count sections.layers) placed
          (found-under count sections.layers);
      names_below = subst (λ (n : ℕ). All (IsEntryBelow n) (entries_of sections.declared)) (sym long)
          (All-map (IsEntryBelow count) entry_of sections.declared speak);
      glyphs_below = subst (λ (n : ℕ). All (IsGlyphBelow n) (filter_map glyph_of sections.declared)) (sym long)
          (glyphs-below count sections.declared speak);
    }

sections-bounded : (header : ℕ) (objects : List ObjectText) (lines layer_lines : List WrittenLine) →
    IsFaultless header (sections_of objects lines layer_lines) →
    AreBounded (names_of (sections_of objects lines layer_lines))
sections-bounded header objects lines layer_lines h =
    let layers : List Layer = (sections_of objects lines layer_lines).layers in
    let few : 0 + length objects ≤ OBJECT_LIMIT = objects-few 0 [] objects h.objects (omega arith) in
    let few_layers : 0 + length layers ≤ LAYER_LIMIT = layers-few 0 layers h.layers (omega arith) in
    few-bounded objects lines layer_lines (omega (arith, few)) (omega (arith, few_layers)) h.placed

pub names_read-bounded : NamesReadAreBounded
names_read-bounded header object_lines legend_lines layer_lines e =
    let sections : NameSections = name_sections object_lines legend_lines layer_lines in
    sections-bounded header sections.objects sections.legend_lines _ (faultless_sections header sections e)

pub game-bounded : GamesAreBounded
game-bounded text read e = names_of_every_game AreBounded names_read-bounded text read e
