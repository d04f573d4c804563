-- Rules that are read from lines without faults have whole rows: an ellipsis first or last in a row, right after
-- another one, or after two others, is a fault.
use Rattle.std.proofs.Common.{◌≡◌, ℕ, ◌+◌, ◌<◌, ◌≤◌, Bool, true, false, ◌&&◌, ◌||◌, Option, Some, None, List, [], ◌∷◌}
use Rattle.std.proofs.Common.{◌++◌, length, map, filter, cond, reverse, append_assoc, refl, sym, subst, ap, ◌∙◌, arith}
use Rattle.std.specs.Prelude.{All, IfSome, ⊤, drop, slice_index_or}
use Rattle.std.specs.List.{slice_split, list_any, list_all, count_by, filter_map, cons_option}
use Rattle.std.proofs.lemmas.Bool.Decides.{nat_tests}
use Rattle.std.proofs.lemmas.List.{length-map, append-nil, reverse-append}
use Rattle.std.proofs.lemmas.List.Splits.{length-slice_split}
use Rattle.std.proofs.lemmas.List.Sums.{length-filter}
use Rattle.std.proofs.lemmas.List.Elements.{All-nil, All-cons, All-head, All-tail, All-map}
use Rattle.std.proofs.lemmas.Bool.{both_ways, or_parts, and_parts}
use Rattle.ps_model.specs.declared.faults.Fault.{Fault}
use Rattle.ps_model.specs.declared.faults.FaultKind.TheVariants.{BadBracket, UnknownWord, RowsDiffer, NothingRight}
use Rattle.ps_model.specs.declared.faults.FaultKind.TheVariants.{NameTwice, NoAggregate, Unbound, LateMove, PlusAlone}
use Rattle.ps_model.specs.declared.faults.FaultKind.TheVariants.{PlusLate, Ellipsis as EllipsisFault}
use Rattle.ps_model.specs.declared.texts.Section.TheVariants.{Objects, Legend, Layers, Rules}
use Rattle.ps_model.specs.text.Faults.{when}
use Rattle.ps_model.specs.text.Lines.{Line}
use Rattle.ps_model.specs.text.Sections.{section_lines, header_number, heading_faults}
use Rattle.ps_model.specs.names.Names.{Names}
use Rattle.ps_model.specs.names.NameFaults.{name_faults}
use Rattle.ps_model.specs.rules.RuleSymbols.{Symbol, StartsLoop, EndsLoop, Token, tokens_of, tokens_kept}
use Rattle.ps_model.specs.rules.RuleShape.{has_kind, is_ellipsis, WrittenRow, RuleShape, shape_of, beside, paired_cells}
use Rattle.ps_model.specs.rules.RuleShape.{paired_rows}
use Rattle.ps_model.specs.rules.RuleShapeFaults.{has_bad_bracket, has_unknown_word, has_other_rows, has_nothing_right}
use Rattle.ps_model.specs.rules.RuleShapeFaults.{has_late_move, mixes_ellipsis, ends_in_ellipsis, ellipses_touch_behind}
use Rattle.ps_model.specs.rules.RuleShapeFaults.{ellipses_touch, has_many_ellipses, has_wrong_cells, has_wrong_ellipsis}
use Rattle.ps_model.specs.rules.RuleShapeFaults.{has_bad_ellipsis}
use Rattle.ps_model.specs.rules.RuleNameFaults.{has_name_twice, puts_no_before_aggregate, has_unbound}
use Rattle.ps_model.specs.rules.SourceRules.{CellPair, SourceRule, RuleLine}
use Rattle.ps_model.specs.rules.RuleTree.{is_gap, pair_of, row_of_cells, rows_of}
use Rattle.ps_model.specs.rules.RuleLines.{LineForm, StartForm, EndForm, RuleForm, NoForm, form_of_shape, form_of_words}
use Rattle.ps_model.specs.rules.RuleLines.{form_of, line_of_form, lines_with_words}
use Rattle.ps_model.specs.rules.RuleFaults.{Above, nothing_above, above_next, has_lone_plus, joins_other_part}
use Rattle.ps_model.specs.rules.RuleFaults.{faults_of_rule, faults_of_form, faults_of_line, faults_below, rule_faults}
use Rattle.ps_model.specs.game.Games.{Game, game_read, line_faults}
use Rattle.ps_laws.specs.WholeRows.{HasCells, IsWholeRow, IsWholeLine, RulesReadAreWhole, GameRulesAreWhole}
use Rattle.ps_laws.proofs.common.Everywhere.{All-mapped}
use Rattle.ps_laws.proofs.texts.WholeParts.{GoesOn, parts-whole}
use Rattle.ps_laws.proofs.texts.WrittenCells.{IsLeftWithCells, shape_of-cells}
use Rattle.ps_laws.proofs.texts.FaultlessNames.{of_every_faultless}
use Rattle.ps_laws.proofs.common.Lists.{none-before, none-behind}
use Rattle.ps_laws.proofs.common.FirstFaults.{untold}

-- what passes no test, each element doesn't
none_passes : {A : Type 0} (test : A → Bool) (xs : List A) → list_any test xs ≡ false → All (λ x. test x ≡ false) xs
none_passes test [] e = All-nil (λ x. test x ≡ false)
none_passes test (x ∷ xs) e =
    All-cons (λ x. test x ≡ false) x xs (or_parts (test x) (list_any test xs) e).0
    (none_passes test xs (or_parts (test x) (list_any test xs) e).1)

-- rows ----------------------------------------------------------------------------------------------------------------

-- what has a gap has an ellipsis on its left
gap_counts : {A B : Type 0} (first more : Bool) (x : A) (y : B) (xs : List A) (ys : List B) → length xs ≤ length ys →
    length (cond (first && more) (x ∷ xs) xs) ≤ length (cond first (y ∷ ys) ys)
gap_counts true true x y xs ys h = omega (arith, h)
gap_counts true false x y xs ys h = omega (arith, h)
gap_counts false more x y xs ys h = h

gaps_are_few : (cells others : List (List Token)) →
    length (filter is_gap (beside cells others)) ≤ length (filter (has_kind is_ellipsis) cells)
gaps_are_few [] others = omega arith
gaps_are_few (first ∷ cells) others =
    gap_counts (has_kind is_ellipsis first) (list_all (λ (token : Token).
    is_ellipsis token.symbol) (first ++ slice_index_or others 0 [])) (first, slice_index_or others 0 []) first
    (filter is_gap (beside cells (drop 1 others))) (filter (has_kind is_ellipsis) cells)
    (gaps_are_few cells (drop 1 others))

-- a cell without an ellipsis on its left is no gap
gap-first : (cells other : List Token) → has_kind is_ellipsis cells ≡ false → is_gap (cells, other) ≡ false
gap-first cells other e =
    ap (λ (first : Bool). first && list_all (λ (token : Token). is_ellipsis token.symbol) (cells ++ other)) e

-- whether the last of these cells has an ellipsis, or the one before them where there is none
abbrev last_has : Bool → List (List Token) → Bool
last_has before [] = before
last_has before (cell ∷ cells) = last_has (has_kind is_ellipsis cell) cells

last-first : (cell : List Token) (cells more : List (List Token)) →
    has_kind is_ellipsis (slice_index_or (reverse (cell ∷ cells) ++ more) 0 []) ≡ last_has (has_kind is_ellipsis cell)
    cells
last-first cell [] more = refl
last-first cell (next ∷ cells) more =
    ap (λ (back : List (List Token)). has_kind is_ellipsis (slice_index_or (back ++ more) 0 []))
    (reverse-append (cell ∷ []) (next ∷ cells))
    ∙ ap (λ (back : List (List Token)). has_kind is_ellipsis (slice_index_or back 0 []))
    (append_assoc (reverse (next ∷ cells)) (cell ∷ []) more)
    ∙ last-first next cells (cell ∷ more)

-- after a cell, which has an ellipsis where it is a gap, there are no gaps side by side, and none comes last
cells-go-on : (before gap : Bool) (cells others : List (List Token)) → (gap ≡ true → before ≡ true) →
    ellipses_touch_behind before cells ≡ false → last_has before cells ≡ false → GoesOn is_gap gap (beside cells others)
cells-go-on before true [] others has touch last = absurd (both_ways before last (has refl))
cells-go-on before false [] others has touch last = tt
cells-go-on before true (cell ∷ cells) others has touch last =
    let here : Bool = has_kind is_ellipsis cell in
    let none : here ≡ false =
    sym (ap (λ (first : Bool). first && here) (has refl))
    ∙ (or_parts (before && here) (ellipses_touch_behind here cells) touch).0 in (
      gap-first cell (slice_index_or others 0 []) none,
      cells-go-on here false cells (drop 1 others) (λ e.
          absurd (cc)) (or_parts (before && here) (ellipses_touch_behind here cells) touch).1 last,
    )
cells-go-on before false (cell ∷ cells) others has touch last =
    let here : Bool = has_kind is_ellipsis cell in
    let more : Bool = list_all (λ (token : Token). is_ellipsis token.symbol) (cell ++ slice_index_or others 0 []) in
    cells-go-on here (is_gap (cell, slice_index_or others 0 [])) cells (drop 1 others) (λ e. (and_parts here more e).0)
    (or_parts (before && here) (ellipses_touch_behind here cells) touch).1 last

-- the parts of a row without wrong ellipses have cells
parts-have-cells : (cells others : List (List Token)) → HasCells cells → ends_in_ellipsis cells ≡ false →
    ellipses_touch cells ≡ false →
    All HasCells (slice_split is_gap (beside cells others))
parts-have-cells [] others some ends touch = absurd (omega (arith, some))
parts-have-cells (cell ∷ cells) others some ends touch =
    let here : Bool = has_kind is_ellipsis cell in
    let first : here ≡ false = (or_parts here _ ends).0 in
    let last : last_has here cells ≡ false =
    sym (last-first cell cells [])
    ∙ ap (λ (back : List (List Token)). has_kind is_ellipsis (slice_index_or back 0 []))
    (append-nil (reverse (cell ∷ cells)))
    ∙ (or_parts here (has_kind is_ellipsis (slice_index_or (reverse (cell ∷ cells)) 0 [])) ends).1 in
    parts-whole is_gap true (beside (cell ∷ cells) others) (
      gap-first cell (slice_index_or others 0 []) first,
      cells-go-on here false cells (drop 1 others) (λ e. absurd (cc)) touch last,
    )

-- a row without wrong ellipses is whole
row-whole : (cells others : List (List Token)) → HasCells cells → has_wrong_cells cells ≡ false →
    IsWholeRow (row_of_cells (paired_cells (cells, others)))
row-whole cells others some e =
    let stands : (ends_in_ellipsis cells || (ellipses_touch cells || has_many_ellipses cells)) ≡ false =
    (or_parts (list_any mixes_ellipsis cells) _ e).1 in
    let apart : (ellipses_touch cells || has_many_ellipses cells) ≡ false =
    (or_parts (ends_in_ellipsis cells) _ stands).1 in
    let many : has_many_ellipses cells ≡ false = (or_parts (ellipses_touch cells) (has_many_ellipses cells) apart).1 in
    let few : length (filter (has_kind is_ellipsis) cells) ≤ 2 = grind (arith, nat_tests) in
    let gaps : length (filter is_gap (beside cells others)) ≡ count_by is_gap (beside cells others) =
    length-filter is_gap (beside cells others) in
    let cut : length (slice_split is_gap (beside cells others)) ≡ count_by is_gap (beside cells others) + 1 =
    length-slice_split is_gap (beside cells others) in
    let made : length (row_of_cells (beside cells others)) ≡ length (slice_split is_gap (beside cells others)) =
    length-map (slice_split is_gap (beside cells others)) (λ (part : List (List Token × List Token)).
    map pair_of part) in
    record {
      some = omega (arith, cut, made);
      few = omega (arith, gaps, few, cut, made, gaps_are_few cells others);
      cells =
          All-mapped HasCells HasCells (map pair_of) (slice_split is_gap (beside cells others))
          (λ part has. subst (λ (n : ℕ). 0 < n) (sym (length-map part pair_of)) has)
          (parts-have-cells cells others some (or_parts (ends_in_ellipsis cells) _ stands).0
          (or_parts (ellipses_touch cells) _ apart).0);
    }

-- the left of each pair is of the first list
beside-left : {A : Type 0} (P : List A → Type 0) (lists others : List (List A)) → All P lists →
    All (λ (pair : List A × List A). P pair.0) (beside lists others)
beside-left P [] others all = All-nil (λ pair. P pair.0)
beside-left P (first ∷ lists) others all =
    All-cons (λ pair. P pair.0) (first, slice_index_or others 0 []) (beside lists (drop 1 others))
    (All-head P first lists all)
    (beside-left P lists (drop 1 others) (All-tail P first lists all))

-- the cells of a row on the left of a rule: there are some, and no ellipsis stands where it can't
abbrev IsWrittenWell : List (List Token) → Type 0
IsWrittenWell cells = HasCells cells × (has_wrong_cells cells ≡ false)

rows-whole : (shape : RuleShape) → IsLeftWithCells shape → has_bad_ellipsis shape ≡ false →
    All IsWholeRow (rows_of shape)
rows-whole shape some e =
    let left : has_wrong_ellipsis shape.left ≡ false = (or_parts (has_wrong_ellipsis shape.left) _ e).0 in
    let right : list_any (λ (row : WrittenRow). has_wrong_cells row.cells) shape.left.rows ≡ false = left in
    let each : All (λ (row : WrittenRow). IsWrittenWell row.cells) shape.left.rows =
    λ k d within. (
      some k d within,
      none_passes (λ (row : WrittenRow).
          has_wrong_cells row.cells) shape.left.rows right k d within,
    ) in
    All-mapped IsWholeRow (λ (rows : List (List Token) × List (List Token)). IsWrittenWell rows.0) (λ rows.
    row_of_cells (paired_cells rows)) (paired_rows shape)
    (λ rows h. row-whole rows.0 rows.1 h.0 h.1)
    (beside-left IsWrittenWell (map (λ (row : WrittenRow). row.cells) shape.left.rows)
    (map (λ (row : WrittenRow). row.cells) shape.right.rows)
    (All-map IsWrittenWell (λ (row : WrittenRow). row.cells) shape.left.rows each))

-- lines ---------------------------------------------------------------------------------------------------------------

-- a rule has the rows of its shape, whose left has a cell or more in each
abbrev IsReadForm : LineForm → Type 0
IsReadForm StartForm = ⊤
IsReadForm EndForm = ⊤
IsReadForm (RuleForm shape rule) = (rule.rows ≡ rows_of shape) × IsLeftWithCells shape
IsReadForm NoForm = ⊤

form_of_shape-read : (line : Line) (shape : Option RuleShape) → IfSome shape IsLeftWithCells →
    IsReadForm (form_of_shape line shape)
form_of_shape-read line None h = tt
form_of_shape-read line (Some shape) h = (refl, h)

form_of_words-read : (line : Line) (first : Symbol) (tokens : List Token) → IsReadForm (form_of_words line first tokens)
form_of_words-read line StartsLoop (only ∷ []) = tt
form_of_words-read line EndsLoop (only ∷ []) = tt
form_of_words-read line first tokens = form_of_shape-read line (shape_of tokens) (shape_of-cells tokens)

form_of-read : (line : Line) (tokens : List Token) → IsReadForm (form_of line tokens)
form_of-read line [] = tt
form_of-read line (first ∷ tokens) = form_of_words-read line first.symbol (first ∷ tokens)

-- a rule without faults has no wrong ellipsis
no_bad_ellipsis : (above : Above) (line : ℕ) (shape : RuleShape) (rule : SourceRule) →
    faults_of_rule above line shape rule ≡ [] → has_bad_ellipsis shape ≡ false
no_bad_ellipsis above line shape rule e =
    untold (has_bad_ellipsis shape) EllipsisFault line
    (none-behind (when (joins_other_part above rule) PlusLate line) _
    (none-behind (when (has_lone_plus above rule) PlusAlone line) _
    (none-behind (when (has_late_move shape) LateMove line) _
    (none-behind (when (has_unbound rule) Unbound line) _
    (none-behind (when (puts_no_before_aggregate rule) NoAggregate line) _
    (none-behind (when (has_name_twice rule) NameTwice line) _
    (none-behind (when (has_nothing_right shape) NothingRight line) _
    (none-behind (when (has_other_rows shape) RowsDiffer line) _
    (none-behind (when (has_unknown_word shape) UnknownWord line) _
    (none-behind (when (has_bad_bracket shape) BadBracket line) _ e))))))))))

form-whole : (above : Above) (line : ℕ) (form : LineForm) → IsReadForm form → faults_of_form above line form ≡ [] →
    IfSome (line_of_form form) IsWholeLine
form-whole above line StartForm h e = tt
form-whole above line EndForm h e = tt
form-whole above line (RuleForm shape rule) h e =
    subst (λ (rows : List (List (List CellPair))).
    All IsWholeRow rows) (sym h.0) (rows-whole shape h.1 (no_bad_ellipsis above line shape rule e))
form-whole above line NoForm h e = tt

-- one more line
onto-whole : (line : Option RuleLine) (lines : List RuleLine) → IfSome line IsWholeLine → All IsWholeLine lines →
    All IsWholeLine (cons_option line lines)
onto-whole None lines h all = all
onto-whole (Some line) lines h all = All-cons IsWholeLine line lines h all

lines-whole : (names : Names) (above : Above) (lines : List Line) → faults_below names above lines ≡ [] →
    All IsWholeLine (filter_map (λ line. line_of_form (form_of line (tokens_kept (tokens_of names line)))) lines)
lines-whole names above [] e = All-nil IsWholeLine
lines-whole names above (line ∷ lines) e =
    let tokens : List Token = tokens_of names line in
    let form : LineForm = form_of line (tokens_kept tokens) in
    let here : List Fault = faults_of_line above line.number tokens form in
    let below : List Fault = faults_below names (above_next above line.number form) lines in
    onto-whole (line_of_form form) _
    (form-whole above line.number form (form_of-read line (tokens_kept tokens))
    (none-before (faults_of_form above line.number form) _ (none-before here below e)))
    (lines-whole names (above_next above line.number form) lines (none-behind here below e))

pub rules_read-whole : RulesReadAreWhole
rules_read-whole names lines e = lines-whole names nothing_above (lines_with_words lines) e

-- the rules of a text's lines without faults have none
rules_faultless : (lines : List Line) → line_faults lines ≡ [] →
    rule_faults (game_read lines).names (section_lines lines Rules) ≡ []
rules_faultless lines e =
    none-before (rule_faults (game_read lines).names (section_lines lines Rules)) _
    (none-behind (name_faults (header_number lines Objects) (section_lines lines Objects) (section_lines lines Legend)
    (section_lines lines Layers)) _ (none-behind (heading_faults lines) _ e))

pub game-whole : GameRulesAreWhole
game-whole text read e =
    of_every_faultless (λ (made : Game). All IsWholeLine made.rules)
    (λ lines none. rules_read-whole (game_read lines).names (section_lines lines Rules) (rules_faultless lines none))
    text read e
