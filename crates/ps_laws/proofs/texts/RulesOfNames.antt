-- Rules that are read speak of objects of the game alone. A word of a line that is a name stands for objects of the
-- game. The shape and the tree of a rule are made of the words of its line.
use Rattle.std.proofs.Common.{◌≡◌, ℕ, Bool, true, false, not, Option, Some, None, List, [], ◌∷◌, map, refl}
use Rattle.std.specs.Prelude.{All, IfSome, ⊤, unwrap_or, slice_range, codes}
use Rattle.std.specs.List.{slice_split}
use Rattle.std.specs.Str.{bytes_eq}
use Rattle.std.specs.Map.{lookup}
use Rattle.std.proofs.lemmas.List.Elements.{All-nil, All-cons, All-head, All-tail, All-append, All-filter, All-map}
use Rattle.std.proofs.lemmas.List.Elements.{All-weaker}
use Rattle.std.proofs.lemmas.List.Sums.{AllPass-from_list_all}
use Rattle.std.proofs.lemmas.Map.Entries.{All-lookup}
use Rattle.ps_model.specs.text.OptionSteps.{◌>>=◌, only_if, all_there}
use Rattle.ps_model.specs.text.Lines.{Line, folded}
use Rattle.ps_model.specs.names.Names.{Meaning, Names, object_count, meaning_of}
use Rattle.ps_model.specs.names.NameBounds.{IsBelow, AreBounded}
use Rattle.ps_model.specs.text.RuleWords.{rule_words_in}
use Rattle.ps_model.specs.rules.RuleSymbols.{Symbol, Open, Without, Plus, Moves, StartsLoop, EndsLoop, Called}
use Rattle.ps_model.specs.rules.RuleSymbols.{key_words, name_symbol, symbol_of, first_symbol, Token, token_by}
use Rattle.ps_model.specs.rules.RuleSymbols.{tokens_at, tokens_of, is_left_out, tokens_kept}
use Rattle.ps_model.specs.rules.RuleShape.{is_open, is_close, is_bar, is_arrow, cut_at, has_kind, WrittenRow}
use Rattle.ps_model.specs.rules.RuleShape.{WrittenSide, RuleShape, row_of_parts, row_of, side_of_parts, side_of}
use Rattle.ps_model.specs.rules.RuleShape.{shape_of_parts, shape_of, beside, paired_cells, paired_rows}
use Rattle.ps_model.specs.rules.SourceRules.{Is, No}
use Rattle.ps_model.specs.rules.RuleTree.{named_item, items_behind, is_gap, pair_of, row_of_cells, rows_of}
use Rattle.ps_model.specs.rules.RuleLines.{LineForm, StartForm, EndForm, RuleForm, NoForm, form_of_shape, form_of_words}
use Rattle.ps_model.specs.rules.RuleLines.{form_of, line_of_form, lines_with_words}
use Rattle.ps_model.specs.meaning.GameRules.{IsItemOf, IsPairOf, IsRuleOf, IsLineOf}
use Rattle.ps_laws.specs.GamesOfTexts.{RulesReadAreOfNames}
use Rattle.ps_laws.proofs.common.OptionalSteps.{step-each, only_if-each, all_there-each}
use Rattle.ps_laws.proofs.common.Everywhere.{either_one, All-always, All-mapped, All-filter_map, All-slice_split}

-- words ---------------------------------------------------------------------------------------------------------------

-- the objects of a word that is a name are objects of the game
abbrev IsSymbolOf : Names → Symbol → Type 0
IsSymbolOf names (Called meaning) = IsBelow (object_count names) meaning
IsSymbolOf names other = ⊤

abbrev IsTokenOf : Names → Token → Type 0
IsTokenOf names token = IsSymbolOf names token.symbol

-- the word isn't a name
abbrev is_no_name : Symbol → Bool
is_no_name (Called meaning) = false
is_no_name other = true

no_name-game : (names : Names) (symbol : Symbol) → is_no_name symbol ≡ true → IsSymbolOf names symbol
no_name-game names (Called meaning) e = cc
no_name-game names other e = tt

-- no key word is a name
key_words-game : (names : Names) → All (λ key. IsSymbolOf names key.1) key_words
key_words-game names =
    All-weaker (λ (key : List ℕ × Symbol). is_no_name key.1 ≡ true) (λ (key : List ℕ × Symbol).
    IsSymbolOf names key.1) (λ key h. no_name-game names key.1 h) key_words
    (AllPass-from_list_all (λ (key : List ℕ × Symbol). is_no_name key.1) key_words refl)

name_symbol-game : (names : Names) (meaning : Option Meaning) → IfSome meaning (IsBelow (object_count names)) →
    IsSymbolOf names (name_symbol meaning)
name_symbol-game names None h = tt
name_symbol-game names (Some meaning) h = h

found_or-game : (names : Names) (found : Option Symbol) (other : Symbol) → IfSome found (IsSymbolOf names) →
    IsSymbolOf names other → IsSymbolOf names (unwrap_or found other)
found_or-game names None other h o = o
found_or-game names (Some symbol) other h o = h

symbol_of-game : (names : Names) → AreBounded names → (word : List ℕ) → IsSymbolOf names (symbol_of names word)
symbol_of-game names bounded word =
    found_or-game names (lookup (bytes_eq (folded word)) key_words) (name_symbol (meaning_of names word))
    (All-lookup (IsSymbolOf names) (bytes_eq (folded word)) key_words (key_words-game names))
    (name_symbol-game names (meaning_of names word)
    (All-lookup (IsBelow (object_count names)) (bytes_eq (folded word)) names.entries bounded.names_below))

first_symbol-game : (names : Names) → AreBounded names → (word : List ℕ) → IsSymbolOf names (first_symbol names word)
first_symbol-game names bounded word = either_one (IsSymbolOf names) (bytes_eq word (codes "+")) Plus
    (symbol_of names word) tt (symbol_of-game names bounded word)

tokens_at-game : (names : Names) → AreBounded names → (line : Line) (words : List (ℕ × ℕ)) →
    All (IsTokenOf names) (tokens_at names line words)
tokens_at-game names bounded line [] = All-nil (IsTokenOf names)
tokens_at-game names bounded line (first ∷ words) =
    All-cons (IsTokenOf names) (token_by (first_symbol names) line first) (map (token_by (symbol_of names) line) words)
    (first_symbol-game names bounded (slice_range line.bytes first.0 first.1))
    (All-mapped (IsTokenOf names) (λ word. ⊤) (token_by (symbol_of names) line) words (λ word h.
    symbol_of-game names bounded (slice_range line.bytes word.0 word.1))
    (All-always (λ word. ⊤) words (λ word. tt)))

tokens_kept-game : (names : Names) (tokens : List Token) → All (IsTokenOf names) tokens →
    All (IsTokenOf names) (tokens_kept tokens)
tokens_kept-game names tokens all = All-filter (λ (token : Token).
    not (is_left_out token.symbol)) (IsTokenOf names) tokens all

-- shapes --------------------------------------------------------------------------------------------------------------

-- the words of a row's cells; those of a side's rows, and of a rule's sides
abbrev IsRowOf : Names → WrittenRow → Type 0
IsRowOf names row = All (All (IsTokenOf names)) row.cells

abbrev IsSideOf : Names → WrittenSide → Type 0
IsSideOf names side = All (IsRowOf names) side.rows

record IsShapeOf (names : Names) (shape : RuleShape) : Type 0 where
  left : IsSideOf names shape.left
  right : IsSideOf names shape.right

cut_at-game : (names : Names) (kind : Symbol → Bool) (tokens : List Token) → All (IsTokenOf names) tokens →
    All (All (IsTokenOf names)) (cut_at kind tokens)
cut_at-game names kind tokens all = All-slice_split (IsTokenOf names) (λ (token : Token). kind token.symbol) tokens all

row_of_parts-game : (names : Names) (parts : List (List Token)) → All (All (IsTokenOf names)) parts →
    IfSome (row_of_parts parts) (IsRowOf names)
row_of_parts-game names (inside ∷ behind ∷ []) all =
    cut_at-game names is_bar inside (All-head (All (IsTokenOf names)) inside (behind ∷ []) all)
row_of_parts-game names [] all = tt
row_of_parts-game names (inside ∷ []) all = tt
row_of_parts-game names (inside ∷ behind ∷ more ∷ others) all = tt

row_of-game : (names : Names) (tokens : List Token) → All (IsTokenOf names) tokens →
    IfSome (row_of tokens) (IsRowOf names)
row_of-game names tokens all = row_of_parts-game names (cut_at is_close tokens) (cut_at-game names is_close tokens all)

side_of_parts-game : (names : Names) (parts : List (List Token)) → All (All (IsTokenOf names)) parts →
    IfSome (side_of_parts parts) (IsSideOf names)
side_of_parts-game names [] all = tt
side_of_parts-game names (ahead ∷ parts) all =
    let side : List WrittenRow → WrittenSide = λ rows. record { ahead = ahead; rows = rows } in
    step-each (All (IsRowOf names)) (IsSideOf names) (all_there (map row_of parts)) (λ rows.
    only_if (not (has_kind is_close ahead)) (side rows))
    (all_there-each (IsRowOf names) (map row_of parts)
    (All-mapped (λ (o : Option WrittenRow).
    IfSome o (IsRowOf names)) (All (IsTokenOf names)) row_of parts (row_of-game names)
    (All-tail (All (IsTokenOf names)) ahead parts all)))
    (λ rows each. only_if-each (IsSideOf names) (not (has_kind is_close ahead)) (side rows) each)

side_of-game : (names : Names) (tokens : List Token) → All (IsTokenOf names) tokens →
    IfSome (side_of tokens) (IsSideOf names)
side_of-game names tokens all = side_of_parts-game names (cut_at is_open tokens) (cut_at-game names is_open tokens all)

shape_of_parts-game : (names : Names) (parts : List (List Token)) → All (All (IsTokenOf names)) parts →
    IfSome (shape_of_parts parts) (IsShapeOf names)
shape_of_parts-game names (before ∷ behind ∷ []) all =
    let shape : WrittenSide → WrittenSide → RuleShape = λ left right. record { left = left; right = right } in
    let both : All (All (IsTokenOf names)) (behind ∷ []) = All-tail (All (IsTokenOf names)) before (behind ∷ []) all in
    step-each (IsSideOf names) (IsShapeOf names) (side_of before) (λ left. side_of behind >>=
    (λ right. Some (shape left right)))
    (side_of-game names before (All-head (All (IsTokenOf names)) before (behind ∷ []) all))
    (λ left l. step-each (IsSideOf names) (IsShapeOf names) (side_of behind) (λ right.
    Some (shape left right)) (side_of-game names behind (All-head (All (IsTokenOf names)) behind [] both))
    (λ right r. record { left = l; right = r }))
shape_of_parts-game names [] all = tt
shape_of_parts-game names (before ∷ []) all = tt
shape_of_parts-game names (before ∷ behind ∷ more ∷ others) all = tt

shape_of-game : (names : Names) (tokens : List Token) → All (IsTokenOf names) tokens →
    IfSome (shape_of tokens) (IsShapeOf names)
shape_of-game names tokens all = shape_of_parts-game names (cut_at is_arrow tokens)
    (cut_at-game names is_arrow tokens all)

-- trees ---------------------------------------------------------------------------------------------------------------

-- both lists of a pair have it
abbrev Both : {A : Type 0} → (List A → Type 0) → List A × List A → Type 0
Both P pair = P pair.0 × P pair.1

beside-each : {A : Type 0} (P : List A → Type 0) (lists others : List (List A)) → P [] → All P lists → All P others →
    All (Both P) (beside lists others)
beside-each P [] others none all each = All-nil (Both P)
beside-each P (first ∷ lists) [] none all each =
    All-cons (Both P) (first, []) (beside lists []) (All-head P first lists all, none)
    (beside-each P lists [] none (All-tail P first lists all) each)
beside-each P (first ∷ lists) (second ∷ others) none all each =
    All-cons (Both P) (first, second) (beside lists others) (All-head P first lists all, All-head P second others each)
    (beside-each P lists others none (All-tail P first lists all) (All-tail P second others each))

named_item-game : (names : Names) (before : Symbol) (at : ℕ) (symbol : Symbol) → IsSymbolOf names symbol →
    All (IsItemOf names) (named_item before at symbol)
named_item-game names (Moves word) at (Called meaning) h =
    All-cons (IsItemOf names) (Is at (Some word) meaning) [] h (All-nil (IsItemOf names))
named_item-game names Without at (Called meaning) h =
    All-cons (IsItemOf names) (No meaning) [] h (All-nil (IsItemOf names))
named_item-game names before at (Called meaning) h =
    All-cons (IsItemOf names) (Is at None meaning) [] h (All-nil (IsItemOf names))
named_item-game names before at other h = All-nil (IsItemOf names)

items_behind-game : (names : Names) (before : Symbol) (tokens : List Token) → All (IsTokenOf names) tokens →
    All (IsItemOf names) (items_behind before tokens)
items_behind-game names before [] all = All-nil (IsItemOf names)
items_behind-game names before (token ∷ tokens) all =
    All-append (IsItemOf names) (named_item before token.at token.symbol) (items_behind token.symbol tokens)
    (named_item-game names before token.at token.symbol (All-head (IsTokenOf names) token tokens all))
    (items_behind-game names token.symbol tokens (All-tail (IsTokenOf names) token tokens all))

cell_of-game : (names : Names) (words : List Token × List Token) → Both (All (IsTokenOf names)) words →
    IsPairOf names (pair_of words)
cell_of-game names words h = record {
  left = items_behind-game names Open words.0 h.0;
  right =
      items_behind-game names Open words.1 h.1;
}

row_of_cells-game : (names : Names) (cells : List (List Token × List Token)) →
    All (Both (All (IsTokenOf names))) cells → All (All (IsPairOf names)) (row_of_cells cells)
row_of_cells-game names cells all =
    All-mapped (All (IsPairOf names)) (All (Both (All (IsTokenOf names)))) (λ part.
    map pair_of part) (slice_split is_gap cells)
    (λ part each. All-mapped (IsPairOf names) (Both (All (IsTokenOf names))) pair_of part (cell_of-game names) each)
    (All-slice_split (Both (All (IsTokenOf names))) is_gap cells all)

rows_of-game : (names : Names) (shape : RuleShape) → IsShapeOf names shape →
    All (All (All (IsPairOf names))) (rows_of shape)
rows_of-game names shape h =
    let cells : WrittenRow → List (List Token) = λ row. row.cells in
    All-mapped (All (All (IsPairOf names))) (Both (All (All (IsTokenOf names)))) (λ rows.
    row_of_cells (paired_cells rows)) (paired_rows shape)
    (λ rows each. row_of_cells-game names (paired_cells rows)
    (beside-each (All (IsTokenOf names)) rows.0 rows.1 (All-nil (IsTokenOf names)) each.0 each.1))
    (beside-each (All (All (IsTokenOf names))) (map cells shape.left.rows) (map cells shape.right.rows)
    (All-nil (All (IsTokenOf names)))
    (All-map (All (All (IsTokenOf names))) cells shape.left.rows h.left)
    (All-map (All (All (IsTokenOf names))) cells shape.right.rows h.right))

-- lines ---------------------------------------------------------------------------------------------------------------

abbrev IsFormOf : Names → LineForm → Type 0
IsFormOf names StartForm = ⊤
IsFormOf names EndForm = ⊤
IsFormOf names (RuleForm shape rule) = IsRuleOf names rule
IsFormOf names NoForm = ⊤

form_of_shape-game : (names : Names) (line : Line) (shape : Option RuleShape) → IfSome shape (IsShapeOf names) →
    IsFormOf names (form_of_shape line shape)
form_of_shape-game names line None h = tt
form_of_shape-game names line (Some shape) h = rows_of-game names shape h

form_of_words-game : (names : Names) (line : Line) (first : Symbol) (tokens : List Token) →
    All (IsTokenOf names) tokens → IsFormOf names (form_of_words line first tokens)
form_of_words-game names line StartsLoop (only ∷ []) all = tt
form_of_words-game names line EndsLoop (only ∷ []) all = tt
form_of_words-game names line first tokens all =
    form_of_shape-game names line (shape_of tokens) (shape_of-game names tokens all)

form_of-game : (names : Names) (line : Line) (tokens : List Token) → All (IsTokenOf names) tokens →
    IsFormOf names (form_of line tokens)
form_of-game names line [] all = tt
form_of-game names line (first ∷ tokens) all = form_of_words-game names line first.symbol (first ∷ tokens) all

line_of_form-game : (names : Names) (form : LineForm) → IsFormOf names form →
    IfSome (line_of_form form) (IsLineOf names)
line_of_form-game names StartForm h = tt
line_of_form-game names EndForm h = tt
line_of_form-game names (RuleForm shape rule) h = h
line_of_form-game names NoForm h = tt

pub rules_read-game : RulesReadAreOfNames
rules_read-game names lines bounded =
    let kept : Line → List Token = λ line. tokens_kept (tokens_of names line) in
    All-filter_map (IsLineOf names) (λ line. ⊤) (λ line.
    line_of_form (form_of line (kept line))) (lines_with_words lines)
    (λ line h. line_of_form-game names (form_of line (kept line))
    (form_of-game names line (kept line) (tokens_kept-game names (tokens_of names line)
    (tokens_at-game names bounded line (rule_words_in line.bytes)))))
    (All-always (λ line. ⊤) (lines_with_words lines) (λ line. tt))
