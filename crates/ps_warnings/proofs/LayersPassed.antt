-- Objects of COLLISIONLAYERS, a word further, and a line further.
use Rattle.std.proofs.Common.{◌≡◌, ◌∙◌, ◌++◌, ◌+◌, ◌<◌, ◌≤◌, ℕ, zero, suc, Bool, true, false, cond, Option, Some, None}
use Rattle.std.proofs.Common.{List, [], ◌∷◌, length, drop, get_or, map, sym, ap, ap₂, append_assoc, arith}
use Rattle.std.specs.Prelude.{find, not, option_map}
use Rattle.std.specs.Option.{is_some, option_or}
use Rattle.std.proofs.lemmas.List.Folds.{find-append}
use Rattle.std.specs.List.{enumerate_from, flat_map}
use Rattle.std.specs.Map.{lookup}
use Rattle.std.specs.Str.{bytes_eq}
use Rattle.std.proofs.lemmas.List.{append-nil}
use Rattle.ps_model.specs.declared.pieces.ObjectId.{ObjectId}
use Rattle.ps_model.specs.text.Lines.{Line, folded, is_blank_line, lines_of}
use Rattle.ps_model.specs.text.LineNumbers.{here, line_at, lines_between}
use Rattle.ps_model.specs.names.Names.{Names, members_if, members_named}
use Rattle.ps_text.specs.WordViews.{text_of}
use Rattle.ps_text.specs.declared.cutting.Word.{Word}
use Rattle.ps_laws.proofs.common.Foldings.{folded_again}
use Rattle.ps_laws.proofs.common.LinesInOrder.{between-end, here-there, line_at-number}
use Rattle.ps_warnings.specs.declared.kinds.Warning.{Warning}
use Rattle.ps_warnings.specs.LayerWarnings.{is_elsewhere, layers_from, layers_in, line_of_object, objects_on_line}
use Rattle.ps_warnings.specs.LayerWarnings.{objects_of_words, warned_of_objects, warned_of_other, warnings_of_layer}

-- what a word names, it names with its letters folded
pub members_folded : (names : Names) (word : List ℕ) → members_named names (folded word) ≡ members_named names word
members_folded names word =
    ap (λ (name : List ℕ). members_if (lookup (bytes_eq name) names.entries)) (folded_again word)

-- words ---------------------------------------------------------------------------------------------------------------

-- the first object of words that is on another layer
abbrev first : Names → ℕ → List Word → Option ObjectId
first names layer words = find (is_elsewhere names layer) (objects_of_words names (map text_of words))

-- that of a word
abbrev first_of : Names → ℕ → List ℕ → Option ObjectId
first_of names layer word = find (is_elsewhere names layer) (members_named names word)

-- it is that of the next word, or else of those below
step : (names : Names) (layer : ℕ) (words : List Word) (at : ℕ) (d : Word) → at < length words →
    first names layer (drop at words)
    ≡ option_or (first_of names layer (text_of (get_or words at d))) (first names layer (drop (at + 1) words))
step names layer [] at d less = absurd (omega arith)
step names layer (word ∷ words) zero d less =
    find-append (is_elsewhere names layer) (members_named names (text_of word))
    (objects_of_words names (map text_of words))
step names layer (word ∷ words) (suc k) d less =
    let next : suc k + 1 ≡ suc (k + 1) = omega arith in rw next (step names layer words k d (omega arith))

-- the next word has none
pub none_of_word : (names : Names) (layer : ℕ) (words : List Word) (at : ℕ) (d : Word) (word : List ℕ)
    (found whole : Option ObjectId) → at < length words → word ≡ text_of (get_or words at d) →
    found ≡ first_of names layer word → is_some found ≡ false → first names layer (drop at words) ≡ whole →
    first names layer (drop (at + 1) words) ≡ whole
none_of_word names layer words at d word (Some object) whole less w f none was = absurd (let h = none in cc)
none_of_word names layer words at d word None whole less w f none was =
    let rest : Option ObjectId = first names layer (drop (at + 1) words) in
    sym (step names layer words at d less
    ∙ ap (λ (found : Option ObjectId). option_or found rest) (sym (f ∙ ap (first_of names layer) w))) ∙ was

-- the next word has one
pub one_of_word : (names : Names) (layer : ℕ) (words : List Word) (at : ℕ) (d : Word) (word : List ℕ)
    (found whole : Option ObjectId) → at < length words → word ≡ text_of (get_or words at d) →
    found ≡ first_of names layer word → is_some found ≡ true → first names layer (drop at words) ≡ whole →
    found ≡ whole
one_of_word names layer words at d word None whole less w f some was = absurd (let h = some in cc)
one_of_word names layer words at d word (Some object) whole less w f some was =
    let rest : Option ObjectId = first names layer (drop (at + 1) words) in
    sym (step names layer words at d less
    ∙ ap (λ (found : Option ObjectId). option_or found rest) (sym (f ∙ ap (first_of names layer) w))) ∙ was

-- lines ---------------------------------------------------------------------------------------------------------------

-- what comes of a line, and of those below it, by whether it is blank
abbrev by_blank : Names → List ℕ → ℕ → Line → List Line → Bool → List Warning
by_blank names numbers layer line rest blank =
    flat_map (warnings_of_layer names numbers)
    (enumerate_from layer (cond (not blank) (line ∷ layers_in rest) (layers_in rest)))

blank_past : (names : Names) (numbers : List ℕ) (layer : ℕ) (line : Line) (rest : List Line) →
    is_blank_line line ≡ true → layers_from names numbers layer (line ∷ rest) ≡ layers_from names numbers layer rest
blank_past names numbers layer line rest e = ap (by_blank names numbers layer line rest) e

layer_past : (names : Names) (numbers : List ℕ) (layer : ℕ) (line : Line) (rest : List Line) →
    is_blank_line line ≡ false → layers_from names numbers layer (line ∷ rest)
    ≡ warnings_of_layer names numbers (layer, line) ++ layers_from names numbers (layer + 1) rest
layer_past names numbers layer line rest e = ap (by_blank names numbers layer line rest) e

-- lines of the text ---------------------------------------------------------------------------------------------------

-- a blank line
pub blank_here : (text : List ℕ) (names : Names) (numbers : List ℕ) (line layer : ℕ) (told : List Warning) →
    (line_at text line).is_there ≡ true → is_blank_line (line_at text line) ≡ true → (rest : List Line) →
    told ++ layers_from names numbers layer rest ≡ told ++ layers_from names numbers layer (here text line ++ rest)
blank_here text names numbers line layer told there blank rest =
    ap (λ (more : List Warning). told ++ more)
    (sym (ap (λ (lines : List Line). layers_from names numbers layer (lines ++ rest)) (here-there text line there)
    ∙ blank_past names numbers layer (line_at text line) rest blank))

-- a layer
pub layer_here : (text : List ℕ) (names : Names) (numbers : List ℕ) (line layer next : ℕ) (found : Option ObjectId)
    (before after : List Warning) → 1 ≤ line → line ≤ length (lines_of text) → (line_at text line).is_there ≡ true →
    is_blank_line (line_at text line) ≡ false →
    found ≡ find (is_elsewhere names layer) (objects_on_line names (line_at text line)) → next ≡ layer + 1 →
    after ≡ before ++ warned_of_other line (option_map (line_of_object names numbers) found) → (rest : List Line) →
    after ++ layers_from names numbers next rest
    ≡ before ++ layers_from names numbers layer (here text line ++ rest)
layer_here text names numbers line layer next found before after low high there blank f n e rest =
    let x : Line = line_at text line in
    let told : List Warning = warned_of_other line (option_map (line_of_object names numbers) found) in
    let own : told ≡ warnings_of_layer names numbers (layer, x) =
    ap (λ (object : Option ObjectId). warned_of_other line (option_map (line_of_object names numbers) object)) f
    ∙ ap (λ (number : ℕ). warned_of_objects names numbers layer number (objects_on_line names x))
    (sym (line_at-number text line low high)) in
    ap (λ (xs : List Warning). xs ++ layers_from names numbers next rest) e
    ∙ append_assoc before told (layers_from names numbers next rest)
    ∙ ap (λ (xs : List Warning). before ++ xs)
    (ap₂ (λ (xs : List Warning) (number : ℕ). xs ++ layers_from names numbers number rest) own n
    ∙ sym (layer_past names numbers layer x rest blank)
    ∙ sym (ap (λ (lines : List Line). layers_from names numbers layer (lines ++ rest)) (here-there text line there)))

-- no line is left
pub all_layers_passed : (text : List ℕ) (names : Names) (numbers : List ℕ) (line end layer : ℕ)
    (told whole : List Warning) → end ≤ line →
    told ++ layers_from names numbers layer (lines_between text line end) ≡ whole → told ≡ whole
all_layers_passed text names numbers line end layer told whole past was =
    sym (ap (λ (lines : List Line). told ++ layers_from names numbers layer lines) (between-end text line end past)
    ∙ append-nil told) ∙ was
