-- The layers of a text, one by one.
use Rattle.std.proofs.Common.{◌≡◌, ℕ, zero, suc, ◌+◌, ◌-◌, ◌≤◌, Bool, true, false, List, [], ◌∷◌, length, drop, refl}
use Rattle.std.proofs.Common.{ap, ◌∙◌, arith, cond}
use Rattle.std.specs.Prelude.{Some, slice_get}
use Rattle.std.proofs.Math.Seq.{drop-cons}
use Rattle.ps_model.specs.text.Lines.{Line, lines_of}
use Rattle.ps_model.specs.text.LineNumbers.{no_line, line_at}
use Rattle.ps_facts.specs.LayerWords.{is_layer, layer_lines}

-- what comes first after the first n stands at the place n
pub first-there : {A : Type 0} (xs ys : List A) (n : ℕ) (y : A) → drop n xs ≡ y ∷ ys → slice_get xs n ≡ Some y
first-there [] ys zero y e = cc
first-there [] ys (suc n) y e = cc
first-there (x ∷ xs) ys zero y e = cc
first-there (x ∷ xs) ys (suc n) y e = first-there xs ys n y e

-- and after one more come the others
pub others-behind : {A : Type 0} (xs ys : List A) (n next : ℕ) (y : A) → next ≡ n + 1 → drop n xs ≡ y ∷ ys →
    drop next xs ≡ ys
others-behind [] ys zero next y one e = cc
others-behind [] ys (suc n) next y one e = cc
others-behind (x ∷ xs) ys zero next y one e = rw one (cc)
others-behind (x ∷ xs) ys (suc n) next y one e =
    let more : next ≡ suc (n + 1) = omega arith in rw more (others-behind xs ys n (n + 1) y refl e)

-- the layers from a line's number on
abbrev pub layers_from : List ℕ → ℕ → List Line
layers_from text line = layer_lines (drop (line - 1) (lines_of text))

-- the line of a number comes first among the lines from it on
line-first : (text : List ℕ) (line next : ℕ) → 1 ≤ line → line ≤ length (lines_of text) → next ≡ line + 1 →
    drop (line - 1) (lines_of text) ≡ line_at text line ∷ drop (next - 1) (lines_of text)
line-first text line next one within e =
    let place : next - 1 ≡ suc (line - 1) = omega arith in
    rw place (drop-cons (lines_of text) (line - 1) no_line (omega arith))

-- a layer comes first among the layers from its line on
pub layer-first : (text : List ℕ) (line next : ℕ) → 1 ≤ line → line ≤ length (lines_of text) → next ≡ line + 1 →
    is_layer (line_at text line) ≡ true → layers_from text line ≡ line_at text line ∷ layers_from text next
layer-first text line next one within e is =
    ap layer_lines (line-first text line next one within e)
    ∙ ap (λ (b : Bool). cond b (line_at text line ∷ layers_from text next) (layers_from text next)) is

-- another line is none of them
pub layer-other : (text : List ℕ) (line next : ℕ) → 1 ≤ line → line ≤ length (lines_of text) → next ≡ line + 1 →
    is_layer (line_at text line) ≡ false → layers_from text line ≡ layers_from text next
layer-other text line next one within e is =
    ap layer_lines (line-first text line next one within e)
    ∙ ap (λ (b : Bool). cond b (line_at text line ∷ layers_from text next) (layers_from text next)) is
