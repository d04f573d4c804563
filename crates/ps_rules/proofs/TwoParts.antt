-- The shape of a rule by its two sides.
use Rattle.std.proofs.Common.{◌≡◌, ◌∙◌, ◌<◌, ◌≤◌, List, [], ◌∷◌, length, get_or, Option, None, Some, ap, arith}
use Rattle.ps_model.specs.text.OptionSteps.{◌>>=◌}
use Rattle.ps_model.specs.rules.RuleSymbols.{Token}
use Rattle.ps_model.specs.rules.RuleShape.{RuleShape, WrittenSide, side_of, shape_of_parts}

-- a list of two, by what stands at its places
pub two-parts : {A : Type 0} (parts : List A) (first second : A) → 2 ≤ length parts → length parts < 3 →
    first ≡ get_or parts 0 first → second ≡ get_or parts 1 second → parts ≡ first ∷ second ∷ []
two-parts [] first second least most f s = absurd (omega arith)
two-parts (a ∷ []) first second least most f s = absurd (omega arith)
two-parts (a ∷ b ∷ []) first second least most f s = cc
two-parts (a ∷ b ∷ d ∷ others) first second least most f s = absurd (omega arith)

-- the shape by its right side, given its left one
abbrev with_right : WrittenSide → Option WrittenSide → Option RuleShape
with_right left right = right >>= (λ side. Some (record { left = left; right = side }))

abbrev with_sides : Option WrittenSide → Option WrittenSide → Option RuleShape
with_sides left right = left >>= (λ side. with_right side right)

pub shape-there : (before behind : List Token) (left right : WrittenSide) → side_of before ≡ Some left →
    side_of behind ≡ Some right →
    shape_of_parts (before ∷ behind ∷ []) ≡ Some (record { left = left; right = right })
shape-there before behind left right l r =
    ap (λ (o : Option WrittenSide). with_sides o (side_of behind)) l ∙ ap (with_right left) r

pub shape-without-left : (before behind : List Token) → side_of before ≡ None →
    shape_of_parts (before ∷ behind ∷ []) ≡ None
shape-without-left before behind l = ap (λ (o : Option WrittenSide). with_sides o (side_of behind)) l

pub shape-without-right : (before behind : List Token) (left : WrittenSide) → side_of before ≡ Some left →
    side_of behind ≡ None → shape_of_parts (before ∷ behind ∷ []) ≡ None
shape-without-right before behind left l r =
    ap (λ (o : Option WrittenSide). with_sides o (side_of behind)) l ∙ ap (with_right left) r
