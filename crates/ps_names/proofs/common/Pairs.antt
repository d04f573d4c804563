-- Pairs by their parts.
use Rattle.std.proofs.Common.{◌≡◌, ◌∙◌, ap}

pub first-part : {A B : Type 0} {x y : A × B} → x ≡ y → x.0 ≡ y.0
first-part {A} {B} e = ap (λ (p : A × B). p.0) e

pub second-part : {A B : Type 0} {x y : A × B} → x ≡ y → x.1 ≡ y.1
second-part {A} {B} e = ap (λ (p : A × B). p.1) e

pub same-pair : {A B : Type 0} (x y : A × B) → x.0 ≡ y.0 → x.1 ≡ y.1 → x ≡ y
same-pair {A} {B} x y first second = ap (λ (a : A). let pair : A × B = (a, x.1) in pair) first
    ∙ ap (λ (b : B). let pair : A × B = (y.0, b) in pair) second
