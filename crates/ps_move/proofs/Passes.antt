-- Passes over layers, one after another.
use Rattle.std.proofs.Common.{◌≡◌, ◌∙◌, ℕ, ◌+◌, ◌≤◌, refl, arith}
use Rattle.ps_model.specs.board.Grid.{Grid}
use Rattle.ps_move.specs.Visits.{going_count}
use Rattle.ps_move.specs.Parts.{ArePasses}

-- none at all
pub passes_none : (g : Grid) (layer : ℕ) → ArePasses 0 g g layer layer
passes_none g layer = record {
  shape = λ shape. shape;
  width = refl;
  height = refl;
  layers = refl;
  order = λ before o. o;
  fewer = omega arith;
  same = λ e. refl;
}

-- those of one layer after those of others
pub passes_then : (a b : ℕ) (old now new : Grid) (first next last : ℕ) → ArePasses a old now first next →
    ArePasses b now new next last → ArePasses (a + b) old new first last
passes_then a b old now new first next last p q = record {
  shape = λ s. q.shape (p.shape s);
  width = q.width ∙ p.width;
  height = q.height ∙ p.height;
  layers = q.layers ∙ p.layers;
  order = λ before o. q.order before (p.order before o);
  fewer =
      let were : going_count now + a ≤ going_count old = p.fewer in
      let less : going_count new + b ≤ going_count now = q.fewer in
      omega arith;
  same = λ e.
      let none : a ≡ 0 = omega (arith, e) in
      let none' : b ≡ 0 = omega (arith, e) in
      q.same none' ∙ p.same none;
}
