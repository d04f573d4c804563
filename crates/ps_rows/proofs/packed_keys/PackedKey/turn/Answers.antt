use Rattle.std.proofs.Common.{◌∙◌, ◌/◌, ◌%◌, ◌<◌, ℕ, List, Bool, not, length, ap, arith}
use Rattle.ps_board.specs.ColumnSets.{column_at, with_column}
use Rattle.ps_rows.proofs.KeyBits.{bit_turned}
use Rattle.ps_rows.proofs.packed_keys.PackedKey.turn.Goals as goal

pub returns : goal.returns
returns g c = record {
  turned = λ so k.
      let place : ℕ = c.args.number % 64 in
      let within : c.args.number / 64 < length c.args.self.now.words = omega arith in
      let on : List Bool → List Bool = λ set. with_column set place (not (column_at set place)) in
      bit_turned c.args.self.now.words c.args.number c.word.result k within
      (c.word.ensures ∙ c.with.ensures
      ∙ ap (λ (b : Bool). with_column c.from_word-word.result place (not b)) c.has.ensures
      ∙ ap on c.from_word-word.ensures);
}
