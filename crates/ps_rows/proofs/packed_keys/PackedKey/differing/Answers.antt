use Rattle.std.proofs.Common.{◌∙◌, ap₂}
use Rattle.ps_board.specs.ColumnSets.{unlike_columns}
use Rattle.ps_rows.proofs.KeyBits.{bits_differing}
use Rattle.ps_rows.proofs.packed_keys.PackedKey.differing.Goals as goal

pub returns : goal.returns
returns g c = λ x low.
    bits_differing c.args.self.now.words c.args.other.now.words c.args.index x c.unlike.result low
    (c.unlike.ensures ∙ ap₂ unlike_columns c.from_word.ensures c.from_word-2.ensures)
