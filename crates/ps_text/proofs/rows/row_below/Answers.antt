use Rattle.std.proofs.Common.{string_bytes}
use Rattle.std.specs.Prelude.{IfSome}
use Rattle.std.proofs.lemmas.Str.{IsUtf8-string_bytes}
use Rattle.ps_text.specs.TakenRanges.{IsTextRange}
use Rattle.ps_text.proofs.Veils.{veiled_line}
use Rattle.ps_text.proofs.rows.row_below.Goals as goal

pub header_of_line-header-requires : goal.header_of_line-header-requires
header_of_line-header-requires c = rw c.as_bytes.ensures.value (IsUtf8-string_bytes c.in_ok-plain.plain)

pub returns-clause-whole : goal.returns-clause-whole
returns-clause-whole c =
    let region : IfSome c.text_region-region.result (IsTextRange (string_bytes c.in_ok-plain.plain)) =
    rw c.as_str.ensures.value at c.text_region-region.ensures.plain in
    record {
      veiled = veiled_line c.args.raw.now (string_bytes c.in_ok-plain.plain) (string_bytes c.in_ok-visible.visible)
          c.text_region-region.result c.in_ok-plain.ensures.plain region c.in_ok-visible.ensures;
      taken = c.taken_in-taken.ensures.range;
    }
