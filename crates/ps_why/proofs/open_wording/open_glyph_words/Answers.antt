use Rattle.std.proofs.Common.{◌∙◌, ◌++◌, List, ℕ, ap₂}
use Rattle.std.specs.Prelude.{codes, encode_utf8}
use Rattle.std.specs.Fmt.{decimal}
use Rattle.ps_why.proofs.open_wording.open_glyph_words.Goals as goal

pub returns : goal.returns
returns c =
    c.in_ok-words.ensures.ok
    ∙ ap₂ (λ (code objects : List ℕ). codes "`" ++ (encode_utf8 c.args.character ++ (codes "` (" ++ (code ++
    (codes ") in column " ++ (decimal c.args.column ++ (codes " may be " ++ (objects ++ (codes ", as line " ++
    (decimal c.args.meant.declared ++ codes " says: write a character that stands for one of them.")))))))))
    ) c.in_ok-code.ensures c.in_ok-objects.ensures
