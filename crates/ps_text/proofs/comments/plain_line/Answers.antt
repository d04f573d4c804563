use Rattle.std.proofs.Common.{rules, string_bytes, ◌≡◌, ◌∙◌, List, ℕ, sym, ap, subst}
use Rattle.std.specs.Str.{IsUtf8}
use Rattle.ps_text.specs.PlainLines.{IsPlain}
use Rattle.ps_model.specs.text.Lines.{without_comments}
use Rattle.ps_text.proofs.PlainLines.{plain_utf8, plain_line_is}
use Rattle.ps_text.proofs.comments.plain_line.Goals as goal

pub unreachable-requires : goal.unreachable-requires
unreachable-requires c =
    let plain : c.in_ok-bytes.bytes.items ≡ without_comments c.args.depth c.args.line.now =
    c.in_ok-bytes.ensures ∙ ap (λ (bs : List ℕ). without_comments c.args.depth bs) c.as_bytes.ensures.value in
    cc (c.in-Err.ensures.succeeds (subst (λ (bs : List ℕ).
    IsUtf8 bs) (sym plain) (plain_utf8 c.args.line.now c.args.depth c.utf8.line)))

pub returns-clause-plain : goal.returns-clause-plain
returns-clause-plain c =
    let line = c.args.line.now in
    let plain : string_bytes c.in-Ok.plain ≡ without_comments c.args.depth line = search rules in
    subst (λ (bs : List ℕ). IsPlain line bs) (sym plain) (plain_line_is line c.args.depth)
