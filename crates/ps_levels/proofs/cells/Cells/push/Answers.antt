use Rattle.std.proofs.Common.{◌≡◌, ◌∙◌, ◌++◌, ◌∷◌, [], length, append_assoc, ap, arith, List}
use Rattle.std.specs.Prelude.{option_to_list}
use Rattle.ps_model.specs.declared.pieces.ObjectId.{ObjectId}
use Rattle.ps_levels.specs.declared.cells.ObjectSpan.{ObjectSpan}
use Rattle.ps_levels.proofs.ObjectSpans.{spans-more}
use Rattle.ps_levels.proofs.cells.Cells.push.Goals as goal

pub returns : goal.returns
returns c =
    let before = c.self.inside in
    let added : List ObjectId = c.args.objects.now ++ option_to_list c.args.more in
    let objects : c.add_one.new.list.items ≡ before.objects.items ++ added =
    c.in_ok-add_one.ensures.added
    ∙ ap (λ (os : List ObjectId). os ++ option_to_list c.args.more) c.in_ok-add_all.ensures.added
    ∙ append_assoc before.objects.items c.args.objects.now (option_to_list c.args.more) in
    let start : c.len-start.result ≡ length before.objects.items =
    omega (arith, c.len-start.ensures, before.objects.ok.0) in
    let end : c.len-end.result ≡ length c.add_one.new.list.items =
    omega (arith, c.len-end.ensures, c.add_one.new.list.ok.0) in
    let span : ObjectSpan = record { start = c.len-start.result; end = c.len-end.result } in
    spans-more before.objects.items added c.add_one.new.list.items before.spans.items c.push.new.self.items span
    before.within objects c.in_ok-push.ensures.items start end
    ∙ ap (λ (cells : List (List ObjectId)). cells ++ added ∷ []) c.self.view_is
