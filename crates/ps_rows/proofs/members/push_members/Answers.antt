use Rattle.std.proofs.Common.{◌≡◌, ◌<◌, length, refl, arith}
use Rattle.std.proofs.lemmas.List.{append-nil}
use Rattle.ps_rows.proofs.MemberRanges.{below_none, members_more, members_all}
use Rattle.ps_rows.proofs.members.push_members.Goals as goal

pub loop-object-init : goal.loop-object-init
loop-object-init c = rw (below_none, append-nil) refl

pub loop-object-preserved : goal.loop-object-preserved
loop-object-preserved c =
    let below : c.loop-object.object < length c.args.table.now = omega arith in
    members_more _ _ _ c.args.table.now c.args.layer c.loop-object.object c.in_ok-push_if.ensures
    c.loop-object.invariant below

pub returns : goal.returns
returns c =
    let end : c.loop-object.object ≡ length c.args.table.now = omega arith in
    members_all _ _ c.args.table.now c.args.layer c.loop-object.object c.loop-object.invariant end
