use Rattle.std.proofs.Common.{◌≡◌, ◌∙◌, ◌<◌, ℕ, length, map, subst, sym, ap}
use Rattle.std.proofs.lemmas.List.{get_or_read, length-map}
use Rattle.ps_rows.specs.Members.{short_range}
use Rattle.ps_rows.proofs.MemberRanges.{IsShortRangeOf, short_at}
use Rattle.ps_rows.proofs.members.Members.short_range_of.Goals as goal

pub returns : goal.returns
returns c =
    let m = c.args.self.now in
    let N : ℕ → Type 0 = λ n. c.args.layer < n in
    let inside : c.args.layer < length m.ranges.items = subst N m.ranges.ok.0 c.requires in
    let own : c.args.layer < length m.short.items = subst N (sym (ap length m.shorter ∙ length-map m.ranges.items short_range)) inside in
    let range : IsShortRangeOf m.table.items m.numbers.items c.args.layer c.index.result.now =
    short_at m.table.items m.numbers.items m.ranges.items m.short.items c.args.layer c.index.result.now m.each m.shorter
    inside (get_or_read m.short.items _ _ own c.index.ensures c.index.result.now) in
    record { order = range.order; within = range.within; objects = range.objects }
