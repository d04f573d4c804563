use Rattle.std.proofs.Common.{◌<◌, inl, refl, sym, subst, ◌∙◌, length, arith, None, Some}
use Rattle.ps_search.specs.Answers.{IsReason}
use Rattle.ps_search.proofs.Answering.{stopped, ended, moved, told, done_as, kept_as, before_end, kept_within, kept_whole, not_begun}
use Rattle.ps_search.specs.Ways.{links_of}
use Rattle.ps_search.proofs.searching.search.Goals as goal

pub returns-in-Err-clause-answer : goal.returns-in-Err-clause-answer
returns-in-Err-clause-answer g c =
    not_begun (g.M.Moves.next c.args.moves.now) (g.M.Moves.start c.args.moves.now) c.args.inputs.now c.args.limit c.in-Err.why
    c.in-Err.ensures.why

pub returns-then-not-goes_on-clause-answer : goal.returns-then-not-goes_on-clause-answer
returns-then-not-goes_on-clause-answer g c =
    let within = c.loop-layer.invariant.within in
    let kept = c.loop-layer.invariant.kept in (
      stopped _ _ _ _ _ _ _ _ _ _ kept,
      omega arith,
      tt,
      inl (kept_within _ _ _ _ _ _ _ _ _ _ kept _ (omega arith)),
    )

pub returns-clause-answer : goal.returns-clause-answer
returns-clause-answer g c =
    let kept = c.loop-layer.invariant.kept in (
      ended _ _ _ _ _ _ _ _ _ _ kept (omega arith),
      omega arith,
      kept_whole _ _ _ _ _ _ _ _ _ _ kept (omega arith) _ (omega arith),
    )

pub loop-layer-preserved : goal.loop-layer-preserved
loop-layer-preserved g c =
    let done = done_as c.args.inputs.now (g.M.Moves.is_key c.expand.new.moves) (g.M.Moves.place c.expand.new.moves) c.expand.new.visited.keys.keys (links_of c.expand.new.visited.parents.items c.expand.new.visited.inputs.items)
    c.loop-layer.layer.at c.loop-layer.layer.end c.loop-layer.layer.depth (g.M.Moves.next c.loop-layer.moves) (g.M.Moves.next c.args.moves.now) (g.M.Moves.start c.loop-layer.moves) (g.M.Moves.start c.args.moves.now)
    c.in-Ok-None.field-0 None c.loop-layer.invariant.next c.loop-layer.invariant.start c.in-Ok-None.field-0-is c.in-Ok-None.ensures.done in
    let shallow = c.loop-layer.invariant.shallow in
    let count = c.count.ensures in
    let more : c.loop-layer.layer.at < length c.loop-layer.visited.keys.keys = omega arith in
    let below = before_end c.loop-layer.layer.at c.loop-layer.layer.end (length c.loop-layer.visited.keys.keys) c.loop-layer.invariant.order c.loop-layer.invariant.ended more in
    let next = moved (g.M.Moves.next c.args.moves.now) (g.M.Moves.start c.args.moves.now) c.args.inputs.now (g.M.Moves.is_key c.expand.new.moves) (g.M.Moves.place c.expand.new.moves)
    c.expand.new.visited.keys.keys (links_of c.expand.new.visited.parents.items c.expand.new.visited.inputs.items) c.loop-layer.layer.at c.loop-layer.layer.end c.loop-layer.layer.depth c.count-in-Ok-None.result
    c.next-layer.result.at c.next-layer.result.end c.next-layer.result.depth done below shallow c.count-in-Ok-None.ensures c.next-layer.ensures.at c.next-layer.ensures.layer in
    record {
      kept = next.kept;
      order = next.order;
      ended = next.last;
      shallow = next.shallow;
      next = c.expand.ensures.next ∙ c.loop-layer.invariant.next;
      start = c.expand.ensures.start ∙ c.loop-layer.invariant.start;
      within = c.expand.ensures.within;
      limit = c.expand.ensures.limit ∙ c.loop-layer.invariant.limit;
    }

pub returns-in-Ok-Some-clause-answer : goal.returns-in-Ok-Some-clause-answer
returns-in-Ok-Some-clause-answer g c =
    let done = done_as c.args.inputs.now (g.M.Moves.is_key c.expand.new.moves) (g.M.Moves.place c.expand.new.moves) c.expand.new.visited.keys.keys (links_of c.expand.new.visited.parents.items c.expand.new.visited.inputs.items)
    c.loop-layer.layer.at c.loop-layer.layer.end c.loop-layer.layer.depth (g.M.Moves.next c.loop-layer.moves) (g.M.Moves.next c.args.moves.now) (g.M.Moves.start c.loop-layer.moves) (g.M.Moves.start c.args.moves.now)
    c.in-Ok-Some.field-0 (Some c.in-Ok-Some.input) c.loop-layer.invariant.next c.loop-layer.invariant.start c.in-Ok-Some.field-0-is c.in-Ok-Some.ensures.done in
    let limit = c.expand.ensures.limit ∙ c.loop-layer.invariant.limit in
    let within = c.expand.ensures.within in
    told (g.M.Moves.next c.args.moves.now) (g.M.Moves.start c.args.moves.now) c.args.inputs.now (g.M.Moves.is_key c.expand.new.moves) (g.M.Moves.place c.expand.new.moves)
    c.args.limit _ c.loop-layer.layer.depth (length c.expand.new.visited.keys.keys) c.won.result c.won.ensures done.1
    (stopped _ _ _ _ _ _ _ _ _ _ c.loop-layer.invariant.kept) (kept_within _ _ _ _ _ _ _ _ _ _ done.0 _ refl) (omega arith)

pub returns-in-Err-expand-clause-answer : goal.returns-in-Err-expand-clause-answer
returns-in-Err-expand-clause-answer g c =
    let limit = c.expand.ensures.limit ∙ c.loop-layer.invariant.limit in
    let within = c.expand.ensures.within in
    let count = c.count-states-in-Err-expand.ensures in
    let kept = kept_as c.args.inputs.now (g.M.Moves.is_key c.expand.new.moves) (g.M.Moves.place c.expand.new.moves) c.expand.new.visited.keys.keys (links_of c.expand.new.visited.parents.items c.expand.new.visited.inputs.items)
    c.loop-layer.layer.at c.loop-layer.layer.end c.loop-layer.layer.depth (g.M.Moves.next c.loop-layer.moves) (g.M.Moves.next c.args.moves.now) (g.M.Moves.start c.loop-layer.moves) (g.M.Moves.start c.args.moves.now)
    c.loop-layer.invariant.next c.loop-layer.invariant.start c.in-Err-expand.ensures.kept in (
      stopped _ _ _ _ _ _ _ _ _ _ c.loop-layer.invariant.kept,
      omega arith,
      subst (λ l. IsReason l c.count-states-in-Err-expand.result c.in-Err-expand.why) limit
          (subst (λ n. IsReason c.expand.new.visited.limit n c.in-Err-expand.why) (sym count) c.in-Err-expand.ensures.why),
      inl (kept_within _ _ _ _ _ _ _ _ _ _ kept c.count-states-in-Err-expand.result count),
    )
