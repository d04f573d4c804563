use Rattle.std.proofs.Common.{refl, sym, ap, subst, ◌∙◌, map}
use Rattle.std.specs.List.{All, Contains}
use Rattle.std.proofs.lemmas.List.{take_all}
use Rattle.std.proofs.lemmas.List.Elements.{Contains-get_or}
use Rattle.ps_search.specs.Searched.{IsNumbered, IsLed}
use Rattle.ps_search.proofs.Keeping.{work_as, won_there, done_there, tried_more}
use Rattle.ps_search.proofs.Answering.{kept_as}
use Rattle.ps_search.proofs.expanding.expand.Goals as goal

pub returns-in-Ok-true-clause-done : goal.returns-in-Ok-true-clause-done
returns-in-Ok-true-clause-done g c =
    let input = c.input-item.result in
    let here = g.M.Moves.here c.loop-input.moves in
    let contained : Contains c.args.inputs.now input = subst (Contains c.args.inputs.now) (sym c.input-item.is) (Contains-get_or c.args.inputs.now c.loop-input.input-index input c.loop-input-test.true) in
    let work = work_as c.args.inputs.now _ _ _ _ _ _ _ _ (g.M.Moves.next c.args.moves.now) _ (g.M.Moves.start c.args.moves.now) _ here c.loop-input.invariant.next c.loop-input.invariant.start refl c.in-Ok-true.ensures.work in
    let led = subst (IsLed _ _) c.in-Ok-true.field-0-test c.in-Ok-true.ensures.led in
    let next = sym (ap (λ (n : g.M.Moves.Place → g.row.M-Input.Denot → _). n here input) c.loop-input.invariant.next) in
    (work.kept, won_there c.args.inputs.now _ _ _ _ _ _ _ _ _ here input work contained (next ∙ led))

pub loop-input-preserved : goal.loop-input-preserved
loop-input-preserved g c =
    let input = c.input-item.result in
    let here = g.M.Moves.here c.loop-input.moves in
    let led = subst (IsLed (map (g.M.Moves.place c.advance.new.moves) c.advance.new.visited.keys.keys) (g.M.Moves.next c.loop-input.moves here input)) c.in-Ok-false.field-0-test c.in-Ok-false.ensures.led in
    record {
      work = work_as c.args.inputs.now _ _ _ _ _ _ _ _ (g.M.Moves.next c.args.moves.now) _ (g.M.Moves.start c.args.moves.now) _ (g.M.Moves.here c.advance.new.moves)
          c.loop-input.invariant.next c.loop-input.invariant.start (sym c.in-Ok-false.ensures.here) c.in-Ok-false.ensures.work;
      tried = tried_more (g.M.Moves.next c.args.moves.now) (map (g.M.Moves.place c.loop-input.moves) c.loop-input.visited.keys.keys) (map (g.M.Moves.place c.advance.new.moves) c.advance.new.visited.keys.keys)
          here (g.M.Moves.here c.advance.new.moves) c.args.inputs.now c.loop-input.input-index input (sym c.in-Ok-false.ensures.here) c.loop-input-test.true c.input-item.is
          c.in-Ok-false.ensures.numbered c.loop-input.invariant.tried
          (subst (λ (n : g.M.Moves.Place → g.row.M-Input.Denot → _). IsNumbered (map (g.M.Moves.place c.advance.new.moves) c.advance.new.visited.keys.keys) (n here input)) c.loop-input.invariant.next led);
      next = c.advance.ensures.next ∙ c.loop-input.invariant.next;
      start = c.advance.ensures.start ∙ c.loop-input.invariant.start;
      within = c.advance.ensures.within;
      limit = c.advance.ensures.limit ∙ c.loop-input.invariant.limit;
    }

pub returns-clause-done : goal.returns-clause-done
returns-clause-done g c =
    let place = λ (x : g.row.M-Input.Denot). IsNumbered (map (g.M.Moves.place c.loop-input.moves) c.loop-input.visited.keys.keys) (g.M.Moves.next c.args.moves.now (g.M.Moves.here c.loop-input.moves) x) in
    done_there c.args.inputs.now _ _ _ _ _ _ _ (g.M.Moves.next c.args.moves.now) (g.M.Moves.start c.args.moves.now) (g.M.Moves.here c.loop-input.moves) c.loop-input.invariant.work
    (subst (All place) (take_all c.loop-input.input-index c.args.inputs.now c.loop-input-test.false) c.loop-input.invariant.tried)

pub returns-in-Err-advance-clause-kept : goal.returns-in-Err-advance-clause-kept
returns-in-Err-advance-clause-kept g c =
    kept_as c.args.inputs.now _ _ _ _ _ _ _ _ (g.M.Moves.next c.args.moves.now) _ (g.M.Moves.start c.args.moves.now)
    c.loop-input.invariant.next c.loop-input.invariant.start c.in-Err-advance.ensures.kept
