use Rattle.ps_search.specs.declared.moves.Step.TheVariants.{Same, To}
use Rattle.ps_search.proofs.Keeping.{work_on, kept_on, kept_same, numbered_on, told, here_numbered, noted_on}
use Rattle.ps_search.specs.Ways.{links_of}
use Rattle.ps_search.proofs.expanding.advance.Goals as goal

pub returns-in-Ok-Same-clause-work : goal.returns-in-Ok-Same-clause-work
returns-in-Ok-Same-clause-work g c = work_on _ _ _ _ _ _ _ c.step.ensures.kept _ _ _ _ _ _ c.requires.work

pub returns-in-Ok-Same-clause-numbered : goal.returns-in-Ok-Same-clause-numbered
returns-in-Ok-Same-clause-numbered g c = numbered_on (g.M.Moves.next c.args.moves.now) (g.M.Moves.start c.args.moves.now) c.args.inputs.now _ _ _ _ c.step.ensures.kept _ c.requires.work.kept.known

pub returns-in-Ok-Same-clause-led : goal.returns-in-Ok-Same-clause-led
returns-in-Ok-Same-clause-led g c =
    here_numbered _ c.args.layer.at (g.M.Moves.here c.args.moves.now) (g.M.Moves.next c.args.moves.now (g.M.Moves.here c.args.moves.now) c.args.input)
    (work_on _ _ _ _ _ _ _ c.step.ensures.kept _ _ _ _ _ _ c.requires.work).stands
    (told (g.M.Moves.is_key c.step.new.self) (g.M.Moves.place c.step.new.self) (g.M.Moves.here c.args.moves.now) (g.M.Moves.next c.args.moves.now (g.M.Moves.here c.args.moves.now) c.args.input)
    c.in-Ok-Same.field-0 Same c.in-Ok-Same.ensures.led c.in-Ok-Same.field-0-is)

pub returns-in-Ok-Past-clause-work : goal.returns-in-Ok-Past-clause-work
returns-in-Ok-Past-clause-work g c = work_on _ _ _ _ _ _ _ c.step.ensures.kept _ _ _ _ _ _ c.requires.work

pub returns-in-Ok-Past-clause-numbered : goal.returns-in-Ok-Past-clause-numbered
returns-in-Ok-Past-clause-numbered g c = numbered_on (g.M.Moves.next c.args.moves.now) (g.M.Moves.start c.args.moves.now) c.args.inputs.now _ _ _ _ c.step.ensures.kept _ c.requires.work.kept.known

pub returns-in-Ok-clause-work : goal.returns-in-Ok-clause-work
returns-in-Ok-clause-work g c =
    let is = told (g.M.Moves.is_key c.step.new.self) (g.M.Moves.place c.step.new.self) (g.M.Moves.here c.args.moves.now) (g.M.Moves.next c.args.moves.now (g.M.Moves.here c.args.moves.now) c.args.input)
    c.in-Ok-To.field-0 (To c.in-Ok-To.key) c.in-Ok-To.ensures.led c.in-Ok-To.field-0-is in
    (noted_on (g.M.Moves.next c.args.moves.now) (g.M.Moves.start c.args.moves.now) c.args.inputs.now (g.M.Moves.is_key c.step.new.self) (g.M.Moves.place c.step.new.self)
    g.M.Key.PartialEq.eq (g.met.M.Moves.one_place c.step.new.self) c.args.visited.now.keys.keys c.note.new.self.keys.keys (links_of c.args.visited.now.parents.items c.args.visited.now.inputs.items) (links_of c.note.new.self.parents.items c.note.new.self.inputs.items)
    c.in-Ok-To.key c.args.input c.args.layer.at c.args.layer.end c.args.layer.depth (g.M.Moves.here c.args.moves.now) c.in-Ok.ensures.noted is.0 c.requires.given is.1
    (work_on _ _ _ _ _ _ _ c.step.ensures.kept _ _ _ _ _ _ c.requires.work)).works

pub returns-in-Ok-clause-numbered : goal.returns-in-Ok-clause-numbered
returns-in-Ok-clause-numbered g c = λ led numbered.
    let is = told (g.M.Moves.is_key c.step.new.self) (g.M.Moves.place c.step.new.self) (g.M.Moves.here c.args.moves.now) (g.M.Moves.next c.args.moves.now (g.M.Moves.here c.args.moves.now) c.args.input)
    c.in-Ok-To.field-0 (To c.in-Ok-To.key) c.in-Ok-To.ensures.led c.in-Ok-To.field-0-is in
    (noted_on (g.M.Moves.next c.args.moves.now) (g.M.Moves.start c.args.moves.now) c.args.inputs.now (g.M.Moves.is_key c.step.new.self) (g.M.Moves.place c.step.new.self)
    g.M.Key.PartialEq.eq (g.met.M.Moves.one_place c.step.new.self) c.args.visited.now.keys.keys c.note.new.self.keys.keys (links_of c.args.visited.now.parents.items c.args.visited.now.inputs.items) (links_of c.note.new.self.parents.items c.note.new.self.inputs.items)
    c.in-Ok-To.key c.args.input c.args.layer.at c.args.layer.end c.args.layer.depth (g.M.Moves.here c.args.moves.now) c.in-Ok.ensures.noted is.0 c.requires.given is.1
    (work_on _ _ _ _ _ _ _ c.step.ensures.kept _ _ _ _ _ _ c.requires.work)).stay led
    (numbered_on (g.M.Moves.next c.args.moves.now) (g.M.Moves.start c.args.moves.now) c.args.inputs.now _ _ _ _ c.step.ensures.kept _ c.requires.work.kept.known led numbered)

pub returns-in-Ok-clause-led : goal.returns-in-Ok-clause-led
returns-in-Ok-clause-led g c =
    let is = told (g.M.Moves.is_key c.step.new.self) (g.M.Moves.place c.step.new.self) (g.M.Moves.here c.args.moves.now) (g.M.Moves.next c.args.moves.now (g.M.Moves.here c.args.moves.now) c.args.input)
    c.in-Ok-To.field-0 (To c.in-Ok-To.key) c.in-Ok-To.ensures.led c.in-Ok-To.field-0-is in
    (noted_on (g.M.Moves.next c.args.moves.now) (g.M.Moves.start c.args.moves.now) c.args.inputs.now (g.M.Moves.is_key c.step.new.self) (g.M.Moves.place c.step.new.self)
    g.M.Key.PartialEq.eq (g.met.M.Moves.one_place c.step.new.self) c.args.visited.now.keys.keys c.note.new.self.keys.keys (links_of c.args.visited.now.parents.items c.args.visited.now.inputs.items) (links_of c.note.new.self.parents.items c.note.new.self.inputs.items)
    c.in-Ok-To.key c.args.input c.args.layer.at c.args.layer.end c.args.layer.depth (g.M.Moves.here c.args.moves.now) c.in-Ok.ensures.noted is.0 c.requires.given is.1
    (work_on _ _ _ _ _ _ _ c.step.ensures.kept _ _ _ _ _ _ c.requires.work)).leads_on

pub returns-in-Err-clause-kept : goal.returns-in-Err-clause-kept
returns-in-Err-clause-kept g c = kept_on _ _ _ _ _ _ _ c.step.ensures.kept _ _ _ _ _ c.requires.work.kept

pub returns-in-Err-Limit-clause-kept : goal.returns-in-Err-Limit-clause-kept
returns-in-Err-Limit-clause-kept g c =
    kept_same _ _ _ _ _ _ _ _ _ _ _ _ c.in-Err-Limit.ensures.stay c.in-Err-Limit.ensures.stay_linked
    (kept_on _ _ _ _ _ _ _ c.step.ensures.kept _ _ _ _ _ c.requires.work.kept)

pub returns-in-Err-Memory-clause-kept : goal.returns-in-Err-Memory-clause-kept
returns-in-Err-Memory-clause-kept g c =
    kept_same _ _ _ _ _ _ _ _ _ _ _ _ c.in-Err-Memory.ensures.stay c.in-Err-Memory.ensures.stay_linked
    (kept_on _ _ _ _ _ _ _ c.step.ensures.kept _ _ _ _ _ c.requires.work.kept)
