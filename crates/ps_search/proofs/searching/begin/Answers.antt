use Rattle.std.proofs.Common.{◌≡◌, sym, ap, subst, ◌∙◌, length, List, arith}
use Rattle.ps_search.specs.Noted.{IsRefusal}
use Rattle.ps_search.proofs.Answering.{begun}
use Rattle.ps_search.proofs.searching.begin.Goals as goal

pub returns-in-Ok-note-clause-kept : goal.returns-in-Ok-note-clause-kept
returns-in-Ok-note-clause-kept g c =
    begun (g.M.Moves.next c.args.moves.now) (g.M.Moves.start c.args.moves.now) c.args.inputs.now (g.M.Moves.is_key c.start.new.self) (g.M.Moves.place c.start.new.self)
    g.M.Key.PartialEq.eq _ _ _ _ c.in-Ok.key c.new-visited.ensures.keys c.new-visited.ensures.links c.in-Ok-note.ensures.noted c.in-Ok.ensures.known c.in-Ok.ensures.start

pub returns-in-Err-Limit-clause-why : goal.returns-in-Err-Limit-clause-why
returns-in-Err-Limit-clause-why g c =
    let none : 0 ≡ length c.note.new.self.keys.keys =
    ap (λ (k : List g.row.M-Key.Denot). length k) (sym c.new-visited.ensures.keys ∙ sym c.in-Err-Limit.ensures.stay) in
    let refused : length c.note.new.self.keys.keys ≡ c.note.new.self.limit =
    subst (IsRefusal c.note.new.self.limit (length c.note.new.self.keys.keys)) c.in-Err-Limit.field-0-is
    c.in-Err-Limit.ensures.refused in
    let limit : c.note.new.self.limit ≡ c.new-visited.result.limit = c.in-Err-Limit.ensures.limit in
    let given : c.new-visited.result.limit ≡ c.args.limit = c.new-visited.ensures.limit in omega arith
