use Rattle.std.proofs.Common.{length, refl}
use Rattle.ps_rows.proofs.NotedPlaces.{place_turned}
use Rattle.ps_rows.proofs.noted_cells.NotedCells.turn.Goals as goal

pub returns-clause-turned : goal.returns-clause-turned
returns-clause-turned g c =
    let new = c.number_of.new.self in
    place_turned c.args.self.now.numbers.items new.numbers.items new.places.items
    (length c.args.self.now.places.items) c.args.place c.in_ok-number.number c.args.key.now.words
    c.turn.new.self.words new.noted c.number_of.ensures.kept c.in_ok-number.ensures.number c.in_ok-number.ensures.low
    c.requires.within (c.if-not-turn.ensures.turned refl)
