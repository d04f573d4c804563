use Rattle.std.proofs.Common.{rules, ◌≡◌, ◌<◌, ◌++◌, ◌∷◌, [], ℕ, List, length}
use Rattle.ps_rows.specs.PackedKeys.{number_at}
use Rattle.ps_rows.specs.declared.noted_cells.TheConstants.{UNNOTED}
use Rattle.ps_rows.proofs.NotedPlaces.{keeps_more}
use Rattle.ps_rows.proofs.noted_cells.NotedCells.number_of.Goals as goal

pub returns-clause-kept : goal.returns-clause-kept
returns-clause-kept c = λ words low.
    let numbers : List ℕ = c.args.self.now.numbers.items in
    let places : List ℕ = c.args.self.now.places.items in
    let grown : c.push.new.self.items ≡ places ++ c.args.place ∷ [] = search rules in
    let number : c.len-number.result ≡ length places = search rules in
    let new : number_at numbers c.args.place ≡ UNNOTED = search rules in
    let room : length places < UNNOTED = search rules in
    rw (grown, number) (keeps_more numbers places c.args.place c.args.self.now.noted new c.requires room words low)
