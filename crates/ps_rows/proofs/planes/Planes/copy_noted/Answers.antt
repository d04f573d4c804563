use Rattle.std.proofs.Common.{◌≡◌, ◌*◌, ◌<◌, ◌≤◌, ◌∙◌, ℕ, Bool, List, length, refl, sym, arith}
use Rattle.ps_board.specs.ColumnSets.{no_columns}
use Rattle.ps_rows.specs.PlaneCopies.{ArePlanesOf}
use Rattle.ps_rows.specs.Planes.{AreSameFrom}
use Rattle.ps_rows.specs.Sameness.{DifferOnlyOnRows}
use Rattle.ps_rows.proofs.PlaneCopies.{all_copied, planes_and_rest, same_from}
use Rattle.ps_rows.proofs.Passed.{own_order, planes_counted, planes_enough, words_whole}
use Rattle.ps_rows.proofs.planes.Planes.copy_noted.Goals as goal

-- with the planes that are marked all are copied: those behind them are the same
all_of_marked : (height planes marked count long : ℕ) (source others after : List (List Bool)) → 0 < height →
    long ≡ length source → long ≡ count * height → planes * height ≤ long → marked ≤ planes →
    length after ≡ length source → AreSameFrom (planes * height) source others →
    ((plane : ℕ) → marked ≤ plane → plane < planes → DifferOnlyOnRows height plane source others no_columns) →
    ArePlanesOf height 0 marked source others after → after ≡ source
all_of_marked height planes marked count long source others after some all whole within few long' rest same copied =
    all_copied height count source others after some (words_whole count height long source all whole) long'
    (planes_and_rest height planes count source others after (planes_counted height planes count long some whole within)
    (λ plane from below. same_from height planes source others rest plane from)
    (planes_and_rest height marked planes source others after few same copied))

pub copy_marked-requires : goal.copy_marked-requires
copy_marked-requires g c =
    record {
      many = c.are_many.ensures c.if-are_many.true;
      height = c.requires.height;
      here = c.requires.within;
      count = c.requires.count;
      uses = c.requires.uses;
    }

pub returns-then-are_many-clause-words : goal.returns-then-are_many-clause-words
returns-then-are_many-clause-words g c =
    let p = c.args.self.now in
    let after = c.copy_marked.new.other.words in
    all_copied p.height p.index.len p.words.items c.args.other.now.words.items after.items p.some_row
    (words_whole p.index.len p.height p.words.len p.words.items p.words.ok.0 p.whole)
    (sym after.ok.0 ∙ c.copy_marked.ensures.count ∙ p.words.ok.0)
    (planes_and_rest p.height c.args.planes p.index.len p.words.items c.args.other.now.words.items after.items
    (planes_counted p.height c.args.planes p.index.len p.words.len p.some_row p.whole c.requires.within)
    (λ plane from below. same_from p.height c.args.planes p.words.items c.args.other.now.words.items c.requires.rest
    plane from)
    c.copy_marked.ensures.words)

pub returns-then-marked-most-clause-words : goal.returns-then-marked-most-clause-words
returns-then-marked-most-clause-words g c =
    let p = c.args.self.now in
    let after = c.copy_planes.new.other.words in
    all_of_marked p.height c.args.planes c.planes_marked-marked.result p.index.len p.words.len p.words.items
    c.args.other.now.words.items after.items p.some_row p.words.ok.0 p.whole c.requires.within
    c.planes_marked-marked.ensures.few
    (sym after.ok.0 ∙ c.copy_planes.ensures.count ∙ c.requires.count ∙ p.words.ok.0) c.requires.rest
    c.planes_marked-marked.ensures.same c.copy_planes.ensures.words

pub returns-clause-words : goal.returns-clause-words
returns-clause-words g c =
    let p = c.args.self.now in
    let after = c.copy_pieces.new.other.words in
    all_of_marked p.height c.args.planes c.planes_marked-marked.result p.index.len p.words.len p.words.items
    c.args.other.now.words.items after.items p.some_row p.words.ok.0 p.whole c.requires.within
    c.planes_marked-marked.ensures.few
    (sym after.ok.0 ∙ c.copy_pieces.ensures.count ∙ p.words.ok.0) c.requires.rest
    c.planes_marked-marked.ensures.same c.copy_pieces.ensures.words

pub planes_marked-marked-requires : goal.planes_marked-marked-requires
planes_marked-marked-requires g c =
    record {
      height = c.requires.height;
      here = c.requires.within;
      there = planes_enough c.args.self.now.height c.args.planes c.args.planes c.args.self.now.words.len
          c.args.other.now.words.len (own_order c.args.planes) c.requires.within c.requires.count;
    }

pub copy_planes-requires : goal.copy_planes-requires
copy_planes-requires g c =
    let p = c.args.self.now in
    let few = c.planes_marked-marked.ensures.few in
    let marked : ℕ = c.planes_marked-marked.result in
    record {
      order = omega arith;
      height = c.requires.height;
      here = planes_enough p.height marked c.args.planes p.words.len p.words.len few c.requires.within refl;
      there = planes_enough p.height marked c.args.planes p.words.len c.args.other.now.words.len few c.requires.within
          c.requires.count;
      count = c.requires.count;
      uses = c.requires.uses;
    }

pub copy_pieces-requires : goal.copy_pieces-requires
copy_pieces-requires g c =
    let p = c.args.self.now in
    let few = c.planes_marked-marked.ensures.few in
    record {
      height = c.requires.height;
      here = planes_enough p.height c.planes_marked-marked.result c.args.planes p.words.len p.words.len few
          c.requires.within refl;
      count = c.requires.count;
      uses = c.requires.uses;
    }
