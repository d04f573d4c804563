use Rattle.std.proofs.Common.{◌∙◌, ◌≤◌, ◌*◌, ◌+◌, ℕ, List, length, refl, arith}
use Rattle.ps_rows.specs.TurnedPlaces.{has_place, in_word, is_turned, keys_differ}
use Rattle.ps_rows.proofs.TurnedKeys.{turned-all, turned-init, turned-more}
use Rattle.ps_rows.proofs.TurnedPlaces.{differing_known, keys_differ_from, words_first, words_more, words_none}
use Rattle.ps_rows.proofs.turning.turn_keys.Goals as goal

pub loop-index-init : goal.loop-index-init
loop-index-init g c =
    let n = c.args.noted.now in
    let m = c.args.members.now in
    let p = c.args.planes.now in
    let cells : ℕ = n.width * n.height in
    let from : List ℕ = c.args.from.now.words in
    let to : List ℕ = c.args.to.now.words in
    record {
      turned = turned-init
          (is_turned m.table.items m.ranges.len cells (keys_differ n.numbers.items from to))
          (has_place n.width n.height p.words.items)
          (is_turned m.table.items m.ranges.len cells (keys_differ_from n.numbers.items from to 0))
          (words_first m.table.items m.ranges.len cells n.numbers.items n.places.items n.noted from to);
      behind = λ q far. refl;
      height = refl;
      count = refl;
    }

pub turn_word-requires : goal.turn_word-requires
turn_word-requires g c =
    let n = c.args.noted.now in
    let was = c.loop-index.invariant in
    record {
      height = was.height ∙ c.requires.height;
      narrow = c.requires.narrow;
      planes = rw (was.height, was.count) c.requires.planes;
      bits = λ x low on.
          differing_known (length n.places.items) c.args.from.now.words c.args.to.now.words c.loop-index.index x
          c.differing.result c.requires.from c.requires.to (c.differing.ensures x low) on;
    }

pub loop-index-preserved : goal.loop-index-preserved
loop-index-preserved g c =
    let n = c.args.noted.now in
    let m = c.args.members.now in
    let p = c.args.planes.now in
    let was = c.loop-index.invariant in
    let cells : ℕ = n.width * n.height in
    let from : List ℕ = c.args.from.now.words in
    let to : List ℕ = c.args.to.now.words in
    let index : ℕ = c.loop-index.index in
    record {
      turned = turned-more
          (is_turned m.table.items m.ranges.len cells (keys_differ n.numbers.items from to))
          (has_place n.width n.height p.words.items)
          (is_turned m.table.items m.ranges.len cells (keys_differ_from n.numbers.items from to index))
          (is_turned m.table.items m.ranges.len cells (keys_differ_from n.numbers.items from to (index + 1)))
          (is_turned m.table.items m.ranges.len cells (in_word n.numbers.items index c.differing.result))
          (has_place n.width n.height c.loop-index.planes.words.items)
          (has_place n.width n.height c.turn_word.new.planes.words.items) was.turned c.turn_word.ensures.turned
          (words_more m.table.items m.ranges.len cells n.numbers.items n.places.items n.noted from to index
          c.differing.result c.differing.ensures);
      behind = λ q far.
          c.turn_word.ensures.behind q (let near = far in rw was.height near) ∙ was.behind q far;
      height = c.turn_word.ensures.height ∙ was.height;
      count = c.turn_word.ensures.count ∙ was.count;
    }

pub returns-clause-turned : goal.returns-clause-turned
returns-clause-turned g c =
    let n = c.args.noted.now in
    let m = c.args.members.now in
    let p = c.args.planes.now in
    let cells : ℕ = n.width * n.height in
    let from : List ℕ = c.args.from.now.words in
    let to : List ℕ = c.args.to.now.words in
    let index : ℕ = c.loop-index.index in
    let long : length from ≤ index = omega arith in
    let as_long : length to ≤ index = omega arith in
    turned-all (is_turned m.table.items m.ranges.len cells (keys_differ n.numbers.items from to))
    (has_place n.width n.height p.words.items)
    (is_turned m.table.items m.ranges.len cells (keys_differ_from n.numbers.items from to index))
    (has_place n.width n.height c.loop-index.planes.words.items) c.loop-index.invariant.turned
    (words_none m.table.items m.ranges.len cells n.numbers.items n.places.items n.noted from to index long as_long)

pub returns-clause-behind : goal.returns-clause-behind
returns-clause-behind g c = c.loop-index.invariant.behind
