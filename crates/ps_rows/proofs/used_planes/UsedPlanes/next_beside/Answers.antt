use Rattle.std.proofs.Common.{◌≡◌, ◌∙◌, ◌/◌, ◌<◌, ℕ, length, refl, ap₂, subst}
use Rattle.std.proofs.lemmas.List.{get_or_read}
use Rattle.ps_board.specs.ColumnSets.{either_columns, no_columns, set_columns}
use Rattle.ps_board.specs.declared.one_word.TheConstants.{WORD_BITS}
use Rattle.ps_rows.specs.Planes.{row_of}
use Rattle.ps_rows.proofs.UsedPlanes.{next_of, none_beside}
use Rattle.ps_rows.proofs.used_planes.UsedPlanes.next_beside.Goals as goal

pub returns-clause-first : goal.returns-clause-first
returns-clause-first c =
    let words = c.args.self.now.words in
    let others = c.args.other.now.words in
    let place : ℕ = c.args.from / WORD_BITS in
    let N : ℕ → Type 0 = λ n. place < n in
    let here : place < length words.items = subst N words.ok.0 c.requires.here in
    let there : place < length others.items = subst N others.ok.0 c.requires.there in
    let joined : c.either-both.result ≡ either_columns (row_of words.items place) (row_of others.items place) =
    c.either-both.ensures
    ∙ ap₂ either_columns (get_or_read words.items _ _ here c.index.ensures no_columns)
    (get_or_read others.items _ _ there c.index-2.ensures no_columns) in
    next_of words.items others.items c.args.from c.either-both.result c.not_below-left.result joined
    c.not_below-left.ensures c.in_ok-bit.bit (set_columns c.take_first.new.self) c.in_ok-bit.ensures.room
    c.in_ok-bit.ensures.some

pub returns-in_err-bit-clause-none : goal.returns-in_err-bit-clause-none
returns-in_err-bit-clause-none c = λ none.
    let words = c.args.self.now.words in
    let others = c.args.other.now.words in
    let place : ℕ = c.args.from / WORD_BITS in
    let N : ℕ → Type 0 = λ n. place < n in
    let here : place < length words.items = subst N words.ok.0 c.requires.here in
    let there : place < length others.items = subst N others.ok.0 c.requires.there in
    let joined : c.either-both.result ≡ either_columns (row_of words.items place) (row_of others.items place) =
    c.either-both.ensures
    ∙ ap₂ either_columns (get_or_read words.items _ _ here c.index.ensures no_columns)
    (get_or_read others.items _ _ there c.index-2.ensures no_columns) in
    none_beside words.items others.items c.args.from c.either-both.result c.not_below-left.result joined
    c.not_below-left.ensures (c.in_err-bit.ensures.none refl)
