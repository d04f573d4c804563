use Rattle.std.proofs.Common.{◌≡◌, ◌∙◌, ◌/◌, ◌%◌, ◌<◌, ℕ, true, Bool, List, length, sym, ap, subst, arith}
use Rattle.std.specs.Prelude.{slice_set}
use Rattle.std.proofs.lemmas.List.{get_or_read}
use Rattle.std.proofs.lemmas.Nat.{mod_below}
use Rattle.ps_board.specs.ColumnSets.{no_columns, with_column}
use Rattle.ps_board.specs.declared.one_word.TheConstants.{WORD_BITS}
use Rattle.ps_rows.specs.Planes.{row_of}
use Rattle.ps_rows.specs.UsedPlanes.{AreAmongUsed, is_used}
use Rattle.ps_rows.proofs.UsedPlanes.{noted_here, noted_kept}
use Rattle.ps_rows.proofs.used_planes.UsedPlanes.note.Goals as goal

pub with-requires : goal.with-requires
with-requires c = mod_below c.args.plane WORD_BITS (omega arith)

pub returns-then-place-len-clause-noted : goal.returns-then-place-len-clause-noted
returns-then-place-len-clause-noted c = λ low.
    let u = c.args.self.now in
    let place : ℕ = c.args.plane / WORD_BITS in
    let bit : ℕ = c.args.plane % WORD_BITS in
    let N : ℕ → Type 0 = λ n. place < n in
    let inside : place < length u.words.items = subst N u.words.ok.0 low in
    let made : c.with.result ≡ with_column (row_of u.words.items place) bit true =
    c.with.ensures ∙ ap (λ (w : List Bool). with_column w bit true)
    (get_or_read u.words.items _ _ inside c.index.ensures no_columns) in
    let P : List Bool → Type 0 = λ w. is_used (slice_set u.words.items place w) c.args.plane ≡ true in
    subst P (sym made) (noted_here u.words.items c.args.plane inside)

pub returns-then-place-len-clause-kept : goal.returns-then-place-len-clause-kept
returns-then-place-len-clause-kept c =
    let u = c.args.self.now in
    let place : ℕ = c.args.plane / WORD_BITS in
    let bit : ℕ = c.args.plane % WORD_BITS in
    let N : ℕ → Type 0 = λ n. place < n in
    let low : place < u.words.len = subst N c.len.ensures c.if-place-len.true in
    let inside : place < length u.words.items = subst N u.words.ok.0 low in
    let made : c.with.result ≡ with_column (row_of u.words.items place) bit true =
    c.with.ensures ∙ ap (λ (w : List Bool). with_column w bit true)
    (get_or_read u.words.items _ _ inside c.index.ensures no_columns) in
    let P : List Bool → Type 0 = λ w. AreAmongUsed u.words.items (slice_set u.words.items place w) in
    subst P (sym made) (noted_kept u.words.items c.args.plane inside)
