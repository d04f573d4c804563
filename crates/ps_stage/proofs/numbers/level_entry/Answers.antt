use Rattle.std.proofs.Common.{◌≡◌, ◌≢◌, ◌∙◌, ℕ, suc, ◌+◌, true, List, slice_get, refl, sym, ap, arith}
use Rattle.std.proofs.lemmas.Bool.{true≢false}
use Rattle.std.proofs.lemmas.List.{length-map}
use Rattle.ps_model.specs.game.LevelRuns.{is_level_found}
use Rattle.ps_model.specs.session.LevelLines.{Entry as Meant}
use Rattle.ps_levels.specs.EntriesShown.{entries_shown}
use Rattle.ps_laws.proofs.sessions.LevelNumbers.{levels_before}
use Rattle.ps_stage.proofs.LevelPlaces.{counted_at, found_at, lacked, one_more}
use Rattle.ps_stage.proofs.EntriesFound.{entry_found}
use Rattle.ps_stage.proofs.numbers.level_entry.Goals as goal
use Rattle.ps_stage.proofs.numbers.level_entry.Goals.{else-count-level-via-then-count-level+else-is_level}
use Rattle.ps_stage.proofs.numbers.level_entry.Goals.{else-count-level-via-else-count-level}

pub returns-then-is_level : goal.returns-then-is_level
returns-then-is_level c =
    let entries : List Meant = entries_shown c.args.entries.now in
    let at : ℕ = c.loop-place.place in
    let shown = entry_found c.args.entries.now entries at c.index-entries-place.result refl c.loop-place-test.true
    c.index-entries-place.is in
    let counted = counted_at entries at _ shown in
    found_at entries c.args.level at (ap is_level_found shown ∙ sym c.is_level.ensures ∙ c.if-is_level.true)
    (omega (arith, counted, c.loop-place.invariant.counted, c.level_count-count.ensures.counted, c.if-count-level.true))

pub loop-place-preserved : goal.loop-place-preserved
loop-place-preserved c =
    let entries : List Meant = entries_shown c.args.entries.now in
    let at : ℕ = c.loop-place.place in
    let shown = entry_found c.args.entries.now entries at c.index-entries-place.result refl c.loop-place-test.true
    c.index-entries-place.is in
    let counted = counted_at entries at _ shown in
    let next : suc at ≡ at + 1 = omega arith in
    let count : c.loop-place.count + c.level_count-count.result ≡ levels_before entries (suc at) =
    omega (arith, counted, c.loop-place.invariant.counted, c.level_count-count.ensures.counted) in
    let other : is_level_found (slice_get entries at) ≡ true → levels_before entries (suc at) ≢ c.args.level =
    λ is number. elim c.else-count-level.branch [
      | else-count-level-via-then-count-level+else-is_level w ↦
          true≢false (sym is ∙ ap is_level_found shown ∙ sym w.is_level.ensures ∙ w.if-is_level.false)
      | else-count-level-via-else-count-level w ↦ w.if-count-level.false (count ∙ number)
    ] in
    record {
      counted = count ∙ ap (levels_before entries) next;
      few = omega (arith, c.loop-place.invariant.few, c.level_count-count.ensures.few);
      beyond = one_more entries c.args.level at c.loop-place.invariant.beyond other;
    }

pub returns : goal.returns
returns c =
    lacked (entries_shown c.args.entries.now) c.args.level c.loop-place.place
    (rw length-map c.loop-place-test.false) c.loop-place.invariant.beyond
