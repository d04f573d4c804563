use Rattle.std.proofs.Common.{◌≡◌, ◌∙◌, ℕ, ◌<◌, Bool, true, false, Option, List, length, refl, sym, ap, subst, arith}
use Rattle.std.proofs.Common.{Some, ◌≤◌, ◌+◌, drop, get_or, map}
use Rattle.std.specs.Prelude.{slice_get}
use Rattle.std.proofs.lemmas.Option.{get_or_from_slice_get, same_Some}
use Rattle.std.proofs.lemmas.Result.{IfOk-from_err}
use Rattle.ps_model.specs.declared.limits.TheConstants.{REPEAT_LIMIT}
use Rattle.ps_model.specs.board.Grid.{Grid}
use Rattle.ps_model.specs.board.Attempts.{State}
use Rattle.ps_model.specs.board.Programs.{Progress, section_run, sections_run}
use Rattle.ps_program.specs.declared.program.CompiledSection.{CompiledSection}
use Rattle.ps_match.specs.Topics.{DifferOnlyAbout}
use Rattle.ps_engine.specs.RulesInRoom.{section_meaning, sections_meaning}
use Rattle.ps_engine.specs.QuietGroups.{IsIdleOn, QuietGroupsShown}
use Rattle.ps_engine.specs.Scratch.{SectionHasScratch, SectionsHaveScratch}
use Rattle.ps_engine.specs.Waking.{IsSameBut}
use Rattle.ps_engine.specs.Runs.{fixed_in_run, state_of_run}
use Rattle.ps_engine.specs.Workspaces.{same_layers, same_rows, same_sides}
use Rattle.ps_engine.proofs.Idle.{section_still}
use Rattle.ps_engine.proofs.Sequences.{program_is, sections_end, sections_on, sections_stop}
use Rattle.ps_engine.proofs.Stirred.{differ_none}
use Rattle.ps_engine.proofs.Waking.{each_there, found_at}
use Rattle.ps_engine.proofs.Ended.{ran_whole, ran_to_cancel}
use Rattle.ps_engine.proofs.programs.play_unless_quiet.Goals as goal
use Rattle.ps_engine.proofs.programs.play_unless_quiet.Goals.{then-left-2, else-left-2}

pub loop-number-init : goal.loop-number-init
loop-number-init g c =
    let start : Grid = g.B.Board.grid c.args.run.now.board.now in
    record {
      run = program_is (sections_meaning (g.B.Board.table c.args.run.now.board.now) c.args.program.now.sections)
          REPEAT_LIMIT (state_of_run g.B.Board c.args.run.now) refl;
      fixed = refl;
      differ = differ_none c.none-stirred.result start start refl;
      program = refl;
    }

-- the sections that are lent are the program's
lent : (lent own : List CompiledSection) (n : ℕ) (section there : CompiledSection) → lent ≡ own →
    there ≡ get_or lent n there → slice_get own n ≡ Some section → there ≡ section
lent ls own n section there same is at =
    is ∙ ap (λ (sections : List CompiledSection). get_or sections n there) same
    ∙ get_or_from_slice_get own n section there at

-- a run of the same section from the same state
section_of : (here table : Option (List ℕ)) (item section : CompiledSection) (repeats : ℕ) (passed now : State) →
    here ≡ table → item ≡ section → passed ≡ now →
    section_run (section_meaning here item) repeats passed ≡ section_run (section_meaning table section) repeats now
section_of here table item section repeats passed now layers own state = rw (layers, own, state) refl

pub loop-number-preserved-then-passes : goal.loop-number-preserved-then-passes
loop-number-preserved-then-passes g c =
    let table : Option (List ℕ) = g.B.Board.table c.args.run.now.board.now in
    let start : Grid = g.B.Board.grid c.args.run.now.board.now in
    let was = c.loop-number.invariant in
    let sections : List CompiledSection = c.args.program.now.sections in
    let n : ℕ = c.loop-number.number in
    let low : n < length sections = omega (arith, c.loop-number-test.true, ap length c.sections-sections.ensures) in
    let at = found_at sections n low in
    let now : State = state_of_run g.B.Board c.loop-number.run in
    let next : State = state_of_run g.B.Board c.passes.new.run in
    let there : slice_get c.loop-number.program.sections n ≡ Some at.0 =
    ap (λ (w : QuietGroupsShown). slice_get w.sections n) was.program ∙ at.1 in
    let idle : IsIdleOn now.grid table at.0 =
    subst (λ (t : Option (List ℕ)). IsIdleOn now.grid t at.0) (same_layers was.fixed)
    (c.passes.ensures.idle at.0 there c.if-passes.true) in
    let made : (let p : Progress = record { state = next; repeats = c.loop-number.repeats; stopped = false } in p)
    ≡ section_run (section_meaning table at.0) c.loop-number.repeats now =
    ap (λ (s : State). let p : Progress = record { state = s; repeats = c.loop-number.repeats; stopped = false } in p)
    c.passes.ensures.state ∙ section_still table at.0 c.loop-number.repeats now idle in
    record {
      run = sections_on (section_meaning table) sections n at.0 c.loop-number.repeats c.loop-number.repeats now next low
          (sym (get_or_from_slice_get sections n at.0 at.0 at.1)) made ∙ was.run;
      fixed = c.passes.ensures.fixed ∙ was.fixed;
      differ = subst (λ (s : State). DifferOnlyAbout c.loop-number.stirred s.grid start)
          (sym c.passes.ensures.state) was.differ;
      program = c.passes.ensures.program ∙ was.program;
    }

pub loop-number-preserved : goal.loop-number-preserved
loop-number-preserved g c =
    let table : Option (List ℕ) = g.B.Board.table c.args.run.now.board.now in
    let here : Option (List ℕ) = g.B.Board.table c.passes.new.run.board.now in
    let start : Grid = g.B.Board.grid c.args.run.now.board.now in
    let was = c.loop-number.invariant in
    let sections : List CompiledSection = c.args.program.now.sections in
    let n : ℕ = c.loop-number.number in
    let low : n < length sections = omega (arith, c.loop-number-test.true, ap length c.sections-sections.ensures) in
    let at = found_at sections n low in
    let item : CompiledSection = c.index-sections-number.result in
    let repeats : ℕ = c.loop-number.repeats in
    let now : State = state_of_run g.B.Board c.loop-number.run in
    let passed : State = state_of_run g.B.Board c.passes.new.run in
    let next : State = state_of_run g.B.Board c.play_section.new.run in
    let left = c.in_ok-left.left in
    let still : fixed_in_run g.B.Board c.passes.new.run ≡ fixed_in_run g.B.Board c.args.run.now =
    c.passes.ensures.fixed ∙ was.fixed in
    let made : (let p : Progress = record { state = next; repeats = left.repeats; stopped = false } in p)
    ≡ section_run (section_meaning table at.0) repeats now =
    ap (λ (b : Bool). let p : Progress = record { state = next; repeats = left.repeats; stopped = b } in p)
    (sym c.if-left.false)
    ∙ c.in_ok-left.ensures.section
    ∙ section_of here table item at.0 repeats passed now (same_layers still)
    (lent c.sections-sections.result.now sections n at.0 item c.sections-sections.ensures c.index-sections-number.is at.1)
    c.passes.ensures.state in
    let fixed : fixed_in_run g.B.Board c.play_section.new.run ≡ fixed_in_run g.B.Board c.args.run.now =
    c.in_ok-left.ensures.fixed ∙ still in
    let program : c.passes.new.self ≡ c.args.program.now = c.passes.ensures.program ∙ was.program in
    let state : state_of_run g.B.Board c.if-left-2.run ≡ next = elim c.if-left-2.branch [
      | then-left-2 w ↦ ap (λ run. state_of_run g.B.Board run) w.run-is
      | else-left-2 w ↦ ap (λ run. state_of_run g.B.Board run) w.run-is
    ] in
    let rest : fixed_in_run g.B.Board c.if-left-2.run ≡ fixed_in_run g.B.Board c.play_section.new.run =
    elim c.if-left-2.branch [
      | then-left-2 w ↦ ap (λ run. fixed_in_run g.B.Board run) w.run-is
      | else-left-2 w ↦ ap (λ run. fixed_in_run g.B.Board run) w.run-is
    ] in
    record {
      run = ap (sections_run (map (section_meaning table) (drop (n + 1) sections)) left.repeats) state
          ∙ sections_on (section_meaning table) sections n at.0 repeats left.repeats now next low
          (sym (get_or_from_slice_get sections n at.0 at.0 at.1)) made ∙ was.run;
      fixed = rest ∙ fixed;
      differ = subst (λ (s : State). DifferOnlyAbout c.if-left-2.stirred s.grid start) (sym state)
          (elim c.if-left-2.branch [
            | then-left-2 w ↦
                subst (λ (stirred : List Bool). DifferOnlyAbout stirred next.grid start) (sym w.stirred-is)
                (w.stirred_on-stirred.ensures start table (ap (λ (p : QuietGroupsShown). p.kept) program ∙ c.requires.kept)
                (sym (same_sides fixed)) (sym (same_layers fixed)))
            | else-left-2 w ↦
                subst (λ (stirred : List Bool). DifferOnlyAbout stirred next.grid start) (sym w.stirred-is)
                (subst (λ (grid : Grid). DifferOnlyAbout c.loop-number.stirred grid start)
                (sym (c.in_ok-left.ensures.unchanged w.if-left-2.false
                ∙ ap (λ (s : State). s.grid) c.passes.ensures.state)) was.differ)
          ]);
      program = program;
    }

pub returns-then-left-clause-run : goal.returns-then-left-clause-run
returns-then-left-clause-run g c =
    let table : Option (List ℕ) = g.B.Board.table c.args.run.now.board.now in
    let here : Option (List ℕ) = g.B.Board.table c.passes.new.run.board.now in
    let was = c.loop-number.invariant in
    let sections : List CompiledSection = c.args.program.now.sections in
    let n : ℕ = c.loop-number.number in
    let low : n < length sections = omega (arith, c.loop-number-test.true, ap length c.sections-sections.ensures) in
    let at = found_at sections n low in
    let item : CompiledSection = c.index-sections-number.result in
    let repeats : ℕ = c.loop-number.repeats in
    let now : State = state_of_run g.B.Board c.loop-number.run in
    let passed : State = state_of_run g.B.Board c.passes.new.run in
    let next : State = state_of_run g.B.Board c.play_section.new.run in
    let left = c.in_ok-left.left in
    let made : (let p : Progress = record { state = next; repeats = left.repeats; stopped = true } in p)
    ≡ section_run (section_meaning table at.0) repeats now =
    ap (λ (b : Bool). let p : Progress = record { state = next; repeats = left.repeats; stopped = b } in p)
    (sym c.if-left.true)
    ∙ c.in_ok-left.ensures.section
    ∙ section_of here table item at.0 repeats passed now (same_layers (c.passes.ensures.fixed ∙ was.fixed))
    (lent c.sections-sections.result.now sections n at.0 item c.sections-sections.ensures c.index-sections-number.is at.1)
    c.passes.ensures.state in
    ran_whole c.args.extent _ next (sections_stop (section_meaning table) sections n at.0 repeats left.repeats now next low
    (sym (get_or_from_slice_get sections n at.0 at.0 at.1)) made ∙ was.run)

pub returns-then-ends-clause-run : goal.returns-then-ends-clause-run
returns-then-ends-clause-run g c =
    let table : Option (List ℕ) = g.B.Board.table c.args.run.now.board.now in
    ran_to_cancel c.args.extent (map (section_meaning table) (drop c.loop-number.number c.args.program.now.sections))
    c.loop-number.repeats _ (state_of_run g.B.Board c.loop-number.run) (c.ends.ensures.extent c.if-ends.true)
    (c.ends.ensures.cancelled c.if-ends.true) c.loop-number.invariant.run

pub passes-requires-clause-number : goal.passes-requires-clause-number
passes-requires-clause-number g c =
    subst (λ (sections : List CompiledSection). c.loop-number.number < length sections)
    (c.sections-sections.ensures ∙ sym (ap (λ (w : QuietGroupsShown). w.sections) c.loop-number.invariant.program))
    c.loop-number-test.true

pub passes-requires-clause-scratch : goal.passes-requires-clause-scratch
passes-requires-clause-scratch g c =
    subst (λ (count : ℕ). SectionsHaveScratch count c.loop-number.program.sections)
    (sym (same_rows c.loop-number.invariant.fixed))
    (subst (λ (w : QuietGroupsShown). SectionsHaveScratch (length c.args.run.now.scratch.now) w.sections)
    (sym c.loop-number.invariant.program) c.requires.scratch)

pub passes-requires-clause-same : goal.passes-requires-clause-same
passes-requires-clause-same g c = λ kept table is.
    let board = c.args.run.now.board.now in
    let start : Grid × Option (List ℕ) = (g.B.Board.grid board, g.B.Board.table board) in
    let now = c.loop-number.run.board.now in
    let shown : Some start ≡ Some (kept, table) =
    sym (ap (λ (w : QuietGroupsShown). w.kept) c.loop-number.invariant.program ∙ c.requires.kept) ∙ is in
    subst (λ (p : Grid × Option (List ℕ)). IsSameBut c.loop-number.stirred (g.B.Board.grid now) (g.B.Board.table now)
    p.0 p.1) (same_Some start (kept, table) shown) (record {
      differ = c.loop-number.invariant.differ;
      sides = sym (same_sides c.loop-number.invariant.fixed);
      shape = c.recall_shape.ensures.shape;
      same_table = sym (same_layers c.loop-number.invariant.fixed);
    })

pub play_section-requires : goal.play_section-requires
play_section-requires g c =
    subst (λ (count : ℕ). SectionHasScratch count c.index-sections-number.result)
    (sym (same_rows (c.passes.ensures.fixed ∙ c.loop-number.invariant.fixed)))
    (each_there (SectionHasScratch (length c.args.run.now.scratch.now)) c.sections-sections.result.now
    c.args.program.now.sections c.loop-number.number c.index-sections-number.result c.sections-sections.ensures
    (omega (arith, c.loop-number-test.true, ap length c.sections-sections.ensures)) c.index-sections-number.is
    c.requires.scratch)

pub returns-in_err-left-clause-run : goal.returns-in_err-left-clause-run
returns-in_err-left-clause-run g c = IfOk-from_err c.from_residual.result _ c.from_residual.ensures.0

pub returns-in_err-left-clause-fixed : goal.returns-in_err-left-clause-fixed
returns-in_err-left-clause-fixed g c =
    c.in_err-left.ensures.fixed ∙ c.passes.ensures.fixed ∙ c.loop-number.invariant.fixed

pub returns-in_err-left-clause-program : goal.returns-in_err-left-clause-program
returns-in_err-left-clause-program g c = c.passes.ensures.program ∙ c.loop-number.invariant.program

pub returns-then-left-clause-fixed : goal.returns-then-left-clause-fixed
returns-then-left-clause-fixed g c =
    c.in_ok-left.ensures.fixed ∙ c.passes.ensures.fixed ∙ c.loop-number.invariant.fixed

pub returns-then-left-clause-program : goal.returns-then-left-clause-program
returns-then-left-clause-program g c = c.passes.ensures.program ∙ c.loop-number.invariant.program

pub returns-clause-run : goal.returns-clause-run
returns-clause-run g c =
    let sections : List CompiledSection = c.args.program.now.sections in
    let far : length sections ≤ c.loop-number.number =
    subst (λ (all : List CompiledSection). length all ≤ c.loop-number.number) c.sections-sections.ensures
    c.loop-number-test.false in
    ran_whole c.args.extent _ (state_of_run g.B.Board c.loop-number.run)
    (sections_end (section_meaning (g.B.Board.table c.args.run.now.board.now)) sections c.loop-number.number
    c.loop-number.repeats (state_of_run g.B.Board c.loop-number.run) far
    ∙ c.loop-number.invariant.run)

pub returns-clause-fixed : goal.returns-clause-fixed
returns-clause-fixed g c = c.loop-number.invariant.fixed

pub returns-clause-program : goal.returns-clause-program
returns-clause-program g c = c.loop-number.invariant.program
