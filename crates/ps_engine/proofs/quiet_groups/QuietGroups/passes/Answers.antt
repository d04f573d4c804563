use Rattle.std.proofs.Common.{◌≡◌, ◌∙◌, ℕ, not, true≢false, Some, [], length, refl, sym, ap, ◌<◌, arith, subst, rules}
use Rattle.std.specs.Prelude.{slice_get}
use Rattle.std.proofs.lemmas.Option.{get_or_from_slice_get}
use Rattle.ps_board.specs.ColumnSets.{both_columns, set_columns}
use Rattle.ps_program.specs.declared.program.CompiledSection.{CompiledSection}
use Rattle.ps_engine.specs.Scratch.{SectionHasScratch}
use Rattle.ps_engine.specs.QuietGroups.{IsIdleOn, QuietGroupsShown}
use Rattle.ps_engine.specs.declared.quiet_groups.KnownSection.{KnownSection}
use Rattle.ps_engine.proofs.Waking.{each_there, known_idle, known_noted, known_of_each, section_there, still_each}
use Rattle.ps_engine.proofs.Waking.{watch_same, watch_there}
use Rattle.ps_engine.specs.Workspaces.{fixed_by}
use Rattle.ps_engine.proofs.quiet_groups.QuietGroups.passes.Goals as goal

-- a section's number is that of a known_section
within : (n inside all known : ℕ) → n < all → inside ≡ all → known ≡ inside → n < known
within n inside all known low same long = omega arith

pub returns-then-index-clause-idle : goal.returns-then-index-clause-idle
returns-then-index-clause-idle g c = λ section at e.
    let n : ℕ = c.args.number in
    let inside = c.self.inside in
    let known_section : KnownSection = c.index-2.result.now in
    let here : slice_get inside.sections.now n ≡ Some section =
    ap (λ (w : QuietGroupsShown). slice_get w.sections n) c.self.view_is ∙ at in
    let there : slice_get inside.known.items n ≡ Some known_section =
    watch_there inside.sections.now inside.known.items n section known_section here
    (known_of_each c.self.inside.board c.self.inside.sections.now c.self.inside.known.items
    (c.is_none.ensures ∙ ap not c.if-is_none.false) c.self.invariant.0)
    c.index-2.ensures in
    let first : c.index.result.now ≡ known_section =
    watch_same inside.known.items n c.index.result.now known_section c.index.ensures there in
    let apart : set_columns (both_columns known_section.topics c.args.stirred) ≡ [] =
    subst (λ (w : KnownSection). set_columns (both_columns w.topics c.args.stirred) ≡ []) first
    (c.is_apart.ensures c.if-not-is_apart.false) in
    known_idle (λ board. (g.B.Board.grid board, g.B.Board.table board)) inside.sections.now inside.known.items n
    section
    known_section c.args.stirred (g.B.Board.grid c.args.run.now.board.now) (g.B.Board.table c.args.run.now.board.now)
    c.recall_shape.ensures.shape here there apart inside.board
    (c.is_none.ensures ∙ ap not c.if-is_none.false) c.self.invariant.1
    (λ k t is. c.requires.same k t (sym (ap (λ (w : QuietGroupsShown). w.kept) c.self.view_is) ∙ is))
    c.if-index.true

pub invariant_of-self-2 : goal.invariant_of-self-2
invariant_of-self-2 g c =
    let n : ℕ = c.args.number in
    let inside = c.self.inside in
    let section : CompiledSection = c.index-sections-number.result in
    let known_section : KnownSection = c.index.result.now in
    let here : slice_get inside.sections.now n ≡ Some section =
    section_there inside.sections.now c.args.self.now.sections n section
    (ap (λ (w : QuietGroupsShown). w.sections) c.self.view_is) c.requires.number
    c.index-sections-number.is in
    let there : slice_get inside.known.items n ≡ Some known_section =
    watch_there inside.sections.now inside.known.items n section known_section here
    (known_of_each c.self.inside.board c.self.inside.sections.now c.self.inside.known.items
    (c.is_none.ensures ∙ ap not c.if-is_none.false) c.self.invariant.0)
    c.index.ensures in (
      still_each inside.board inside.sections.now inside.known.items c.note.new.known.items c.note.ensures.long
          c.self.invariant.0,
      known_noted (λ board. (g.B.Board.grid board, g.B.Board.table board)) inside.sections.now inside.known.items n
          section known_section c.args.stirred (g.B.Board.grid c.args.run.now.board.now) (g.B.Board.table c.args.run.now.board.now)
          c.recall_shape.ensures.shape here there (c.is_apart.ensures c.if-not-is_apart.false) inside.board
          c.is_idle_section-idle.result c.note.new.known.items c.self.invariant.1
          (λ k t is. c.requires.same k t (sym (ap (λ (w : QuietGroupsShown). w.kept) c.self.view_is) ∙ is))
          c.is_idle_section-idle.ensures.idle (c.note.ensures.noted known_section there),
    )

pub returns-clause-idle : goal.returns-clause-idle
returns-clause-idle g c = λ section at e.
    let n : ℕ = c.args.number in
    let here : slice_get c.self.inside.sections.now n ≡ Some section =
    ap (λ (w : QuietGroupsShown). slice_get w.sections n) c.self.view_is ∙ at in
    let own : c.index-sections-number.result ≡ section =
    c.index-sections-number.is ∙ get_or_from_slice_get c.self.inside.sections.now n section
    c.index-sections-number.result here in
    subst (λ (s : CompiledSection). IsIdleOn (g.B.Board.grid c.args.run.now.board.now) (g.B.Board.table c.args.run.now.board.now) s) own
    (c.is_idle_section-idle.ensures.idle e)

-- where nothing is passed over, nothing is claimed
pub returns-then-is_none-clause-idle : goal.returns-then-is_none-clause-idle
returns-then-is_none-clause-idle g c = λ section at e. absurd (true≢false (sym e))

pub returns-then-not-is_apart-clause-idle : goal.returns-then-not-is_apart-clause-idle
returns-then-not-is_apart-clause-idle g c = λ section at e. absurd (true≢false (sym e))

pub returns-then-is_none-clause-program : goal.returns-then-is_none-clause-program
returns-then-is_none-clause-program g c = refl

pub returns-then-index-clause-program : goal.returns-then-index-clause-program
returns-then-index-clause-program g c = c.self.view_is

pub returns-clause-program : goal.returns-clause-program
returns-clause-program g c = c.self.view_is

pub is_idle_section-idle-requires-clause-motions : goal.is_idle_section-idle-requires-clause-motions
is_idle_section-idle-requires-clause-motions g c = c.args.run.now.all_motions

pub is_idle_section-idle-requires-clause-scratch : goal.is_idle_section-idle-requires-clause-scratch
is_idle_section-idle-requires-clause-scratch g c =
    each_there (SectionHasScratch (length c.args.run.now.scratch.now)) c.self.inside.sections.now c.args.self.now.sections
    c.args.number c.index-sections-number.result (ap (λ (w : QuietGroupsShown). w.sections) c.self.view_is) c.requires.number
    c.index-sections-number.is c.requires.scratch

pub note-requires : goal.note-requires
note-requires g c = within c.args.number (length c.self.inside.sections.now) (length c.args.self.now.sections)
    (length c.self.inside.known.items) c.requires.number
    (ap (λ (w : QuietGroupsShown). length w.sections) c.self.view_is)
    (known_of_each c.self.inside.board c.self.inside.sections.now c.self.inside.known.items
    (c.is_none.ensures ∙ ap not c.if-is_none.false) c.self.invariant.0)

pub invariant_of-self : goal.invariant_of-self
invariant_of-self g c = c.self.invariant

pub index-requires : goal.index-requires
index-requires g c =
    subst (λ (n : ℕ). c.args.number < n) (sym c.self.inside.known.ok.0)
    (within c.args.number (length c.self.inside.sections.now) (length c.args.self.now.sections)
    (length c.self.inside.known.items) c.requires.number
    (ap (λ (w : QuietGroupsShown). length w.sections) c.self.view_is)
    (known_of_each c.self.inside.board c.self.inside.sections.now c.self.inside.known.items
    (c.is_none.ensures ∙ ap not c.if-is_none.false) c.self.invariant.0))

pub index-requires-2 : goal.index-requires-2
index-requires-2 g c =
    subst (λ (n : ℕ). c.args.number < n) (sym c.self.inside.known.ok.0)
    (within c.args.number (length c.self.inside.sections.now) (length c.args.self.now.sections)
    (length c.self.inside.known.items) c.requires.number
    (ap (λ (w : QuietGroupsShown). length w.sections) c.self.view_is)
    (known_of_each c.self.inside.board c.self.inside.sections.now c.self.inside.known.items
    (c.is_none.ensures ∙ ap not c.if-is_none.false) c.self.invariant.0))

pub bounds-sections-number : goal.bounds-sections-number
bounds-sections-number g c =
    subst (λ (n : ℕ). c.args.number < n) (sym (ap (λ (w : QuietGroupsShown). length w.sections) c.self.view_is))
    c.requires.number

pub offset_bounds-sections-number : goal.offset_bounds-sections-number
offset_bounds-sections-number g c =
    let low : c.args.number < length c.self.inside.sections.now =
    subst (λ (n : ℕ). c.args.number < n) (sym (ap (λ (w : QuietGroupsShown). length w.sections) c.self.view_is))
    c.requires.number in
    search rules

pub returns-then-is_none-clause-state : goal.returns-then-is_none-clause-state
returns-then-is_none-clause-state g c = refl

pub returns-then-is_none-clause-fixed : goal.returns-then-is_none-clause-fixed
returns-then-is_none-clause-fixed g c = refl

pub returns-then-index-clause-state : goal.returns-then-index-clause-state
returns-then-index-clause-state g c = refl

pub returns-then-index-clause-fixed : goal.returns-then-index-clause-fixed
returns-then-index-clause-fixed g c = refl

pub returns-clause-state : goal.returns-clause-state
returns-clause-state g c = refl

pub returns-clause-fixed : goal.returns-clause-fixed
returns-clause-fixed g c = fixed_by refl c.is_idle_section-idle.ensures.scratch

pub returns-then-not-is_apart-clause-program : goal.returns-then-not-is_apart-clause-program
returns-then-not-is_apart-clause-program g c = refl

pub returns-then-not-is_apart-clause-state : goal.returns-then-not-is_apart-clause-state
returns-then-not-is_apart-clause-state g c = refl

pub returns-then-not-is_apart-clause-fixed : goal.returns-then-not-is_apart-clause-fixed
returns-then-not-is_apart-clause-fixed g c = refl
