use Rattle.std.proofs.Common.{◌≡◌, ◌++◌, ◌∙◌, List, Bor, refl, sym, ap}
use Rattle.std.specs.Prelude.{All}
use Rattle.std.specs.List.{flat_map}
use Rattle.ps_model.specs.board.RulePrograms.{is_start}
use Rattle.ps_rules.specs.declared.tree.RuleLine.{RuleLine}
use Rattle.ps_rules.specs.RulesShown.{lines_shown}
use Rattle.ps_rules.proofs.Loops.{loop-end}
use Rattle.ps_laws.specs.WholeRows.{IsWholeLine}
use Rattle.ps_program.specs.ProgramShown.{sections_shown}
use Rattle.ps_compile.specs.PiecesShown.{pieces_shown}
use Rattle.ps_compile.specs.ProgramsMade.{compact_outside, compact_behind}
use Rattle.ps_compile.proofs.MadeSections.{program-made, sections-more}
use Rattle.ps_compile.proofs.WholeRows.{shown-at, shown-first, shown-others, cut-whole}
use Rattle.ps_compile.proofs.program.program_of.Goals as goal

pub push_outside-requires : goal.push_outside-requires
push_outside-requires c =
    shown-first (All IsWholeLine) (λ piece. lines_shown piece.now) c.deref.result.now c.in-Some.before.now
    c.in-Some.others.now c.in-Some.ensures.cases.0
    (cut-whole is_start (λ piece. lines_shown piece.now) c.deref.result.now (lines_shown c.args.lines.now)
    (ap pieces_shown c.deref.ensures.value ∙ c.in_ok-pieces.ensures) c.requires)

pub push_behind-requires : goal.push_behind-requires
push_behind-requires c =
    shown-at (All IsWholeLine) (λ piece. lines_shown piece.now) c.in-Some.others.now c.piece-item.result
    c.loop-piece.piece-index
    (shown-others (All IsWholeLine) (λ piece. lines_shown piece.now) c.deref.result.now c.in-Some.before.now
    c.in-Some.others.now c.in-Some.ensures.cases.0
    (cut-whole is_start (λ piece. lines_shown piece.now) c.deref.result.now (lines_shown c.args.lines.now)
    (ap pieces_shown c.deref.ensures.value ∙ c.in_ok-pieces.ensures) c.requires))
    c.loop-piece-test.true c.piece-item.is

pub loop-piece-init : goal.loop-piece-init
loop-piece-init c =
    let before : sections_shown c.push_outside.new.sections.items ≡ compact_outside c.args.names.now c.args.part
    (lines_shown c.in-Some.before.now.now) =
    c.in_ok-push_outside.ensures
    ∙ ap (λ sections. sections_shown sections ++ compact_outside c.args.names.now c.args.part
    (lines_shown c.in-Some.before.now.now)) c.new-sections.ensures.items in
    ap (λ made. made ++ flat_map (compact_behind c.args.names.now c.args.part) (pieces_shown c.in-Some.others.now))
    before
    ∙ sym (program-made c.args.names.now c.args.part (lines_shown c.args.lines.now)
    (lines_shown c.in-Some.before.now.now) (pieces_shown c.in-Some.others.now)
    (sym c.in_ok-pieces.ensures ∙ ap pieces_shown (sym c.deref.ensures.value ∙ c.in-Some.ensures.cases.0)))

pub loop-piece-preserved : goal.loop-piece-preserved
loop-piece-preserved c =
    sections-more (compact_behind c.args.names.now c.args.part) c.loop-piece.sections.items
    c.push_behind.new.sections.items _ c.piece-item.result c.in-Some.others.now c.loop-piece.piece-index
    c.loop-piece-test.true c.piece-item.is c.in_ok-push_behind.ensures c.loop-piece.invariant

pub returns : goal.returns
returns c =
    c.from_sections-2.ensures
    ∙ loop-end (sections_shown c.loop-piece.sections.items) _ (λ (pieces : List (Bor (List RuleLine))).
    flat_map (compact_behind c.args.names.now c.args.part) (pieces_shown pieces)) c.in-Some.others.now
    c.loop-piece.piece-index refl c.loop-piece.invariant c.loop-piece-test.false
