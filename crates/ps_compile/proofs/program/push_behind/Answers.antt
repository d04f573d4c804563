use Rattle.std.proofs.Common.{List, Bor, refl, sym, ap, ◌∙◌}
use Rattle.std.specs.Prelude.{All}
use Rattle.std.specs.List.{flat_map}
use Rattle.ps_model.specs.board.RuleSections.{Loop}
use Rattle.ps_model.specs.board.RulePrograms.{is_end}
use Rattle.ps_rules.specs.declared.tree.RuleLine.{RuleLine}
use Rattle.ps_rules.specs.RulesShown.{lines_shown}
use Rattle.ps_rules.proofs.Loops.{loop-end}
use Rattle.ps_laws.specs.WholeRows.{IsWholeLine}
use Rattle.ps_program.specs.ProgramShown.{section_shown, sections_shown, groups_shown}
use Rattle.ps_compile.specs.PiecesShown.{pieces_shown}
use Rattle.ps_compile.specs.ProgramsMade.{compact_outside}
use Rattle.ps_compile.proofs.MadeSections.{behind-begun, sections-more}
use Rattle.ps_compile.proofs.WholeRows.{shown-at, shown-first, shown-others, cut-whole}
use Rattle.ps_compile.proofs.program.push_behind.Goals as goal

pub compiled_groups-requires : goal.compiled_groups-requires
compiled_groups-requires c =
    shown-first (All IsWholeLine) (λ piece. lines_shown piece.now) c.deref.result.now c.in-Some.inside.now
    c.in-Some.others.now c.in-Some.ensures.cases.0
    (cut-whole is_end (λ piece. lines_shown piece.now) c.deref.result.now (lines_shown c.args.lines.now)
    (ap pieces_shown c.deref.ensures.value ∙ c.in_ok-pieces.ensures) c.requires)

pub push_outside-requires : goal.push_outside-requires
push_outside-requires c =
    shown-at (All IsWholeLine) (λ piece. lines_shown piece.now) c.in-Some.others.now c.piece-item.result
    c.loop-piece.piece-index
    (shown-others (All IsWholeLine) (λ piece. lines_shown piece.now) c.deref.result.now c.in-Some.inside.now
    c.in-Some.others.now c.in-Some.ensures.cases.0
    (cut-whole is_end (λ piece. lines_shown piece.now) c.deref.result.now (lines_shown c.args.lines.now)
    (ap pieces_shown c.deref.ensures.value ∙ c.in_ok-pieces.ensures) c.requires))
    c.loop-piece-test.true c.piece-item.is

pub loop-piece-init : goal.loop-piece-init
loop-piece-init c =
    behind-begun section_shown c.args.names.now c.args.part (lines_shown c.args.lines.now)
    (lines_shown c.in-Some.inside.now.now) (pieces_shown c.in-Some.others.now)
    c.args.sections.now.items _ _ c.in_ok-push.ensures.items
    (ap (λ groups. Loop (groups_shown groups)) c.from_vec.ensures ∙ ap Loop c.in_ok-groups.ensures)
    (sym c.in_ok-pieces.ensures ∙ ap pieces_shown (sym c.deref.ensures.value ∙ c.in-Some.ensures.cases.0))

pub loop-piece-preserved : goal.loop-piece-preserved
loop-piece-preserved c =
    sections-more (compact_outside c.args.names.now c.args.part) c.loop-piece.sections.items
    c.push_outside.new.sections.items _ c.piece-item.result c.in-Some.others.now c.loop-piece.piece-index
    c.loop-piece-test.true c.piece-item.is c.in_ok-push_outside.ensures c.loop-piece.invariant

pub returns : goal.returns
returns c =
    loop-end (sections_shown c.loop-piece.sections.items) _ (λ (pieces : List (Bor (List RuleLine))).
    flat_map (compact_outside c.args.names.now c.args.part) (pieces_shown pieces)) c.in-Some.others.now
    c.loop-piece.piece-index refl c.loop-piece.invariant c.loop-piece-test.false
