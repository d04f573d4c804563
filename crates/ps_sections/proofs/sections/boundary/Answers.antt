use Rattle.std.proofs.Common.{rules, ◌≡◌, arith, true, false}
use Rattle.std.specs.Prelude.{nat_lt}
use Rattle.ps_model.specs.text.LineNumbers.{line_at}
use Rattle.ps_model.specs.text.Sections.{rank}
use Rattle.ps_sections.proofs.SectionEnds.{still_above, here_ends, boundary_within}
use Rattle.ps_sections.proofs.sections.boundary.Goals as goal

pub loop-line-preserved : goal.loop-line-preserved
loop-line-preserved c =
    let text = c.args.source.now in
    let place = rank c.args.section in
    let above : nat_lt (rank (line_at text c.loop-line.line).section) place ≡ true = search rules in
    still_above text c.loop-line.line place (omega arith) (omega arith) c.loop-line.invariant above

pub returns-then-not-comes_before-clause-boundary : goal.returns-then-not-comes_before-clause-boundary
returns-then-not-comes_before-clause-boundary c =
    let text = c.args.source.now in
    let place = rank c.args.section in
    let behind : nat_lt (rank (line_at text c.loop-line.line).section) place ≡ false = search rules in
    here_ends text c.loop-line.line place (omega arith) c.loop-line.invariant behind

pub returns-clause-boundary : goal.returns-clause-boundary
returns-clause-boundary c = omega (
  arith,
  boundary_within c.args.source.now (rank c.args.section),
  c.loop-line.invariant,
)

pub returns-clause-behind : goal.returns-clause-behind
returns-clause-behind c = omega (arith, boundary_within c.args.source.now (rank c.args.section))
