use Rattle.std.proofs.Common.{◌∙◌, ◌+◌, ◌++◌, sym, ap, refl, arith, List, ℕ, append_assoc}
use Rattle.ps_model.specs.text.Lines.{Line}
use Rattle.ps_model.specs.text.LineNumbers.{lines_between}
use Rattle.ps_names.specs.LinesThere.{lines_at}
use Rattle.ps_model.specs.text.LineNumbers.{here}
use Rattle.ps_laws.proofs.common.LinesInOrder.{between-step}
use Rattle.ps_names.proofs.lines.lines_there.Goals as goal

pub loop-line-preserved : goal.loop-line-preserved
loop-line-preserved c =
    let text : List ℕ = c.args.source.now in
    let end : ℕ = c.args.lines.end in
    let line : ℕ = c.loop-line.line in
    let step = between-step text line (line + 1) end (omega arith) (omega arith) (omega arith) refl in
    record {
      few = omega (arith, c.in_ok-push_there.ensures.one, c.loop-line.invariant.few);
      lines =
          ap (λ (xs : List Line). xs ++ lines_between text (line + 1) end) c.in_ok-push_there.ensures.lines
          ∙ append_assoc (lines_at text c.loop-line.made.items) (here text line) (lines_between text (line + 1) end)
          ∙ ap (λ (xs : List Line). lines_at text c.loop-line.made.items ++ xs) (sym step)
          ∙ c.loop-line.invariant.lines;
      there = c.in_ok-push_there.ensures.there c.loop-line.invariant.there;
    }
