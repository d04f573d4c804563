use Rattle.std.proofs.Common.{◌≡◌, ◌+◌, ◌∙◌, ℕ, List, arith, rules, true, false}
use Rattle.ps_model.specs.text.Lines.{lines_of}
use Rattle.ps_model.specs.text.LineNumbers.{line_at}
use Rattle.ps_facts.specs.LayerWords.{is_layer, layer_lines}
use Rattle.ps_facts.proofs.LayerLines.{first-there, others-behind, layer-first, layer-other, layers_from}
use Rattle.ps_facts.proofs.layers.line_of_layer.Goals as goal
use Rattle.ps_facts.proofs.layers.line_of_layer.Goals.{then-is_layer+else-above-layer, else-is_layer}

pub returns-then-above-layer : goal.returns-then-above-layer
returns-then-above-layer c =
    let text : List ℕ = c.args.source.now in
    let line : ℕ = c.loop-line.line in
    let is : is_layer (line_at text line) ≡ true = search rules in
    let place : c.loop-line.above ≡ c.args.layer = search rules in
    record {
      there = search (rules, arith);
      place =
          rw (← place) (first-there (layer_lines (lines_of text)) (layers_from text (line + 1)) c.loop-line.above
          (line_at text line) (c.loop-line.invariant.behind ∙ layer-first text line (line + 1) (omega arith)
          (omega arith) (omega arith) is));
    }

pub loop-line-preserved : goal.loop-line-preserved
loop-line-preserved c =
    let text : List ℕ = c.args.source.now in
    let line : ℕ = c.loop-line.line in
    elim c.if-is_layer.branch [
      | then-is_layer+else-above-layer w ↦
          let is : is_layer (line_at text line) ≡ true = search rules in
          record {
            few = search (rules, arith);
            behind =
                others-behind (layer_lines (lines_of text)) (layers_from text (line + 1)) c.loop-line.above
                c.if-is_layer.above (line_at text line) (search (rules, arith))
                (c.loop-line.invariant.behind ∙ layer-first text line (line + 1) (omega arith) (omega arith)
                (omega arith) is);
          }
      | else-is_layer w ↦
          let is : is_layer (line_at text line) ≡ false = search rules in
          record {
            few = search (rules, arith);
            behind =
                rw w.above-is (c.loop-line.invariant.behind ∙ layer-other text line (line + 1) (omega arith)
                (omega arith) (omega arith) is);
          }
    ]
