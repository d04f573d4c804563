use Rattle.std.proofs.Common.{◌∷◌, [], List, ap}
use Rattle.std.specs.Prelude.{string_bytes}
use Rattle.serde_json.specs.Data.{Data}
use Rattle.ps_report.proofs.objects.fault_object.Goals as goal

pub returns : goal.returns
returns c = record {
  column = c.in_ok-told.told.column;
  shown = string_bytes c.in_ok-told.told.line;
  message = string_bytes c.in_ok-told.told.sentence;
  is = c.in_ok-told.ensures;
  are = ap (λ (own : Data). own ∷ []) c.in_ok-own.ensures;
}
