use Rattle.std.proofs.Common.{◌∙◌, List, ap, length, sym}
use Rattle.ps_model.specs.meaning.Compiled.{CompiledSection}
use Rattle.ps_origins.specs.Besides.{rules_of}
use Rattle.ps_origins.proofs.programs.PlacedPrograms.late.Goals as goal

pub invariant_of-result : goal.invariant_of-result
invariant_of-result c = record {
  beside = ap (λ (program : List CompiledSection). length (rules_of program)) c.sections.ensures
      ∙ c.args.self.now.late_beside
      ∙ sym (ap length c.as_slice.ensures.value);
}
