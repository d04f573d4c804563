use Rattle.std.proofs.Common.{◌∙◌, List, ap, length, sym}
use Rattle.ps_model.specs.declared.rules.Part.TheVariants.{Plain, Late}
use Rattle.ps_model.specs.meaning.Compiled.{CompiledSection}
use Rattle.ps_origins.specs.Besides.{rules_of}
use Rattle.ps_origins.proofs.ProgramsInOrder.{stand_beside}
use Rattle.ps_origins.proofs.programs.PlacedPrograms.of.Goals as goal

pub invariant_of-result : goal.invariant_of-result
invariant_of-result c = record {
  plain_beside = ap (λ (program : List CompiledSection). length (rules_of program)) c.in_ok-compiled.ensures.plain
      ∙ sym (stand_beside c.args.names.now Plain c.args.rules.now).many
      ∙ sym (ap length c.in_ok-plain.ensures);
  late_beside = ap (λ (program : List CompiledSection). length (rules_of program)) c.in_ok-compiled.ensures.late
      ∙ sym (stand_beside c.args.names.now Late c.args.rules.now).many
      ∙ sym (ap length c.in_ok-late.ensures);
}
