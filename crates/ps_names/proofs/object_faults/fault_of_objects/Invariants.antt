use Rattle.std.proofs.Common.{◌≡◌, ◌≤◌, ◌++◌, drop, map}
use Rattle.std.specs.List.{enumerate_from, flat_map}
use Rattle.ps_model.specs.names.DeclarationFaults.{object_faults}
use Rattle.ps_model.specs.text.Faults.{first_fault}
use Rattle.ps_model.specs.names.ObjectLines.{names_of_object, object_names}
use Rattle.ps_model.specs.declared.limits.TheConstants.{OBJECT_LIMIT}
use Rattle.ps_names.specs.Known.{keys, named_object}
use Rattle.ps_names.specs.LinesShown.{objects_shown}
use Rattle.ps_names.proofs.object_faults.fault_of_objects.Given as goal

abbrev pub invariant-loop-number : goal.invariant-loop-number
invariant-loop-number l =
    record {
      few : l.number ≤ OBJECT_LIMIT;
      faults : first_fault (object_faults l.number (keys l.known) (objects_shown (drop l.number l.objects))) ≡
          first_fault (object_faults 0 (keys l.initial.known) (objects_shown l.objects));
      names : l.known ++ map named_object (flat_map names_of_object
          (enumerate_from l.number (objects_shown (drop l.number l.objects)))) ≡ l.initial.known ++ map named_object
          (object_names (objects_shown l.objects));
    }
