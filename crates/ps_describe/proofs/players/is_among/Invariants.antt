use Rattle.std.proofs.Common.{◌≡◌, drop}
use Rattle.ps_model.specs.names.Names.{is_among}
use Rattle.ps_describe.proofs.players.is_among.Given as goal

-- the objects passed by are others
abbrev pub invariant-loop-other : goal.invariant-loop-other
invariant-loop-other l = is_among (drop l.other-index l.objects) l.object ≡ is_among l.objects l.object
