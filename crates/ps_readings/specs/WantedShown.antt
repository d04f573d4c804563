-- What items ask, of the code, as that of the definitions.
use Rattle.std.specs.Prelude.{List, map}
use Rattle.ps_model.specs.meaning.Wanted as model
use Rattle.ps_readings.specs.declared.wanted.Wanted.{Wanted}
use Rattle.ps_readings.specs.declared.wanted.Wanted.TheVariants.{Each, Chosen, Any, Without}

abbrev pub wanted_shown : Wanted → model.Wanted
wanted_shown (Each objects motion) = model.Each objects.now motion
wanted_shown (Chosen object motion) = model.Each (model.one_member object) motion
wanted_shown (Any objects motion) = model.Any objects.now motion
wanted_shown (Without objects) = model.Without objects.now

abbrev pub wanteds_shown : List Wanted → List model.Wanted
wanteds_shown wanteds = map wanted_shown wanteds
