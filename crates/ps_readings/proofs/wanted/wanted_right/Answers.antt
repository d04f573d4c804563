use Rattle.ps_readings.proofs.BoundNames.{wanted-bound}
use Rattle.ps_readings.proofs.wanted.wanted_right.Goals as goal

pub returns-in-Is : goal.returns-in-Is
returns-in-Is c = rw (c.in-Is.is, wanted-bound, ← c.bound_name-bound.ensures, ← c.bound_motion-motion.ensures)
    c.wanted_name.ensures
