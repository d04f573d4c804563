-- What a device tells that moved nothing.
use Rattle.std.proofs.Common.{ℕ, List, [], Option, Some, None, refl, append-nil}
use Rattle.ps_devices.specs.Devices.{Grows, Loses}

-- a reader that gave nothing has all left
pub nothing_given : (left : Option (List ℕ)) → Loses left left []
nothing_given None = refl
nothing_given (Some known) = refl

-- a writer that took nothing has what it had
pub nothing_taken : (contents : Option (List ℕ)) → Grows contents contents []
nothing_taken None = refl
nothing_taken (Some known) = rw (append-nil known) refl
