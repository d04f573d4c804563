-- What a handle owns: an open one the block of a value, a closed one nothing.
use Rattle.std.specs.Prelude.{Bool, true, false, Option, Some, None}
use mir.Syntax.{Ty}
use base.Fml.{Fml, fsep, feq}
use denote.RattleType.{RattleType}
use denote.RawPtr.{Ptr}
use Rattle.std.specs.Box.Ownership.{box_owns}
use Rattle.std.specs.contracts.impls.GlobalAllocator.TheImpl.{ghosts}

-- the right to give a block back to the heap, whose handle is one value
abbrev pub heap_token : Ty → Ptr → Fml
heap_token = ghosts.dealloc_token (record { memory = record { seal = tt } })

-- what a handle owns of a type
abbrev pub owned_by : (R : RattleType) → Ptr → Bool → Option R.Denot → Fml
owned_by R at is_open None = feq Bool is_open false
owned_by R at is_open (Some value) = fsep (feq Bool is_open true) (box_owns heap_token R at value)
