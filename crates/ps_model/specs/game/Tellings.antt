-- What the devices of a run tell of it. A reader tells at any time whether a call has failed, how many bytes its last
-- call gave, and how many calls it has had. It tells how many of them gave nothing, or had another room than a run asks
-- for. Perhaps it tells the bytes that it still has to give. A writer tells likewise. What they tell before a run and
-- after it says what the run read and wrote, and how it called them.
use Rattle.std.specs.Prelude.{◌≡◌, ℕ, ◌+◌, ◌-◌, ◌^◌, ◌≤◌, Bool, true, false, ⊤, ◌⊎◌, Option, Some, None, option_map}
use Rattle.std.specs.Prelude.{List, [], ◌∷◌, ◌++◌, length}
use Rattle.std.specs.List.{concat}

-- what a reader tells of itself: the bytes that it has left, or nothing of them; whether a call has failed; how many
-- bytes its last call gave; how many calls it has counted; how many of those gave nothing without failing; and how many
-- had room for fewer bytes than a run asks for at a time, or for more
pub record ReaderState : Type 0 where
  pub remaining : Option (List ℕ)
  pub has_failed : Bool
  pub last : ℕ
  pub calls : ℕ
  pub empty_calls : ℕ
  pub odd_sized_calls : ℕ

-- what a writer tells of itself: the bytes that it has taken, or nothing of them; whether a call has failed; how many
-- calls it has counted; and of those how many were handed no byte, and how many took fewer bytes than they were handed,
-- without failing
pub record WriterState : Type 0 where
  pub contents : Option (List ℕ)
  pub has_failed : Bool
  pub calls : ℕ
  pub empty_calls : ℕ
  pub short_calls : ℕ

-- a call of a reader: it gives bytes, none where the reader is at its end, or it fails
pub data Call : Type 0 where
  Gives : List ℕ → Call
  Fails : Call

-- what a run asks of its reader: nothing at all; or a call and more calls. These are told by the pieces that all but
-- the last one gave, in order, and by the last one
pub data ReaderCalls : Type 0 where
  Unasked : ReaderCalls
  Asked : List (List ℕ) → Call → ReaderCalls

-- a run, as its devices tell it
pub record Told : Type 0 where
  -- what it asked of the reader, and the bytes that the reader has left after it
  pub reading : ReaderCalls
  pub left : List ℕ
  -- the bytes that the writer took in it, and whether a write failed in it
  pub wrote : List ℕ
  pub writer_failed : Bool
  -- how many calls the writer counted in it, and how many of those took fewer bytes than they were handed
  pub writes : ℕ
  pub short_writes : ℕ

-- the bytes that a call gave
abbrev pub bytes_of_call : Call → List ℕ
bytes_of_call (Gives piece) = piece
bytes_of_call Fails = []

-- the bytes that were read before the last call
abbrev pub read_before : ReaderCalls → List ℕ
read_before Unasked = []
read_before (Asked earlier last) = concat earlier

-- all bytes that were read
abbrev pub read : ReaderCalls → List ℕ
read Unasked = []
read (Asked earlier last) = concat earlier ++ bytes_of_call last

-- all bytes that the reader had when the run began: those that were read, and those that are left
abbrev pub all_bytes : Told → List ℕ
all_bytes told = read told.reading ++ told.left

-- whether a call failed
abbrev pub has_failing_call : ReaderCalls → Bool
has_failing_call Unasked = false
has_failing_call (Asked earlier (Gives piece)) = false
has_failing_call (Asked earlier Fails) = true

-- how many bytes the reader's last call gave, where it gave `before` before the run
abbrev pub last_behind : ℕ → ReaderCalls → ℕ
last_behind before Unasked = before
last_behind before (Asked earlier last) = length (bytes_of_call last)

-- how many calls a device can count
abbrev pub most_calls : ℕ
most_calls = 2 ^ 64 - 1

-- the reader has counted the calls of the run: each one, but for a last one that failed as it could count no more
abbrev pub CountsCalls : ℕ → ReaderCalls → ℕ → Type 0
CountsCalls before Unasked after = after ≡ before
CountsCalls before (Asked earlier (Gives piece)) after = after ≡ before + (length earlier + 1)
CountsCalls before (Asked earlier Fails) after =
    (after ≡ before + (length earlier + 1)) ⊎ ((most_calls ≤ after) × (after ≡ before + length earlier))

-- how many of these pieces have no byte
abbrev pub empty_pieces : List (List ℕ) → ℕ
empty_pieces [] = 0
empty_pieces ([] ∷ pieces) = empty_pieces pieces + 1
empty_pieces ((byte ∷ bytes) ∷ pieces) = empty_pieces pieces

-- how many calls gave nothing, without failing
abbrev pub empty_reads : ReaderCalls → ℕ
empty_reads Unasked = 0
empty_reads (Asked earlier (Gives piece)) = empty_pieces earlier + empty_pieces (piece ∷ [])
empty_reads (Asked earlier Fails) = empty_pieces earlier

-- those bytes are left, as far as the reader tells
abbrev pub IsLeft : Option (List ℕ) → List ℕ → Type 0
IsLeft None left = ⊤
IsLeft (Some known) left = left ≡ known

-- how many writes took nothing, which is one if it failed
abbrev pub idle_writes : Bool → ℕ
idle_writes true = 1
idle_writes false = 0

-- two devices that were well tell of this run, by what they told before it and by what they tell after it
pub record Tells (reader_before reader_after : ReaderState) (writer_before writer_after : WriterState) (told : Told) :
    Type 0 where
  -- no call of the reader had failed before; one has now exactly if one failed in the run
  pub reader_was_well : reader_before.has_failed ≡ false
  pub reader_failed : reader_after.has_failed ≡ has_failing_call told.reading
  -- the bytes that the reader had are those that were read, and then those that it has left
  pub read : reader_before.remaining ≡ option_map (λ known. read told.reading ++ known) reader_after.remaining
  pub left : IsLeft reader_after.remaining told.left
  pub last : reader_after.last ≡ last_behind reader_before.last told.reading
  pub calls : CountsCalls reader_before.calls told.reading reader_after.calls
  pub empty_reads : reader_after.empty_calls ≡ reader_before.empty_calls + empty_reads told.reading
  -- each call had room for as many bytes as a run asks for at a time, and no other number
  pub same_room : reader_after.odd_sized_calls ≡ reader_before.odd_sized_calls
  -- no call of the writer had failed before; one has now exactly if one failed in the run
  pub writer_was_well : writer_before.has_failed ≡ false
  pub writer_failed : writer_after.has_failed ≡ told.writer_failed
  -- the bytes that the writer has taken are those that it had taken, and then those that were written
  pub wrote : writer_after.contents ≡ option_map (λ known. known ++ told.wrote) writer_before.contents
  -- it has counted the calls of the run. Each was handed a byte or more, and each took a byte or more but for one that
  -- failed. So there were no more of them than bytes written, and that one; where some were written, there was a call
  pub calls_of_writer : writer_after.calls ≡ writer_before.calls + told.writes
  pub short_calls : writer_after.short_calls ≡ writer_before.short_calls + told.short_writes
  pub no_empty_write : writer_after.empty_calls ≡ writer_before.empty_calls
  pub writes : told.writes ≤ length told.wrote + idle_writes told.writer_failed
  pub some_writes : 1 ≤ length told.wrote → 1 ≤ told.writes
