-- What devices tell before a run.
use Rattle.std.specs.Prelude.{ℕ, false, List, [], Some}
use Rattle.ps_model.specs.game.Tellings.{ReaderState, WriterState}

-- a reader that has these bytes to give, and was never called
abbrev pub fresh_reader : List ℕ → ReaderState
fresh_reader bytes = record {
  remaining = Some bytes;
  has_failed = false;
  last = 0;
  calls = 0;
  empty_calls = 0;
  odd_sized_calls = 0;
}

-- a writer that was never called
abbrev pub fresh_writer : WriterState
fresh_writer = record {
  contents = Some [];
  has_failed = false;
  calls = 0;
  empty_calls = 0;
  short_calls = 0;
}
