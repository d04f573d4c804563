-- Whole runs that are right, worked by hand: the reader gives a byte at a call, or all that it has; the writer takes all,
-- or fails within a frame; memory is refused before anything is written, or after a frame.
use Rattle.std.proofs.Common.{◌<◌, ◌≤◌, ◌≡◌, ℕ, inl, inr, List, [], ◌∷◌, refl, Some, true, false, arith}
use Rattle.std.specs.Prelude.{codes}
use Rattle.std.specs.Str.{chars, is_utf8}
use Rattle.std.specs.Str.Lossy.{utf8_valid_len}
use Rattle.std.specs.Fmt.{digits}
use Rattle.std.proofs.Math.Utf8.{encode}
use Rattle.std.proofs.lemmas.List.Elements.{All-from_recursion}
use Rattle.ps_model.specs.declared.play.Ending.TheVariants.{Quit, EndOfKeys}
use Rattle.ps_model.specs.declared.faults.FaultKind.TheVariants as kind
use Rattle.ps_model.specs.board.Turns.{Script, script_of, turn}
use Rattle.ps_model.specs.board.Programs.{group, program_run}
use Rattle.ps_model.specs.session.StartSteps.{all_start_turns}
use Rattle.ps_model.specs.session.KeySteps.{all_key_turns}
use Rattle.ps_model.specs.text.Lines.{lines_of}
use Rattle.ps_model.specs.game.Games.{game_read}
use Rattle.ps_model.specs.game.Outputs.{opening_step}
use Rattle.ps_model.specs.game.Tellings.{Gives, Fails, Unasked, Asked, ReaderState, WriterState}
use Rattle.ps_model.specs.game.Headline.{Ends, Refuses, WantsMemory, CannotRead, CannotWrite, Answers, IsPiece, RunsRightly, script_of_text}
use Rattle.ps_examples.proofs.games.BaseText.{base_text}

-- a level with a player and two cells to the right
abbrev walk : List ℕ
walk = base_text (codes "P..\n")

abbrev script : Script
script = script_of (game_read (lines_of walk))

has_game : script_of_text walk ≡ Some script
unfolding chars digits is_utf8 utf8_valid_len encode
has_game = refl

-- one byte is a piece
a_byte : (byte : ℕ) → IsPiece (byte ∷ [])
a_byte byte = record { some = omega arith; few = omega arith }

-- a byte at a call, and a byte that isn't read after the ending
byte_by_byte : Answers walk (record { reading = Asked ((100 ∷ []) ∷ (100 ∷ []) ∷ []) (Gives (codes "q")); left = codes "d"; wrote = codes "= T\n# level 1\nP..\n\n.P.\n\n..P\n\n* quit\n"; writer_failed = false; writes = 4; short_writes = 0 }) (Ends Quit)
unfolding chars digits is_utf8 utf8_valid_len encode group program_run all_start_turns all_key_turns turn opening_step
byte_by_byte = (
  script,
  has_game,
  record {
    reads = record {
      pieces = All-from_recursion IsPiece ((100 ∷ []) ∷ (100 ∷ []) ∷ []) (a_byte 100, (a_byte 100, tt));
      few = omega arith;
      calls = omega arith;
      goes_on = refl;
      spent = λ e. absurd (cc);
    };
    reader_is_well = refl;
    writer_is_well = refl;
    ending_is = refl;
    wrote = refl;
    brought = refl;
    silent = λ e. absurd (cc);
    few_writes = (let few : 4 ≤ 4 = omega arith in few);
  },
)

-- all keys at a call, and then none
keys_end : Answers walk (record { reading = Asked ((100 ∷ []) ∷ []) (Gives []); left = []; wrote = codes "= T\n# level 1\nP..\n\n.P.\n\n* end of keys\n"; writer_failed = false; writes = 4; short_writes = 1 }) (Ends EndOfKeys)
unfolding chars digits is_utf8 utf8_valid_len encode group program_run all_start_turns all_key_turns turn opening_step
keys_end = (
  script,
  has_game,
  record {
    reads = record { pieces = All-from_recursion IsPiece ((100 ∷ []) ∷ []) (a_byte 100, tt); few = omega arith; calls = omega arith; goes_on = refl; spent = λ e. refl };
    reader_is_well = refl;
    writer_is_well = refl;
    ending_is = refl;
    wrote = refl;
    brought = refl;
    silent = λ e. refl;
    few_writes = (let few : 4 ≤ 4 = omega arith in few);
  },
)

-- the same run by what its devices tell: the reader had been called before, and tells of two calls more, of which one gave
-- nothing; the writer took the last of three texts by two calls
abbrev reader_before : ReaderState
reader_before = record { remaining = Some (codes "d"); has_failed = false; last = 2; calls = 3; empty_calls = 1; odd_sized_calls = 2 }

abbrev reader_after : ReaderState
reader_after = record { remaining = Some []; has_failed = false; last = 0; calls = 5; empty_calls = 2; odd_sized_calls = 2 }

abbrev writer_before : WriterState
writer_before = record { contents = Some (codes "?"); has_failed = false; calls = 1; empty_calls = 0; short_calls = 0 }

abbrev writer_after : WriterState
writer_after = record { contents = Some (codes "?= T\n# level 1\nP..\n\n.P.\n\n* end of keys\n"); has_failed = false; calls = 5; empty_calls = 0; short_calls = 1 }

keys_end_as_told : RunsRightly walk reader_before reader_after writer_before writer_after (Ends EndOfKeys)
keys_end_as_told = record {
  told = record { reading = Asked ((100 ∷ []) ∷ []) (Gives []); left = []; wrote = codes "= T\n# level 1\nP..\n\n.P.\n\n* end of keys\n"; writer_failed = false; writes = 4; short_writes = 1 };
  tells = record {
    reader_was_well = refl;
    reader_failed = refl;
    read = refl;
    left = refl;
    last = refl;
    calls = refl;
    empty_reads = refl;
    same_room = refl;
    writer_was_well = refl;
    writer_failed = refl;
    wrote = refl;
    calls_of_writer = refl;
    short_calls = refl;
    no_empty_write = refl;
    writes = omega arith;
    some_writes = λ some. omega arith;
  };
  answers = keys_end;
}

-- the writer fails within the second key's frame
cut_off : Answers walk (record { reading = Asked ((100 ∷ []) ∷ []) (Gives (codes "dd")); left = codes "q"; wrote = codes "= T\n# level 1\nP..\n\n.P.\n\n.."; writer_failed = true; writes = 4; short_writes = 1 }) CannotWrite
unfolding chars digits is_utf8 utf8_valid_len encode group program_run all_start_turns all_key_turns turn opening_step
cut_off = (
  script,
  has_game,
  record {
    reads = record { pieces = All-from_recursion IsPiece ((100 ∷ []) ∷ []) (a_byte 100, tt); few = omega arith; calls = omega arith; goes_on = refl; spent = λ e. absurd (cc) };
    reader_is_well = refl;
    cause = refl;
    wrote = inl (record { rest = codes "P\n\n..P\n\n"; some = omega arith; is = refl });
    whole_before = (codes "..", refl);
    few_writes = (let few : 4 ≤ 5 = omega arith in few);
  },
)

-- the writer fails within the line that says that the keys ended
end_cut_off : Answers walk (record { reading = Asked [] (Gives []); left = []; wrote = codes "= T\n# level 1\nP..\n\n* en"; writer_failed = true; writes = 3; short_writes = 1 }) CannotWrite
unfolding chars digits is_utf8 utf8_valid_len encode group program_run all_start_turns all_key_turns turn opening_step
end_cut_off = (
  script,
  has_game,
  record {
    reads = record { pieces = All-from_recursion IsPiece [] tt; few = omega arith; calls = omega arith; goes_on = refl; spent = λ e. refl };
    reader_is_well = refl;
    cause = refl;
    wrote = inr (refl, record { rest = codes "d of keys\n"; some = omega arith; is = refl });
    whole_before = (codes "* en", refl);
    few_writes = (let few : 3 ≤ 3 = omega arith in few);
  },
)

-- the reader fails after two keys
reading_fails : Answers walk (record { reading = Asked ((100 ∷ []) ∷ (100 ∷ []) ∷ []) Fails; left = []; wrote = codes "= T\n# level 1\nP..\n\n.P.\n\n..P\n\n"; writer_failed = false; writes = 3; short_writes = 0 }) CannotRead
unfolding chars digits is_utf8 utf8_valid_len encode group program_run all_start_turns all_key_turns turn opening_step
reading_fails = (
  script,
  has_game,
  record {
    reads = record { pieces = All-from_recursion IsPiece ((100 ∷ []) ∷ (100 ∷ []) ∷ []) (a_byte 100, (a_byte 100, tt)); few = omega arith; calls = omega arith; goes_on = refl; spent = λ e. absurd (cc) };
    writer_is_well = refl;
    cause = tt;
    goes_on = refl;
    wrote = refl;
    few_writes = (let few : 3 ≤ 3 = omega arith in few);
  },
)

-- memory is refused for the opening; or for the second of two keys
at_once : Answers walk (record { reading = Unasked; left = codes "d"; wrote = []; writer_failed = false; writes = 0; short_writes = 0 }) WantsMemory
at_once = inl (record { asked_nothing = refl; wrote_nothing = refl; writer_is_well = refl })

behind_a_frame : Answers walk (record { reading = Asked [] (Gives (codes "dd")); left = []; wrote = codes "= T\n# level 1\nP..\n\n.P.\n\n"; writer_failed = false; writes = 2; short_writes = 0 }) WantsMemory
unfolding chars digits is_utf8 utf8_valid_len encode group program_run all_start_turns all_key_turns turn opening_step
behind_a_frame = inr (
  script,
  has_game,
  record {
    reads = record { pieces = All-from_recursion IsPiece [] tt; few = omega arith; calls = omega arith; goes_on = refl; spent = λ e. absurd (cc) };
    reader_is_well = refl;
    writer_is_well = refl;
    keys = 1;
    enough = omega arith;
    goes_on = refl;
    wanting = inl (let fewer : 1 < 2 = omega arith in fewer);
    heeded = refl;
    wrote = refl;
    few_writes = (let few : 2 ≤ 3 = omega arith in few);
  },
)

-- a text is refused, and neither device is called
no_section : Answers [] (record { reading = Unasked; left = codes "d"; wrote = []; writer_failed = false; writes = 0; short_writes = 0 }) (Refuses (record { kind = kind.NoSection; line = 1 }))
unfolding chars is_utf8 utf8_valid_len encode
no_section = record { is_first = refl; asked_nothing = refl; wrote_nothing = refl; writer_is_well = refl }
