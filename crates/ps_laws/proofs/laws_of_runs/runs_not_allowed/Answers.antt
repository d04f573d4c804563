use Rattle.ps_laws.proofs.runs.RunsNotAllowed.{no_call_behind_ending, no_read_fault_behind_ending}
use Rattle.ps_laws.proofs.runs.RunsNotAllowed.{no_want_behind_ending, no_more_calls, no_long_call, no_call_behind_end}
use Rattle.ps_laws.proofs.runs.RunsNotAllowed.{no_odd_sized_call, no_second_empty_call, no_call_behind_empty_one}
use Rattle.ps_laws.proofs.runs.RunsNotAllowed.{no_empty_write, reads_what_was_there, read_fault_is_told}
use Rattle.ps_laws.proofs.runs.RunsNotAllowed.{write_fault_is_told, no_read_fault_unasked, no_write_fault_unfailed}
use Rattle.ps_laws.proofs.runs.RunsNotAllowed.{no_run_on_failed_devices, no_writing_unasked, writes_fronts}
use Rattle.ps_laws.proofs.runs.RunsNotAllowed.{no_want_at_ignored_key, no_want_behind_all_keys, no_want_without_key}
use Rattle.ps_laws.proofs.runs.RunsNotAllowed.{no_ending_unwritten, no_write_uncounted, no_text_in_pieces}
use Rattle.ps_laws.proofs.laws_of_runs.runs_not_allowed.Goals as goal

pub returns : goal.returns
returns c = record {
  no_call_behind_ending = no_call_behind_ending;
  no_read_fault_behind_ending = no_read_fault_behind_ending;
  no_want_behind_ending = no_want_behind_ending;
  no_want_without_key = no_want_without_key;
  no_want_behind_all_keys = no_want_behind_all_keys;
  no_want_at_ignored_key = no_want_at_ignored_key;
  no_more_calls = no_more_calls;
  no_long_call = no_long_call;
  no_call_behind_end = no_call_behind_end;
  no_odd_sized_call = no_odd_sized_call;
  no_second_empty_call = no_second_empty_call;
  no_call_behind_empty_one = no_call_behind_empty_one;
  no_empty_write = no_empty_write;
  no_ending_unwritten = no_ending_unwritten;
  no_write_uncounted = no_write_uncounted;
  no_text_in_pieces = no_text_in_pieces;
  reads_what_was_there = reads_what_was_there;
  read_fault_is_told = read_fault_is_told;
  write_fault_is_told = write_fault_is_told;
  no_read_fault_unasked = no_read_fault_unasked;
  no_write_fault_unfailed = no_write_fault_unfailed;
  no_run_on_failed_devices = no_run_on_failed_devices;
  no_writing_unasked = no_writing_unasked;
  writes_fronts = writes_fronts;
}
