-- How an answer about a level is told as JSON. The members of an object are in the order of their names.
use Rattle.std.specs.Prelude.{ℕ, List, ◌++◌, codes, length, map}
use Rattle.ps_model.specs.declared.play.Input.{Input}
use Rattle.ps_answers.specs.SolvedWords.{letter}
use Rattle.ps_answers.specs.declared.objects.Parts.{Parts}
use Rattle.ps_answers.specs.declared.solved.Solved.{Solved}
use Rattle.ps_answers.specs.declared.solved.Solved.TheVariants.{Won, Never, Unknown}
use Rattle.ps_answers.specs.declared.solved.Unsolved.{Unsolved}
use Rattle.ps_answers.specs.declared.solved.Unsolved.TheVariants as unsolved
use Rattle.serde_json.specs.Data.{Data, null, number, unsigned, string, object, member, no_members}
use Rattle.serde_json.specs.View.{view}
use Rattle.serde_json.specs.Written.{compact_text}

-- what an object tells of an answer
pub record Told : Type 0 where
  pub answer : List ℕ
  pub depth : Data
  pub fewest : Data
  pub keys : Data
  pub reason : Data
  pub states : Data

-- what parts of the code tell
abbrev pub told_shown : Parts → Told
told_shown parts = record {
  answer = parts.answer.now;
  depth = view parts.depth;
  fewest = view parts.fewest;
  keys = view parts.keys;
  reason = view parts.reason;
  states = view parts.states;
}

-- why it isn't known whether the level can be won
abbrev pub reason_name : Unsolved → List ℕ
reason_name unsolved.Limit = codes "limit"
reason_name unsolved.Memory = codes "memory"
reason_name unsolved.Stopped = codes "stopped"
reason_name unsolved.Full = codes "full"
reason_name unsolved.Boards = codes "boards"

-- these inputs win, and no fewer do
abbrev pub won_told : List Input → Told
won_told inputs = record {
  answer = codes "won";
  depth = null;
  fewest = number (unsigned (length inputs));
  keys = string (map letter inputs);
  reason = null;
  states = null;
}

-- none win
abbrev pub never_told : ℕ → Told
never_told states = record {
  answer = codes "never";
  depth = null;
  fewest = null;
  keys = null;
  reason = null;
  states = number (unsigned states);
}

-- none up to a depth win
abbrev pub unknown_told : ℕ → ℕ → Unsolved → Told
unknown_told states depth why = record {
  answer = codes "unknown";
  depth = number (unsigned depth);
  fewest = null;
  keys = null;
  reason = string (reason_name why);
  states = number (unsigned states);
}

-- an answer
abbrev pub told_of : Solved → Told
told_of (Won inputs) = won_told inputs.items
told_of (Never states) = never_told states
told_of (Unknown states depth why) = unknown_told states depth why

-- the object on the level of that number, in a text of that name
abbrev pub object_with : List ℕ → ℕ → Told → Data
object_with name level told =
    object (member (codes "answer") (string told.answer)
    (member (codes "depth") told.depth
    (member (codes "fewest") told.fewest
    (member (codes "file") (string name)
    (member (codes "keys") told.keys
    (member (codes "level") (number (unsigned level))
    (member (codes "reason") told.reason
    (member (codes "states") told.states no_members))))))))

-- an object as a line
abbrev pub data_line : Data → List ℕ
data_line told = compact_text told ++ codes "\n"

-- the line on an answer
unfoldable pub object_line : List ℕ → ℕ → Solved → List ℕ
object_line name level solved = data_line (object_with name level (told_of solved))
