-- What a line of the prelude says after its first word.
use Rattle.std.specs.Prelude.{ℕ, unwrap_or, option_map, List, [], find}
use Rattle.ps_model.specs.text.Lines.{Line, taken_bytes}
use Rattle.ps_model.specs.text.Preludes.{begins_with}

-- the text of the first line that begins with the word, letters folded, empty or not; without such a line it is empty
abbrev pub text_after : List ℕ → List Line → List ℕ
text_after word prelude = unwrap_or (option_map taken_bytes (find (begins_with word) prelude)) []
