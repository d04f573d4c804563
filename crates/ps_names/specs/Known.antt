-- The names that are known while the sections are read: whose each is, without what it stands for.
use Rattle.std.specs.Prelude.{ℕ, List, Option, String, string_bytes, map}
use Rattle.std.specs.Global.{Global}
use Rattle.ps_model.specs.declared.pieces.ObjectId.{ObjectId}
use Rattle.ps_model.specs.text.Lines.{folded}
use Rattle.ps_model.specs.names.ObjectLines.{one_character}
use Rattle.ps_model.specs.names.Meanings as model
use Rattle.ps_names.specs.declared.mention.Mention.{Mention}
use Rattle.ps_names.specs.declared.mention.Mention.TheVariants.{Object, Line}
use Rattle.ps_names.specs.declared.known.NameDetails.{NameDetails}

abbrev pub mention_shown : Mention → model.Mention
mention_shown (Object object) = model.OfObject object
mention_shown (Line place) = model.OfLine place

abbrev pub mentions_shown : List Mention → List model.Mention
mentions_shown mentions = map mention_shown mentions

-- a known name: its letters folded, its character as it is written if it has one alone, and whose it is
pub record Named : Type 0 where
  pub name : List ℕ
  pub character : Option ℕ
  pub mention : model.Mention

-- a name as it is written, with whose it is
abbrev pub named_as : model.Mention → List ℕ → Named
named_as mention written = record { name = folded written; character = one_character written; mention = mention }

abbrev pub named_object : List ℕ × ObjectId → Named
named_object named = named_as (model.OfObject named.1) named.0

-- the names alone
abbrev pub keys : List Named → List (List ℕ)
keys known = map (λ named. named.name) known

-- the names with whose they are
abbrev pub mention_of : Named → List ℕ × model.Mention
mention_of named = (named.name, named.mention)

abbrev pub mentions_of_names : List Named → List (List ℕ × model.Mention)
mentions_of_names known = map mention_of known

-- an entry of the code's table
abbrev pub named_shown : String Global × NameDetails → Named
named_shown entry = record {
  name = string_bytes entry.0;
  character = entry.1.character;
  mention =
      mention_shown entry.1.mention;
}
