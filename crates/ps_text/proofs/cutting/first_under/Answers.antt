use Rattle.std.proofs.lemmas.Str.{IsCharBoundary-start}
use Rattle.ps_text.proofs.cutting.first_under.Goals as goal

pub next_word-requires : goal.next_word-requires
next_word-requires c = record { utf8 = c.requires; cuttable = IsCharBoundary-start c.args.line.now c.requires }
