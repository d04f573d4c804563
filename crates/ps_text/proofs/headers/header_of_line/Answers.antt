use Rattle.std.proofs.lemmas.Str.{IsCharBoundary-start}
use Rattle.ps_text.proofs.headers.header_of_line.Goals as goal

pub next_word-requires-clause-cuttable : goal.next_word-requires-clause-cuttable
next_word-requires-clause-cuttable c = IsCharBoundary-start c.args.line.now c.requires
