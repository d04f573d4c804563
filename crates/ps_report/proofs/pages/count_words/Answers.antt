use Rattle.std.specs.Prelude.{string_bytes}
use Rattle.ps_report.proofs.PagesTold.{counted}
use Rattle.ps_report.proofs.pages.count_words.Goals as goal

pub returns : goal.returns
returns c =
    counted c.args.count c.fault_word-word.result.now (string_bytes c.in_ok-words.words) c.fault_word-word.ensures.one
    c.fault_word-word.ensures.more c.in_ok-words.ensures.ok
