use Rattle.std.proofs.Common.{rules, ◌≡◌, ◌∙◌, ◌<◌, length, sym, arith, ap}
use Rattle.ps_text.specs.WordRanges.{rule_words_behind}
use Rattle.ps_text.proofs.RuleWordSteps.{past_blanks, own_word, no_rule_word}
use Rattle.ps_text.proofs.rule_scan.next_rule_word.Goals as goal

pub returns-then-start-line-clause-words : goal.returns-then-start-line-clause-words
returns-then-start-line-clause-words c =
    let line = c.args.line.now in
    let whole : c.past_parting-start.result ≡ length line = search rules in
    past_blanks line c.args.from c.past_parting-start.result c.past_parting-start.ensures.place
    ∙ ap (rule_words_behind line) whole ∙ no_rule_word line

pub returns-then-own-gt0-clause-words : goal.returns-then-own-gt0-clause-words
returns-then-own-gt0-clause-words c =
    let line = c.args.line.now in
    let start = c.past_parting-start.result in
    let within : start < length line = omega (arith, c.past_parting-start.ensures.cuttable.0) in
    past_blanks line c.args.from start c.past_parting-start.ensures.place
    ∙ own_word line start c.own_len-own.result within (c.past_parting-start.ensures.word within)
    (sym c.own_len-own.ensures.own) (omega arith)

pub returns-clause-words : goal.returns-clause-words
returns-clause-words c = past_blanks c.args.line.now c.args.from c.past_parting-start.result
    c.past_parting-start.ensures.place ∙ c.rule_run_end-end.ensures.words
