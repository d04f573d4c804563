use Rattle.std.proofs.Common.{◌∙◌, sym, arith}
use Rattle.ps_view.proofs.WordRows.{broken_after_word, broken_within_word}
use Rattle.ps_view.proofs.rows.break_of.Goals as goal

pub returns-in-0-clause-place : goal.returns-in-0-clause-place
returns-in-0-clause-place c =
    broken_within_word c.args.columns c.args.room c.args.text.now c.split_at.result.0.now c.requires.fits
    c.split_at.ensures.front (sym c.in-0.is ∙ c.through_last_blank.ensures.count)

pub returns-in_default-clause-place : goal.returns-in_default-clause-place
returns-in_default-clause-place c =
    broken_after_word c.args.columns c.args.room c.through_last_blank.result c.args.text.now c.split_at.result.0.now
    c.requires.fits c.split_at.ensures.front c.through_last_blank.ensures.count (omega (arith, c.in_default))
