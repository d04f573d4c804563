use Rattle.std.proofs.Common.{◌∙◌, Bool, List, ap, sym}
use Rattle.ps_names.specs.GlyphsShown.{glyphs_shown}
use Rattle.ps_warnings.specs.Marks.{marked}
use Rattle.ps_warnings.specs.MeaningsSeen.{meanings_seen}
use Rattle.ps_warnings.specs.NameWarnings.{lines_meant, lines_of_glyphs}
use Rattle.ps_warnings.proofs.MarksMade.{marked_more}
use Rattle.ps_warnings.proofs.used_names.mark_known.Goals as goal

pub returns : goal.returns
returns c =
    c.mark_glyphs.ensures
    ∙ ap (λ (marks : List Bool). marked marks (lines_of_glyphs (glyphs_shown c.args.glyphs.now))) c.mark_meant.ensures
    ∙ sym (marked_more c.args.used.now (lines_meant (meanings_seen c.args.spoken.now))
    (lines_of_glyphs (glyphs_shown c.args.glyphs.now)))
