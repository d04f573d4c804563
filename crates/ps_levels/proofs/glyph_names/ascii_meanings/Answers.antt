use Rattle.ps_levels.proofs.GlyphMeanings.{meanings-more, meanings-counted}
use Rattle.ps_levels.proofs.glyph_names.ascii_meanings.Goals as goal

pub loop-code-preserved : goal.loop-code-preserved
loop-code-preserved c = meanings-more c.args.names.now c.loop-code.found.items _ c.loop-code.code _
    c.loop-code.invariant c.in_ok-push.ensures.items c.character_meaning.ensures

pub returns : goal.returns
returns c = meanings-counted c.args.names.now c.loop-code.found.items c.loop-code.code c.loop-code.invariant
