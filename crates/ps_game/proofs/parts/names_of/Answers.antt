use Rattle.ps_game.proofs.parts.names_of.Goals as goal

pub returns : goal.returns
returns c = rw (c.requires.objects.same, c.requires.legend.same, c.requires.layers.same, c.requires.objects_header)
    c.read_names.ensures.reads
