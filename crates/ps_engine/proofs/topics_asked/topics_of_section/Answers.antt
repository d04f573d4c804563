use Rattle.std.proofs.Common.{◌∙◌, subst, sym}
use Rattle.ps_engine.specs.TopicsAsked.{HasRules}
use Rattle.ps_engine.proofs.TopicsKept.{same_Group}
use Rattle.ps_engine.proofs.topics_asked.topics_of_section.Goals as goal

pub returns-in-Group : goal.returns-in-Group
returns-in-Group c = λ rules is.
    subst (HasRules c.topics_of_rules.result) (c.as_slice.ensures ∙ same_Group c.in-Group.rules rules
    (sym c.in-Group.is ∙ is)) c.topics_of_rules.ensures
