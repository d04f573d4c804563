use Rattle.std.proofs.Common.{◌≡◌, ◌++◌, drop, map}
use Rattle.ps_model.specs.names.DeclarationFaults.{are_declared_again}
use Rattle.ps_text.specs.WordViews.{text_of}
use Rattle.ps_names.specs.Known.{keys, mention_shown, named_as}
use Rattle.ps_names.proofs.known.Known.declare_words.Given as goal

abbrev pub invariant-loop-word : goal.invariant-loop-word
invariant-loop-word l =
    record {
      again : are_declared_again (keys l.self) (map text_of (drop l.word-index l.words)) ≡ are_declared_again
          (keys l.initial.self) (map text_of l.words);
      new : l.self ++ map (named_as (mention_shown l.mention)) (map text_of (drop l.word-index l.words)) ≡
          l.initial.self ++ map (named_as (mention_shown l.mention)) (map text_of l.words);
    }
