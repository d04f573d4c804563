use Rattle.std.proofs.Common.{◌∙◌, ◌==◌, ◌&&◌, List, ℕ, length, map, ap}
use Rattle.std.specs.List.{list_all}
use Rattle.ps_model.specs.names.ObjectLines.{is_sprite_word}
use Rattle.ps_text.specs.WordViews.{text_of}
use Rattle.ps_names.proofs.objects.is_sprite_row.Goals as goal

pub returns : goal.returns
returns c =
    c.are_sprite_row.ensures ∙ ap (λ (words : List (List ℕ)). length words == 1 && list_all is_sprite_word words)
    (ap (map text_of) c.deref.ensures.value ∙ c.in_ok-words.ensures.texts)
