use Rattle.std.proofs.Common.{◌≡◌, ◌∙◌, ℕ, refl, ap}
use Rattle.ps_model.specs.game.Games.{Game}
use Rattle.ps_levels.specs.EntriesShown.{entries_shown}
use Rattle.ps_levels.specs.WinsShown.{wins_shown}
use Rattle.ps_stage.specs.Standings.{SessionParts, all_sides, begun_at}
use Rattle.ps_rulebook.specs.PlayedGames.{parts_at}
use Rattle.ps_run.proofs.read_run.parts_of_game.Goals as goal

-- the parts of a game by their fields
same_parts : (parts : SessionParts) (read : Game) (entry : ℕ) → parts.title ≡ read.title →
    parts.options ≡ read.options → parts.names ≡ read.names → parts.entries ≡ read.entries → parts.wins ≡ read.wins →
    parts.sides ≡ all_sides →
    begun_at parts entry ≡ parts_at read entry
same_parts parts read entry title options names entries wins sides =
    rw (← title, ← options, ← names, ← entries, ← wins, ← sides) refl

pub returns-clause-parts : goal.returns-clause-parts
returns-clause-parts c =
    c.begun_at.ensures
    ∙ same_parts c.new.result c.args.game.now c.args.entry
    (c.new.ensures.title ∙ c.as_str.ensures ∙ ap (λ (r : Game). r.title) c.game.view_is)
    (c.new.ensures.options ∙ ap (λ (r : Game). r.options) c.game.view_is)
    (c.new.ensures.names ∙ ap (λ (r : Game). r.names) c.game.view_is)
    (c.new.ensures.entries ∙ ap entries_shown c.deref.ensures.value ∙ ap (λ (r : Game). r.entries) c.game.view_is)
    (c.new.ensures.wins ∙ ap wins_shown c.deref-2.ensures.value ∙ ap (λ (r : Game). r.wins) c.game.view_is)
    c.new.ensures.sides
