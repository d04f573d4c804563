-- Scripts of games that are played by sections of their rules.
use Rattle.std.proofs.Common.{◌≡◌, ◌∙◌, ℕ, List, Option, Some, ap, refl, sym}
use Rattle.ps_model.specs.board.Turns.{Script}
use Rattle.ps_model.specs.meaning.Compiled as model
use Rattle.ps_model.specs.names.Names.{Names}
use Rattle.ps_model.specs.rules.SourceRules.{RuleLine}
use Rattle.ps_program.specs.declared.program.CompiledSection.{CompiledSection}
use Rattle.ps_stage.specs.Standings.{SessionParts, on_boards, script_for}
use Rattle.ps_stage.specs.declared.sides.BoardSides.{BoardSides}
use Rattle.ps_stage.proofs.Scripts.{same_script}
use Rattle.ps_rulebook.specs.PlayedGames.{AreCompiled, meant_of}
use Rattle.ps_run.specs.GamesInPlay.{GameInPlay, script_in, script_on}

-- boards of rows keep the table of their game
abbrev pub own_table : List ℕ → Option (List ℕ)
own_table layers = Some layers

pub script_is : (game : SessionParts) (plain late : List CompiledSection) →
    script_on game plain late ≡ script_for own_table game (meant_of plain) (meant_of late)
unfolding script_on
script_is game plain late = refl

-- sections that mean the same make the same script
pub script_same : (game game' : SessionParts) (plain late plain' late' : List CompiledSection) → game' ≡ game →
    meant_of plain' ≡ meant_of plain → meant_of late' ≡ meant_of late →
    script_on game' plain' late' ≡ script_on game plain late
script_same game game' plain late plain' late' g p l =
    script_is game' plain' late'
    ∙ same_script own_table game game' (meant_of plain) (meant_of late) (meant_of plain') (meant_of late') g p l
    ∙ sym (script_is game plain late)

-- and the same on whatever boards
on_any_boards : (game : SessionParts) (sides : BoardSides) (plain late : List CompiledSection) →
    script_on (on_boards game sides) plain late ≡ script_on game plain late
unfolding script_on
on_any_boards game sides plain late = refl

pub script_on_boards : (game boarded game' : SessionParts) (sides : BoardSides)
    (plain late plain' late' : List CompiledSection) → boarded ≡ on_boards game sides → game' ≡ boarded →
    meant_of plain' ≡ meant_of plain → meant_of late' ≡ meant_of late →
    script_on game' plain' late' ≡ script_on game plain late
script_on_boards game boarded game' sides plain late plain' late' b g p l =
    script_same (on_boards game sides) game' plain late plain' late' (g ∙ b) p l ∙ on_any_boards game sides plain late

-- the names of a game in play are those of its script
pub names_in : (play : GameInPlay) (game : SessionParts) (plain late : List CompiledSection) →
    script_in play ≡ script_on game plain late → play.game.names ≡ game.names
names_in play game plain late same =
    ap (λ (script : Script). script.names) (sym (script_is play.game play.plain play.late) ∙ same
    ∙ script_is game plain late)

-- programs that are compiled of some names and rules are compiled of the same ones
pub made_of :
    (names names' : Names) (rules rules' : List RuleLine) (plain late : List model.CompiledSection) → names ≡ names' →
    rules ≡ rules' → AreCompiled names rules plain late → AreCompiled names' rules' plain late
made_of names names' rules rules' plain late n r made = rw (← n, ← r) made
