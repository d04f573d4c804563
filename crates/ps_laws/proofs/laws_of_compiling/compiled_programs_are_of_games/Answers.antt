use Rattle.ps_laws.proofs.masks.OwnLayers.{compiled_rules-game, compiled_program-game}
use Rattle.ps_laws.proofs.laws_of_compiling.compiled_programs_are_of_games.Goals as goal

pub returns-clause-rules : goal.returns-clause-rules
returns-clause-rules c = compiled_rules-game

pub returns-clause-programs : goal.returns-clause-programs
returns-clause-programs c = compiled_program-game
