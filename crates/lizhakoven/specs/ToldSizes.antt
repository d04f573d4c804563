-- What C learns of the size of a game.
use Rattle.ps_model.specs.names.Names.{object_count}
use Rattle.ps_model.specs.game.Games.{Game}
use Rattle.ps_check.specs.Checks.{level_count, rule_count}
use Rattle.lizhakoven.specs.declared.sizes.GameSize.{GameSize}

-- the size of a game, told: what a check of it counts
abbrev pub told_size : Game → GameSize
told_size read = record {
  objects = object_count read.names;
  layers = read.names.layer_count;
  rules = rule_count read;
  levels = level_count read;
}

-- no size, told
abbrev pub no_size : GameSize
no_size = record { objects = 0; layers = 0; rules = 0; levels = 0 }
