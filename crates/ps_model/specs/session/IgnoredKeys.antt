-- The keys that a session ignores. In a level options have some ignored; at a message all are but `x` and `q`; after
-- the end every one is.
use Rattle.std.specs.Prelude.{Bool, true, false}
use Rattle.ps_model.specs.declared.options.Options.{Options}
use Rattle.ps_model.specs.declared.play.Input.TheVariants.{Up, Down, Left, Right, Action}
use Rattle.ps_model.specs.declared.play.Key.{Key}
use Rattle.ps_model.specs.declared.play.Key.TheVariants.{Move, Undo, Restart, Quit}
use Rattle.ps_model.specs.session.Sessions.{Session, Playing, Waiting, AtMessage, Ended}

-- a key that these options have a level ignore
abbrev pub is_ignored_in_level : Options → Key → Bool
is_ignored_in_level options (Move Up) = false
is_ignored_in_level options (Move Down) = false
is_ignored_in_level options (Move Left) = false
is_ignored_in_level options (Move Right) = false
is_ignored_in_level options (Move Action) = options.no_action
is_ignored_in_level options Undo = options.no_undo
is_ignored_in_level options Restart = options.no_restart
is_ignored_in_level options Quit = false

-- a key that is ignored while a message waits
abbrev pub is_ignored_at_message : Key → Bool
is_ignored_at_message (Move Up) = true
is_ignored_at_message (Move Down) = true
is_ignored_at_message (Move Left) = true
is_ignored_at_message (Move Right) = true
is_ignored_at_message (Move Action) = false
is_ignored_at_message Undo = true
is_ignored_at_message Restart = true
is_ignored_at_message Quit = false

-- a key that a session of a game with these options ignores
abbrev pub is_ignored : Options → Session → Key → Bool
is_ignored options (Playing play) key = is_ignored_in_level options key
is_ignored options (Waiting play pending) key = is_ignored_at_message key
is_ignored options (AtMessage entry) key = is_ignored_at_message key
is_ignored options (Ended ending) key = true
