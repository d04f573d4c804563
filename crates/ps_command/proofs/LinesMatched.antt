-- What clap matches in some command lines of the player: worked rows of the definition.
use Rattle.std.proofs.Common.{◌≡◌, ◌∷◌, List, [], Some, None, true, false, codes, refl}
use Rattle.clap.proofs.OnLiterals.{clap_on_literals}
use Rattle.clap.specs.Words.{Text, all_of, first_of}
use Rattle.ps_command.specs.CommandLines.{matched, player, with_rules}
use Rattle.ps_command.specs.Given.{is_given}

-- a game that is played with keys from a file, at a level
abbrev played : List Text
played = codes "ps_play" ∷ codes "a.game" ∷ codes "--keys=b.keys" ∷ codes "--level" ∷ codes "2" ∷ []

played_game : first_of (codes "GAME") (matched played) ≡ Some (codes "a.game")
unfolding clap_on_literals player with_rules matched
played_game = refl

played_keys : first_of (codes "keys") (matched played) ≡ Some (codes "b.keys")
unfolding clap_on_literals player with_rules matched
played_keys = refl

played_level : first_of (codes "level") (matched played) ≡ Some (codes "2")
unfolding clap_on_literals player with_rules matched
played_level = refl

played_unchecked : is_given (codes "check") (matched played) ≡ false
unfolding clap_on_literals player with_rules matched
played_unchecked = refl

-- texts that are checked
abbrev checked : List Text
checked = codes "ps_play" ∷ codes "--check" ∷ codes "-" ∷ codes "--why" ∷ codes "b.game" ∷ codes "c.game" ∷ []

checked_game : first_of (codes "GAME") (matched checked) ≡ Some (codes "-")
unfolding clap_on_literals player with_rules matched
checked_game = refl

checked_further : all_of (codes "FURTHER") (matched checked) ≡ Some (codes "b.game" ∷ codes "c.game" ∷ [])
unfolding clap_on_literals player with_rules matched
checked_further = refl

checked_check : is_given (codes "check") (matched checked) ≡ true
unfolding clap_on_literals player with_rules matched
checked_check = refl

checked_why : is_given (codes "why") (matched checked) ≡ true
unfolding clap_on_literals player with_rules matched
checked_why = refl

-- a code that is explained: there is no game
abbrev explained : List Text
explained = codes "ps_play" ∷ codes "--explain" ∷ codes "RU7" ∷ []

explained_code : first_of (codes "explain") (matched explained) ≡ Some (codes "RU7")
unfolding clap_on_literals player with_rules matched
explained_code = refl

explained_game : first_of (codes "GAME") (matched explained) ≡ None
unfolding clap_on_literals player with_rules matched
explained_game = refl
