-- A name among those that the code has found is declared at its line.
use Rattle.std.proofs.Common.{◌≡◌, ◌<◌, ℕ, List, length, get_or, sym, ap, ◌∙◌}
use Rattle.std.specs.List.{IsAmong}
use Rattle.std.proofs.lemmas.List.{length-map, get_or-map}
use Rattle.ps_facts.specs.declared.names.Named.{Named}
use Rattle.ps_facts.specs.Declarations.{Declared, declared, IsDeclaredAt}
use Rattle.ps_facts.specs.NamesShown.{named_shown, names_shown}

pub declared-among : (text : List ℕ) (names : List Named) (named : Named) → names_shown names ≡ declared text →
    IsAmong names named → IsDeclaredAt text named.line named.name.now
declared-among text names named same among =
    let within : among.0 < length (declared text) = rw (← same, length-map) among.1.0 in (
      among.0,
      (
        within,
        ap named_shown among.1.1 ∙ sym (get_or-map named_shown names among.0 named (named_shown named) among.1.0)
            ∙ ap (λ (all : List Declared). get_or all among.0 (named_shown named)) same,
      ),
    )
