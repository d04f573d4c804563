use Rattle.std.proofs.Common.{rules, ◌≡◌, ◌∙◌, sym, ap, List, ℕ, false, true, is_some}
use Rattle.std.specs.Str.{bytes_eq}
use Rattle.std.specs.String.{string_bytes}
use Rattle.std.specs.List.{list_any}
use Rattle.std.specs.Map.{lookup}
use Rattle.ps_model.specs.text.Lines.{folded}
use Rattle.ps_names.specs.Known.{Named, keys}
use Rattle.ps_names.proofs.tables.KnownEntries.{is_some-lookup-shown, insert-named}
use Rattle.ps_names.proofs.known.Known.declare.Goals as goal

pub returns-then-contains_key-clause-again : goal.returns-then-contains_key-clause-again
returns-then-contains_key-clause-again c =
    let name : List ℕ = folded c.args.written.now in
    let same : c.as_str.result.now ≡ name = search rules in
    let found : is_some (lookup (λ k. bytes_eq name (string_bytes k)) c.self.inside.names.entries) ≡ true =
    rw (← same) (sym c.if-contains_key.ensures) in
    sym (sym (is_some-lookup-shown name c.self.inside.names.entries
    ∙ ap (λ (d : List Named). list_any (bytes_eq name) (keys d)) c.self.view_is) ∙ found)

pub returns-clause-again : goal.returns-clause-again
returns-clause-again c =
    let name : List ℕ = folded c.args.written.now in
    let same : c.as_str.result.now ≡ name = search rules in
    let none : is_some (lookup (λ k. bytes_eq name (string_bytes k)) c.self.inside.names.entries) ≡ false =
    rw (← same) (sym c.if-contains_key.ensures) in
    sym (sym (is_some-lookup-shown name c.self.inside.names.entries
    ∙ ap (λ (d : List Named). list_any (bytes_eq name) (keys d)) c.self.view_is) ∙ none)

pub returns-clause-new : goal.returns-clause-new
returns-clause-new c = λ _.
    let name : List ℕ = folded c.args.written.now in
    let same : c.as_str.result.now ≡ name = search rules in
    let none : is_some (lookup (λ k. bytes_eq name (string_bytes k)) c.self.inside.names.entries) ≡ false =
    rw (← same) (sym c.if-contains_key.ensures) in
    insert-named c.self.inside.names c.insert.new.self.entries c.in_ok-name.name c.one_character-character.result
    c.args.mention c.args.written.now c.args.self.now
    c.self.view_is c.in_ok-insert.ensures.entries c.in_ok-name.ensures.ok c.one_character-character.ensures none
