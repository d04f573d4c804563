use Rattle.std.proofs.Common.{◌≡◌, ◌∙◌, ◌<◌, ap, sym, subst, List, [], ℕ, false, map}
use Rattle.std.specs.Prelude.{slice_index_or}
use Rattle.std.specs.Str.{bytes_eq}
use Rattle.std.specs.List.{list_any}
use Rattle.std.proofs.lemmas.List.{length-map}
use Rattle.ps_names.specs.Known.{Named, keys, named_shown}
use Rattle.ps_names.proofs.tables.KnownEntries.{before-shown, none-before, is_some-lookup-shown}
use Rattle.ps_names.proofs.known.Known.place_or_len.Goals as goal

pub returns : goal.returns
returns c = record {
  before = λ k less. ap (λ (d : List Named). bytes_eq c.args.name.now (slice_index_or (keys d) k []))
      (sym c.self.view_is)
      ∙ before-shown c.args.name.now c.self.inside.names.entries c.in-Some.place (sym c.in-Some.ensures.index) k less;
}

pub returns-in_default : goal.returns-in_default
returns-in_default c =
    let none : list_any (bytes_eq c.args.name.now) (keys (map named_shown c.self.inside.names.entries)) ≡ false =
    sym (is_some-lookup-shown c.args.name.now c.self.inside.names.entries) ∙ sym c.in_default.ensures.found in
    record {
      before = λ k less. ap (λ (d : List Named).
          bytes_eq c.args.name.now (slice_index_or (keys d) k [])) (sym c.self.view_is)
          ∙ none-before c.args.name.now (keys (map named_shown c.self.inside.names.entries)) none k
          (rw (length-map, length-map) (subst (λ (n : ℕ). k < n) c.len.ensures.len less));
    }
