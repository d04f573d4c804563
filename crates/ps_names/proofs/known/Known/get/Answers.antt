use Rattle.std.proofs.Common.{◌∙◌, ap, option_map, List}
use Rattle.std.specs.Str.{bytes_eq}
use Rattle.std.specs.Map.{lookup}
use Rattle.ps_names.specs.Known.{Named, mentions_of_names}
use Rattle.ps_names.proofs.tables.KnownEntries.{lookup-shown, details_mention}
use Rattle.ps_names.proofs.known.Known.get.Goals as goal

pub returns : goal.returns
returns c =
    ap (option_map details_mention) (c.in-Some.ensures.value)
    ∙ lookup-shown c.args.name.now c.self.inside.names.entries
    ∙ ap (λ (d : List Named). lookup (bytes_eq c.args.name.now) (mentions_of_names d)) c.self.view_is

pub returns-in_default : goal.returns-in_default
returns-in_default c =
    ap (option_map details_mention) (c.in_default.ensures.value)
    ∙ lookup-shown c.args.name.now c.self.inside.names.entries
    ∙ ap (λ (d : List Named). lookup (bytes_eq c.args.name.now) (mentions_of_names d)) c.self.view_is
