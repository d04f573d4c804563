use Rattle.std.proofs.Common.{◌≡◌, rules}
use Rattle.ps_facts.specs.Declarations.{IsDeclaredAt}
use Rattle.ps_causes.proofs.DeclaredNames.{declared-among}
use Rattle.ps_causes.proofs.object_causes.row_name.Goals as goal

pub returns : goal.returns
returns c text names stands =
    let name : c.in-Some._named.name.now ≡ c.args.word.text.now = search rules in
    let there : IsDeclaredAt text c.in-Some._named.line c.in-Some._named.name.now =
    declared-among text c.args.names.now c.in-Some._named names c.in-Some.ensures.among in
    (stands, rw (← c.in-Some.ensures.line, ← name) there)
