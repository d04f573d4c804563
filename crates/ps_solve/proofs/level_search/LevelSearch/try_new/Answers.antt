use Rattle.std.proofs.Common.{◌∙◌, arith, sym, subst}
use Rattle.ps_trial.specs.Desks.{TrialValue}
use Rattle.ps_solve.specs.Searches.{IsStanding, KeyParts, key_parts}
use Rattle.ps_solve.specs.declared.spot_keys.SpotKey.{SpotKey}
use Rattle.ps_solve.proofs.KeyRooms.{spot_key_room}
use Rattle.ps_solve.proofs.Standing.{same_script}
use Rattle.ps_solve.proofs.level_search.LevelSearch.try_new.Goals as goal

pub pack_start-requires : goal.pack_start-requires
pack_start-requires g c = (
  omega arith,
  (
    spot_key_room _ c.requires.narrow,
    (
      sym c.here.ensures.grid ∙ sym c.in_ok-keys.ensures.start,
      (c.in_ok-keys.ensures.known, sym c.here.ensures.table ∙ sym c.in_ok-keys.ensures.table),
    ),
  ),
)

pub invariant_of-result : goal.invariant_of-result
invariant_of-result g c =
    let at = c.in_ok-key.ensures.at in
    let keys = c.pack_start.new.self in
    let board = c.in-Ok-copy_of.board in
    let parts : SpotKey g.row.N → KeyParts = λ key. key_parts key.board.words key.restart key.waits in
    let key : SpotKey g.row.N = c.in_ok-key.key in
    let begun : IsStanding keys c.args.trial board (parts key) (parts key) = record {
      at = at;
      start = at.known;
      own_grid = c.in-Ok-copy_of.ensures.grid ∙ c.here-2.ensures.grid ∙ at.board;
      own_table = c.in-Ok-copy_of.ensures.table ∙ c.here-2.ensures.table ∙ at.own;
    } in
    let trial : TrialValue = c.in-Ok-new-2.trial.value in
    let stands : IsStanding keys trial board (parts key) (parts key) =
    subst (λ (own : TrialValue). IsStanding keys own board (parts key) (parts key)) (sym c.in-Ok-new-2.ensures.ok)
    begun in (
      c.requires.narrow,
      subst (λ (one : SpotKey g.row.N). IsStanding keys trial board (parts one) (parts c.in-Ok-new.at.value))
          (sym c.in-Ok.ensures.ok)
          (subst (λ (other : SpotKey g.row.N). IsStanding keys trial board (parts key) (parts other))
          (sym c.in-Ok-new.ensures.ok) stands),
    )

pub returns-clause-script : goal.returns-clause-script
returns-clause-script g c =
    same_script c.in-Ok-new-2.trial.value c.args.trial c.in-Ok-new-3.rules.value c.args.rules c.in-Ok-new-2.ensures.ok
    c.in-Ok-new-3.ensures.ok
