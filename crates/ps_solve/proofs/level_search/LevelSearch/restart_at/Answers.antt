use Rattle.std.proofs.Common.{◌∙◌, ◌<◌, None, length, List, ℕ, arith, ap, sym, subst}
use Rattle.ps_rows.specs.Packings.{IsKey, packed_grid}
use Rattle.ps_trial.specs.Desks.{Basis, TrialValue}
use Rattle.ps_solve.specs.Searches.{SearchValue, played_by, script_of}
use Rattle.ps_solve.specs.declared.spot_keys.SpotKey.{SpotKey}
use Rattle.ps_solve.proofs.KeyRooms.{board_key_room}
use Rattle.ps_solve.proofs.Standing.{same_sides, stands_at}
use Rattle.ps_solve.proofs.level_search.LevelSearch.restart_at.Goals as goal

pub unpack-requires : goal.unpack-requires
unpack-requires g c =
    let packed = c.self.inside.keys.packed in (
      omega arith,
      (
        board_key_room _ c.self.invariant.0,
        (
          subst (λ (key : SpotKey g.row.N). IsKey packed key.board.words) (sym c.deref-2.ensures)
              c.self.invariant.1.at.known.0,
          (
            c.restart_key-board.ensures.known,
            (
              c.self.invariant.1.own_grid
                  ∙ ap (λ (key : SpotKey g.row.N). packed_grid packed key.board.words) (sym c.deref-2.ensures),
              c.self.invariant.1.own_table,
            ),
          ),
        ),
      ),
    )

pub go_to-requires-clause-sides : goal.go_to-requires-clause-sides
go_to-requires-clause-sides g c =
    same_sides c.self.inside.keys.packed c.restart_key-board.result.words c.self.inside.at.value.board.words _
    c.deref_mut.result.now.here.board (c.board.ensures.grid ∙ c.unpack.ensures.grid)
    (ap (λ (t : TrialValue). t.here.board) c.deref_mut.ensures.value ∙ c.self.invariant.1.at.board)

pub restart_at-requires-clause-table : goal.restart_at-requires-clause-table
restart_at-requires-clause-table g c =
    c.board-2.ensures.table ∙ c.unpack.ensures.table ∙ c.self.invariant.1.own_table ∙ sym c.self.invariant.1.at.own
    ∙ sym (ap (λ (t : TrialValue). t.basis.table) c.deref_mut.ensures.value)
    ∙ sym (ap (λ (b : Basis). b.table) c.go_to.ensures.basis)
    ∙ sym (ap (λ (t : TrialValue). t.basis.table) c.deref_mut-2.ensures.value)

pub invariant_of-self : goal.invariant_of-self
invariant_of-self g c =
    let below : c.args.number < length c.self.inside.keys.restarts =
    subst (λ (s : SearchValue). c.args.number < length s.keys.restarts) (sym c.self.view_is) c.requires in (
      c.self.invariant.0,
      stands_at c.self.inside.keys c.self.inside.board _ _ c.self.inside.trial.value c.restart_at.new.self
          c.unpack.new.board c.restart_key-board.result.words c.args.number None c.self.invariant.1
          (c.restart_key-board.ensures.known, below)
          (c.restart_at.ensures.basis ∙ ap (λ (t : TrialValue). t.basis) c.deref_mut-2.ensures.value
          ∙ c.go_to.ensures.basis ∙ ap (λ (t : TrialValue). t.basis) c.deref_mut.ensures.value)
          (c.restart_at.ensures.board ∙ ap (λ (t : TrialValue). t.here.board) c.deref_mut-2.ensures.value
          ∙ c.go_to.ensures.board ∙ c.board.ensures.grid)
          (c.restart_at.ensures.restart_board ∙ c.board-2.ensures.grid ∙ c.unpack.ensures.grid
          ∙ ap (λ (words : List ℕ). packed_grid c.self.inside.keys.packed words) c.restart_key-board.ensures.words)
          c.unpack.ensures.grid c.unpack.ensures.table,
    )

pub returns-clause-script : goal.returns-clause-script
returns-clause-script g c =
    ap (λ (b : Basis). script_of b c.self.inside.rules.value.plain c.self.inside.rules.value.late)
    (c.restart_at.ensures.basis ∙ ap (λ (t : TrialValue). t.basis) c.deref_mut-2.ensures.value
    ∙ c.go_to.ensures.basis ∙ ap (λ (t : TrialValue). t.basis) c.deref_mut.ensures.value)
    ∙ ap played_by c.self.view_is
