use Rattle.std.proofs.Common.{◌≡◌, ◌∙◌, ℕ, arith, ap, sym, subst}
use Rattle.ps_rows.specs.Packings.{IsKey, packed_grid}
use Rattle.ps_trial.specs.Desks.{Basis, TrialValue}
use Rattle.ps_solve.specs.Searches.{SearchValue, played_by, script_of}
use Rattle.ps_solve.specs.SpotKeys.{IsSpotKey, restart_grid}
use Rattle.ps_solve.specs.declared.spot_keys.SpotKey.{SpotKey}
use Rattle.ps_solve.proofs.KeyRooms.{board_key_room}
use Rattle.ps_solve.proofs.Standing.{same_sides, stands_at}
use Rattle.ps_solve.proofs.level_search.LevelSearch.go_to.Goals as goal

pub unpack-requires : goal.unpack-requires
unpack-requires g c =
    let packed = c.self.inside.keys.packed in
    let known : IsSpotKey c.self.inside.keys c.args.key.now.board.words c.args.key.now.restart =
    subst (λ (s : SearchValue). IsSpotKey s.keys c.args.key.now.board.words c.args.key.now.restart) (sym c.self.view_is)
    c.requires.known in (
      omega arith,
      (
        board_key_room _ c.self.invariant.0,
        (
          subst (λ (key : SpotKey g.row.N). IsKey packed key.board.words) (sym c.deref.ensures)
              c.self.invariant.1.at.known.0,
          (
            known.0,
            (
              c.self.invariant.1.own_grid
                  ∙ ap (λ (key : SpotKey g.row.N). packed_grid packed key.board.words) (sym c.deref.ensures),
              c.self.invariant.1.own_table,
            ),
          ),
        ),
      ),
    )

pub go_to-requires-clause-sides : goal.go_to-requires-clause-sides
go_to-requires-clause-sides g c =
    same_sides c.self.inside.keys.packed c.args.key.now.board.words c.self.inside.at.value.board.words _
    c.deref_mut.result.now.here.board (c.board.ensures.grid ∙ c.unpack.ensures.grid)
    (ap (λ (t : TrialValue). t.here.board) c.deref_mut.ensures.value ∙ c.self.invariant.1.at.board)

pub invariant_of-self : goal.invariant_of-self
invariant_of-self g c =
    let known : IsSpotKey c.self.inside.keys c.args.key.now.board.words c.args.key.now.restart =
    subst (λ (s : SearchValue). IsSpotKey s.keys c.args.key.now.board.words c.args.key.now.restart) (sym c.self.view_is)
    c.requires.known in
    let same : c.self.inside.at.value.restart ≡ c.args.key.now.restart =
    ap (λ (s : SearchValue). s.at.restart) c.self.view_is ∙ c.requires.restart in (
      c.self.invariant.0,
      stands_at c.self.inside.keys c.self.inside.board _ _ c.self.inside.trial.value c.go_to.new.self c.unpack.new.board
          c.args.key.now.board.words c.args.key.now.restart c.args.key.now.waits c.self.invariant.1 known
          (c.go_to.ensures.basis ∙ ap (λ (t : TrialValue). t.basis) c.deref_mut.ensures.value)
          (c.go_to.ensures.board ∙ c.board.ensures.grid)
          (c.go_to.ensures.restart_board ∙ ap (λ (t : TrialValue). t.here.restart_board) c.deref_mut.ensures.value
          ∙ c.self.invariant.1.at.restart_board
          ∙ ap (λ (number : ℕ). restart_grid c.self.inside.keys number) same)
          c.unpack.ensures.grid c.unpack.ensures.table,
    )

pub returns-clause-script : goal.returns-clause-script
returns-clause-script g c =
    ap (λ (b : Basis). script_of b c.self.inside.rules.value.plain c.self.inside.rules.value.late)
    (c.go_to.ensures.basis ∙ ap (λ (t : TrialValue). t.basis) c.deref_mut.ensures.value)
    ∙ ap played_by c.self.view_is
