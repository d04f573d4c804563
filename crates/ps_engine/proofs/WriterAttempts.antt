-- What an attempt of a rule with a writer comes to.
use Rattle.std.proofs.Common.{◌≡◌, ◌≢◌, ◌∙◌, ℕ, ◌+◌, ◌<◌, Bool, true, false, Option, Some, List, [], ◌∷◌, length, map}
use Rattle.std.proofs.Common.{fold, sym, subst, ap, ap₂, arith}
use Rattle.std.specs.Prelude.{All, slice_get, slice_index_or, take, drop}
use Rattle.std.proofs.lemmas.List.Elements.{All-get_or, All-head}
use Rattle.std.proofs.lemmas.Option.{slice_get_within}
use Rattle.ps_model.specs.board.Grid.{Grid, IsGrid}
use Rattle.ps_model.specs.board.Places.{places}
use Rattle.ps_model.specs.board.Attempts.{applied, combinations, combinations_on}
use Rattle.ps_model.specs.meaning.RuleMeanings.{CellMeaning}
use Rattle.ps_board.specs.ColumnSets.{set_columns}
use Rattle.ps_match.specs.Together.{rewritten_where}
use Rattle.ps_match.proofs.RowWritten.{told}
use Rattle.ps_program.specs.Axes.{LiesAlong, direction_of}
use Rattle.ps_laws.specs.WholeRows.{HasCells}
use Rattle.ps_program.specs.Writers.{cell_writes_alone, parts_writer, rows_writer}
use Rattle.ps_program.specs.declared.cells.CompiledCell.{CompiledCell}
use Rattle.ps_program.specs.declared.rows.Axis.{Axis}
use Rattle.ps_program.specs.declared.rows.CompiledRow.{CompiledRow}
use Rattle.ps_program.specs.declared.rules.CompiledRule.{CompiledRule}
use Rattle.ps_program.specs.declared.writers.Writer.{Writer}
use Rattle.ps_places.specs.FoundStarts.{part_of}
use Rattle.ps_places.specs.Lines.{cell_meaning}
use Rattle.ps_places.specs.PartTargets.{AreTargets, other_part, own_part}
use Rattle.ps_places.specs.RowPlaces.{parts_meaning}
use Rattle.ps_engine.specs.Choosing.{rows_meaning}
use Rattle.ps_engine.specs.RulesInRoom.{rule_meaning}
use Rattle.ps_engine.specs.Writing.{AreWithin, is_written}
use Rattle.ps_engine.proofs.WriterPlaces.{HasWriter, nothing_found, places_written, row_known, rows_within}
use Rattle.ps_engine.proofs.WriterPlaces.{something_found, writer_known}

module _ (g : Grid) (table : Option (List ℕ)) (rule : CompiledRule) (writer : Writer) (row : CompiledRow)
    (cell : CompiledCell) (grid : IsGrid g)
    (writes : rule.writer ≡ Some writer) (row_is : row ≡ slice_index_or rule.rows 0 row)
    (cell_is : slice_get (own_part writer.leads (part_of row.parts 0) (part_of row.parts 1)) writer.cell ≡ Some cell)
    (rows : List Bool) (starts : List (List Bool))
    (targets : AreTargets g table row.axis writer.leads (part_of row.parts 0) (part_of row.parts 1) rows starts) where
  abbrev first : List CompiledCell
  first = part_of row.parts 0

  abbrev second : List CompiledCell
  second = part_of row.parts 1

  abbrev own : List CompiledCell
  own = own_part writer.leads first second

  abbrev meant : List (List CellMeaning)
  meant = parts_meaning table (first ∷ second ∷ [])

  known : (rule.rows ≡ row ∷ []) × (parts_writer row.parts writer ≡ true)
  known = row_known rule.rows writer row (ap (rows_writer rule.rows) (sym writes) ∙ rule.alone) row_is

  has : HasWriter row.parts writer
  has = writer_known row.parts writer known.1

  two : length row.parts ≡ 2
  two = ap length has.two

  some : 0 < length first
  some = All-get_or HasCells row.parts 0 [] (omega (arith, two)) row.whole

  more : 0 < length second
  more = All-get_or HasCells row.parts 1 [] (omega (arith, two)) row.whole

  axis_is : row.axis ≡ rule.axis
  axis_is = All-head (LiesAlong rule.axis) row [] (subst (λ (rs : List CompiledRow). All
      (LiesAlong rule.axis) rs) known.0 rule.along)

  pub meant_is : rows_meaning table rule.rows ≡ meant ∷ []
  meant_is =
      ap (rows_meaning table) known.0
      ∙ ap (λ (parts : List (List CompiledCell)). parts_meaning table parts ∷ []) has.two

  pub all_is : combinations_on g (rule_meaning table rule) ≡ combinations (places g (direction_of row.axis) meant ∷ [])
  all_is =
      ap₂ (λ (axis : Axis) (rs : List (List (List CellMeaning))). combinations (map (places g
      (direction_of axis)) rs)) (sym axis_is) meant_is

  alone_is : cell_writes_alone (Some cell) (take writer.cell own) (drop (writer.cell + 1) own)
      (other_part writer.leads first second) ≡ true
  alone_is =
      ap (λ (found : Option CompiledCell). cell_writes_alone found (take writer.cell own) (drop
      (writer.cell + 1) own) (other_part writer.leads first second))
      (sym cell_is) ∙ has.alone

  pub inside : AreWithin row.axis g.height writer.cell rows
  inside =
      rows_within g table row.axis writer.leads first second writer.cell rows starts targets
      (slice_get_within own writer.cell cell cell_is)

  pub none_here : set_columns rows ≡ [] → combinations_on g (rule_meaning table rule) ≡ []
  none_here none =
      all_is
      ∙ nothing_found g table row.axis first second writer.leads writer.cell cell grid some more cell_is alone_is
      rows starts targets none

  pub some_here : 0 < length (set_columns rows) → combinations_on g (rule_meaning table rule) ≢ []
  some_here found =
      subst (λ (all : List (List (List ℕ))). all ≢ []) (sym all_is)
      (something_found g table row.axis first second writer.leads writer.cell cell grid some more cell_is alone_is
      rows starts targets found)

  pub written_here : rewritten_where g (cell_meaning table cell).rewritten
      (is_written row.axis g.height writer.cell rows starts)
      ≡ fold (applied (rows_meaning table rule.rows)) (told g false) (combinations_on g (rule_meaning table rule))
  written_here =
      sym (ap₂ (λ (rs : List (List (List CellMeaning))) (all : List (List (List ℕ))). fold (applied rs)
      (told g false) all) meant_is all_is
      ∙ places_written g table row.axis first second writer.leads writer.cell cell grid some more cell_is alone_is
      rows starts targets)
