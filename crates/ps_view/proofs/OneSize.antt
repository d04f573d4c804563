-- Pieces before which no other size is told.
use Rattle.std.proofs.Common.{◌≡◌, ◌∙◌, ℕ, ◌==◌, Bool, true, false, List, [], ◌∷◌, ◌++◌, refl, sym, ap}
use Rattle.std.specs.Prelude.{Option, Some, None, IfSome, All, ◌||◌}
use Rattle.ps_view.specs.declared.line_kinds.LineKind.{LineKind}
use Rattle.ps_view.specs.declared.line_kinds.LineKind.TheVariants.{Title, Level, Message, Note, Question, LevelDone}
use Rattle.ps_view.specs.declared.line_kinds.LineKind.TheVariants.{Ending, Empty, Row}
use Rattle.ps_view.specs.declared.sizes.Size.{Size}
use Rattle.ps_view.specs.LineKinds.{kind_of}
use Rattle.ps_view.specs.Views.{View, Step, blank_view, quietly, with_byte, line_told, byte_step, view_behind}
use Rattle.ps_view.specs.Views.{handed_on, is_size, anew, told_step}
use Rattle.ps_view.specs.Pieces.{Piece, handed_on_pieces, output_of, HasSize, OneSizeIsAsTheWhole}
use Rattle.ps_view.proofs.Steps.{handed_on-append}
use Rattle.ps_view.proofs.Such.{first_of, others_of}

-- a line leaves the size
line_keeps_size : (view : View) (kind : LineKind) → (line_told view kind).view.size ≡ view.size
line_keeps_size view Title = refl
line_keeps_size view Level = refl
line_keeps_size view Message = refl
line_keeps_size view Note = refl
line_keeps_size view Question = refl
line_keeps_size view LevelDone = refl
line_keeps_size view Ending = refl
line_keeps_size view Empty = refl
line_keeps_size view Row = refl

-- so does a byte
byte_keeps_size : (view : View) (byte : ℕ) → (byte_step view byte).view.size ≡ view.size
byte_keeps_size view byte =
    let ended : Step = line_told view (kind_of view.line) in
    let gathered : Step = quietly (with_byte view byte) in
    elim view.is_over as (λ over.
    (let step : Step = elim over [
      | true ↦ quietly view
      | false ↦ elim (byte == 10) [
        | true ↦ ended
        | false ↦ gathered
      ]
    ] in step.view.size) ≡ view.size) [
      | true ↦ refl
      | false ↦ elim (byte == 10) as (λ ends.
          (let step : Step = elim ends [ true ↦ ended | false ↦ gathered ] in step.view.size) ≡ view.size) [
            | true ↦ line_keeps_size view (kind_of view.line)
            | false ↦ refl
          ]
    ]

bytes_keep_size : (view : View) (bytes : List ℕ) → (view_behind view bytes).size ≡ view.size
bytes_keep_size view [] = refl
bytes_keep_size view (byte ∷ bytes) =
    bytes_keep_size (byte_step view byte).view bytes ∙ byte_keeps_size view byte

-- the size that a view has already is no news
same_size : (view : View) (told : Option Size) → IfSome told (λ size. is_size view.size size ≡ true) →
    told_step view told ≡ quietly view
same_size view None is = refl
same_size view (Some size) is =
    ap (λ (same : Bool). let step : Step = elim (same || view.is_over) [
      | true ↦ quietly view
      | false ↦ anew view size
    ] in step) is

-- pieces are as the whole behind a view of that size
as_whole : (size : Size) (view : View) (pieces : List Piece) → view.size ≡ size → All (HasSize size) pieces →
    handed_on_pieces view pieces ≡ handed_on view (output_of pieces)
as_whole size view [] e all = refl
as_whole size view (piece ∷ pieces) e all =
    let here : IfSome piece.told (λ told. is_size view.size told ≡ true) = rw e
    (first_of (HasSize size) piece pieces all) in
    let quiet : told_step view piece.told ≡ quietly view = same_size view piece.told here in
    ap (λ (step : Step). (step.bytes ++ handed_on step.view piece.bytes)
    ++ handed_on_pieces (view_behind step.view piece.bytes) pieces) quiet
    ∙ ap (λ (others : List ℕ). handed_on view piece.bytes ++ others)
    (as_whole size (view_behind view piece.bytes) pieces (bytes_keep_size view piece.bytes ∙ e)
    (others_of (HasSize size) piece pieces all))
    ∙ sym (handed_on-append view piece.bytes (output_of pieces))

pub one_size_is_as_the_whole : OneSizeIsAsTheWhole
one_size_is_as_the_whole game size pieces all = as_whole size (blank_view game size) pieces refl all
