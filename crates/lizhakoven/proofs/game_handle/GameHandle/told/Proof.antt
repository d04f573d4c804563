-- `told` takes a handle apart, and makes it again.
use Rattle.std.proofs.Common.{List, [], ◌∷◌, refl}
use mathlib.Core.Bool.{true}
use mir.Val.{Val, vbool, has_ty}
use base.Fml.{ftrue}
use types.Kit.{‵, ◌⊛◌, ◌$◌, ◌∵◌, !, qed, done, move, keep, drop, split, join, fjoin, feq_i, suffices}
use types.Run.{stop, fld, of_opd, no_more, and_then, returns, enter}
use types.ByLocal.{alloc_all, pass_all, free_all, look_at, get, get_in, sets}
use types.Part.{agg, sub, whole}
use denote.Exit.{yes}
use denote.Builtin.{bool}
use denote.Param.{layout}
use denote.Plain.{bool_Lawful}
use denote.RawPtr.{ptr_val, rawptr_Lawful}
use denote.Signature.{plain}
use denote.Steps.{nothing}
use denote.Triple.Walked.{Stays, stay_dropped, ends_at}
use Rattle.core.proofs.alloc.Calls.{Goes-blank}
use Rattle.core.proofs.mem.Facts.{says_two}
use Rattle.std.proofs.raw_atomic.Walks.{proved}
use Rattle.lizhakoven.specs.contracts.held_game.HeldGame.{the_row as I}
use Rattle.lizhakoven.specs.contracts.game_handle.GameHandle.{the_row as R}
use Rattle.lizhakoven.proofs.game_handle.GameHandle.TheLaws.{lowered, lowers, the_field_loose}
use Rattle.lizhakoven.proofs.Boxes.{both_tt}
use Rattle.lizhakoven.proofs.Handles.{both, game_in, game_out, open_is, pair_in}
use Rattle.lizhakoven.specs.contracts.game_handle.GameHandle.told as f
use Rattle.lizhakoven.proofs.game_handle.GameHandle.told.Statement.{statement}
use Rattle.lizhakoven.proofs.game_handle.GameHandle.told.Code as code

abbrev stayed : Stays f.ended.signature.params f.ended.kept
stayed = (stay_dropped (plain (λ _. R)) yes, tt)

pub told_spec : {M : Type 1} → statement M
told_spec 𝓤 𝓛 𝓜 𝓡 wired =
    let c = f.clauses 𝓛 𝓜.mem 𝓡.returns in
    proved 𝓛 f.ended stayed c 𝓜 𝓡 (Goes-blank 𝓛 0 (plain (λ _. R)) yes (λ κs x e. tt), tt)
    f.Key.name code.function (code.unfolded 𝓤 𝓛.H 𝓜 𝓡 wired)
    (λ κs. ((λ d. lowered d ∷ []), tt)) (λ κs. (lowers.val_is, tt)) (λ κs qs bounds a _ are.
    let d = a.0 in let w = lowered d in
    let good = ((the_field_loose.lawful 𝓛).typed d (w ∷ []) are.0).0 in
    let at = ((rawptr_Lawful 𝓛).typed d.at (ptr_val d.at ∷ []) refl).0 in
    let is = ((bool_Lawful 𝓛).typed d.is_open (vbool d.is_open ∷ []) refl).0 in
    qed 𝓛 ((‵ ftrue ⊛ ‵ (R.own_val d (w ∷ [])) ⊛ ‵ ftrue) ∷ ‵ ftrue ∷ []) ∵ split ! $ drop ! $ split ! $
    keep ! (0 ∷ []) $
    game_out ! d (w ∷ []) (λ same. open_is ! I d.at d.is_open d.value (λ told. game_in ! d.at d.is_open d.value $
    enter ! _ _ _ _ _ $ alloc_all ! (λ l. pass_all ! refl (good, tt) $
    sets ! (of_opd ! (get_in ! (fld ! refl (stop !)) (sub ! 0 refl (whole !)))) refl at $
    sets ! (of_opd ! (get_in ! (fld ! refl (stop !)) (sub ! 1 refl (whole !)))) refl is $
    sets ! (agg ! (and_then ! (get ! refl) (and_then ! (get ! refl) (no_more !)))) refl good $
    sets ! (agg ! (and_then ! (get ! refl) (and_then ! (get ! refl)
    (no_more !)))) refl (both_tt (has_ty (layout R) w) true good.0 tt, (good.1, (is.1, tt))) $
    returns ! (look_at ! 0 refl) $ free_all ! refl $
    feq_i ! (List Val) (vbool d.is_open ∷ []) (vbool d.is_open ∷ []) refl $ move ! (1 ∷ []) $
    pair_in ! R bool d d.is_open w (vbool d.is_open) $
    suffices ! _ (ends_at 𝓛 f.ended stayed c ((κs, qs, bounds, a, ((w ∷ []), tt)), tt) (both w (vbool d.is_open))
    (d, d.is_open) (tt, tt) (tt, tt)) $ says_two ! (refl, (refl, told)) $
    nothing ! $ nothing ! $ fjoin ! $ join ! $ nothing ! $ join ! $ done !))))
