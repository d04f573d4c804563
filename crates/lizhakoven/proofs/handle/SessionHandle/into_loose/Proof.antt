-- `into_loose` takes an open handle as the box that it is.
use Rattle.std.proofs.Common.{◌≡◌, List, [], ◌∷◌, ◌++◌, refl, sym, subst}
use mathlib.Core.Bool.{true}
use mir.Syntax.{ty_ptr}
use mir.Val.{Val, vbool, has_ty}
use base.Logic.{SProp, ent, id⊢}
use base.Fml.{ftrue}
use prog.Wp.{WpFn}
use types.Kit.{‵, raw, ◌⊛◌, ◌$◌, ◌∵◌, !, qed, done, move, keep, drop, split, join, fjoin, suffices}
use types.Run.{stop, fld, of_opd, no_more, and_then, returns, enter}
use types.ByLocal.{alloc_all, pass_all, free_all, look_at, get, get_in, sets}
use types.Part.{agg, sub, whole}
use contract.Monad.{fact}
use contract.Running.{tables}
use denote.Exit.{yes}
use denote.Laws.{Typed}
use denote.Param.{layout}
use denote.RawPtr.{ptr_val, rawptr_Lawful}
use denote.Signature.{plain}
use denote.Steps.{nothing, heard}
use denote.Triple.Walked.{says, Stays, stay_dropped, walk_of, ends_at}
use Rattle.core.proofs.alloc.Calls.{Goes-blank, handle_tells}
use Rattle.std.proofs.raw_atomic.Walks.{proved_at}
use Rattle.std.proofs.alloc.Global.TheLaws.{the_row_laws as GL}
use Rattle.std.specs.contracts.alloc.Global.{the_row as G}
use Rattle.std.specs.contracts.impls.GlobalAllocator.TheImpl.{ghosts}
use Rattle.lizhakoven.specs.contracts.held.HeldSession.{the_row as I}
use Rattle.lizhakoven.specs.contracts.handle.SessionHandle.{the_row as R}
use Rattle.lizhakoven.proofs.handle.SessionHandle.TheLaws.{the_field_loose}
use Rattle.lizhakoven.proofs.Boxes.{al, both_tt}
use Rattle.lizhakoven.proofs.Handles.{both, session_out, open_out, loose_in_at}
use Rattle.lizhakoven.specs.contracts.handle.SessionHandle.into_loose as f
use Rattle.lizhakoven.proofs.handle.SessionHandle.into_loose.Statement.{statement}
use Rattle.lizhakoven.proofs.handle.SessionHandle.into_loose.Code as code

abbrev stayed : Stays f.ended.signature.params f.ended.kept
stayed = (stay_dropped (plain (λ _. R)) yes, (stay_dropped (plain (λ _. G)) yes, tt))

pub into_loose_spec : {M : Type 1} → statement M
into_loose_spec 𝓤 𝓛 𝓜 𝓡 wired =
    let c = f.clauses 𝓛 𝓜.mem 𝓡.returns in let 𝓣 = tables 𝓤 𝓛.H 𝓜 𝓡 𝓡.env in
    proved_at 𝓛 f.ended stayed c 𝓜 𝓡 (
      Goes-blank 𝓛 0 (plain (λ _. R)) yes (λ κs x e. tt),
      (Goes-blank 𝓛 0 (plain (λ _. G)) yes (λ κs x e. tt), tt),
    )
    f.Key.name code.function (code.unfolded 𝓤 𝓛.H 𝓜 𝓡 wired) (λ z are.
    let d = z.0.3.0 in let a = z.0.3.1.0 in let us = z.0.4.0 in let vs = z.0.4.1.0 in
    let Post : Val → SProp 𝓤 = (walk_of 𝓛 f.ended stayed c).post z in
    let Run : List Val → SProp 𝓤 = λ ws. WpFn 𝓤 𝓛.H 𝓣.C 𝓣.Λ code.function ws Post in
    let at = ((rawptr_Lawful 𝓛).typed d.at (ptr_val d.at ∷ []) refl).0 in
    let w = both (ptr_val d.at) (vbool d.is_open) in
    qed 𝓛 ((‵ ftrue ⊛ ‵ (R.own_val d us) ⊛ ‵ (G.own_val a vs) ⊛ ‵ ftrue) ∷ raw (fact 𝓤 (d.is_open ≡ true)) ∷ []) ∵
    move ! (1 ∷ []) $ heard ! (d.is_open ≡ true) (λ opened. split ! $ drop ! $ split ! $ move ! (1 ∷ []) $ split ! $
    keep ! (0 ∷ 2 ∷ []) $
    handle_tells (al I G GL ghosts) ! a vs (λ h ea fits. move ! (1 ∷ []) $ session_out ! d us (λ eu.
    open_out ! I d.at d.is_open d.value opened (λ y is.
    let good = (subst (λ (ws : List Val). Typed R.mir ws) eu ((the_field_loose.lawful 𝓛).typed d us are.0)).0 in
    suffices ! (Run (w ∷ h ∷ [])) (subst (λ (ws : List Val). ent 𝓤 (Run (w ∷ h ∷ [])) (Run ws))
    (sym (λ i. eu i ++ (ea i ++ []))) (id⊢ 𝓤 (Run (w ∷ h ∷ [])))) $
    enter ! 𝓣.C 𝓣.Λ code.function (w ∷ h ∷ []) Post $ alloc_all ! (λ l. pass_all ! refl (good, (fits, tt)) $
    sets ! (of_opd ! (get_in ! (fld ! refl (stop !)) (sub ! 0 refl (whole !)))) refl at $
    sets ! (of_opd ! (get ! refl)) refl at $
    sets ! (agg ! (and_then ! (get ! refl) (and_then ! (get ! refl)
    (no_more !)))) refl (
      both_tt (has_ty ty_ptr (ptr_val d.at))
          (has_ty (layout G) h) at.0 fits.0,
      (at.1, (fits.1, tt)),
    ) $
    returns ! (look_at ! 0 refl) $ free_all ! refl $ loose_in_at ! I d.at h a y $
    suffices ! _ (ends_at 𝓛 f.ended stayed c z (both (ptr_val d.at) h) (record { at = d.at; alloc = a; value = y })
    (tt, (tt, tt)) (tt, (tt, tt))) $ says ! (sym is) $
    nothing ! $ nothing ! $ fjoin ! $ nothing ! $ fjoin ! $ join ! $ nothing ! $ join ! $ done !))))))
