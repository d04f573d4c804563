-- The steps of handles and of what they own. Assumes `Logic`.
use Rattle.std.proofs.Common.{◌≡◌, List, [], ◌∷◌, ◌++◌, refl, sym, ◌∙◌, subst}
use mathlib.Core.Bool.{Bool, true, false}
use lib.Dec.{T}
use seplogic.Ra.Ura.{Ura}
use mir.Val.{Val, vstruct, vcons, vnil, vbool, of_list}
use types.Logic.{Logic}
use types.Kit.{Item, Goal, Seq, Step, step, ‵, ◌$◌, move, drop, fsplit, fjoin, fjoin3, fpick, fpack, feq_i}
use types.Kit.{feq_l}
use denote.RattleType.{RattleType, Valss}
use denote.Builtin.{RawPtr, bool}
use denote.RawPtr.{Ptr, ptr_val}
use denote.Steps.{nothing}
use denote.Struct.Struct.{within}
use denote.Struct.Owning.{shape}
use denote.Struct.Tuple.{Tuple}
use Rattle.std.specs.Prelude.{Option, Some, None, is_some}
use Rattle.std.specs.Box.Ownership.{box_owns}
use Rattle.std.specs.contracts.alloc.Global.{the_row as G}
use Rattle.std.specs.contracts.impls.GlobalAllocator.TheImpl.{ghosts}
use Rattle.lizhakoven.specs.contracts.game_handle.GameHandle as of_game
use Rattle.lizhakoven.specs.contracts.handle.SessionHandle as of_session
use Rattle.lizhakoven.specs.contracts.held.HeldSession as session
use Rattle.lizhakoven.specs.contracts.held_game.HeldGame as game
use Rattle.lizhakoven.specs.contracts.boxed.Loose as loose
use Rattle.lizhakoven.specs.Handles.{heap_token, owned_by}
use Rattle.lizhakoven.specs.HeldSessions.{HeldValue}
use Rattle.lizhakoven.specs.OpenGames.{OpenGame}

abbrev pub L : RattleType → RattleType
L R = loose.the_row R G ghosts

abbrev pub both : Val → Val → Val
both v w = vstruct (vcons v (vcons w vnil))

module _ {M : Type 1} {𝓤 : Ura M} {𝓛 : Logic 𝓤} {K : Type 0} {Γ : List (Item 𝓤)} {Go : Goal 𝓤 𝓛.H} where
  -- the handle of a session by value, made of what it owns
  pub session_in : K → (p : Ptr) (b : Bool) (x : Option HeldValue)
      → Step K 𝓛 (‵ (of_session.the_row.own_val (record { at = p; is_open = b; value = x }) (both (ptr_val p)
      (vbool b) ∷ [])) ∷ Γ) Go (‵ (owned_by session.the_row p b x) ∷ Γ) Go
  session_in t p b x = step (λ s. let v : Val = both (ptr_val p) (vbool b) in
      nothing t $ feq_i t (List Val) (vbool b ∷ []) (vbool b ∷ []) refl $ fjoin t $
      feq_i t (List Val) (ptr_val p ∷ []) (ptr_val p ∷ []) refl $ fjoin t $
      feq_i t (List Val) (v ∷ []) (v ∷ []) refl $ fjoin t $
      fpack t (Valss (RawPtr ∷ bool ∷ [])) (within (shape of_session.the_type) (p, (b, tt)) (v ∷ []))
      (ptr_val p ∷ [], (vbool b ∷ [], tt)) $ fjoin t $ s)

  -- and taken apart
  pub session_out : K → (d : of_session.the_row.Denot) (vs : List Val)
      → (vs ≡ both (ptr_val d.at) (vbool d.is_open) ∷ []
      → Seq K 𝓛 (‵ (owned_by session.the_row d.at d.is_open d.value) ∷ Γ) Go)
      → Seq K 𝓛 (‵ (of_session.the_row.own_val d vs) ∷ Γ) Go
  session_out t d vs k =
      fsplit t $ fpick t (λ vss. fsplit t $ feq_l t (λ ev. fsplit t $ feq_l t (λ ep. fsplit t $ feq_l t (λ eb. drop t $
      k (ev ∙ (λ i. vstruct (of_list (ep i ++ (eb i ++ []))) ∷ []))))))

  -- the handle of a game by value, made of what it owns
  pub game_in : K → (p : Ptr) (b : Bool) (x : Option OpenGame)
      → Step K 𝓛 (‵ (of_game.the_row.own_val (record { at = p; is_open = b; value = x }) (both (ptr_val p)
      (vbool b) ∷ [])) ∷ Γ) Go (‵ (owned_by game.the_row p b x) ∷ Γ) Go
  game_in t p b x = step (λ s. let v : Val = both (ptr_val p) (vbool b) in
      nothing t $ feq_i t (List Val) (vbool b ∷ []) (vbool b ∷ []) refl $ fjoin t $
      feq_i t (List Val) (ptr_val p ∷ []) (ptr_val p ∷ []) refl $ fjoin t $
      feq_i t (List Val) (v ∷ []) (v ∷ []) refl $ fjoin t $
      fpack t (Valss (RawPtr ∷ bool ∷ [])) (within (shape of_game.the_type) (p, (b, tt)) (v ∷ []))
      (ptr_val p ∷ [], (vbool b ∷ [], tt)) $ fjoin t $ s)

  -- and taken apart
  pub game_out : K → (d : of_game.the_row.Denot) (vs : List Val)
      → (vs ≡ both (ptr_val d.at) (vbool d.is_open) ∷ []
      → Seq K 𝓛 (‵ (owned_by game.the_row d.at d.is_open d.value) ∷ Γ) Go)
      → Seq K 𝓛 (‵ (of_game.the_row.own_val d vs) ∷ Γ) Go
  game_out t d vs k =
      fsplit t $ fpick t (λ vss. fsplit t $ feq_l t (λ ev. fsplit t $ feq_l t (λ ep. fsplit t $ feq_l t (λ eb. drop t $
      k (ev ∙ (λ i. vstruct (of_list (ep i ++ (eb i ++ []))) ∷ []))))))

  -- what an open handle owns
  pub open_out : K → (R : RattleType) (p : Ptr) (b : Bool) (x : Option R.Denot) → b ≡ true
      → ((y : R.Denot) → x ≡ Some y → Seq K 𝓛 (‵ (box_owns heap_token R p y) ∷ Γ) Go)
      → Seq K 𝓛 (‵ (owned_by R p b x) ∷ Γ) Go
  open_out t R p b None e k = feq_l t (λ e'. absurd (subst T (sym e ∙ e') tt))
  open_out t R p b (Some y) e k = fsplit t $ feq_l t (λ e'. k y refl)

  -- a handle is open where it owns something
  pub open_is : K → (R : RattleType) (p : Ptr) (b : Bool) (x : Option R.Denot)
      → (b ≡ is_some x → Seq K 𝓛 (‵ (owned_by R p b x) ∷ Γ) Go) → Seq K 𝓛 (‵ (owned_by R p b x) ∷ Γ) Go
  open_is t R p b None k = feq_l t (λ e. feq_i t Bool b false e $ k e)
  open_is t R p b (Some y) k = fsplit t $ feq_l t (λ e. feq_i t Bool b true e $ fjoin t $ k e)

  -- a loose box by value, made of what it owns
  pub loose_in_at : K → (R : RattleType) (p : Ptr) (h : Val) (a : G.Denot) (x : R.Denot)
      → Step K 𝓛 (‵ ((L R).own_val (record { at = p; alloc = a; value = x })
      (both (ptr_val p) h ∷ [])) ∷ Γ) Go (‵ (box_owns heap_token R p x) ∷ ‵ (G.own_val a (h ∷ [])) ∷ Γ) Go
  loose_in_at t R p h a x = step (λ s. let v : Val = both (ptr_val p) h in
      nothing t $ move t (2 ∷ 0 ∷ []) $ fjoin t $ feq_i t (List Val) (ptr_val p ∷ []) (ptr_val p ∷ []) refl $
      fjoin t $ feq_i t (List Val) (v ∷ []) (v ∷ []) refl $ fjoin t $
      fpack t (Valss (RawPtr ∷ G ∷ [])) (within (shape (loose.the_type R G ghosts)) (p, (a, tt)) (v ∷ []))
      (ptr_val p ∷ [], (h ∷ [], tt)) $ fjoin t $ s)

  -- a pair by value
  pub pair_in : K → (P Q : RattleType) (x : P.Denot) (y : Q.Denot) (v w : Val)
      → Step K 𝓛 (‵ ((Tuple (P ∷ Q ∷ [])).own_val (x, y)
      (both v w ∷ [])) ∷ Γ) Go (‵ (P.own_val x (v ∷ [])) ∷ ‵ (Q.own_val y (w ∷ [])) ∷ Γ) Go
  pair_in t P Q x y v w = step (λ s. nothing t $ move t (1 ∷ 2 ∷ 0 ∷ []) $ fjoin3 t $
      feq_i t (List Val) (both v w ∷ []) (both v w ∷ []) refl $ fjoin t $
      fpack t (Valss (P ∷ Q ∷ [])) (within (record { name = []; args = []; types = []; fields = P ∷ Q ∷ [] })
      (x, (y, tt)) (both v w ∷ [])) (v ∷ [], (w ∷ [], tt)) $ s)
