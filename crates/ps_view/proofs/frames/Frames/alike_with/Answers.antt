use Rattle.std.proofs.Common.{◌∙◌, sym, ap, arith}
use Rattle.std.specs.Str.{bytes_eq}
use Rattle.ps_view.specs.Frames.{Frames}
use Rattle.ps_view.specs.declared.frame_rows.FrameRow.{FrameRow}
use Rattle.ps_view.proofs.KeptFrames.{kept_differs, kept_like, kept_past, kept_stays}
use Rattle.ps_view.proofs.frames.Frames.alike_with.Goals as goal

pub returns-then-self-len : goal.returns-then-self-len
returns-then-self-len c =
    kept_stays c.args.self.now c.self.inside.last.items c.self.inside.begun.items c.self.inside.alike c.args.row.now.text
    (ap (λ (frames : Frames). frames.last) c.self.view_is) (ap (λ (frames : Frames). frames.begun) c.self.view_is)
    c.self.invariant.same (omega (arith, c.if-self-len.true, c.len.ensures))

pub returns-then-len-self : goal.returns-then-len-self
returns-then-len-self c =
    kept_past c.args.self.now c.self.inside.last.items c.self.inside.begun.items c.self.inside.alike c.args.row.now.text
    (ap (λ (frames : Frames). frames.last) c.self.view_is) (ap (λ (frames : Frames). frames.begun) c.self.view_is)
    c.self.invariant.same (omega (arith, c.if-self-len.false, c.len.ensures))
    (omega (arith, c.if-len-self.true, c.len-2.ensures))

pub returns-then-is_like : goal.returns-then-is_like
returns-then-is_like c =
    kept_like c.args.self.now c.self.inside.last.items c.self.inside.begun.items c.self.inside.alike c.index.result.now
    c.args.row.now.text (ap (λ (frames : Frames). frames.last) c.self.view_is)
    (ap (λ (frames : Frames). frames.begun) c.self.view_is) c.self.invariant.same
    (omega (arith, c.if-self-len.false, c.len.ensures)) (omega (arith, c.if-len-self.false, c.len-2.ensures))
    c.index.ensures
    (sym (c.is_like.ensures ∙ ap (λ (r : FrameRow). bytes_eq r.text c.args.row.now.text) c.deref.ensures)
    ∙ c.if-is_like.true)

pub returns : goal.returns
returns c =
    kept_differs c.args.self.now c.self.inside.last.items c.self.inside.begun.items c.self.inside.alike c.index.result.now
    c.args.row.now.text (ap (λ (frames : Frames). frames.last) c.self.view_is)
    (ap (λ (frames : Frames). frames.begun) c.self.view_is) c.self.invariant.same
    (omega (arith, c.if-self-len.false, c.len.ensures)) (omega (arith, c.if-len-self.false, c.len-2.ensures))
    c.index.ensures
    (sym (c.is_like.ensures ∙ ap (λ (r : FrameRow). bytes_eq r.text c.args.row.now.text) c.deref.ensures)
    ∙ c.if-is_like.false)
