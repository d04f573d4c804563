use Rattle.std.proofs.Common.{◌≡◌, ◌∙◌, List, ℕ, Some, ap, drop, length, sym}
use Rattle.lizhakoven.specs.HeldSessions.{HeldValue}
use Rattle.lizhakoven.proofs.HeldCalls.{text_told}
use Rattle.lizhakoven.proofs.SeenPlaces.{told_same}
use Rattle.lizhakoven.proofs.sessions.text_in.Goals as goal

pub returns-in-Ok-clause-told : goal.returns-in-Ok-clause-told
returns-in-Ok-clause-told c =
    let left : c.bytes_from-left.result.now ≡ drop c.args.from c.in-Ok.text =
    c.bytes_from-left.ensures ∙ ap (λ (bytes : List ℕ). drop c.args.from bytes) c.bytes.ensures in
    text_told c.args.from c.args.output.now c.write_bytes.new.room c.args.session.now.value
    (length c.bytes_from-left.result.now) c.write_bytes.result c.of_told.result c.of_told.ensures
    (record {
      held = c.deref.result.now;
      is = sym c.in-Some.ensures.taken ∙ ap (λ (held : HeldValue). Some held) (sym c.deref.ensures);
      wrote = c.in-Ok.text;
      text = c.in-Ok.ensures;
      counted = ap (λ (bytes : List ℕ). length bytes) left;
      told = told_same c.bytes_from-left.result.now (drop c.args.from c.in-Ok.text) c.args.output.now
          c.write_bytes.new.room c.write_bytes.result left c.write_bytes.ensures;
    })
