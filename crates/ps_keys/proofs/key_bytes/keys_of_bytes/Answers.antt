use Rattle.ps_keys.proofs.KeyBytes.{read_one_more}
use Rattle.ps_keys.proofs.key_bytes.keys_of_bytes.Goals as goal

pub loop-byte-preserved : goal.loop-byte-preserved
loop-byte-preserved c =
    read_one_more c.args.bytes.now c.loop-byte.byte-index c.loop-byte.reader c.next-key.new.self c.loop-byte.keys.items
    c.push_some.new.keys.items c.next-key.result c.loop-byte-test.true c.next-key.ensures.key c.next-key.ensures.held
    c.in_ok-push_some.ensures c.loop-byte.invariant
