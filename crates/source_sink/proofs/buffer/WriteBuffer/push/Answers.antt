use Rattle.source_sink.proofs.Delivering.{OnOk-written, OnErr-written}
use Rattle.source_sink.proofs.buffer.WriteBuffer.push.Goals as goal

pub returns-then-bytes-gt-BUFFER_SIZE-clause-ok : goal.returns-then-bytes-gt-BUFFER_SIZE-clause-ok
returns-then-bytes-gt-BUFFER_SIZE-clause-ok g c = λ start text before.
    OnOk-written start _ _ _ text c.args.bytes.now c.write_all.result (c.in_ok-make_room.ensures.empty c.if-bytes-gt-BUFFER_SIZE.true) c.write_all.ensures.wrote
    (c.in_ok-make_room.ensures.delivered start text before)

pub returns-then-bytes-gt-BUFFER_SIZE-clause-err : goal.returns-then-bytes-gt-BUFFER_SIZE-clause-err
returns-then-bytes-gt-BUFFER_SIZE-clause-err g c = λ start text before.
    OnErr-written start _ _ _ text c.args.bytes.now c.write_all.result (c.in_ok-make_room.ensures.empty c.if-bytes-gt-BUFFER_SIZE.true) c.write_all.ensures.wrote
    (c.in_ok-make_room.ensures.delivered start text before)
