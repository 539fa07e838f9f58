use Rattle.std.proofs.Common.{take, drop, sym, arith}
use Rattle.std.proofs.lemmas.Grind.{common_steps}
use Rattle.std.proofs.lemmas.List.{take-append-drop}
use Rattle.mse_outside.proofs.memory_sink.MemorySinkSink.put.Goals as goal

-- the bytes are what was appended, and the rest
pub returns-in-Ok-clause-told : goal.returns-in-Ok-clause-told
returns-in-Ok-clause-told c =
    let count = c.in-Some.count in
    let bytes = c.args.bytes.now in
    record {
      appended = (take count bytes, drop count bytes, sym (take-append-drop count bytes), grind (arith, common_steps));
      listed = grind (arith, common_steps);
    }
