use Rattle.std.proofs.Common.{arith}
use Rattle.input_chunks.proofs.Kept.{bytes-apart, with-joined}
use Rattle.input_chunks.proofs.chunks.extend_last.Goals as goal

pub returns-then-len-bytes-gt-LONGEST-clause-apart : goal.returns-then-len-bytes-gt-LONGEST-clause-apart
returns-then-len-bytes-gt-LONGEST-clause-apart c = λ _. bytes-apart c.args.bytes.now c.in-Some.last c.pop_back.new.self.items c.args.entries.now.items c.in-Some.ensures.items (omega (arith, c.len.ensures))

pub returns-clause-joined : goal.returns-clause-joined
returns-clause-joined c = λ _. with-joined c.args.bytes.now c.args.end c.in-Some.last c.extend-extension.new.self c.pop_back.new.self.items c.args.entries.now.items _ c.in-Some.ensures.items (omega (arith, c.len.ensures)) c.in_ok-extension.ensures.piece c.in_ok-extension.ensures.end c.push_back_reserved-2.ensures.items
