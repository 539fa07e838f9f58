use Rattle.std.proofs.Common.{◌≡◌, ◌∷◌, []}
use Rattle.mse_commands.proofs.PutTexts.{IsPut}
use Rattle.mse_commands.proofs.remuxing.put_pieces.Given as goal

abbrev pub invariant-loop-i : goal.invariant-loop-i
invariant-loop-i g l = record {
  put : IsPut (λ piece. piece ∷ []) l.file l.i (g.K.Sink.written l.fn.sink) (g.K.Sink.written l.sink);
  same_faults : g.K.Sink.faults l.sink ≡ g.K.Sink.faults l.fn.sink;
}
