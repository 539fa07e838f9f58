use Rattle.std.proofs.Common.{vec_len}
use Rattle.rule_run.specs.ByRules.{library_and_sink}
use Rattle.rule_run.proofs.RuleListeners.{ends_by_rules, told_of_rules}
use Rattle.rule_run.proofs.by_rules.run_with.Goals as goal

pub returns : goal.returns
returns g c = record {
  program = told_of_rules _ c.args.count _ _ c.requires.by_rules c.run.ensures.program;
  ends = (
    c.run.ensures.ends.0,
    c.run.ensures.ends.1,
    ends_by_rules (λ b. (goal.Listener-dyn g (b.vtable, b.value)).way b.value) (λ b. (goal.Listener-dyn g (b.vtable, b.value)).rules b.value) (λ b. (goal.Listener-dyn g (b.vtable, b.value)).notes b.value)
        c.args.count c.args.listeners.now.items c.run.new.listeners.items (vec_len c.args.listeners.now) _ _ _
        (library_and_sink g.L.Library.faults g.K.Sink.written g.K.Sink.faults c.args.library.now c.args.sink.now)
        (library_and_sink g.L.Library.faults g.K.Sink.written g.K.Sink.faults c.run.new.library c.run.new.sink) _
        c.requires.count c.requires.by_rules c.requires.no_rules c.requires.no_notes
        c.run.ensures.ways c.run.ensures.by_way c.run.ensures.ends.2,
  );
  no_command = c.run.ensures.words;
  read = c.run.ensures.read;
  write = c.run.ensures.write;
  failed_loads_told = c.run.ensures.failed_loads_told;
  failed_puts_told = c.run.ensures.failed_puts_told;
  failed_load = c.run.ensures.failed_load;
}
