use Rattle.std.proofs.Common.{rules, nat_eq, not}
use Rattle.std.proofs.lemmas.Fn.{filter_same}
use Rattle.source_state.proofs.lists.remove_number.Goals as goal

pub returns-clause-items : goal.returns-clause-items
returns-clause-items c = filter_same _ (λ n. not (nat_eq n c.args.k)) _ (λ n b f' h. search rules) _ _ c.retain.ensures.filtered
