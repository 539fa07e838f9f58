use Rattle.std.proofs.Common.{rules, of_calls, leb, false, length, arith, subst, refl, ℕ, ◌≡◌, ◌≤◌, ◌<◌, get_or}
use Rattle.std.proofs.lemmas.Fn.{always_returns_same}
use Rattle.std.proofs.lemmas.List.Sorted.{IsPartitionedBy-leb}
use Rattle.track_index.proofs.SyncSerials.{not_falling, none_up_to, last_at}
use Rattle.track_index.proofs.syncs.last_up_to.Goals as goal

pub returns-then-count-eq0 : goal.returns-then-count-eq0
returns-then-count-eq0 c =
    let ns = c.args.syncs.now in
    let p = c.partition_point-count.ensures.partitioned (λ n. leb n c.args.serial) (always_returns_same _ (λ a r. r ≡ leb a.0.now c.args.serial) _ (λ a r f k. search (rules, of_calls))) (IsPartitionedBy-leb (λ n. n) ns c.args.serial (not_falling ns c.requires)) in
    none_up_to c.args.serial ns (subst (λ n. (k d : ℕ) → n ≤ k → k < length ns → leb (get_or ns k d) c.args.serial ≡ false) c.if-count-eq0.true p.1)

pub returns-else-count-eq0 : goal.returns-else-count-eq0
returns-else-count-eq0 c =
    let ns = c.args.syncs.now in
    let p = c.partition_point-count.ensures.partitioned (λ n. leb n c.args.serial) (always_returns_same _ (λ a r. r ≡ leb a.0.now c.args.serial) _ (λ a r f k. search (rules, of_calls))) (IsPartitionedBy-leb (λ n. n) ns c.args.serial (not_falling ns c.requires)) in
    last_at c.args.serial _ c.partition_point-count.result ns c.requires (omega (arith, c.if-count-eq0.false)) c.partition_point-count.ensures.bound refl p.0 p.1
