use Rattle.std.proofs.Common.{◌∙◌, ◌-◌, ℕ, List, length, take, slice_get, arith, ap, sym, subst, filter, nat_lt}
use Rattle.track_index.specs.Syncs.{AreAscending}
use Rattle.track_index.proofs.SyncSerials.{last_below, split_last, ascending_front, filter_front}
use Rattle.track_index.proofs.syncs.keep_below.Goals as goal

pub returns-then-last-serial-clause-serials : goal.returns-then-last-serial-clause-serials
returns-then-last-serial-clause-serials c =
    let inv = c.loop-last.invariant in
    let at = c.in-Some.ensures.value ∙ ap (λ (ks : List ℕ). slice_get ks (length ks - 1)) c.deref.ensures.value in
    sym (last_below c.in-Some.last.now c.args.serial c.loop-last.syncs.items inv.ascending at c.if-last-serial.true) ∙ inv.serials

pub loop-last-preserved : goal.loop-last-preserved
loop-last-preserved c =
    let inv = c.loop-last.invariant in
    let ns = c.loop-last.syncs.items in
    let ms = c.pop.new.self.items in
    let n = c.in-Some.last.now in
    let at = c.in-Some.ensures.value ∙ ap (λ (ks : List ℕ). slice_get ks (length ks - 1)) c.deref.ensures.value in
    let len = sym c.deref.ensures.len ∙ ap length c.deref.ensures.value in
    let whole = split_last n ns ms at (c.pop.ensures.rest ∙ ap (λ (k : ℕ). take (k - 1) ns) len) in
    record {
      ascending = ascending_front ms n (subst AreAscending whole inv.ascending);
      serials = sym (filter_front c.args.serial ms n c.if-last-serial.false) ∙ sym (ap (filter (λ m. nat_lt m c.args.serial)) whole) ∙ inv.serials;
      shorter = omega (arith, inv.shorter, c.pop.ensures.len);
      capacity = c.pop.ensures.capacity ∙ inv.capacity;
    }
