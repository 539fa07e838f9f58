use Rattle.std.proofs.Common.{◌≡◌, ◌≤◌, ◌<◌, length, get_or, subst, List}
use Rattle.mse_calls.specs.declared.views.BufferView.{BufferView}
use Rattle.mse_commands.proofs.EngineTracks.{counted, no_buffers, none_counted}
use Rattle.mse_commands.proofs.feeds.track_count.Goals as goal

pub returns-then-first-eq0 : goal.returns-then-first-eq0
returns-then-first-eq0 g c = λ st h.
    let some : 1 ≤ length c.in-Ok.view.buffers = subst (λ (xs : List BufferView). 1 ≤ length xs) c.as_slice.ensures c.in-len1-up.len_at_least in
    let first : c.first-item.result ≡ get_or c.in-Ok.view.buffers 0 c.first-item.result = rw c.as_slice.ensures at c.first-item.is in
    counted st c.in-Ok.view c.first-item.result c.len.result (c.in-Ok.ensures st h) some first c.if-first-eq0.true c.len.ensures

pub returns-in-len1-up : goal.returns-in-len1-up
returns-in-len1-up g c = λ st h.
    let some : 1 ≤ length c.in-Ok.view.buffers = subst (λ (xs : List BufferView). 1 ≤ length xs) c.as_slice.ensures c.in-len1-up.len_at_least in
    let first : c.first-item.result ≡ get_or c.in-Ok.view.buffers 0 c.first-item.result = rw c.as_slice.ensures at c.first-item.is in
    none_counted st c.in-Ok.view c.first-item.result (c.in-Ok.ensures st h) some first c.if-first-eq0.false

pub returns : goal.returns
returns g c = λ st h.
    let few : length c.in-Ok.view.buffers < 1 = subst (λ (xs : List BufferView). length xs < 1) c.as_slice.ensures c.in-empty.len_below in
    no_buffers st c.in-Ok.view (c.in-Ok.ensures st h) few
