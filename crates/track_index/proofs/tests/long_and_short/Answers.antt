use Rattle.std.proofs.Common.{◌≡◌, ◌∙◌, ap, ℕ, ◌+◌, ◌<◌, ◌≤◌, List, [], ◌∷◌, ◌++◌, arith}
use Rattle.std.specs.List.{AllByRecursion}
use Rattle.track_store.specs.declared.store.Stored.{Stored}
use Rattle.track_store.proofs.ClearedLists.{each-push}
use Rattle.track_index.proofs.tests.long_and_short.Goals as goal

-- serials below a number are below a greater one
serials_below : (n m : ℕ) (fs : List Stored) → n ≤ m → AllByRecursion (λ f. f.serial < n) fs → AllByRecursion (λ f. f.serial < m) fs
serials_below n m [] le h = h
serials_below n m (f ∷ fs) le h = (let low = h.0 in omega arith, serials_below n m fs le h.1)

serials_push : (n : ℕ) (fs : List Stored) (x : Stored) → x.serial ≡ n → AllByRecursion (λ f. f.serial < n) fs → AllByRecursion (λ f. f.serial < n + 1) (fs ++ x ∷ [])
serials_push n fs x e h = each-push (λ f. f.serial < n + 1) fs x (serials_below n (n + 1) fs (omega arith) h) (omega arith)

pub loop-serial-preserved : goal.loop-serial-preserved
loop-serial-preserved g c = rw (c.add.ensures.frames ∙ ap (λ (fs : List Stored). fs ++ c.in_ok-stored.stored ∷ []) c.reserve.ensures.frames) (serials_push c.loop-serial.serial (g.S.FrameStore.frames c.loop-serial.store) c.in_ok-stored.stored c.in_ok-stored.ensures.serial c.loop-serial.invariant)
