use Rattle.std.proofs.Common.{◌≡◌, ℕ, ◌+◌, ◌<◌, ◌≤◌, List, [], ◌∷◌, ◌++◌, length, arith, subst}
use Rattle.std.specs.List.{AllByRecursion}
use Rattle.std.proofs.lemmas.List.Sums.{sum_by_push}
use Rattle.track_store.specs.declared.store.Stored.{Stored}
use Rattle.track_store.specs.Frames.{bytes_of}
use Rattle.track_store.proofs.ClearedLists.{each-push}
use Rattle.frame_tests.proofs.tests.overlaps.store_of.Goals as goal

-- serials below a number are below a greater one
serials_below : (n m : ℕ) (fs : List Stored) → n ≤ m → AllByRecursion (λ f. f.serial < n) fs → AllByRecursion (λ f. f.serial < m) fs
serials_below n m [] le h = h
serials_below n m (f ∷ fs) le h = (let low = h.0 in omega arith, serials_below n m fs le h.1)

serials_push : (n : ℕ) (fs : List Stored) (x : Stored) → x.serial ≡ n → AllByRecursion (λ f. f.serial < n) fs → AllByRecursion (λ f. f.serial < n + 1) (fs ++ x ∷ [])
serials_push n fs x e h = each-push (λ f. f.serial < n + 1) fs x (serials_below n (n + 1) fs (omega arith) h) (omega arith)

serials_push_from : (m i : ℕ) (fs : List Stored) (x : Stored) → x.serial ≡ m + i → AllByRecursion (λ f. f.serial < m + i) fs → AllByRecursion (λ f. f.serial < m + (i + 1)) (fs ++ x ∷ [])
serials_push_from m i fs x e h = subst (λ (k : ℕ). AllByRecursion (λ f. f.serial < k) (fs ++ x ∷ [])) (omega arith) (serials_push (m + i) fs x e h)

empty_push : (fs : List Stored) (x : Stored) → bytes_of fs ≡ 0 → length x.frame.payload ≡ 0 → bytes_of (fs ++ x ∷ []) ≡ 0
empty_push fs x none zero = let more = sum_by_push (λ (f : Stored). length f.frame.payload) fs x in omega arith

pub loop-i-preserved : goal.loop-i-preserved
loop-i-preserved g c =
    let frames = g.S.FrameStore.frames c.loop-i.store in
    record {
      below = rw c.add.ensures.frames (serials_push_from c.args.first c.loop-i.i frames c.frame_at-frame.result c.frame_at-frame.ensures.serial c.loop-i.invariant.below);
      empty = rw c.add.ensures.frames (empty_push frames c.frame_at-frame.result c.loop-i.invariant.empty c.frame_at-frame.ensures.bytes);
      spare = omega (arith, c.add.ensures.spare, c.loop-i.invariant.spare);
    }
