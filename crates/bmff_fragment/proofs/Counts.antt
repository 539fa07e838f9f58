-- A movie fragment has at most 2^20 slots.
use Rattle.std.proofs.Common.{◌≡◌, ℕ, suc, ◌+◌, ◌^◌, ◌≤◌, leb, eqb, cond, Bool, ◌||◌, true, false, List, [], ◌∷◌, ◌++◌, length, Option, Some, None, Result, Ok, Err, refl, ap, sym, ◌∙◌, arith}
use Rattle.std.specs.Prelude.{ℤ, pos, int_le, map}
use Rattle.std.specs.List.{enumerate_from, range_with_len}
use Rattle.std.proofs.lemmas.List.{length-append, length-map}
use Rattle.std.proofs.lemmas.List.FromFn.{length-range_with_len, length-enumerate_from}
use Rattle.std.proofs.lemmas.Bool.Decides.{nat_tests}
use lib.Chars.{codes}
use Rattle.mse_base.specs.declared.track.TrackInfo.{TrackInfo}
use Rattle.bmff_boxes.specs.Rows.{BoxView, row_of, first_of, all_of}
use Rattle.bmff_fragment.specs.declared.fault.MoofFault.{MoofFault}
use Rattle.bmff_fragment.specs.declared.fault.MoofFault.TheVariants.{Size, NoTraf, TooManySamples, Place}
use Rattle.bmff_fragment.specs.declared.header.RunHeader.{RunHeader}
use Rattle.bmff_fragment.specs.declared.sample.FragmentSample.{FragmentSample}
use Rattle.bmff_fragment.specs.declared.slot.Slot.{Slot}
use Rattle.bmff_fragment.specs.declared.track_fragment.TrackFragment.{TrackFragment}
use Rattle.bmff_fragment.specs.Headers.{run_header_of}
use Rattle.bmff_fragment.specs.Samples.{each, run_sample_of, run_samples_of}
use Rattle.bmff_fragment.specs.Times.{Run, run_end, slot_at, slots_of_run, slots_behind, duration_of}
use Rattle.bmff_boxes.specs.Reading.{◌>>=◌, need, check}
use Rattle.bmff_boxes.specs.Children.{payload_of}
use Rattle.mse_base.specs.Moments.{is_media}
use Rattle.bmff_fragment.specs.Plans.{track_fragment_of, run_start, run_of, runs_of, samples_in, data_end, media_slots, trafs_of, plan_of}
use Rattle.std.specs.Option.{option_map}

-- ---- a run

each-by : {A : Type 0} (x : A) (o : Option (List A)) (n : ℕ) (xs : List A) → ((ys : List A) → o ≡ Some ys → length ys ≡ n) → option_map (λ ys. x ∷ ys) o ≡ Some xs → length xs ≡ suc n
each-by x None n xs f e = cc
each-by x (Some ys) n xs f e = let q : x ∷ ys ≡ xs = cc in ap length (sym q) ∙ ap suc (f ys refl)

length-each : {A : Type 0} (os : List (Option A)) (xs : List A) → each os ≡ Some xs → length xs ≡ length os
length-each [] xs e = let q : [] ≡ xs = cc in ap length (sym q)
length-each (None ∷ os) xs e = cc
length-each (Some x ∷ os) xs e = each-by x (each os) (length os) xs (length-each os) e

run-checked : (count n : ℕ) (start : ℤ) (few inside : Bool) (samples : Option (List FragmentSample)) (run : Run) → (few ≡ true → count + n ≤ 2 ^ 20) → ((xs : List FragmentSample) → samples ≡ Some xs → length xs ≡ n) → (check TooManySamples few >>= (λ u. need Size samples >>= (λ xs. check Place inside >>= (λ v. Ok (record { start = start; samples = xs }))))) ≡ Ok run → count + length run.samples ≤ 2 ^ 20
run-checked count n start false inside samples run f g e = cc
run-checked count n start true inside None run f g e = cc
run-checked count n start true false (Some xs) run f g e = cc
run-checked count n start true true (Some xs) run f g e =
    let made : Run = record { start = start; samples = xs } in
    let q : made ≡ run = cc in
    omega (arith, f refl, g xs refl, ap (λ (r : Run). length r.samples) q)

run-by : (fragment : TrackFragment) (count : ℕ) (end : ℤ) (trun : List ℕ) (run : Run) (o : Option RunHeader) → run_header_of trun ≡ o → (need Size o >>= (λ header. check TooManySamples (leb (count + header.count) (2 ^ 20)) >>= (λ u. need Size (run_samples_of fragment.defaults header trun) >>= (λ xs. check Place (eqb header.count 0 || int_le (pos 0) (run_start fragment.base end header.data_offset)) >>= (λ v. Ok (record { start = run_start fragment.base end header.data_offset; samples = xs })))))) ≡ Ok run → count + length run.samples ≤ 2 ^ 20
run-by fragment count end trun run None h e = cc
run-by fragment count end trun run (Some header) h e =
    run-checked count header.count (run_start fragment.base end header.data_offset) (leb (count + header.count) (2 ^ 20)) _ (run_samples_of fragment.defaults header trun) run (λ q. grind (arith, nat_tests)) (λ xs q. length-each (map (run_sample_of fragment.defaults header trun) (range_with_len 0 header.count)) xs q ∙ length-map (range_with_len 0 header.count) (run_sample_of fragment.defaults header trun) ∙ length-range_with_len 0 header.count) e

run-few : (fragment : TrackFragment) (count : ℕ) (end : ℤ) (trun : List ℕ) (run : Run) → run_of fragment count end trun ≡ Ok run → count + length run.samples ≤ 2 ^ 20
unfolding run_of
run-few fragment count end trun run e = run-by fragment count end trun run (run_header_of trun) refl e

-- ---- the runs of a track fragment

runs-front : (run : Run) (r : Result (List Run) MoofFault) (n : ℕ) (runs : List Run) → ((rest : List Run) → r ≡ Ok rest → n + length run.samples + length (samples_in rest) ≤ 2 ^ 20) → (r >>= (λ rest. Ok (run ∷ rest))) ≡ Ok runs → n + length (samples_in runs) ≤ 2 ^ 20
runs-front run (Err f) n runs g e = cc
runs-front run (Ok rest) n runs g e =
    let q : run ∷ rest ≡ runs = cc in
    omega (arith, g rest refl, length-append run.samples (samples_in rest), ap (λ rs. length (samples_in rs)) q)

runs-by : (fragment : TrackFragment) (count : ℕ) (end : ℤ) (trun : List ℕ) (truns : List (List ℕ)) (runs : List Run) (r : Result Run MoofFault) → run_of fragment count end trun ≡ r → ((run : Run) (rest : List Run) → count + length run.samples ≤ 2 ^ 20 → runs_of fragment (count + length run.samples) (run_end run) truns ≡ Ok rest → count + length run.samples + length (samples_in rest) ≤ 2 ^ 20) → (r >>= (λ run. runs_of fragment (count + length run.samples) (run_end run) truns >>= (λ rest. Ok (run ∷ rest)))) ≡ Ok runs → count + length (samples_in runs) ≤ 2 ^ 20
runs-by fragment count end trun truns runs (Err f) q g e = cc
runs-by fragment count end trun truns runs (Ok run) q g e =
    runs-front run (runs_of fragment (count + length run.samples) (run_end run) truns) count runs (λ rest w. g run rest (run-few fragment count end trun run q) w) e

runs-few : (fragment : TrackFragment) (count : ℕ) (end : ℤ) (truns : List (List ℕ)) (runs : List Run) → count ≤ 2 ^ 20 → runs_of fragment count end truns ≡ Ok runs → count + length (samples_in runs) ≤ 2 ^ 20
unfolding runs_of
runs-few fragment count end [] runs h e = let q : [] ≡ runs = cc in omega (arith, ap (λ rs. length (samples_in rs)) q)
runs-few fragment count end (trun ∷ truns) runs h e =
    runs-by fragment count end trun truns runs (run_of fragment count end trun) refl (λ run rest k w. runs-few fragment (count + length run.samples) (run_end run) truns rest k w) e

-- ---- slots

length-behind : (track : TrackInfo) (time : ℕ) (before : List FragmentSample) (runs : List Run) → length (slots_behind track time before runs) ≡ length (samples_in runs)
length-behind track time before [] = refl
length-behind track time before (run ∷ runs) =
    let own = slots_of_run track (time + duration_of before) run in
    omega (arith, length-append own (slots_behind track time (before ++ run.samples) runs), length-map (enumerate_from 0 run.samples) (slot_at track (time + duration_of before) run), length-enumerate_from 0 run.samples, length-behind track time (before ++ run.samples) runs, length-append run.samples (samples_in runs))

length-kept : (b : Bool) (slots : List Slot) → length (cond b slots []) ≤ length slots
length-kept true slots = omega arith
length-kept false slots = omega arith

-- ---- track fragments

trafs-last : (own : List Slot) (r : Result (List Slot) MoofFault) (count n : ℕ) (slots : List Slot) → length own ≤ n → ((rest : List Slot) → r ≡ Ok rest → count + n + length rest ≤ 2 ^ 20) → (r >>= (λ rest. Ok (own ++ rest))) ≡ Ok slots → count + length slots ≤ 2 ^ 20
trafs-last own (Err f) count n slots l g e = cc
trafs-last own (Ok rest) count n slots l g e =
    let q : own ++ rest ≡ slots = cc in
    omega (arith, g rest refl, length-append own rest, ap length q)

abbrev HasFewSlots : List TrackInfo → List (List ℕ) → Type 0
HasFewSlots tracks trafs = (n : ℕ) (end : ℤ) (rest : List Slot) → n ≤ 2 ^ 20 → trafs_of tracks n end trafs ≡ Ok rest → n + length rest ≤ 2 ^ 20

trafs-runs : (tracks : List TrackInfo) (fragment : TrackFragment) (count : ℕ) (trafs : List (List ℕ)) (slots : List Slot) (r : Result (List Run) MoofFault) → ((runs : List Run) → r ≡ Ok runs → count + length (samples_in runs) ≤ 2 ^ 20) → HasFewSlots tracks trafs → (r >>= (λ runs. trafs_of tracks (count + length (samples_in runs)) (data_end fragment.base runs) trafs >>= (λ rest. Ok (media_slots fragment.track (slots_behind fragment.track fragment.decode_time [] runs) ++ rest)))) ≡ Ok slots → count + length slots ≤ 2 ^ 20
trafs-runs tracks fragment count trafs slots (Err f) g h e = cc
trafs-runs tracks fragment count trafs slots (Ok runs) g h e =
    let own = slots_behind fragment.track fragment.decode_time [] runs in
    let n = length (samples_in runs) in
    trafs-last (media_slots fragment.track own) (trafs_of tracks (count + n) (data_end fragment.base runs) trafs) count n slots (omega (arith, length-kept (is_media fragment.track.kind) own, length-behind fragment.track fragment.decode_time [] runs)) (λ rest w. h (count + n) (data_end fragment.base runs) rest (g runs refl) w) e

trafs-fragment : (tracks : List TrackInfo) (count : ℕ) (end : ℤ) (row : List BoxView) (trafs : List (List ℕ)) (slots : List Slot) (r : Result TrackFragment MoofFault) → count ≤ 2 ^ 20 → HasFewSlots tracks trafs → (r >>= (λ fragment. runs_of fragment count fragment.base (all_of (codes "trun") row) >>= (λ runs. trafs_of tracks (count + length (samples_in runs)) (data_end fragment.base runs) trafs >>= (λ rest. Ok (media_slots fragment.track (slots_behind fragment.track fragment.decode_time [] runs) ++ rest))))) ≡ Ok slots → count + length slots ≤ 2 ^ 20
trafs-fragment tracks count end row trafs slots (Err f) l h e = cc
trafs-fragment tracks count end row trafs slots (Ok fragment) l h e =
    trafs-runs tracks fragment count trafs slots (runs_of fragment count fragment.base (all_of (codes "trun") row)) (λ runs w. runs-few fragment count fragment.base (all_of (codes "trun") row) runs l w) h e

trafs-row : (tracks : List TrackInfo) (count : ℕ) (end : ℤ) (trafs : List (List ℕ)) (slots : List Slot) (o : Option (List BoxView)) → count ≤ 2 ^ 20 → HasFewSlots tracks trafs → (need Size o >>= (λ row. track_fragment_of tracks end row >>= (λ fragment. runs_of fragment count fragment.base (all_of (codes "trun") row) >>= (λ runs. trafs_of tracks (count + length (samples_in runs)) (data_end fragment.base runs) trafs >>= (λ rest. Ok (media_slots fragment.track (slots_behind fragment.track fragment.decode_time [] runs) ++ rest)))))) ≡ Ok slots → count + length slots ≤ 2 ^ 20
trafs-row tracks count end trafs slots None l h e = cc
trafs-row tracks count end trafs slots (Some row) l h e = trafs-fragment tracks count end row trafs slots (track_fragment_of tracks end row) l h e

trafs-few : (tracks : List TrackInfo) (trafs : List (List ℕ)) → HasFewSlots tracks trafs
unfolding trafs_of
trafs-few tracks [] n end rest l e = let q : [] ≡ rest = cc in omega (arith, ap length q)
trafs-few tracks (traf ∷ trafs) n end rest l e = trafs-row tracks n end trafs rest (row_of traf) l (trafs-few tracks trafs) e

-- ---- the movie fragment

plan-row : (tracks : List TrackInfo) (slots : List Slot) (first : Option (List ℕ)) (trafs : List (List ℕ)) → (need NoTraf first >>= (λ traf. trafs_of tracks 0 (pos 0) trafs)) ≡ Ok slots → length slots ≤ 2 ^ 20
plan-row tracks slots None trafs e = cc
plan-row tracks slots (Some traf) trafs e = omega (arith, trafs-few tracks trafs 0 (pos 0) slots (omega arith) e)

plan-boxes : (tracks : List TrackInfo) (slots : List Slot) (o : Option (List BoxView)) → (need Size o >>= (λ row. need NoTraf (first_of (codes "traf") row) >>= (λ traf. trafs_of tracks 0 (pos 0) (all_of (codes "traf") row)))) ≡ Ok slots → length slots ≤ 2 ^ 20
plan-boxes tracks slots None e = cc
plan-boxes tracks slots (Some row) e = plan-row tracks slots (first_of (codes "traf") row) (all_of (codes "traf") row) e

plan-payload : (tracks : List TrackInfo) (slots : List Slot) (o : Option (List ℕ)) → (need Size o >>= (λ payload. need Size (row_of payload) >>= (λ row. need NoTraf (first_of (codes "traf") row) >>= (λ traf. trafs_of tracks 0 (pos 0) (all_of (codes "traf") row))))) ≡ Ok slots → length slots ≤ 2 ^ 20
plan-payload tracks slots None e = cc
plan-payload tracks slots (Some payload) e = plan-boxes tracks slots (row_of payload) e

pub plan-length : (tracks : List TrackInfo) (moof : List ℕ) (slots : List Slot) → plan_of tracks moof ≡ Ok slots → length slots ≤ 2 ^ 20
unfolding plan_of
plan-length tracks moof slots e = plan-payload tracks slots (payload_of moof) e
