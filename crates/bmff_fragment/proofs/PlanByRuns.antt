-- What is read run by run, and track fragment by track fragment, is the plan.
use Rattle.std.proofs.Common.{◌≡◌, ℕ, ◌+◌, ℤ, pos, Bool, true, false, cond, List, [], ◌∷◌, ◌++◌, length, Option, Some, None, Result, Ok, Err, refl, ap, sym, ◌∙◌, append_assoc, arith}
use Rattle.std.proofs.lemmas.List.{append-nil, length-append}
use Rattle.std.proofs.lemmas.List.Sums.{sum_by-append}
use lib.Chars.{codes}
use Rattle.mse_base.specs.declared.track.TrackInfo.{TrackInfo}
use Rattle.bmff_boxes.specs.Rows.{BoxView, row_of, first_of, all_of}
use Rattle.bmff_fragment.specs.declared.fault.MoofFault.{MoofFault}
use Rattle.bmff_fragment.specs.declared.fault.MoofFault.TheVariants.{Size, NoTraf}
use Rattle.bmff_fragment.specs.declared.track_fragment.TrackFragment.{TrackFragment}
use Rattle.bmff_fragment.specs.declared.track_fragment.MoofProgress.{MoofProgress}
use Rattle.bmff_fragment.specs.declared.track_fragment.RunProgress.{RunProgress}
use Rattle.bmff_fragment.specs.declared.sample.FragmentSample.{FragmentSample}
use Rattle.bmff_fragment.specs.declared.slot.Slot.{Slot}
use Rattle.bmff_fragment.specs.Times.{Run, run_end, duration_of, slots_of_run, slots_behind}
use Rattle.bmff_boxes.specs.Reading.{◌>>=◌, need}
use Rattle.bmff_boxes.specs.Children.{payload_of}
use Rattle.mse_base.specs.Moments.{is_media}
use Rattle.bmff_fragment.specs.Plans.{plan_of, track_fragment_of, run_of, runs_of, samples_in, data_end, media_slots, trafs_of}
use Rattle.bmff_fragment.specs.Steps.{progress_after_run, run_step, runs_steps, first_run, progress_after_runs, runs_part, traf_step, trafs_steps}

-- behind all of the runs
abbrev pub progress_after_all : RunProgress → List Run → RunProgress
progress_after_all at runs = record { samples = at.samples + length (samples_in runs); data_end = data_end at.data_end runs; decode_time = at.decode_time + duration_of (samples_in runs) }

progress : ℕ → ℤ → ℕ → RunProgress
progress n e t = record { samples = n; data_end = e; decode_time = t }

progress_same : (n n' t t' : ℕ) (e : ℤ) → n ≡ n' → t ≡ t' → progress n e t ≡ progress n' e t'
progress_same n n' t t' e p q = ap (λ k. progress k e t) p ∙ ap (progress n' e) q

behind_none : (at : RunProgress) → at ≡ progress_after_all at []
unfolding progress
behind_none at =
    let n : at.samples ≡ at.samples + 0 = omega arith in
    let t : at.decode_time ≡ at.decode_time + 0 = omega arith in
    progress_same at.samples (at.samples + 0) at.decode_time (at.decode_time + 0) at.data_end n t

behind_more : (at : RunProgress) (run : Run) (runs : List Run) → progress_after_all (progress_after_run at run) runs ≡ progress_after_all at (run ∷ runs)
unfolding progress
behind_more at run runs =
    let n : (at.samples + length run.samples) + length (samples_in runs) ≡ at.samples + length (run.samples ++ samples_in runs) = omega (arith, length-append run.samples (samples_in runs)) in
    let t : (at.decode_time + duration_of run.samples) + duration_of (samples_in runs) ≡ at.decode_time + duration_of (run.samples ++ samples_in runs) = omega (arith, sum_by-append (λ (s : FragmentSample). s.duration) run.samples (samples_in runs)) in
    progress_same _ _ _ _ (data_end (run_end run) runs) n t

none_by : (b : Bool) → let none : List Slot = [] in none ≡ cond b [] []
none_by true = refl
none_by false = refl

media_slots_none : (track : TrackInfo) → [] ≡ media_slots track []
media_slots_none track = none_by (is_media track.kind)

append_by : (b : Bool) (xs ys : List Slot) → cond b xs [] ++ cond b ys [] ≡ cond b (xs ++ ys) []
append_by true xs ys = refl
append_by false xs ys = refl

media_slots-append : (track : TrackInfo) (xs ys : List Slot) → media_slots track xs ++ media_slots track ys ≡ media_slots track (xs ++ ys)
media_slots-append track xs ys = append_by (is_media track.kind) xs ys

runs_none : (f : TrackFragment) (count : ℕ) (end : ℤ) → runs_of f count end [] ≡ Ok []
unfolding runs_of
runs_none f count end = refl

runs_more : (f : TrackFragment) (count : ℕ) (end : ℤ) (t : List ℕ) (ts : List (List ℕ)) → runs_of f count end (t ∷ ts) ≡ (run_of f count end t >>= λ run. runs_of f (count + length run.samples) (run_end run) ts >>= λ runs. Ok (run ∷ runs))
unfolding runs_of
runs_more f count end t ts = refl

pub steps_none : (f : TrackFragment) (at : RunProgress) (slots : List Slot) → runs_steps f at slots [] ≡ Ok (at, slots)
unfolding runs_steps
steps_none f at slots = refl

pub steps_more : (f : TrackFragment) (at : RunProgress) (slots : List Slot) (t : List ℕ) (ts : List (List ℕ)) → runs_steps f at slots (t ∷ ts) ≡ (run_step f at slots t >>= λ next. runs_steps f next.0 next.1 ts)
unfolding runs_steps
steps_more f at slots t ts = refl

step_is : (f : TrackFragment) (at : RunProgress) (slots : List Slot) (t : List ℕ) → run_step f at slots t ≡ (run_of f at.samples at.data_end t >>= λ run. Ok (progress_after_run at run, slots ++ media_slots f.track (slots_of_run f.track at.decode_time run)))
unfolding run_step
step_is f at slots t = refl

-- what all runs give, behind the samples `before` of their track fragment
abbrev pub runs_give : TrackFragment → RunProgress → List Slot → List FragmentSample → List Run → RunProgress × List Slot
runs_give f at slots before runs = (progress_after_all at runs, slots ++ media_slots f.track (slots_behind f.track f.decode_time before runs))

give_more : (f : TrackFragment) (at : RunProgress) (slots : List Slot) (before : List FragmentSample) (run : Run) (runs : List Run) → at.decode_time ≡ f.decode_time + duration_of before → runs_give f (progress_after_run at run) (slots ++ media_slots f.track (slots_of_run f.track at.decode_time run)) (before ++ run.samples) runs ≡ runs_give f at slots before (run ∷ runs)
give_more f at slots before run runs h =
    let one = slots_of_run f.track at.decode_time run in
    let rest = slots_behind f.track f.decode_time (before ++ run.samples) runs in
    let s : (slots ++ media_slots f.track one) ++ media_slots f.track rest ≡ slots ++ media_slots f.track (slots_of_run f.track (f.decode_time + duration_of before) run ++ rest) =
    append_assoc slots (media_slots f.track one) (media_slots f.track rest) ∙ ap (λ xs. slots ++ xs) (media_slots-append f.track one rest) ∙ ap (λ t. slots ++ media_slots f.track (slots_of_run f.track t run ++ rest)) h
    in
    let all = (slots ++ media_slots f.track one) ++ media_slots f.track rest in
    ap (λ (p : RunProgress). let q : RunProgress × List Slot = (p, all) in q) (behind_more at run runs) ∙ ap (λ (xs : List Slot). let q : RunProgress × List Slot = (progress_after_all at (run ∷ runs), xs) in q) s

then_more : {A B : Type 0} (q : Result (List A) MoofFault) (x : A) (f g : List A → B) → ((xs : List A) → f xs ≡ g (x ∷ xs)) → (q >>= λ xs. Ok (f xs)) ≡ ((q >>= λ xs. Ok (x ∷ xs)) >>= λ xs. Ok (g xs))
then_more (Ok xs) x f g e = ap Ok (e xs)
then_more (Err fault) x f g e = refl

-- one run and those behind it, where the ones behind it are what `go` says
abbrev run_then : TrackFragment → RunProgress → List Slot → List (List ℕ) → Result Run MoofFault → Result (RunProgress × List Slot) MoofFault
run_then f at slots ts r =
    let next : Result (RunProgress × List Slot) MoofFault = r >>= λ run. Ok (progress_after_run at run, slots ++ media_slots f.track (slots_of_run f.track at.decode_time run)) in
    next >>= λ next. runs_steps f next.0 next.1 ts

linked_by : (f : TrackFragment) (at : RunProgress) (slots : List Slot) (before : List FragmentSample) (ts : List (List ℕ)) → at.decode_time ≡ f.decode_time + duration_of before → ((run : Run) → let behind = before ++ run.samples in (progress_after_run at run).decode_time ≡ f.decode_time + duration_of behind → let more = slots ++ media_slots f.track (slots_of_run f.track at.decode_time run) in runs_steps f (progress_after_run at run) more ts ≡ (runs_of f (progress_after_run at run).samples (run_end run) ts >>= λ runs. Ok (runs_give f (progress_after_run at run) more behind runs))) → (r : Result Run MoofFault) → run_then f at slots ts r ≡ ((r >>= λ run. runs_of f (at.samples + length run.samples) (run_end run) ts >>= λ runs. Ok (run ∷ runs)) >>= λ runs. Ok (runs_give f at slots before runs))
linked_by f at slots before ts h go (Err fault) = refl
linked_by f at slots before ts h go (Ok run) =
    let t' : at.decode_time + duration_of run.samples ≡ f.decode_time + duration_of (before ++ run.samples) = omega (arith, h, sum_by-append (λ (s : FragmentSample). s.duration) before run.samples) in
    go run t'
    ∙ then_more (runs_of f (at.samples + length run.samples) (run_end run) ts) run (runs_give f (progress_after_run at run) (slots ++ media_slots f.track (slots_of_run f.track at.decode_time run)) (before ++ run.samples)) (runs_give f at slots before) (λ runs. give_more f at slots before run runs h)

pub runs-linked : (f : TrackFragment) (at : RunProgress) (slots : List Slot) (before : List FragmentSample) (truns : List (List ℕ)) → at.decode_time ≡ f.decode_time + duration_of before → runs_steps f at slots truns ≡ (runs_of f at.samples at.data_end truns >>= λ runs. Ok (runs_give f at slots before runs))
runs-linked f at slots before [] h =
    let s : slots ≡ slots ++ media_slots f.track [] = sym (append-nil slots) ∙ ap (λ xs. slots ++ xs) (media_slots_none f.track) in
    let give = runs_give f at slots before [] in
    let here : RunProgress × List Slot = (at, slots) in
    let made : RunProgress × List Slot = (progress_after_all at [], slots) in
    let e : here ≡ made = ap (λ (p : RunProgress). let q : RunProgress × List Slot = (p, slots) in q) (behind_none at) in
    let g : made ≡ give = ap (λ (xs : List Slot). let q : RunProgress × List Slot = (progress_after_all at [], xs) in q) s in
    steps_none f at slots ∙ ap Ok (e ∙ g) ∙ ap (λ r. r >>= λ runs. Ok (runs_give f at slots before runs)) (sym (runs_none f at.samples at.data_end))
runs-linked f at slots before (t ∷ ts) h =
    let first : runs_steps f at slots (t ∷ ts) ≡ run_then f at slots ts (run_of f at.samples at.data_end t) =
    steps_more f at slots t ts ∙ ap (λ r. r >>= λ next. runs_steps f next.0 next.1 ts) (step_is f at slots t)
    in
    first
    ∙ linked_by f at slots before ts h (λ run k. runs-linked f (progress_after_run at run) (slots ++ media_slots f.track (slots_of_run f.track at.decode_time run)) (before ++ run.samples) ts k) (run_of f at.samples at.data_end t)
    ∙ ap (λ r. r >>= λ runs. Ok (runs_give f at slots before runs)) (sym (runs_more f at.samples at.data_end t ts))

-- ---- track fragments

pub trafs_none : (tracks : List TrackInfo) (count : ℕ) (end : ℤ) → trafs_of tracks count end [] ≡ Ok []
unfolding trafs_of
trafs_none tracks count end = refl

-- the slots of one more track fragment
abbrev own_slots : TrackFragment → List Run → List Slot
own_slots f runs = media_slots f.track (slots_behind f.track f.decode_time [] runs)

pub trafs_more : (tracks : List TrackInfo) (count : ℕ) (end : ℤ) (t : List ℕ) (ts : List (List ℕ)) → trafs_of tracks count end (t ∷ ts) ≡ (need Size (row_of t) >>= λ row. track_fragment_of tracks end row >>= λ f. runs_of f count f.base (all_of (codes "trun") row) >>= λ runs. trafs_of tracks (count + length (samples_in runs)) (data_end f.base runs) ts >>= λ slots. Ok (own_slots f runs ++ slots))
unfolding trafs_of
trafs_more tracks count end t ts = refl

pub traf_steps_none : (tracks : List TrackInfo) (at : MoofProgress) (slots : List Slot) → trafs_steps tracks at slots [] ≡ Ok slots
unfolding trafs_steps
traf_steps_none tracks at slots = refl

pub traf_steps_more : (tracks : List TrackInfo) (at : MoofProgress) (slots : List Slot) (t : List ℕ) (ts : List (List ℕ)) → trafs_steps tracks at slots (t ∷ ts) ≡ (traf_step tracks at slots t >>= λ next. trafs_steps tracks next.0 next.1 ts)
unfolding trafs_steps
traf_steps_more tracks at slots t ts = refl

traf_step_is : (tracks : List TrackInfo) (at : MoofProgress) (slots : List Slot) (t : List ℕ) → traf_step tracks at slots t ≡ (need Size (row_of t) >>= λ row. track_fragment_of tracks at.data_end row >>= λ f. runs_part f at.samples slots (all_of (codes "trun") row))
unfolding traf_step
traf_step_is tracks at slots t = refl

-- what a track fragment gives
abbrev traf_give : TrackFragment → ℕ → List Slot → List Run → MoofProgress × List Slot
traf_give f count slots runs = (record { samples = count + length (samples_in runs); data_end = data_end f.base runs }, slots ++ own_slots f runs)

part_by : (f : TrackFragment) (count : ℕ) (slots : List Slot) (r : Result (List Run) MoofFault) → let last : Result (RunProgress × List Slot) MoofFault = (r >>= λ runs. Ok (runs_give f (first_run f count) slots [] runs)) in (last >>= λ last. let q : MoofProgress × List Slot = (progress_after_runs last.0, last.1) in Ok q) ≡ (r >>= λ runs. Ok (traf_give f count slots runs))
part_by f count slots (Ok runs) = refl
part_by f count slots (Err fault) = refl

part_is : (f : TrackFragment) (count : ℕ) (slots : List Slot) (truns : List (List ℕ)) → runs_part f count slots truns ≡ (runs_of f count f.base truns >>= λ runs. Ok (traf_give f count slots runs))
part_is f count slots truns =
    let t : f.decode_time ≡ f.decode_time + 0 = omega arith in
    ap (λ (r : Result (RunProgress × List Slot) MoofFault). r >>= λ last. let q : MoofProgress × List Slot = (progress_after_runs last.0, last.1) in Ok q) (runs-linked f (first_run f count) slots [] truns t) ∙ part_by f count slots (runs_of f count f.base truns)

-- slots in front of those that are read
abbrev pub with_front : List Slot → Result (List Slot) MoofFault → Result (List Slot) MoofFault
with_front front r = r >>= λ slots. Ok (front ++ slots)

with_more : (front more : List Slot) (r : Result (List Slot) MoofFault) → with_front (front ++ more) r ≡ with_front front (r >>= λ slots. Ok (more ++ slots))
with_more front more (Ok slots) = ap Ok (append_assoc front more slots)
with_more front more (Err fault) = refl

-- what the track fragments behind the first give, where reading goes on with them
abbrev pub AreReadInSteps : List TrackInfo → List (List ℕ) → Type 0
AreReadInSteps tracks ts = (at : MoofProgress) (slots : List Slot) → trafs_steps tracks at slots ts ≡ with_front slots (trafs_of tracks at.samples at.data_end ts)

by_runs : (tracks : List TrackInfo) (count : ℕ) (slots : List Slot) (ts : List (List ℕ)) → AreReadInSteps tracks ts → (f : TrackFragment) (r : Result (List Run) MoofFault) → ((r >>= λ runs. Ok (traf_give f count slots runs)) >>= λ next. trafs_steps tracks next.0 next.1 ts) ≡ with_front slots (r >>= λ runs. trafs_of tracks (count + length (samples_in runs)) (data_end f.base runs) ts >>= λ more. Ok (own_slots f runs ++ more))
by_runs tracks count slots ts go f (Err fault) = refl
by_runs tracks count slots ts go f (Ok runs) =
    let next = traf_give f count slots runs in
    go next.0 next.1 ∙ with_more slots (own_slots f runs) (trafs_of tracks (count + length (samples_in runs)) (data_end f.base runs) ts)

by_fragment : (tracks : List TrackInfo) (count : ℕ) (slots : List Slot) (ts : List (List ℕ)) → AreReadInSteps tracks ts → (row : List BoxView) (r : Result TrackFragment MoofFault) → ((r >>= λ f. runs_part f count slots (all_of (codes "trun") row)) >>= λ next. trafs_steps tracks next.0 next.1 ts) ≡ with_front slots (r >>= λ f. runs_of f count f.base (all_of (codes "trun") row) >>= λ runs. trafs_of tracks (count + length (samples_in runs)) (data_end f.base runs) ts >>= λ more. Ok (own_slots f runs ++ more))
by_fragment tracks count slots ts go row (Err fault) = refl
by_fragment tracks count slots ts go row (Ok f) =
    ap (λ r. r >>= λ next. trafs_steps tracks next.0 next.1 ts) (part_is f count slots (all_of (codes "trun") row))
    ∙ by_runs tracks count slots ts go f (runs_of f count f.base (all_of (codes "trun") row))

by_row : (tracks : List TrackInfo) (at : MoofProgress) (slots : List Slot) (ts : List (List ℕ)) → AreReadInSteps tracks ts → (o : Option (List BoxView)) → ((need Size o >>= λ row. track_fragment_of tracks at.data_end row >>= λ f. runs_part f at.samples slots (all_of (codes "trun") row)) >>= λ next. trafs_steps tracks next.0 next.1 ts) ≡ with_front slots (need Size o >>= λ row. track_fragment_of tracks at.data_end row >>= λ f. runs_of f at.samples f.base (all_of (codes "trun") row) >>= λ runs. trafs_of tracks (at.samples + length (samples_in runs)) (data_end f.base runs) ts >>= λ more. Ok (own_slots f runs ++ more))
by_row tracks at slots ts go None = refl
by_row tracks at slots ts go (Some row) = by_fragment tracks at.samples slots ts go row (track_fragment_of tracks at.data_end row)

pub trafs-linked : (tracks : List TrackInfo) (trafs : List (List ℕ)) → AreReadInSteps tracks trafs
trafs-linked tracks [] = λ at slots. traf_steps_none tracks at slots ∙ ap Ok (sym (append-nil slots)) ∙ ap (with_front slots) (sym (trafs_none tracks at.samples at.data_end))
trafs-linked tracks (t ∷ ts) =
    let go = trafs-linked tracks ts in
    λ at slots.
    traf_steps_more tracks at slots t ts ∙ ap (λ r. r >>= λ next. trafs_steps tracks next.0 next.1 ts) (traf_step_is tracks at slots t)
    ∙ by_row tracks at slots ts go (row_of t)
    ∙ ap (with_front slots) (sym (trafs_more tracks at.samples at.data_end t ts))

no_front : (r : Result (List Slot) MoofFault) → with_front [] r ≡ r
no_front (Ok slots) = refl
no_front (Err fault) = refl

-- from the first track fragment on
pub trafs-whole : (tracks : List TrackInfo) (trafs : List (List ℕ)) → trafs_steps tracks (record { samples = 0; data_end = pos 0 }) [] trafs ≡ trafs_of tracks 0 (pos 0) trafs
trafs-whole tracks trafs = trafs-linked tracks trafs (record { samples = 0; data_end = pos 0 }) [] ∙ no_front (trafs_of tracks 0 (pos 0) trafs)

pub plan_is : (tracks : List TrackInfo) (moof payload first : List ℕ) (row : List BoxView) → Some payload ≡ payload_of moof → Some row ≡ row_of payload → Some first ≡ first_of (codes "traf") row → plan_of tracks moof ≡ trafs_of tracks 0 (pos 0) (all_of (codes "traf") row)
unfolding plan_of
plan_is tracks moof payload first row a b c =
    ap (λ o. need Size o >>= λ payload. need Size (row_of payload) >>= λ row. need NoTraf (first_of (codes "traf") row) >>= λ first. trafs_of tracks 0 (pos 0) (all_of (codes "traf") row)) (sym a)
    ∙ ap (λ o. need Size o >>= λ row. need NoTraf (first_of (codes "traf") row) >>= λ first. trafs_of tracks 0 (pos 0) (all_of (codes "traf") row)) (sym b)
    ∙ ap (λ o. need NoTraf o >>= λ first. trafs_of tracks 0 (pos 0) (all_of (codes "traf") row)) (sym c)
