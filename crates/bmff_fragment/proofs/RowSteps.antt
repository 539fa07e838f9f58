-- One step over the boxes of a row: the run or the track fragment is read, and reading goes on or stops.
use Rattle.std.proofs.Common.{◌≡◌, ℕ, ℤ, List, [], ◌∷◌, Result, Ok, ap, sym, ◌∙◌}
use Rattle.mse_base.specs.declared.track.TrackInfo.{TrackInfo}
use Rattle.bmff_fragment.specs.declared.fault.MoofFault.{MoofFault}
use Rattle.bmff_boxes.specs.declared.reading.ReadError.{ReadError}
use Rattle.bmff_boxes.specs.declared.reading.ReadError.TheVariants as errors
use Rattle.bmff_fragment.specs.declared.track_fragment.TrackFragment.{TrackFragment}
use Rattle.bmff_fragment.specs.declared.track_fragment.MoofProgress.{MoofProgress}
use Rattle.bmff_fragment.specs.declared.track_fragment.RunProgress.{RunProgress}
use Rattle.bmff_fragment.specs.declared.slot.Slot.{Slot}
use Rattle.bmff_boxes.specs.Reading.{◌>>=◌}
use Rattle.bmff_fragment.specs.Steps.{run_step, runs_steps, first_run, progress_after_runs, runs_part, traf_step, trafs_steps}
use Rattle.bmff_boxes.specs.Reading.{Fails}
use Rattle.bmff_fragment.proofs.PlanByRuns.{steps_none, steps_more, traf_steps_none, traf_steps_more}

pub run_goes : (f : TrackFragment) (at at' : RunProgress) (slots slots' : List Slot) (t : List ℕ) (ts : List (List ℕ)) (all : Result (RunProgress × List Slot) MoofFault) → run_step f at slots t ≡ Ok (at', slots') → runs_steps f at slots (t ∷ ts) ≡ all → runs_steps f at' slots' ts ≡ all
run_goes f at at' slots slots' t ts all e g = sym (steps_more f at slots t ts ∙ ap (λ r. r >>= λ next. runs_steps f next.0 next.1 ts) e) ∙ g

pub run_stops : (f : TrackFragment) (at : RunProgress) (slots : List Slot) (t : List ℕ) (ts : List (List ℕ)) (all : Result (RunProgress × List Slot) MoofFault) (e : ReadError MoofFault) → Fails e (run_step f at slots t) → runs_steps f at slots (t ∷ ts) ≡ all → Fails e all
run_stops f at slots t ts all errors.OutOfMemory h g = tt
run_stops f at slots t ts all (errors.Fault fault) h g = sym g ∙ steps_more f at slots t ts ∙ ap (λ r. r >>= λ next. runs_steps f next.0 next.1 ts) h

pub part_stops : (f : TrackFragment) (samples : ℕ) (slots : List Slot) (truns : List (List ℕ)) (e : ReadError MoofFault) → Fails e (runs_steps f (first_run f samples) slots truns) → Fails e (runs_part f samples slots truns)
part_stops f samples slots truns errors.OutOfMemory h = tt
part_stops f samples slots truns (errors.Fault fault) h = ap (λ (r : Result (RunProgress × List Slot) MoofFault). r >>= λ last. let q : MoofProgress × List Slot = (progress_after_runs last.0, last.1) in Ok q) h

pub part_ends : (f : TrackFragment) (samples : ℕ) (slots : List Slot) (truns : List (List ℕ)) (at : RunProgress) (slots' : List Slot) (n : ℕ) (end : ℤ) → runs_steps f at slots' [] ≡ runs_steps f (first_run f samples) slots truns → end ≡ at.data_end → let to : MoofProgress × List Slot = (record { samples = at.samples; data_end = end }, slots') in runs_part f samples slots truns ≡ Ok to
part_ends f samples slots truns at slots' n end g e =
    let k : runs_steps f (first_run f samples) slots truns ≡ Ok (at, slots') = sym g ∙ steps_none f at slots' in
    ap (λ (r : Result (RunProgress × List Slot) MoofFault). r >>= λ last. let q : MoofProgress × List Slot = (progress_after_runs last.0, last.1) in Ok q) k
    ∙ ap (λ (x : ℤ). let q : MoofProgress × List Slot = (record { samples = at.samples; data_end = x }, slots') in Ok q) (sym e)

pub traf_goes : (tracks : List TrackInfo) (at at' : MoofProgress) (slots slots' : List Slot) (t : List ℕ) (ts : List (List ℕ)) (all : Result (List Slot) MoofFault) → traf_step tracks at slots t ≡ Ok (at', slots') → trafs_steps tracks at slots (t ∷ ts) ≡ all → trafs_steps tracks at' slots' ts ≡ all
traf_goes tracks at at' slots slots' t ts all e g = sym (traf_steps_more tracks at slots t ts ∙ ap (λ r. r >>= λ next. trafs_steps tracks next.0 next.1 ts) e) ∙ g

pub traf_stops : (tracks : List TrackInfo) (at : MoofProgress) (slots : List Slot) (t : List ℕ) (ts : List (List ℕ)) (all : Result (List Slot) MoofFault) (e : ReadError MoofFault) → Fails e (traf_step tracks at slots t) → trafs_steps tracks at slots (t ∷ ts) ≡ all → Fails e all
traf_stops tracks at slots t ts all errors.OutOfMemory h g = tt
traf_stops tracks at slots t ts all (errors.Fault fault) h g = sym g ∙ traf_steps_more tracks at slots t ts ∙ ap (λ r. r >>= λ next. trafs_steps tracks next.0 next.1 ts) h

pub trafs_end : (tracks : List TrackInfo) (at : MoofProgress) (slots : List Slot) (all : Result (List Slot) MoofFault) → trafs_steps tracks at slots [] ≡ all → all ≡ Ok slots
trafs_end tracks at slots all g = sym g ∙ traf_steps_none tracks at slots
