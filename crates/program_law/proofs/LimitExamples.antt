-- The program at its limits: it computes.
use Rattle.std.proofs.Common.{◌≡◌, ℕ, zero, suc, true, false, List, [], ◌∷◌, ◌++◌, refl}
use Rattle.std.specs.Prelude.{Err, codes, nat_le}
use Rattle.toml.specs.Data.{Items, array, no_members, member}
use Rattle.mse_calls.specs.declared.calls.Call.TheVariants.{Attach}
use Rattle.mse_calls.specs.declared.events.EventKind.TheVariants.{SourceOpen}
use Rattle.mse_calls.specs.declared.events.Target.TheVariants.{Source}
use Rattle.call_script.specs.declared.fault.ScriptFault.TheVariants as fault
use Rattle.call_script.specs.declared.key.ScriptKey.TheVariants as key
use Rattle.call_script.specs.declared.script.Script.{Script as CallScript}
use Rattle.call_script.specs.declared.script.StepLine.TheVariants as step
use Rattle.call_script.specs.Keys.{count_of, unknown_key, number_or, items_or_none}
use Rattle.call_script.specs.Script.{keys_check, number_at, list_at, at_most, script_of}
use Rattle.mse_commands.specs.declared.ending.End.TheVariants.{Script}
use Rattle.mse_commands.specs.declared.ending.Status.TheVariants as status
use Rattle.mse_commands.specs.Program.{by_rules, output_of_end, output_of_script, script_played, program_of}
use Rattle.program_law.specs.Inputs.{output_on}
use Rattle.program_law.proofs.OnInputs.{reader_on_inputs, play_on_inputs}

-- ---- a script that is too long

-- so often, one behind the other
abbrev copies : {A : Type 0} → ℕ → List A → List A
copies zero xs = []
copies (suc n) xs = xs ++ copies n xs

-- 1,001 blobs
many_blobs : output_on (codes "play") (codes "blobs=[" ++ (copies 1001 (codes "0,") ++ codes "]"))
    ≡ record { status = status.Script; lines = codes "error: script too many blobs\n" ∷ [] }
unfolding program_of reader_on_inputs
many_blobs = refl

-- a list of lines that has more than 100,000 members
many_steps : (steps : Items) → nat_le (count_of steps) 100000 ≡ false → script_of (member (codes "steps") (array steps) no_members) ≡ Err (fault.TooMany key.Steps)
unfolding unknown_key number_or items_or_none keys_check number_at list_at at_most script_of
many_steps steps e = rw e refl

too_many_steps : output_of_end (Script (fault.TooMany key.Steps)) ≡ record { status = status.Script; lines = codes "error: script too many steps\n" ∷ [] }
too_many_steps = refl

-- ---- a listener that calls again and again

-- it attaches the source again and again when it opens, which is refused
abbrev again_and_again : CallScript
again_and_again = record {
  quota = 100;
  drain = 100000;
  gap = 0;
  blobs = [];
  steps = step.Call Attach ∷ step.Fire ∷ [];
  rules = record { listener = 0; on = record { target = Source; kind = SourceOpen }; times = 1; repeat = true; calls = Attach ∷ [] } ∷ [];
}

many_calls : output_of_script again_and_again [] (script_played (by_rules 1) again_and_again []) ≡ record {
  status = status.CallBudget;
  lines = codes "call attach: done\n"
      ∷ codes "event source sourceopen\n"
      ∷ (copies 1000 (codes "listener 0 attach: refused InvalidStateError\n" ∷ []) ++ codes "error: listener 0 answered more than 1000 calls for one event\n" ∷ []);
}
unfolding play_on_inputs
many_calls = refl
