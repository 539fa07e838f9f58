-- The rules of a script's listeners.
use Rattle.std.specs.Prelude.{ℕ, nat_le, ◌&&◌, Bool, false, List, Option, Some, None, option_and_then, if◌then◌else◌}
use Rattle.std.specs.List.{list_all}
use Rattle.std.specs.Result.{result_ok}
use Rattle.toml.specs.Data.{Data, Items, Members, get_member, as_array, as_bool, as_str, as_table}
use Rattle.mse_calls.specs.declared.calls.Call.{Call}
use Rattle.mse_calls.specs.declared.events.Event.{Event}
use Rattle.mse_calls.specs.declared.rules.Rule.{Rule}
use Rattle.call_script.specs.declared.key.RuleKey.TheVariants.{Listener, On, Times, Repeat, Calls}
use Rattle.call_script.specs.Lines.{call_of_line}
use Rattle.call_script.specs.Events.{event_of}
use Rattle.call_script.specs.Keys.{rule_key_name, is_rule_key, keys_of, number_or, count_of}
use Rattle.call_script.specs.Members.{members_of}

-- the number of a listener: 0 to 15
unfoldable pub listener_of : Option Data → Option ℕ
listener_of None = None
listener_of (Some value) = number_or 0 0 15 (Some value)

-- the event on which a rule is followed
unfoldable pub on_of : Option Data → Option Event
on_of None = None
on_of (Some value) = option_and_then event_of (as_str value)

-- how often: 1 to 1000000, and once where it is not said
unfoldable pub repeat_count_of : Option Data → Option ℕ
repeat_count_of value = number_or 1 1 1000000 value

-- whether the calls are made again and again: they are not where it is not said
unfoldable pub repeat_of : Option Data → Option Bool
repeat_of None = Some false
repeat_of (Some value) = as_bool value

-- the call that a value writes
abbrev pub call_of : Data → Option Call
call_of value = option_and_then call_of_line (as_str value)

abbrev pub some_calls : Items → Option (List Call)
some_calls items =
    if nat_le 1 (count_of items) && nat_le (count_of items) 1000
    then result_ok (members_of call_of items) else None

-- the calls of a rule: 1 to 1000
unfoldable pub calls_of : Option Data → Option (List Call)
calls_of None = None
calls_of (Some value) = option_and_then some_calls (as_array value)

abbrev pub rule_from : Option ℕ → Option Event → Option ℕ → Option Bool → Option (List Call)
    → Option Rule
rule_from (Some listener) (Some on) (Some times) (Some repeat) (Some calls) =
    Some (record { listener = listener; on = on; times = times; repeat = repeat; calls = calls })
rule_from (Some listener) (Some on) (Some times) (Some repeat) None = None
rule_from (Some listener) (Some on) (Some times) None calls = None
rule_from (Some listener) (Some on) None repeat calls = None
rule_from (Some listener) None times repeat calls = None
rule_from None on times repeat calls = None

-- a table that has no other keys than those of a rule
abbrev pub rule_in : Members → Option Rule
rule_in members =
    if list_all is_rule_key (keys_of members)
    then rule_from
    (listener_of (get_member (rule_key_name Listener) members))
    (on_of (get_member (rule_key_name On) members))
    (repeat_count_of (get_member (rule_key_name Times) members))
    (repeat_of (get_member (rule_key_name Repeat) members))
    (calls_of (get_member (rule_key_name Calls) members))
    else None

-- the rule that a value writes
unfoldable pub rule_of : Data → Option Rule
rule_of value = option_and_then rule_in (as_table value)
