-- The keys of a script and of a rule, and what stands at them.
use Rattle.std.specs.Prelude.{ℕ, suc, nat_le, ◌&&◌, ℤ, pos, negsuc, Bool, List, [], ◌∷◌, Option, Some, None, if◌then◌else◌, codes, bytes_eq}
use Rattle.std.specs.List.{list_any}
use Rattle.std.specs.Ordering.{nat_cmp, is_lt}
use Rattle.std.specs.Cmp.Lexicographic.{slice_cmp}
use Rattle.toml.specs.Data.{Data, Items, no_items, item, Members, no_members, member, as_integer, as_array}
use Rattle.call_script.specs.declared.key.ScriptKey.{ScriptKey}
use Rattle.call_script.specs.declared.key.ScriptKey.TheVariants.{Quota, Drain, Gap, Blobs, Steps, Rules}
use Rattle.call_script.specs.declared.key.RuleKey.{RuleKey}
use Rattle.call_script.specs.declared.key.RuleKey.TheVariants.{Listener, On, Times, Repeat, Calls}

abbrev pub key_name : ScriptKey → List ℕ
key_name Quota = codes "quota"
key_name Drain = codes "drain"
key_name Gap = codes "gap"
key_name Blobs = codes "blobs"
key_name Steps = codes "steps"
key_name Rules = codes "rules"

abbrev pub is_script_key : List ℕ → Bool
is_script_key text =
    list_any (λ key. bytes_eq text (key_name key))
    (Quota ∷ Drain ∷ Gap ∷ Blobs ∷ Steps ∷ Rules ∷ [])

abbrev pub rule_key_name : RuleKey → List ℕ
rule_key_name Listener = codes "listener"
rule_key_name On = codes "on"
rule_key_name Times = codes "times"
rule_key_name Repeat = codes "repeat"
rule_key_name Calls = codes "calls"

abbrev pub is_rule_key : List ℕ → Bool
is_rule_key text =
    list_any (λ key. bytes_eq text (rule_key_name key))
    (Listener ∷ On ∷ Times ∷ Repeat ∷ Calls ∷ [])

abbrev pub keys_of : Members → List (List ℕ)
keys_of no_members = []
keys_of (member key value members) = key ∷ keys_of members

-- the first of a key and of another one, in order of their bytes
abbrev pub lesser_key : List ℕ → Option (List ℕ) → Option (List ℕ)
lesser_key key None = Some key
lesser_key key (Some other) = if is_lt (slice_cmp nat_cmp other key) then Some other else Some key

-- the first key, in order of bytes, that a script does not have
unfoldable pub unknown_key : Members → Option (List ℕ)
unknown_key no_members = None
unknown_key (member key value members) =
    if is_script_key key then unknown_key members else lesser_key key (unknown_key members)

-- a whole number from `least` to `most`
abbrev pub number_within : ℕ → ℕ → Option ℤ → Option ℕ
number_within least most None = None
number_within least most (Some (pos n)) = if nat_le least n && nat_le n most then Some n else None
number_within least most (Some (negsuc n)) = None

-- the number that stands at a key from `least` to `most`, or the default where the key is not there
unfoldable pub number_or : ℕ → ℕ → ℕ → Option Data → Option ℕ
number_or default least most None = Some default
number_or default least most (Some value) = number_within least most (as_integer value)

-- the list that stands at a key, or the empty list where the key is not there
unfoldable pub items_or_none : Option Data → Option Items
items_or_none None = Some no_items
items_or_none (Some value) = as_array value

-- how many items a list has
abbrev pub count_of : Items → ℕ
count_of no_items = 0
count_of (item value items) = suc (count_of items)
