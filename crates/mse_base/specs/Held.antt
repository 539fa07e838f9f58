-- Spans in one vector or in blocks.
use Rattle.std.specs.Prelude.{◌-◌, vec_len, vec_capacity}
use Rattle.mse_base.specs.declared.span_list.Held.{Held}
use Rattle.mse_base.specs.declared.span_list.Held.TheVariants.{Few, Many}
use Rattle.mse_base.specs.Spans.{RangesView}

-- what is held, and for how many more there is room
abbrev pub spans_held : Held → RangesView
spans_held (Few v) = record { spans = v.items; spare = vec_capacity v - vec_len v }
spans_held (Many b) = b
