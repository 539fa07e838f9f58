-- A media source as a state.
use Rattle.std.specs.Prelude.{ℕ, Bool, not, ◌==◌, List, [], filter, Option, None}
use Rattle.std.specs.List.{list_any, list_all}
use Rattle.mse_base.specs.declared.span.Span.{Span}
use Rattle.mse_base.specs.declared.ticks.Moment.{Moment}
use Rattle.mse_base.specs.declared.ticks.Moment.TheVariants.{Nan}
use Rattle.mse_calls.specs.declared.answers.Ready.{Ready}
use Rattle.mse_calls.specs.declared.answers.Ready.TheVariants.{Closed}

-- The state and the duration (Media Source Extensions, 2.1), the live seekable range, how many source buffers were
-- ever made, the numbers of those in sourceBuffers, in its order, and of those in activeSourceBuffers, in the order in
-- which they became active.
pub record SourceState : Type 0 where
  pub ready : Ready
  pub duration : Moment
  pub live : Option Span
  pub made : ℕ
  pub listed : List ℕ
  pub active : List ℕ

abbrev pub new_source : SourceState
new_source = record {
  ready = Closed;
  duration = Nan;
  live = None;
  made = 0;
  listed = [];
  active = [];
}

-- a list of buffers has the one of a number
abbrev pub is_listed_in : ℕ → List ℕ → Bool
is_listed_in k ks = list_any (λ n. n == k) ks

-- a list of buffers without the one of a number
abbrev pub numbers_without : ℕ → List ℕ → List ℕ
numbers_without k ks = filter (λ n. not (n == k)) ks

-- every buffer of a list is in another
abbrev pub are_in : List ℕ → List ℕ → Bool
are_in ks all = list_all (λ n. is_listed_in n all) ks
