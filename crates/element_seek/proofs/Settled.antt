-- The end of a step, made twice.
use Rattle.std.proofs.Common.{◌≡◌, ◌∙◌, ◌==◌, ℕ, zero, suc, Bool, true, false, not, cond, ◌&&◌, ◌||◌, [], refl, sym, ap, arith}
use Rattle.std.proofs.lemmas.Bool.{and_parts}
use Rattle.std.proofs.lemmas.Bool.Decides.{nat_tests}
use Rattle.mse_base.specs.Moments.{is_same_moment}
use Rattle.mse_base.specs.declared.ticks.Moment.TheVariants.{At}
use Rattle.mse_calls.specs.Level.{has_metadata, level_number}
use Rattle.mse_calls.specs.declared.answers.Level.{Level}
use Rattle.mse_calls.specs.declared.answers.Level.TheVariants.{Nothing, Metadata, Current, Future, Enough}
use Rattle.element_ready.specs.Levels.{level_at}
use Rattle.element_ready.specs.Events.{change_events, is_first_data}
use Rattle.element_ready.proofs.Changes.{same-events, same-no_data, level-metadata}
use Rattle.element_seek.specs.declared.scene.Scene.{Scene}
use Rattle.element_seek.specs.State.{PlayerState, player_change, has_ended}
use Rattle.element_seek.specs.Settling.{level_in, facts_in, at_level, after_settle, has_same_level, is_unchanged_by_settle_in}

same_level : (b : Bool) (old new : Level) → has_metadata old ≡ b → has_metadata new ≡ true → cond (has_metadata (cond b new old)) new (cond b new old) ≡ cond b new old
same_level true old new e n = ap (λ b. cond b new new) n
same_level false old new e n = ap (λ b. cond b new old) e

same_metadata : (b : Bool) (old new : Level) → has_metadata old ≡ b → has_metadata new ≡ true → has_metadata (cond b new old) ≡ b
same_metadata true old new e n = n
same_metadata false old new e n = e

or_false : (a b : Bool) → b ≡ false → (a || b) ≡ a
or_false true b e = refl
or_false false b e = e

and_twice : (f e : Bool) → ((f && e) && e) ≡ (f && e)
and_twice true true = refl
and_twice true false = refl
and_twice false e = refl

pub settled-once : (scene : Scene) (p : PlayerState) → after_settle scene (after_settle scene p).state ≡ player_change [] (after_settle scene p).state
settled-once scene p =
    let known = level-metadata scene.span p.position scene.duration in
    let here = level_at scene.span p.position scene.duration in
    let level = level_in scene p in
    let q : PlayerState = (after_settle scene p).state in
    let stays : level_in scene q ≡ level = same_level (has_metadata p.level) p.level here refl known in
    let ended : has_ended scene q ≡ has_ended scene p = ap (λ b. b && (scene.ended && is_same_moment (At p.position) scene.duration)) (same_metadata (has_metadata p.level) p.level here refl known) in
    let events : change_events level level (facts_in scene q) ≡ [] = same-events level (facts_in scene q) in
    let loaded : (q.loaded_before || is_first_data level level) ≡ q.loaded_before = or_false q.loaded_before (is_first_data level level) (same-no_data level) in
    let finished : (q.finished && has_ended scene q) ≡ q.finished = ap (λ b. q.finished && b) ended ∙ and_twice p.finished (has_ended scene p) in
    ap (λ new. at_level new scene q) stays ∙ (λ i. player_change (events i) (record q { loaded_before = loaded i; finished = finished i }))

-- ---- a level that stays

abbrev level_of : ℕ → Level
level_of zero = Nothing
level_of (suc zero) = Metadata
level_of (suc (suc zero)) = Current
level_of (suc (suc (suc zero))) = Future
level_of n = Enough

numbered : (l : Level) → level_of (level_number l) ≡ l
numbered Nothing = refl
numbered Metadata = refl
numbered Current = refl
numbered Future = refl
numbered Enough = refl

same_number : (m n : ℕ) → (m == n) ≡ true → m ≡ n
same_number m n h = grind (arith, nat_tests)

kept_by : (b : Bool) (new old : Level) → (not b || (level_number new == level_number old)) ≡ true → cond b new old ≡ old
kept_by true new old h = sym (numbered new) ∙ (ap level_of (same_number (level_number new) (level_number old) h) ∙ numbered old)
kept_by false new old h = refl

untold_by : (finished ended : Bool) → not finished ≡ true → (finished && ended) ≡ finished
untold_by true ended h = absurd cc
untold_by false ended h = refl

-- an end of a step at which the level stays, and no end of playback was told
pub settled-still : (scene : Scene) (p : PlayerState) → is_unchanged_by_settle_in scene p ≡ true → after_settle scene p ≡ player_change [] p
settled-still scene p h =
    let parts = and_parts (not p.finished) (has_same_level scene.span scene.duration p) h in
    let stays : level_in scene p ≡ p.level = kept_by (has_metadata p.level) (level_at scene.span p.position scene.duration) p.level parts.1 in
    let events : change_events p.level p.level (facts_in scene p) ≡ [] = same-events p.level (facts_in scene p) in
    let loaded : (p.loaded_before || is_first_data p.level p.level) ≡ p.loaded_before = or_false p.loaded_before (is_first_data p.level p.level) (same-no_data p.level) in
    ap (λ new. at_level new scene p) stays ∙ (λ i. player_change (events i) (record p { loaded_before = loaded i; finished = untold_by p.finished (has_ended scene p) parts.0 i }))
