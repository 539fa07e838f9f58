-- What steps keep of the tracks.
use Rattle.std.proofs.Common.{◌≡◌, ℕ, ℤ, zero, suc, ◌+◌, ◌-◌, ◌<◌, ◌≤◌, ◌^◌, Bool, true, List, [], ◌∷◌, ◌++◌, length, map, take, drop, filter, get_or, slice_get, Option, Some, None, Result, Ok, Err, refl, sym, ap, ◌∙◌, subst, arith, append_assoc, pos, ◌+ℤ◌, ◌-ℤ◌, ◌≤ℤ◌}
use Rattle.std.specs.List.{AllByRecursion}
use Rattle.std.specs.Option.{IfSome}
use Rattle.std.specs.Result.{OnOk, IfOk}
use Rattle.mse_calls.specs.declared.views.TrackView.{TrackView}
use Rattle.track_buffers.specs.declared.effects.SourceEffect.{SourceEffect}
use Rattle.track_buffers.specs.Views.{track_view}
use Rattle.std.proofs.lemmas.Int.{ints}
use Rattle.std.proofs.lemmas.List.{take_more, drop_more, map-append, length-append}
use Rattle.std.proofs.lemmas.List.Elements.{filter-append}
use Rattle.std.proofs.lemmas.List.Sums.{sum_by-cons}
use Rattle.mse_base.specs.declared.ticks.Moment.{Moment}
use Rattle.mse_base.specs.declared.ticks.Moment.TheVariants.{Nan, At, Infinite}
use Rattle.mse_base.specs.declared.track.TrackInfo.{TrackInfo}
use Rattle.mse_base.specs.declared.track.Presentation.{Presentation}
use Rattle.track_store.specs.declared.store.Stored.{Stored}
use Rattle.track_store.specs.declared.tracks.Track.{Track}
use Rattle.track_store.specs.Frames.{bytes_of}
use Rattle.track_store.specs.Kept.{IsCountable, bytes_in, AreSoundAndCountable, AreEndedBy, HasSpareRoom, gaps_of}
use Rattle.track_store.specs.Sound.{IsSound, AreTogether}
use Rattle.track_store.specs.State.{TrackState, state_of, states_of}
use Rattle.range_removal.specs.Rooms.{IsRoomKept}
use Rattle.track_buffers.proofs.Loops.{found_at}
use Rattle.track_buffers.specs.Media.{AreEndedWithin, least_room, room_of}
use Rattle.track_buffers.specs.Frames.{unset_track}
use Rattle.track_buffers.specs.Initialized.{is_media_track, segment_effect, new_track, tracks_with_partners, track_with_partner, partner_of, tracks_after}

-- ---- sound

together_needs : (decode duration end : Option ℤ) (first : Option ℕ) (need : Bool) → AreTogether decode duration end first need → AreTogether decode duration end first true
together_needs (Some decode) (Some duration) (Some end) (Some first) need h = h
together_needs None None None None need h = refl
together_needs decode duration end first need h = absurd h

unset_sound : (t : TrackState) → IsSound t → IsSound (unset_track t)
unset_sound t h = record { chained = h.chained; ascending = h.ascending; below = h.below; not_negative = h.not_negative; last_held = λ e. cc; together = refl; group_below = tt; group_sync = tt }

new_sound : (u : TrackInfo) → IsSound (new_track u)
new_sound u = record { chained = tt; ascending = tt; below = tt; not_negative = tt; last_held = λ e. cc; together = refl; group_below = tt; group_sync = tt }

renewed_sound : (t : TrackState) (o : Option TrackInfo) → IsSound t → IsSound (track_with_partner t o)
renewed_sound t None h = h
renewed_sound t (Some u) h = record { chained = h.chained; ascending = h.ascending; below = h.below; not_negative = h.not_negative; last_held = λ e. cc; together = together_needs _ t.marks.last_duration _ _ t.marks.need_sync h.together; group_below = h.group_below; group_sync = h.group_sync }

-- steps that leave the frames of each track
module _ (f : TrackState → TrackState) (frames : (t : TrackState) → (f t).frames ≡ t.frames) where
  bytes-map : (ts : List TrackState) → bytes_in (map f ts) ≡ bytes_in ts
  bytes-map [] = refl
  bytes-map (t ∷ ts) =
      sum_by-cons (λ (u : TrackState). bytes_of u.frames) (f t) (map f ts)
      ∙ ap (λ (fs : List Stored). bytes_of fs + bytes_in (map f ts)) (frames t)
      ∙ ap (λ (n : ℕ). bytes_of t.frames + n) (bytes-map ts)
      ∙ sym (sum_by-cons (λ (u : TrackState). bytes_of u.frames) t ts)

  sound-map : ((t : TrackState) → IsSound t → IsSound (f t)) → (ts : List TrackState) → AllByRecursion IsSound ts → AllByRecursion IsSound (map f ts)
  sound-map sound [] h = tt
  sound-map sound (t ∷ ts) h = (sound t h.0, sound-map sound ts h.1)

  counted-map : ((t : TrackState) → IsCountable t → IsCountable (f t)) → (ts : List TrackState) → AllByRecursion IsCountable ts → AllByRecursion IsCountable (map f ts)
  counted-map counted [] h = tt
  counted-map counted (t ∷ ts) h = (counted t h.0, counted-map counted ts h.1)

  kept-map : ((t : TrackState) → IsSound t → IsSound (f t)) → ((t : TrackState) → IsCountable t → IsCountable (f t)) → (ts : List TrackState) → AreSoundAndCountable ts → AreSoundAndCountable (map f ts)
  kept-map sound counted ts h = record { sound = sound-map sound ts h.sound; counted = counted-map counted ts h.counted; small = subst (λ (n : ℕ). n < 2 ^ 62) (sym (bytes-map ts)) h.small }

  endby-map : (limit : ℤ) (ts : List TrackState) → AreEndedBy limit ts → AreEndedBy limit (map f ts)
  endby-map limit [] h = tt
  endby-map limit (t ∷ ts) h = (subst (λ (fs : List Stored). AllByRecursion (λ g. (g.frame.pts +ℤ g.frame.dur) ≤ℤ limit) fs) (sym (frames t)) h.0, endby-map limit ts h.1)

  empty-map : (ts : List TrackState) → AllByRecursion (λ t. t.frames ≡ []) ts → AllByRecursion (λ t. t.frames ≡ []) (map f ts)
  empty-map [] h = tt
  empty-map (t ∷ ts) h = (frames t ∙ h.0, empty-map ts h.1)

  ends-map : (d : Moment) (ts : List TrackState) → AreEndedWithin d ts → AreEndedWithin d (map f ts)
  ends-map Nan ts h = empty-map ts h
  ends-map (At d) ts h = endby-map d ts h
  ends-map Infinite ts h = h

pub kept_unset : (ts : List TrackState) → AreSoundAndCountable ts → AreSoundAndCountable (map unset_track ts)
kept_unset ts h = kept-map unset_track (λ t. refl) unset_sound (λ t c. c) ts h

pub ends_unset : (d : Moment) (ts : List TrackState) → AreEndedWithin d ts → AreEndedWithin d (map unset_track ts)
ends_unset d ts h = ends-map unset_track (λ t. refl) d ts h

frames_renewed : (t : TrackState) (o : Option TrackInfo) → (track_with_partner t o).frames ≡ t.frames
frames_renewed t None = refl
frames_renewed t (Some u) = refl

counted_renewed : (t : TrackState) (o : Option TrackInfo) → IsCountable t → IsCountable (track_with_partner t o)
counted_renewed t None h = h
counted_renewed t (Some u) h = h

pub kept_renewed : (news : List TrackInfo) (ts : List TrackState) → AreSoundAndCountable ts → AreSoundAndCountable (tracks_with_partners news ts)
kept_renewed news ts h = kept-map (λ t. track_with_partner t (partner_of ts news t)) (λ t. frames_renewed t (partner_of ts news t)) (λ t s. renewed_sound t (partner_of ts news t) s) (λ t c. counted_renewed t (partner_of ts news t) c) ts h

pub ends_renewed : (news : List TrackInfo) (d : Moment) (ts : List TrackState) → AreEndedWithin d ts → AreEndedWithin d (tracks_with_partners news ts)
ends_renewed news d ts h = ends-map (λ t. track_with_partner t (partner_of ts news t)) (λ t. frames_renewed t (partner_of ts news t)) d ts h

sound_new : (news : List TrackInfo) → AllByRecursion IsSound (map new_track news)
sound_new [] = tt
sound_new (u ∷ news) = (new_sound u, sound_new news)

counted_new : (news : List TrackInfo) → AllByRecursion IsCountable (map new_track news)
counted_new [] = tt
counted_new (u ∷ news) = (omega arith, counted_new news)

bytes_new : (news : List TrackInfo) → bytes_in (map new_track news) ≡ 0
bytes_new [] = refl
bytes_new (u ∷ news) = sum_by-cons (λ (t : TrackState). bytes_of t.frames) (new_track u) (map new_track news) ∙ ap (λ (n : ℕ). 0 + n) (bytes_new news)

pub kept_new : (news : List TrackInfo) → AreSoundAndCountable (map new_track news)
kept_new news = record { sound = sound_new news; counted = counted_new news; small = let none = bytes_new news in omega arith }

empty_new : (news : List TrackInfo) → AllByRecursion (λ t. t.frames ≡ []) (map new_track news)
empty_new [] = tt
empty_new (u ∷ news) = (refl, empty_new news)

-- ---- no frames

frames_none : (limit : ℤ) (fs : List Stored) → fs ≡ [] → AllByRecursion (λ f. (f.frame.pts +ℤ f.frame.dur) ≤ℤ limit) fs
frames_none limit fs e = subst (λ gs. AllByRecursion (λ f. (f.frame.pts +ℤ f.frame.dur) ≤ℤ limit) gs) (sym e) tt

pub endby_none : (limit : ℤ) (ts : List TrackState) → AllByRecursion (λ t. t.frames ≡ []) ts → AreEndedBy limit ts
endby_none limit [] h = tt
endby_none limit (t ∷ ts) h = (frames_none limit t.frames h.0, endby_none limit ts h.1)

-- where there are no frames, they end by every duration
pub ends_none : (d : Moment) (ts : List TrackState) → AllByRecursion (λ t. t.frames ≡ []) ts → AreEndedWithin d ts
ends_none Nan ts h = h
ends_none (At d) ts h = endby_none d ts h
ends_none Infinite ts h = tt

pub ends_new : (news : List TrackInfo) (d : Moment) → AreEndedWithin d (map new_track news)
ends_new news d = ends_none d (map new_track news) (empty_new news)

-- where frames end by every time, there are none
none_all : (fs : List Stored) → ((limit : ℤ) → AllByRecursion (λ f. (f.frame.pts +ℤ f.frame.dur) ≤ℤ limit) fs) → fs ≡ []
none_all [] h = refl
none_all (f ∷ fs) h = let low = (h ((f.frame.pts +ℤ f.frame.dur) -ℤ pos 1)).0 in absurd (omega (arith, ints))

pub none_by_all : (ts : List TrackState) → ((limit : ℤ) → AreEndedBy limit ts) → AllByRecursion (λ t. t.frames ≡ []) ts
none_by_all [] h = tt
none_by_all (t ∷ ts) h = (none_all t.frames (λ limit. (h limit).0), none_by_all ts (λ limit. (h limit).1))

-- a step that keeps every time that the frames end by
pub ends_kept : (ts us : List TrackState) → ((limit : ℤ) → AreEndedBy limit ts → AreEndedBy limit us) → (d : Moment) → AreEndedWithin d ts → AreEndedWithin d us
ends_kept ts us keep Nan h = none_by_all us (λ limit. keep limit (endby_none limit ts h))
ends_kept ts us keep (At d) h = keep d h
ends_kept ts us keep Infinite h = h

-- ---- the tracks after an initialization segment

pub kept_after : (news : List TrackInfo) (ts : List TrackState) → AreSoundAndCountable ts → AreSoundAndCountable (tracks_after news ts)
kept_after news [] h = kept_new news
kept_after news (t ∷ ts) h = kept_renewed news (t ∷ ts) h

pub ends_after : (news : List TrackInfo) (ts : List TrackState) (d : Moment) → AreEndedWithin d ts → AreEndedWithin d (tracks_after news ts)
ends_after news [] d h = ends_new news d
ends_after news (t ∷ ts) d h = ends_renewed news d (t ∷ ts) h

-- ---- room

least_bound : (ns : List ℕ) → least_room ns ≤ 2 ^ 64
least_bound [] = omega arith
least_bound (n ∷ ns) = let rest = least_bound ns in omega arith

pub room_bound : {S : Type 0} (spare : S → ℕ) (ts : List (Track S)) → room_of spare ts ≤ 2 ^ 64
room_bound spare ts = least_bound (map (λ t. spare t.store) ts)

pub room_all : {S : Type 0} (spare : S → ℕ) (n : ℕ) (ts : List (Track S)) → n ≤ room_of spare ts → HasSpareRoom spare n ts
room_all spare n [] h = tt
room_all spare n (t ∷ ts) h = (omega arith, room_all spare n ts (omega arith))

pub all_room : {S : Type 0} (spare : S → ℕ) (n : ℕ) (ts : List (Track S)) → n ≤ 2 ^ 64 → HasSpareRoom spare n ts → n ≤ room_of spare ts
all_room spare n [] most h = most
all_room spare n (t ∷ ts) most h = let rest = all_room spare n ts most h.1 in let own = h.0 in omega arith

pub room_fewer : {S : Type 0} (spare : S → ℕ) (n m : ℕ) (ts : List (Track S)) → n ≤ m → HasSpareRoom spare m ts → HasSpareRoom spare n ts
room_fewer spare n m [] less h = tt
room_fewer spare n m (t ∷ ts) less h = (let own = h.0 in omega arith, room_fewer spare n m ts less h.1)

pub room_none : {S : Type 0} (spare : S → ℕ) (ts : List (Track S)) → HasSpareRoom spare 0 ts
room_none spare [] = tt
room_none spare (t ∷ ts) = (omega arith, room_none spare ts)

-- room for some frames where there is room for more
pub room_within : {S : Type 0} (spare : S → ℕ) (n m : ℕ) (ts : List (Track S)) → n ≤ m → n ≤ 2 ^ 64 → HasSpareRoom spare m ts → n ≤ room_of spare ts
room_within spare n m ts less most h = all_room spare n ts most (room_fewer spare n m ts less h)

-- what is left of known room after a step that takes room for one frame
pub room_one_less : {S : Type 0} (spare : S → ℕ) (ts us : List (Track S)) (n : ℕ) → ((k : ℕ) → HasSpareRoom spare (k + 1) ts → HasSpareRoom spare k us) → HasSpareRoom spare n ts → HasSpareRoom spare (n - 1) us
room_one_less spare ts us zero keep h = room_none spare us
room_one_less spare ts us (suc n) keep h = room_fewer spare (suc n - 1) n us (omega arith) (keep n (room_fewer spare (n + 1) (suc n) ts (omega arith) h))

-- a step that keeps the room of each store
pub room_kept_by : {S : Type 0} (spare : S → ℕ) (ts us : List (Track S)) → ((n : ℕ) → HasSpareRoom spare n ts → HasSpareRoom spare n us) → room_of spare ts ≤ room_of spare us
room_kept_by spare ts us keep = all_room spare (room_of spare ts) us (room_bound spare ts) (keep (room_of spare ts) (room_all spare (room_of spare ts) ts (omega arith)))

less_by : {S : Type 0} (spare : S → ℕ) (ts us : List (Track S)) (r : ℕ) → room_of spare ts ≡ r → ((n : ℕ) → HasSpareRoom spare (n + 1) ts → HasSpareRoom spare n us) → r ≤ room_of spare us + 1
less_by spare ts us zero e keep = omega arith
less_by spare ts us (suc r) e keep =
    let most = room_bound spare ts in
    let here : r + 1 ≤ room_of spare ts = omega arith in
    let rest = all_room spare r us (omega arith) (keep r (room_all spare (r + 1) ts here)) in
    omega arith

-- a step that takes room for one frame
pub room_less_by : {S : Type 0} (spare : S → ℕ) (ts us : List (Track S)) → ((n : ℕ) → HasSpareRoom spare (n + 1) ts → HasSpareRoom spare n us) → room_of spare ts ≤ room_of spare us + 1
room_less_by spare ts us keep = less_by spare ts us (room_of spare ts) refl keep

push_room : {S : Type 0} (spare : S → ℕ) (n : ℕ) (ts : List (Track S)) (t : Track S) → HasSpareRoom spare n ts → n ≤ spare t.store → HasSpareRoom spare n (ts ++ t ∷ [])
push_room spare n [] t h own = (own, tt)
push_room spare n (u ∷ ts) t h own = (h.0, push_room spare n ts t h.1 own)

room_take : {S : Type 0} (spare : S → ℕ) (n : ℕ) (ts us : List (Track S)) (i : ℕ) → IsRoomKept spare ts us → length us ≡ length ts → HasSpareRoom spare n (take i ts) → HasSpareRoom spare n (take i us)
room_take spare n ts us zero keep e h = tt
room_take spare n [] [] (suc i) keep e h = tt
room_take spare n [] (u ∷ us) (suc i) keep e h = absurd (omega arith)
room_take spare n (t ∷ ts) [] (suc i) keep e h = tt
room_take spare n (t ∷ ts) (u ∷ us) (suc i) keep e h = (let own = h.0 in let more = keep zero in omega arith, room_take spare n ts us i (λ k. keep (suc k)) (omega arith) h.1)

-- one more store has room
pub room_more : {S : Type 0} (spare : S → ℕ) (n : ℕ) (ts us : List (Track S)) (i : ℕ) → i < length us → IsRoomKept spare ts us → length us ≡ length ts → HasSpareRoom spare n (take i ts) → IfSome (slice_get us i) (λ t. n ≤ spare t.store) → HasSpareRoom spare n (take (i + 1) us)
room_more spare n ts us i low keep e so_far h =
    let at = found_at (λ t. n ≤ spare t.store) us i low h in
    subst (λ vs. HasSpareRoom spare n vs) (sym at.more) (push_room spare n (take i us) at.x (room_take spare n ts us i keep e so_far) at.holds)

-- ---- gaps

pub all_gaps_push : {S : Type 0} (gap : S → ℤ) (g : ℤ) (ts : List (Track S)) (t : Track S) → AllByRecursion (λ z. z ≡ g) (gaps_of gap ts) → gap t.store ≡ g → AllByRecursion (λ z. z ≡ g) (gaps_of gap (ts ++ t ∷ []))
all_gaps_push gap g [] t h own = (own, tt)
all_gaps_push gap g (u ∷ ts) t h own = (h.0, all_gaps_push gap g ts t h.1 own)

pub gaps_forward : (g : ℤ) (zs : List ℤ) → pos 0 ≤ℤ g → AllByRecursion (λ z. z ≡ g) zs → AllByRecursion (λ z. pos 0 ≤ℤ z) zs
gaps_forward g [] low h = tt
gaps_forward g (z ∷ zs) low h = (subst (λ (y : ℤ). pos 0 ≤ℤ y) (sym h.0) low, gaps_forward g zs low h.1)

-- ---- track buffers that are made

pub tracks_made : {S : Type 0} (frames : S → List Stored) (news : List TrackInfo) (ts : List (Track S)) → length ts ≡ 0 → states_of frames ts ++ map new_track news ≡ tracks_after news (states_of frames ts)
tracks_made frames news [] e = refl
tracks_made frames news (t ∷ ts) e = absurd (omega arith)

pub media_more : (us : List TrackInfo) (i : ℕ) (u : TrackInfo) → i < length us → u ≡ get_or us i u → filter is_media_track (take (i + 1) us) ≡ filter is_media_track (take i us) ++ filter is_media_track (u ∷ [])
media_more us i u low e = ap (filter is_media_track) (take_more us i u low ∙ ap (λ x. take i us ++ x ∷ []) (sym e)) ∙ filter-append is_media_track (take i us) (u ∷ [])

pub made_more : (ts ts' ts'' : List TrackState) (us : List TrackInfo) (i : ℕ) (u : TrackInfo) → i < length us → u ≡ get_or us i u → ts' ≡ ts ++ map new_track (filter is_media_track (take i us)) → ts'' ≡ ts' ++ map new_track (filter is_media_track (u ∷ [])) → ts'' ≡ ts ++ map new_track (filter is_media_track (take (i + 1) us))
made_more ts ts' ts'' us i u low e so_far h =
    h ∙ ap (λ (xs : List TrackState). xs ++ map new_track (filter is_media_track (u ∷ []))) so_far
    ∙ append_assoc ts (map new_track (filter is_media_track (take i us))) (map new_track (filter is_media_track (u ∷ [])))
    ∙ ap (λ (xs : List TrackState). ts ++ xs) (sym (ap (map new_track) (media_more us i u low e) ∙ map-append new_track (filter is_media_track (take i us)) (filter is_media_track (u ∷ []))))

media_left : (us : List TrackInfo) (i : ℕ) (u : TrackInfo) → i < length us → u ≡ get_or us i u → length (filter is_media_track (drop i us)) ≡ length (filter is_media_track (u ∷ [])) + length (filter is_media_track (drop (i + 1) us))
media_left us i u low e = ap (λ xs. length (filter is_media_track xs)) (drop_more us i u low ∙ ap (λ x. x ∷ drop (i + 1) us) (sym e)) ∙ ap length (filter-append is_media_track (u ∷ []) (drop (i + 1) us)) ∙ length-append (filter is_media_track (u ∷ [])) (filter is_media_track (drop (i + 1) us))

pub places_here : (us : List TrackInfo) (i : ℕ) (u : TrackInfo) (n : ℕ) → i < length us → u ≡ get_or us i u → length (filter is_media_track (drop i us)) ≤ n → length (filter is_media_track (u ∷ [])) ≤ n
places_here us i u n low e h = let both = media_left us i u low e in omega arith

pub places_left : (us : List TrackInfo) (i : ℕ) (u : TrackInfo) (n m : ℕ) → i < length us → u ≡ get_or us i u → length (filter is_media_track (drop i us)) ≤ n → n ≤ m + length (filter is_media_track (u ∷ [])) → length (filter is_media_track (drop (i + 1) us)) ≤ m
places_left us i u n m low e h k = let both = media_left us i u low e in omega arith

-- the duration that a segment tells
pub ends_told : (p : Presentation) (d : Moment) (b : SourceEffect) (ts : List TrackState) → b ≡ segment_effect p d → AreEndedWithin d ts → AreEndedWithin b.duration ts
ends_told p Nan b ts is h = ends_none b.duration ts h
ends_told p (At d) b ts is h = subst (λ (m : Moment). AreEndedWithin m ts) (sym (ap (λ (x : SourceEffect). x.duration) is)) h
ends_told p Infinite b ts is h = subst (λ (m : Moment). AreEndedWithin m ts) (sym (ap (λ (x : SourceEffect). x.duration) is)) h

-- ---- answers

pub on_ok : {A E P Q : Type 0} (r : Result A E) → (P → Q) → OnOk r P → OnOk r Q
on_ok (Ok x) f h = f h
on_ok (Err e) f h = h

pub ok_same : {A E : Type 0} (r : Result A E) (x y : A) → x ≡ y → IfOk r (λ v. v ≡ x) → IfOk r (λ v. v ≡ y)
ok_same r x y same h = subst (λ z. IfOk r (λ v. v ≡ z)) same h

-- all gaps are one
pub views_same : {S : Type 0} (frames : S → List Stored) (gap : S → ℤ) (g : ℤ) (ts : List (Track S)) → AllByRecursion (λ z. z ≡ g) (gaps_of gap ts) → map (λ t. track_view (gap t.store) (state_of frames t)) ts ≡ map (track_view g) (states_of frames ts)
views_same frames gap g [] h = refl
views_same frames gap g (t ∷ ts) h = ap (λ (z : ℤ). track_view z (state_of frames t) ∷ map (λ u. track_view (gap u.store) (state_of frames u)) ts) h.0 ∙ ap (λ (vs : List TrackView). track_view g (state_of frames t) ∷ vs) (views_same frames gap g ts h.1)
