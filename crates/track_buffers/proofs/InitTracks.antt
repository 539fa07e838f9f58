-- Behind an initialization segment each video or audio track of it has a track buffer.
use Rattle.std.proofs.Common.{◌≡◌, ◌≢◌, ◌∙◌, ℕ, suc, ◌+◌, ◌<◌, ◌≤◌, ◌⊎◌, inl, inr, ◌==◌, nat_eq, nat_lt, Bool, true, false, not, cond, ◌&&◌, ◌||◌, List, [], ◌∷◌, length, map, filter, find, Option, Some, None, refl, sym, ap, subst, arith}
use Rattle.std.specs.Prelude.{IsSome}
use Rattle.std.specs.List.{AllByRecursion, list_all, position_or_len}
use Rattle.std.proofs.lemmas.Bool.Decides.{nat_tests}
use Rattle.std.proofs.lemmas.List.{length-map}
use Rattle.std.proofs.lemmas.List.Sums.{sum_by-cons}
use Rattle.mse_base.specs.declared.ticks.Moment.{Moment}
use Rattle.mse_base.specs.declared.track.Kind.{Kind}
use Rattle.mse_base.specs.declared.track.Kind.TheVariants.{Video, Audio, Other}
use Rattle.mse_base.specs.declared.track.Presentation.{Presentation}
use Rattle.mse_base.specs.declared.track.TrackInfo.{TrackInfo}
use Rattle.mse_base.specs.Moments.{is_same_kind, is_media}
use Rattle.mse_base.specs.declared.frame.CodedFrame.{CodedFrame}
use Rattle.mse_base.specs.Presentation.{has_id, HasDistinctIds}
use Rattle.track_store.specs.State.{TrackState}
use Rattle.track_buffers.specs.declared.effects.SourceEffect.{SourceEffect}
use Rattle.track_buffers.specs.declared.effects.MediaFault.{MediaFault}
use Rattle.track_buffers.specs.Media.{Media, Done, is_awaiting_first, is_empty_list}
use Rattle.track_buffers.specs.Frames.{has_number, place_of, track_ids}
use Rattle.track_buffers.specs.Initialized.{count_of, kinds_of, new_kinds, is_media_track, is_of_kind, is_numbered, partner_of, is_partner, has_same_tracks, is_known, new_track, track_with_partner, tracks_after, media_tracks, init_fault, init_result, init_result_of, segment_effect}
use Rattle.track_buffers.proofs.FramesOfOneTrack.{same_place}
use Rattle.track_buffers.proofs.HighestEnd.{taken_by}
use Rattle.track_buffers.specs.Numbers.{AreApart, HasBuffers, IsOfMediaTrack}

-- ---- lists of numbers

abbrev IsIn : ℕ → List ℕ → Type 0
IsIn n [] = ⊥
IsIn n (k ∷ ks) = (k ≡ n) ⊎ IsIn n ks

equal_tested : (k n : ℕ) → nat_eq k n ≡ true → k ≡ n
equal_tested k n e = grind (arith, nat_tests)

tested_equal : (k n : ℕ) → k ≡ n → nat_eq k n ≡ true
tested_equal k n e = grind (arith, nat_tests)

not_both : (b : Bool) → b ≡ true → b ≡ false → ⊥
not_both true e f = cc
not_both false e f = cc

same_by : (k n : ℕ) (b : Bool) → nat_eq k n ≡ b → (k ≡ n) ⊎ (k ≢ n)
same_by k n true e = inl (equal_tested k n e)
same_by k n false e = inr (λ same. not_both (nat_eq k n) (tested_equal k n same) e)

same_or_not : (k n : ℕ) → (k ≡ n) ⊎ (k ≢ n)
same_or_not k n = same_by k n (nat_eq k n) refl

-- without the first that is n
abbrev without : ℕ → List ℕ → List ℕ
without n [] = []
without n (k ∷ ks) = cond (nat_eq k n) ks (k ∷ without n ks)

shorter_step : (b : Bool) (k n : ℕ) (ks : List ℕ) → nat_eq k n ≡ b → (k ≡ n) ⊎ IsIn n ks → (IsIn n ks → length (without n ks) + 1 ≡ length ks) → length (cond b ks (k ∷ without n ks)) + 1 ≡ length (k ∷ ks)
shorter_step true k n ks e h ih = omega arith
shorter_step false k n ks e (inl s) ih = absurd (not_both (nat_eq k n) (tested_equal k n s) e)
shorter_step false k n ks e (inr g) ih = let r = ih g in omega arith

shorter : (n : ℕ) (ks : List ℕ) → IsIn n ks → length (without n ks) + 1 ≡ length ks
shorter n [] h = absurd h
shorter n (k ∷ ks) h = shorter_step (nat_eq k n) k n ks refl h (shorter n ks)

stays_step : (b : Bool) (k n m : ℕ) (ks : List ℕ) → nat_eq k n ≡ b → n ≢ m → (k ≡ m) ⊎ IsIn m ks → (IsIn m ks → IsIn m (without n ks)) → IsIn m (cond b ks (k ∷ without n ks))
stays_step true k n m ks e other (inl s) ih = absurd (other (sym (equal_tested k n e) ∙ s))
stays_step true k n m ks e other (inr g) ih = g
stays_step false k n m ks e other (inl s) ih = inl s
stays_step false k n m ks e other (inr g) ih = inr (ih g)

stays : (n m : ℕ) (ks : List ℕ) → n ≢ m → IsIn m ks → IsIn m (without n ks)
stays n m [] other h = absurd h
stays n m (k ∷ ks) other h = stays_step (nat_eq k n) k n m ks refl other h (stays n m ks other)

all_stay : (n : ℕ) (ns ks : List ℕ) → AllByRecursion (λ k. n ≢ k) ns → AllByRecursion (λ k. IsIn k ks) ns → AllByRecursion (λ k. IsIn k (without n ks)) ns
all_stay n [] ks a h = tt
all_stay n (m ∷ ns) ks a h = (stays n m ks a.0 h.0, all_stay n ns ks a.1 h.1)

-- numbers apart that all stand in a list are no more than it has
fits : (ns ks : List ℕ) → AreApart ns → AllByRecursion (λ n. IsIn n ks) ns → length ns ≤ length ks
fits [] ks a h = omega arith
fits (n ∷ ns) ks a h =
    let less = shorter n ks h.0 in
    let rest = fits ns (without n ks) a.1 (all_stay n ns ks a.0 h.1) in
    omega arith

in_step : (k m : ℕ) (ns : List ℕ) → (k ≡ m) ⊎ (k ≢ m) → IsIn m ns ⊎ AllByRecursion (λ j. m ≢ j) ns → IsIn m (k ∷ ns) ⊎ AllByRecursion (λ j. m ≢ j) (k ∷ ns)
in_step k m ns (inl s) h = inl (inl s)
in_step k m ns (inr other) (inl g) = inl (inr g)
in_step k m ns (inr other) (inr out) = inr ((λ s. other (sym s)), out)

in_or_apart : (m : ℕ) (ns : List ℕ) → IsIn m ns ⊎ AllByRecursion (λ j. m ≢ j) ns
in_or_apart m [] = inr tt
in_or_apart m (k ∷ ns) = in_step k m ns (same_or_not k m) (in_or_apart m ns)

-- where they are as many, each of the list is one of them
full_by : (ns ks : List ℕ) (m : ℕ) → AreApart ns → AllByRecursion (λ n. IsIn n ks) ns → length ks ≤ length ns → IsIn m ks → IsIn m ns ⊎ AllByRecursion (λ j. m ≢ j) ns → IsIn m ns
full_by ns ks m a h long there (inl g) = g
full_by ns ks m a h long there (inr out) = absurd (let more = fits (m ∷ ns) ks (out, a) (there, h) in omega arith)

full : (ns ks : List ℕ) (m : ℕ) → AreApart ns → AllByRecursion (λ n. IsIn n ks) ns → length ks ≤ length ns → IsIn m ks → IsIn m ns
full ns ks m a h long there = full_by ns ks m a h long there (in_or_apart m ns)

-- ---- a place by a number

less_step : (b : Bool) (n m : ℕ) → (b ≡ true) ⊎ (n < m) → cond (not b) (1 + n) 0 < suc m
less_step true n m h = omega arith
less_step false n m (inl e) = cc
less_step false n m (inr l) = omega arith

place_less : (id : ℕ) (ts : List TrackState) → IsIn id (track_ids ts) → position_or_len (has_number id) ts < length ts
place_less id [] h = absurd h
place_less id (t ∷ ts) (inl e) = less_step (t.id == id) (position_or_len (has_number id) ts) (length ts) (inl (tested_equal t.id id e))
place_less id (t ∷ ts) (inr h) = less_step (t.id == id) (position_or_len (has_number id) ts) (length ts) (inr (place_less id ts h))

is_less : (n m : ℕ) → n < m → nat_lt n m ≡ true
is_less n m h = grind (arith, nat_tests)

place_found : (id : ℕ) (ts : List TrackState) → IsIn id (track_ids ts) → IsSome (place_of id ts)
place_found id ts h = subst (λ b. IsSome (cond b (Some (position_or_len (has_number id) ts)) None)) (sym (is_less (position_or_len (has_number id) ts) (length ts) (place_less id ts h))) refl

-- ---- the tracks of a segment

abbrev numbers : List TrackInfo → List ℕ
numbers us = map (λ u. u.id) us

media_step : (b : Bool) (u : TrackInfo) (us : List TrackInfo) → is_media_track u ≡ b → AllByRecursion (λ v. is_media_track v ≡ true) us → AllByRecursion (λ v. is_media_track v ≡ true) (cond b (u ∷ us) us)
media_step true u us e h = (e, h)
media_step false u us e h = h

all_media : (us : List TrackInfo) → AllByRecursion (λ v. is_media_track v ≡ true) (filter is_media_track us)
all_media [] = tt
all_media (u ∷ us) = media_step (is_media_track u) u (filter is_media_track us) refl (all_media us)

filter_each : (P : TrackInfo → Type 0) (b : Bool) (u : TrackInfo) (us : List TrackInfo) → P u → AllByRecursion P us → AllByRecursion P (cond b (u ∷ us) us)
filter_each P true u us p h = (p, h)
filter_each P false u us p h = h

filter_all : (P : TrackInfo → Type 0) (us : List TrackInfo) → AllByRecursion P us → AllByRecursion P (filter is_media_track us)
filter_all P [] h = tt
filter_all P (u ∷ us) h = filter_each P (is_media_track u) u (filter is_media_track us) h.0 (filter_all P us h.1)

distinct_step : (b : Bool) (u : TrackInfo) (us : List TrackInfo) → AllByRecursion (λ v. u.id ≢ v.id) us → HasDistinctIds us → HasDistinctIds (cond b (u ∷ us) us)
distinct_step true u us a h = (a, h)
distinct_step false u us a h = h

distinct_media : (us : List TrackInfo) → HasDistinctIds us → HasDistinctIds (filter is_media_track us)
distinct_media [] h = tt
distinct_media (u ∷ us) h = distinct_step (is_media_track u) u (filter is_media_track us) (filter_all (λ v. u.id ≢ v.id) us h.0) (distinct_media us h.1)

each_number : (n : ℕ) (us : List TrackInfo) → AllByRecursion (λ v. n ≢ v.id) us → AllByRecursion (λ k. n ≢ k) (numbers us)
each_number n [] h = tt
each_number n (u ∷ us) h = (h.0, each_number n us h.1)

numbers_distinct : (us : List TrackInfo) → HasDistinctIds us → AreApart (numbers us)
numbers_distinct [] h = tt
numbers_distinct (u ∷ us) h = (each_number u.id us h.0, numbers_distinct us h.1)

each_in : (all : List ℕ) (us : List TrackInfo) → ((n : ℕ) → IsIn n (numbers us) → IsIn n all) → AllByRecursion (λ u. IsIn u.id all) us
each_in all [] k = tt
each_in all (u ∷ us) k = (k u.id (inl refl), each_in all us (λ n h. k n (inr h)))

-- ---- how many there are

one_kind : (k : Kind) → is_media k ≡ true → cond (is_same_kind Video k) 1 0 + cond (is_same_kind Audio k) 1 0 ≡ 1
one_kind Video e = refl
one_kind Audio e = refl
one_kind Other e = cc

at_most_one : (k : Kind) → cond (is_same_kind Video k) 1 0 + cond (is_same_kind Audio k) 1 0 ≤ 1
at_most_one Video = omega arith
at_most_one Audio = omega arith
at_most_one Other = omega arith

counted : (us : List TrackInfo) → AllByRecursion (λ v. is_media_track v ≡ true) us → length us ≡ count_of Video (new_kinds us) + count_of Audio (new_kinds us)
counted [] h = refl
counted (u ∷ us) h =
    let rest = counted us h.1 in
    let own = one_kind u.kind h.0 in
    let video = sum_by-cons (λ (k : Kind). cond (is_same_kind Video k) 1 0) u.kind (new_kinds us) in
    let audio = sum_by-cons (λ (k : Kind). cond (is_same_kind Audio k) 1 0) u.kind (new_kinds us) in
    omega arith

held : (ts : List TrackState) → count_of Video (kinds_of ts) + count_of Audio (kinds_of ts) ≤ length ts
held [] = omega arith
held (t ∷ ts) =
    let rest = held ts in
    let own = at_most_one t.kind in
    let video = sum_by-cons (λ (k : Kind). cond (is_same_kind Video k) 1 0) t.kind (kinds_of ts) in
    let audio = sum_by-cons (λ (k : Kind). cond (is_same_kind Audio k) 1 0) t.kind (kinds_of ts) in
    omega arith

-- ---- what a segment that is not refused has

no_fault : (o : Option MediaFault) (p : Presentation) (m n : Media) (b e : SourceEffect) → init_result_of o p m b ≡ Done n e → o ≡ None
no_fault (Some fault) p m n b e h = absurd cc
no_fault None p m n b e h = refl

last_test : (a b c : Bool) (x y z : MediaFault) → cond a (Some x) (cond b (Some y) (cond c None (Some z))) ≡ None → c ≡ true
last_test true b c x y z e = cc
last_test false true c x y z e = cc
last_test false false true x y z e = refl
last_test false false false x y z e = cc

and_left : (a b : Bool) → (a && b) ≡ true → a ≡ true
and_left true b e = refl
and_left false b e = cc

and_right : (a b : Bool) → (a && b) ≡ true → b ≡ true
and_right true b e = e
and_right false b e = cc

-- its tracks have the numbers and kinds of the buffer's
pub record AreAlike (news : List TrackInfo) (m : Media) : Type 0 where
  pub video : count_of Video (new_kinds news) ≡ count_of Video (kinds_of m.tracks)
  pub audio : count_of Audio (new_kinds news) ≡ count_of Audio (kinds_of m.tracks)
  pub partners : list_all (λ t. is_partner m.pending t (partner_of m.tracks news t)) m.tracks ≡ true

alike_of : (news : List TrackInfo) (m : Media) → has_same_tracks news m ≡ true → AreAlike news m
alike_of news m e =
    let v = count_of Video (new_kinds news) == count_of Video (kinds_of m.tracks) in
    let a = count_of Audio (new_kinds news) == count_of Audio (kinds_of m.tracks) in
    let l = list_all (λ t. is_partner m.pending t (partner_of m.tracks news t)) m.tracks in
    let rest = and_right v (a && l) e in
    record {
      video = equal_tested (count_of Video (new_kinds news)) (count_of Video (kinds_of m.tracks)) (and_left v (a && l) e);
      audio = equal_tested (count_of Audio (new_kinds news)) (count_of Audio (kinds_of m.tracks)) (and_left a l rest);
      partners = and_right a l rest;
    }

alike_done : (p : Presentation) (m n : Media) (d : Moment) (b : SourceEffect) (t : TrackState) (ts : List TrackState) → m.tracks ≡ t ∷ ts → init_result p m d ≡ Done n b → AreAlike (media_tracks p) m
alike_done p m n d b t ts e done =
    let none = no_fault (init_fault p m) p m n (segment_effect p d) b done in
    let either = last_test (is_empty_list (media_tracks p)) (not (list_all is_known (media_tracks p))) (is_awaiting_first m || has_same_tracks (media_tracks p) m) _ _ _ none in
    alike_of (media_tracks p) m (subst (λ (us : List TrackState). (is_empty_list us || has_same_tracks (media_tracks p) m) ≡ true) e either)

-- ---- the partners of the track buffers

abbrev IsPartnerOf : TrackState → TrackInfo → Bool → Type 0
IsPartnerOf t u alone = (is_same_kind t.kind u.kind ≡ true) × (alone ≡ false → u.id ≡ t.id)

abbrev IsOneOf : TrackInfo → List TrackInfo → Type 0
IsOneOf u [] = ⊥
IsOneOf u (v ∷ vs) = (v ≡ u) ⊎ IsOneOf u vs

pub record IsPaired (news : List TrackInfo) (alone : Bool) (t : TrackState) (o : Option TrackInfo) : Type 0 where
  pub u : TrackInfo
  pub is : o ≡ Some u
  pub among : IsOneOf u news
  pub kind : is_same_kind t.kind u.kind ≡ true
  pub number : alone ≡ false → u.id ≡ t.id

pub record IsFoundBy (p : TrackInfo → Bool) (news : List TrackInfo) (o : Option TrackInfo) : Type 0 where
  pub u : TrackInfo
  pub is : o ≡ Some u
  pub among : IsOneOf u news
  pub test : p u ≡ true

found_step : (b : Bool) (p : TrackInfo → Bool) (u : TrackInfo) (us : List TrackInfo) → p u ≡ b → IsSome (cond b (Some u) (find p us)) → (IsSome (find p us) → IsFoundBy p us (find p us)) → IsFoundBy p (u ∷ us) (cond b (Some u) (find p us))
found_step true p u us e h ih = record { u = u; is = refl; among = inl refl; test = e }
found_step false p u us e h ih = let r = ih h in record { u = r.u; is = r.is; among = inr r.among; test = r.test }

found_by : (p : TrackInfo → Bool) (us : List TrackInfo) → IsSome (find p us) → IsFoundBy p us (find p us)
found_by p [] h = cc
found_by p (u ∷ us) h = found_step (p u) p u us refl h (found_by p us)

partner_some : (pending : Bool) (t : TrackState) (o : Option TrackInfo) → is_partner pending t o ≡ true → IsSome o
partner_some pending t None e = cc
partner_some pending t (Some u) e = refl

paired_by : (alone : Bool) (t : TrackState) (news : List TrackInfo) → IsSome (cond alone (find (is_of_kind t.kind) news) (find (is_numbered t.kind t.id) news)) → IsPaired news alone t (cond alone (find (is_of_kind t.kind) news) (find (is_numbered t.kind t.id) news))
paired_by true t news h =
    let f = found_by (is_of_kind t.kind) news h in
    record { u = f.u; is = f.is; among = f.among; kind = f.test; number = λ e. cc }
paired_by false t news h =
    let f = found_by (is_numbered t.kind t.id) news h in
    record { u = f.u; is = f.is; among = f.among; kind = and_left (is_same_kind t.kind f.u.kind) (f.u.id == t.id) f.test; number = λ e. equal_tested f.u.id t.id (and_right (is_same_kind t.kind f.u.kind) (f.u.id == t.id) f.test) }

paired : (ts : List TrackState) (news : List TrackInfo) (t : TrackState) → IsSome (partner_of ts news t) → IsPaired news (count_of t.kind (kinds_of ts) == 1) t (partner_of ts news t)
paired ts news t h = paired_by (count_of t.kind (kinds_of ts) == 1) t news h

all_step : (b : Bool) (rest : Bool) → (b && rest) ≡ true → (b ≡ true) × (rest ≡ true)
all_step b rest e = (and_left b rest e, and_right b rest e)

all_paired : (pending : Bool) (all : List TrackState) (news : List TrackInfo) (ts : List TrackState) → list_all (λ t. is_partner pending t (partner_of all news t)) ts ≡ true → AllByRecursion (λ t. IsPaired news (count_of t.kind (kinds_of all) == 1) t (partner_of all news t)) ts
all_paired pending all news [] e = tt
all_paired pending all news (t ∷ ts) e =
    let both = all_step (is_partner pending t (partner_of all news t)) (list_all (λ u. is_partner pending u (partner_of all news u)) ts) e in
    (paired all news t (partner_some pending t (partner_of all news t) both.0), all_paired pending all news ts both.1)

-- the number that a track buffer takes is that of its partner, which is one of the segment's
in_numbers : (u : TrackInfo) (us : List TrackInfo) → IsOneOf u us → IsIn u.id (numbers us)
in_numbers u [] h = absurd h
in_numbers u (v ∷ us) (inl e) = inl (ap (λ (x : TrackInfo). x.id) e)
in_numbers u (v ∷ us) (inr h) = inr (in_numbers u us h)

taken_number : (news : List TrackInfo) (alone : Bool) (t : TrackState) (o : Option TrackInfo) (h : IsPaired news alone t o) → (track_with_partner t o).id ≡ h.u.id
taken_number news alone t o h = ap (λ (x : Option TrackInfo). (track_with_partner t x).id) h.is

all_taken : (all : List TrackState) (news : List TrackInfo) (ts : List TrackState) → AllByRecursion (λ t. IsPaired news (count_of t.kind (kinds_of all) == 1) t (partner_of all news t)) ts → AllByRecursion (λ n. IsIn n (numbers news)) (track_ids (map (λ t. track_with_partner t (partner_of all news t)) ts))
all_taken all news [] h = tt
all_taken all news (t ∷ ts) h =
    let own = h.0 in
    (subst (λ n. IsIn n (numbers news)) (sym (taken_number news _ t (partner_of all news t) own)) (in_numbers own.u news own.among), all_taken all news ts h.1)

-- two tracks of a segment with one number are one
apart_from : (u v : TrackInfo) (us : List TrackInfo) → AllByRecursion (λ w. u.id ≢ w.id) us → IsOneOf v us → u.id ≢ v.id
apart_from u v [] a h = absurd h
apart_from u v (w ∷ us) a (inl e) = λ same. a.0 (same ∙ sym (ap (λ (x : TrackInfo). x.id) e))
apart_from u v (w ∷ us) a (inr h) = apart_from u v us a.1 h

one_track : (u v : TrackInfo) (us : List TrackInfo) → HasDistinctIds us → IsOneOf u us → IsOneOf v us → u.id ≡ v.id → u ≡ v
one_track u v [] d h k e = absurd h
one_track u v (w ∷ us) d (inl p) (inl q) e = sym p ∙ q
one_track u v (w ∷ us) d (inl p) (inr k) e = absurd (apart_from w v us d.0 k (ap (λ (x : TrackInfo). x.id) p ∙ e))
one_track u v (w ∷ us) d (inr h) (inl q) e = absurd (apart_from w u us d.0 h (ap (λ (x : TrackInfo). x.id) q ∙ sym e))
one_track u v (w ∷ us) d (inr h) (inr k) e = one_track u v us d.1 h k e

same_kinds : (a b c : Kind) → is_same_kind a c ≡ true → is_same_kind b c ≡ true → a ≡ b
same_kinds Video Video c e f = refl
same_kinds Video Audio Video e f = cc
same_kinds Video Audio Audio e f = cc
same_kinds Video Audio Other e f = cc
same_kinds Video Other Video e f = cc
same_kinds Video Other Audio e f = cc
same_kinds Video Other Other e f = cc
same_kinds Audio Video Video e f = cc
same_kinds Audio Video Audio e f = cc
same_kinds Audio Video Other e f = cc
same_kinds Audio Audio c e f = refl
same_kinds Audio Other Video e f = cc
same_kinds Audio Other Audio e f = cc
same_kinds Audio Other Other e f = cc
same_kinds Other Video Video e f = cc
same_kinds Other Video Audio e f = cc
same_kinds Other Video Other e f = cc
same_kinds Other Audio Video e f = cc
same_kinds Other Audio Audio e f = cc
same_kinds Other Audio Other e f = cc
same_kinds Other Other c e f = refl

own_kind : (k : Kind) → is_same_kind k k ≡ true
own_kind Video = refl
own_kind Audio = refl
own_kind Other = refl

-- two track buffers of one kind are two of it
two_of : (n : ℕ) → 2 ≤ n → (n == 1) ≡ false
two_of n h = grind (arith, nat_tests)

counts_here : (k : Kind) (t : TrackState) (ts : List TrackState) → count_of k (kinds_of (t ∷ ts)) ≡ cond (is_same_kind k t.kind) 1 0 + count_of k (kinds_of ts)
counts_here k t ts = sum_by-cons (λ (j : Kind). cond (is_same_kind k j) 1 0) t.kind (kinds_of ts)

own_counts : (k : Kind) (t : TrackState) (ts : List TrackState) → k ≡ t.kind → count_of k (kinds_of (t ∷ ts)) ≡ 1 + count_of k (kinds_of ts)
own_counts k t ts e = counts_here k t ts ∙ ap (λ b. cond b 1 0 + count_of k (kinds_of ts)) (subst (λ (j : Kind). is_same_kind k j ≡ true) e (own_kind k))

no_fewer : (k : Kind) (t : TrackState) (ts : List TrackState) → count_of k (kinds_of ts) ≤ count_of k (kinds_of (t ∷ ts))
no_fewer k t ts = let e = counts_here k t ts in omega arith

-- so both keep their numbers, which are apart
pair_apart : (news : List TrackInfo) (x y : Bool) (t v : TrackState) (o q : Option TrackInfo) → HasDistinctIds news → t.id ≢ v.id → (t.kind ≡ v.kind → (x ≡ false) × (y ≡ false)) → IsPaired news x t o → IsPaired news y v q → (track_with_partner t o).id ≢ (track_with_partner v q).id
pair_apart news x y t v o q d other many h k = λ same.
    let ids : h.u.id ≡ k.u.id = sym (taken_number news x t o h) ∙ same ∙ taken_number news y v q k in
    let one = one_track h.u k.u news d h.among k.among ids in
    let kinds = same_kinds t.kind v.kind k.u.kind (subst (λ (w : TrackInfo). is_same_kind t.kind w.kind ≡ true) one h.kind) k.kind in
    let both = many kinds in
    other (sym (h.number both.0) ∙ ids ∙ k.number both.1)

-- the later ones of a list: how many of a kind there are at least among all
abbrev AreAtLeast : ℕ → List TrackState → List TrackState → Type 0
AreAtLeast n ts all = (k : Kind) → n + count_of k (kinds_of ts) ≤ count_of k (kinds_of all)

several : (all ts : List TrackState) (t v : TrackState) → 2 ≤ count_of t.kind (kinds_of all) → t.kind ≡ v.kind → ((count_of t.kind (kinds_of all) == 1) ≡ false) × ((count_of v.kind (kinds_of all) == 1) ≡ false)
several all ts t v n e = (two_of (count_of t.kind (kinds_of all)) n, two_of (count_of v.kind (kinds_of all)) (subst (λ (k : Kind). 2 ≤ count_of k (kinds_of all)) e n))

-- one track buffer and the later ones
first_apart : (all : List TrackState) (news : List TrackInfo) (t : TrackState) (ts : List TrackState) → HasDistinctIds news → AllByRecursion (λ k. t.id ≢ k) (track_ids ts) → 1 + count_of t.kind (kinds_of ts) ≤ count_of t.kind (kinds_of all) → IsPaired news (count_of t.kind (kinds_of all) == 1) t (partner_of all news t) → AllByRecursion (λ v. IsPaired news (count_of v.kind (kinds_of all) == 1) v (partner_of all news v)) ts
    → AllByRecursion (λ k. (track_with_partner t (partner_of all news t)).id ≢ k) (track_ids (map (λ v. track_with_partner v (partner_of all news v)) ts))
first_apart all news t [] d a n own h = tt
first_apart all news t (v ∷ ts) d a n own h =
    let more = no_fewer t.kind v ts in (
      pair_apart news (count_of t.kind (kinds_of all) == 1) (count_of v.kind (kinds_of all) == 1) t v (partner_of all news t) (partner_of all news v) d a.0
          (λ e. several all ts t v (let two = own_counts t.kind v ts e in omega (arith, n, two)) e) own h.0,
      first_apart all news t ts d a.1 (omega (arith, n, more)) own h.1,
    )

taken_apart : (all : List TrackState) (news : List TrackInfo) (ts : List TrackState) → HasDistinctIds news → AreApart (track_ids ts) → ((k : Kind) → count_of k (kinds_of ts) ≤ count_of k (kinds_of all)) → AllByRecursion (λ v. IsPaired news (count_of v.kind (kinds_of all) == 1) v (partner_of all news v)) ts → AreApart (track_ids (map (λ v. track_with_partner v (partner_of all news v)) ts))
taken_apart all news [] d a n h = tt
taken_apart all news (t ∷ ts) d a n h =
    let here = own_counts t.kind t ts refl in
    let low = n t.kind in (
      first_apart all news t ts d a.0 (omega (arith, here, low)) h.0 h.1,
      taken_apart all news ts d a.1 (λ k. let more = no_fewer k t ts in let most = n k in omega (arith, more, most)) h.1,
    )

-- ---- both

new_ids : (us : List TrackInfo) → track_ids (map new_track us) ≡ numbers us
new_ids [] = refl
new_ids (u ∷ us) = ap (λ (ns : List ℕ). u.id ∷ ns) (new_ids us)

apart_after : (p : Presentation) (m n : Media) (d : Moment) (b : SourceEffect) (ts : List TrackState) → m.tracks ≡ ts → HasDistinctIds (media_tracks p) → AreApart (track_ids ts) → init_result p m d ≡ Done n b → AreApart (track_ids (tracks_after (media_tracks p) ts))
apart_after p m n d b [] e distinct a done = subst AreApart (sym (new_ids (media_tracks p))) (numbers_distinct (media_tracks p) distinct)
apart_after p m n d b (t ∷ ts) e distinct a done =
    let alike = alike_done p m n d b t ts e done in
    let partners = subst (λ (us : List TrackState). list_all (λ v. is_partner m.pending v (partner_of us (media_tracks p) v)) us ≡ true) e alike.partners in
    taken_apart (t ∷ ts) (media_tracks p) (t ∷ ts) distinct a (λ k. omega arith) (all_paired m.pending (t ∷ ts) (media_tracks p) (t ∷ ts) partners)

have_after : (p : Presentation) (m n : Media) (d : Moment) (b : SourceEffect) (ts : List TrackState) → m.tracks ≡ ts → HasDistinctIds (media_tracks p) → AreApart (track_ids ts) → init_result p m d ≡ Done n b → (k : ℕ) → IsIn k (numbers (media_tracks p)) → IsIn k (track_ids (tracks_after (media_tracks p) ts))
have_after p m n d b [] e distinct a done k h = subst (IsIn k) (sym (new_ids (media_tracks p))) h
have_after p m n d b (t ∷ ts) e distinct a done k h =
    let news = media_tracks p in
    let alike = alike_done p m n d b t ts e done in
    let partners = subst (λ (us : List TrackState). list_all (λ v. is_partner m.pending v (partner_of us news v)) us ≡ true) e alike.partners in
    let pairs = all_paired m.pending (t ∷ ts) news (t ∷ ts) partners in
    let left = map (λ v. track_with_partner v (partner_of (t ∷ ts) news v)) (t ∷ ts) in
    let video = subst (λ (us : List TrackState). count_of Video (new_kinds news) ≡ count_of Video (kinds_of us)) e alike.video in
    let audio = subst (λ (us : List TrackState). count_of Audio (new_kinds news) ≡ count_of Audio (kinds_of us)) e alike.audio in
    let all = counted news (all_media p.tracks) in
    let most = held (t ∷ ts) in
    let long : length (numbers news) ≡ length news = length-map news (λ (u : TrackInfo). u.id) in
    let ids : length (track_ids left) ≡ length left = length-map left (λ (v : TrackState). v.id) in
    let same : length left ≡ length (t ∷ ts) = length-map (t ∷ ts) (λ v. track_with_partner v (partner_of (t ∷ ts) news v)) in
    full (track_ids left) (numbers news) k (apart_after p m n d b (t ∷ ts) e distinct a done) (all_taken (t ∷ ts) news (t ∷ ts) pairs) (omega (arith, video, audio, all, most, long, ids, same)) h

pub numbers_apart : (p : Presentation) (m n : Media) (d : Moment) (b : SourceEffect) → HasDistinctIds p.tracks → AreApart (track_ids m.tracks) → init_result p m d ≡ Done n b → AreApart (track_ids n.tracks)
numbers_apart p m n d b distinct a done =
    subst (λ (k : Media). AreApart (track_ids k.tracks)) (sym (taken_by (init_fault p m) p m n (segment_effect p d) b done)) (apart_after p m n d b m.tracks refl (distinct_media p.tracks distinct) a done)

each_found : (ts : List TrackState) (us : List TrackInfo) → AllByRecursion (λ u. IsIn u.id (track_ids ts)) us → AllByRecursion (λ u. IsSome (place_of u.id ts)) us
each_found ts [] h = tt
each_found ts (u ∷ us) h = (place_found u.id ts h.0, each_found ts us h.1)

pub buffers_found : (p : Presentation) (m n : Media) (d : Moment) (b : SourceEffect) → HasDistinctIds p.tracks → AreApart (track_ids m.tracks) → init_result p m d ≡ Done n b → HasBuffers p n.tracks
buffers_found p m n d b distinct a done =
    let left = taken_by (init_fault p m) p m n (segment_effect p d) b done in
    subst (λ (k : Media). HasBuffers p k.tracks) (sym left)
    (each_found (tracks_after (media_tracks p) m.tracks) (media_tracks p) (each_in (track_ids (tracks_after (media_tracks p) m.tracks)) (media_tracks p) (have_after p m n d b m.tracks refl (distinct_media p.tracks distinct) a done)))

each_kept : (ts us : List TrackState) (vs : List TrackInfo) → track_ids us ≡ track_ids ts → AllByRecursion (λ u. IsSome (place_of u.id ts)) vs → AllByRecursion (λ u. IsSome (place_of u.id us)) vs
each_kept ts us [] e h = tt
each_kept ts us (v ∷ vs) e h = (subst (λ (o : Option ℕ). IsSome o) (sym (same_place v.id ts us e)) h.0, each_kept ts us vs e h.1)

pub buffers_kept : (p : Presentation) (ts us : List TrackState) → track_ids us ≡ track_ids ts → HasBuffers p ts → HasBuffers p us
buffers_kept p ts us e h = each_kept ts us (media_tracks p) e h

-- a frame of such a track finds the track buffer
frame_step : (b : Bool) (u : TrackInfo) (us : List TrackInfo) (id : ℕ) (ts : List TrackState) → (u.id == id) ≡ b → IsSome (cond b (Some u) (find (has_id id) us)) → IsSome (place_of u.id ts) → (IsSome (find (has_id id) us) → IsSome (place_of id ts)) → IsSome (place_of id ts)
frame_step true u us id ts e h own ih = subst (λ n. IsSome (place_of n ts)) (equal_tested u.id id e) own
frame_step false u us id ts e h own ih = ih h

frame_among : (us : List TrackInfo) (id : ℕ) (ts : List TrackState) → AllByRecursion (λ u. IsSome (place_of u.id ts)) us → IsSome (find (has_id id) us) → IsSome (place_of id ts)
frame_among [] id ts h f = absurd cc
frame_among (u ∷ us) id ts h f = frame_step (u.id == id) u us id ts refl f h.0 (frame_among us id ts h.1)

pub frame_found : (p : Presentation) (ts : List TrackState) (f : CodedFrame) → HasBuffers p ts → IsOfMediaTrack f p → IsSome (place_of f.track_id ts)
frame_found p ts f h own = frame_among (media_tracks p) f.track_id ts h own
