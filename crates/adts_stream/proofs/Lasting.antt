-- No coded frame lasts a negative time.
use Rattle.std.proofs.Common.{◌≡◌, ℕ, pos, ◌≤ℤ◌, ltb, eqb, cond, Bool, true, false, List, length, drop, Option, Some, None, slice_get, sym, subst, arith}
use Rattle.std.specs.Prelude.{◌&&◌}
use Rattle.std.specs.Str.{bytes_eq}
use Rattle.std.proofs.lemmas.Int.{ints}
use lib.Chars.{codes}
use Rattle.byteorder.specs.Endian.{big_number}
use Rattle.mse_base.specs.declared.frame.CodedFrame.{CodedFrame}
use Rattle.adts_stream.specs.declared.header.FrameHeader.{FrameHeader}
use Rattle.adts_stream.specs.declared.header.Found.{Found}
use Rattle.adts_stream.specs.declared.header.Found.TheVariants as found
use Rattle.adts_stream.specs.Headers.{syncword, layer, sampling_frequency_index, sampling_frequencies, frame_length, header_length, frame_of_rate, frame_found, first_three, found_at}
use Rattle.adts_stream.specs.Places.{IsFrameAt}

by-test : (P : Found → Type 0) (b : Bool) (f g : Found) → P f → P g → P (cond b f g)
by-test P true f g h k = h
by-test P false f g h k = k

abbrev HasLastingHeader : Found → Type 0
HasLastingHeader found.Nothing = Unit {0}
HasLastingHeader (found.Tag n) = Unit {0}
HasLastingHeader (found.Fault f) = Unit {0}
HasLastingHeader (found.Frame h) = pos 0 ≤ℤ h.duration

rate-lasts : (header : ℕ) (rate : Option ℕ) → HasLastingHeader (frame_of_rate header rate)
rate-lasts header None = tt
rate-lasts header (Some rate) = by-test HasLastingHeader (ltb (frame_length header) (header_length header)) _ _ tt (omega (arith, ints))

frame-lasts : (header : ℕ) → HasLastingHeader (frame_found header)
unfolding frame_found
frame-lasts header = by-test HasLastingHeader (eqb (syncword header) 4095 && eqb (layer header) 0) _ _ (rate-lasts header (slice_get sampling_frequencies (sampling_frequency_index header))) tt

found-lasts : (b : List ℕ) → HasLastingHeader (found_at b)
unfolding found_at
found-lasts b =
    by-test HasLastingHeader (ltb (length b) 3) _ _ tt (
    by-test HasLastingHeader (bytes_eq (first_three b) (codes "ID3")) _ _ (by-test HasLastingHeader (ltb (length b) 10) _ _ tt tt) (
    by-test HasLastingHeader (bytes_eq (first_three b) (codes "TAG")) _ _ tt (
    by-test HasLastingHeader (ltb (length b) 7) _ _ tt (frame-lasts (big_number 7 b)))))

header-lasts : (f : Found) (h : FrameHeader) → f ≡ found.Frame h → HasLastingHeader f → pos 0 ≤ℤ h.duration
header-lasts f h e k = subst HasLastingHeader e k

pub coded-lasts : (b : List ℕ) (at : ℕ) (f : CodedFrame) → IsFrameAt b at f → pos 0 ≤ℤ f.dur
coded-lasts b at f h = subst (λ (f : CodedFrame). pos 0 ≤ℤ f.dur) (sym h.is) (header-lasts (found_at (drop at b)) h.header h.found (found-lasts (drop at b)))
