-- What every function that writes text promises: `Wrote`, for which one law joins what two calls in a row wrote. The last laws say what a
-- finished text has left in the buffer.
-- Assumes nothing.
use Rattle.std.specs.Prelude.{◌≡◌, refl, List, [], ◌∷◌, ◌++◌, ℕ, suc, ◌+◌, ◌-◌, ◌<◌, ◌≤◌, min, leb, length, take, drop, set}
use Rattle.std.proofs.Common.{sym, ap, ◌∙◌, add-zero, zero-add, arith, leb-true, leb-false, length-append, append_assoc, take-append-drop}
use Rattle.std.proofs.Common.{take_at, length-take-le}
use borrow.Rule.Slice.PartMut.{put_mid}
use Rattle.std.proofs.lemmas.List.Edits.{sets, sets-eq, paste_all}
use Rattle.std.proofs.lemmas.Slice.{put_mid-paste}
use Rattle.std.proofs.Math.Seq.{length-sets, set_out}
use Rattle.apportionment.specs.inner.Tests.{either_way}

-- ---- what is promised

unfoldable pub laid : (buffer : List ℕ) (at : ℕ) (text : List ℕ) → List ℕ
laid = sets  -- The buffer once text was laid over it from a place on, byte by byte. A byte that would stand past the end is dropped.

-- The place after so many bytes. Once one did not fit it is one past the end, and stays there.
unfoldable pub place_after : (room at size : ℕ) → ℕ
place_after room at size = min (at + size) (room + 1)

-- Text was written from a place on: the buffer before and after, and the place after the text.
pub record Wrote (before : List ℕ) (at : ℕ) (text after : List ℕ) (next : ℕ) : Type 0 where
  pub bytes : after ≡ laid before at text
  pub place : next ≡ place_after (length before) at (length text)

-- ---- writing on

-- Past the end nothing is written.
laid_past : (text buffer : List ℕ) (at : ℕ) → length buffer ≤ at → laid buffer at text ≡ buffer
unfolding laid
laid_past [] buffer at past = refl
laid_past (b ∷ text) buffer at past = rw (set_out buffer at b past) (laid_past text buffer (suc at) (omega arith))

-- Two texts in a row.
laid_append : (s t buffer : List ℕ) (at : ℕ) → laid buffer at (s ++ t) ≡ laid (laid buffer at s) (at + length s) t
unfolding laid
laid_append [] t buffer at = rw add-zero
laid_append (b ∷ s) t buffer at =
    laid_append s t (set buffer at b) (suc at)
    ∙ ap (λ (k : ℕ). sets (sets (set buffer at b) (suc at) s) k t) (omega arith)

-- The second of two texts is laid where the place after the first says: at their seam or, if the first did not fit, nowhere.
laid_next : (t buffer : List ℕ) (at size : ℕ) → laid buffer (place_after (length buffer) at size) t ≡ laid buffer (at + size) t
unfolding place_after
laid_next t buffer at size =
    either_way (leb (at + size) (length buffer))
    (λ e. ap (λ (k : ℕ). laid buffer k t) (omega (arith, leb-true (at + size) (length buffer) e)))
    (λ e.
    let past : length buffer < at + size = leb-false (at + size) (length buffer) e in
    laid_past t buffer (min (at + size) (length buffer + 1)) (omega arith) ∙ sym (laid_past t buffer (at + size) (omega arith)))

-- The place after two texts.
place_append : (room at m n : ℕ) → place_after room (place_after room at m) n ≡ place_after room at (m + n)
unfolding place_after
place_append room at m n = omega arith

-- Writing keeps the buffer's length.
pub laid_length : (buffer : List ℕ) (at : ℕ) (text : List ℕ) → length (laid buffer at text) ≡ length buffer
unfolding laid
laid_length = length-sets

pub wrote_length : {a b s : List ℕ} {at next : ℕ} → Wrote a at s b next → length b ≡ length a
wrote_length {a} {b} {s} {at} w = ap length w.bytes ∙ laid_length a at s

-- The law of writing: what two calls in a row wrote is one text.
pub wrote_then : {a b c s t : List ℕ} {at next last : ℕ} → Wrote a at s b next → Wrote b next t c last → Wrote a at (s ++ t) c last
wrote_then {a} {b} {c} {s} {t} {at} {next} {last} u v =
    let kept : length b ≡ length a = wrote_length u in
    let seam : next ≡ place_after (length b) at (length s) = u.place ∙ ap (λ (k : ℕ). place_after k at (length s)) (sym kept) in
    record {
      bytes = v.bytes ∙ ap (λ (k : ℕ). laid b k t) seam ∙ laid_next t b at (length s)
          ∙ ap (λ (l : List ℕ). laid l (at + length s) t) u.bytes ∙ sym (laid_append s t a at);
      place = v.place ∙ rw (kept, u.place, place_append, length-append) refl;
    }

-- Before the first call nothing was written.
pub wrote_nothing : (a : List ℕ) (at : ℕ) → at ≤ length a + 1 → Wrote a at [] a at
unfolding laid place_after
wrote_nothing a at within = record { bytes = refl; place = omega arith }

-- After any call nothing more was written yet: where a loop of calls starts.
pub wrote_on : {a b s : List ℕ} {at next : ℕ} → Wrote a at s b next → Wrote b next [] b next
unfolding place_after
wrote_on {a} {b} {s} {at} {next} w = wrote_nothing b next (omega (arith, w.place, wrote_length w))

-- A byte that fits is stored.
pub wrote_byte : (a : List ℕ) (at b : ℕ) → at < length a → Wrote a at (b ∷ []) (set a at b) (at + 1)
unfolding laid place_after
wrote_byte a at b within = record { bytes = refl; place = omega arith }

-- A text copied over a part of the buffer that is as long is laid there.
pub laid_copied : (a s : List ℕ) (at k : ℕ) → k ≡ length s → at + length s ≤ length a → put_mid at k a s ≡ laid a at s
unfolding laid
laid_copied a s at k all fits =
    put_mid-paste at k a s s (length s) refl (sym all) refl ∙ paste_all a at s (length s) refl
    ∙ sym (sets-eq s a at fits ∙ append_assoc (take at a) s (drop (at + length s) a))

-- A text that fits was written once it is laid.
pub wrote_laid : (a : List ℕ) (at : ℕ) (s : List ℕ) → at + length s ≤ length a → Wrote a at s (laid a at s) (at + length s)
unfolding place_after
wrote_laid a at s fits = record { bytes = refl; place = omega arith }

-- Of one that does not fit, as many bytes as there is room for.
pub wrote_cut : (a : List ℕ) (at : ℕ) (s : List ℕ) → at ≤ length a → length a < at + length s
    → Wrote a at s (laid a at (take (length a - at) s)) (length a + 1)
unfolding place_after
wrote_cut a at s inside long = record { bytes = sym rest_dropped; place = omega arith }
  where
    room : ℕ
    room = length a - at

    filled : at + length (take room s) ≡ length a
    filled = rw (length-take-le room s (omega arith)) (omega arith)

    rest_dropped : laid a at s ≡ laid a at (take room s)
    rest_dropped =
        ap (laid a at) (sym (take-append-drop room s))
        ∙ laid_append (take room s) (drop room s) a at
        ∙ laid_past (drop room s) (laid a at (take room s)) (at + length (take room s))
        (omega (arith, filled, laid_length a at (take room s)))

-- Past the end nothing is written.
pub wrote_past : (a : List ℕ) (at : ℕ) (text : List ℕ) → length a < at + length text → length a ≤ at → Wrote a at text a (length a + 1)
unfolding place_after
wrote_past a at text long past = record { bytes = sym (laid_past text a at past); place = omega arith }

-- ---- what a finished text has left

-- Text that fits stands between what was there before it and what was there after it.
pub wrote_fits : {a b s : List ℕ} {at next : ℕ} → Wrote a at s b next → at + length s ≤ length a
    → (next ≡ at + length s) × (b ≡ take at a ++ s ++ drop (at + length s) a)
unfolding laid place_after
wrote_fits {a} {b} {s} {at} w fits = (w.place ∙ omega arith, w.bytes ∙ sets-eq s a at fits)

-- A text stands at the front of a buffer, up to a place.
pub record AtFront (text buffer : List ℕ) (end : ℕ) : Type 0 where
  pub within : end ≤ length buffer
  pub size : end ≡ length text
  pub bytes : take end buffer ≡ text

-- A text written from the front that fits stands there.
pub wrote_front : {a b s : List ℕ} {next : ℕ} → Wrote a 0 s b next → length s ≤ length a → AtFront s b next
wrote_front {a} {b} {s} {next} w fits =
    let whole = wrote_fits w (omega arith) in
    let end : next ≡ length s = omega (arith, whole.0) in
    record {
      within = omega (arith, wrote_length w);
      size = end;
      bytes = rw (end, whole.1, zero-add) (take_at s (drop (length s) a) (length s) refl);
    }

-- A text that stands at the front of a buffer, with the rest as it was, was written there.
pub front_wrote : (s a : List ℕ) → length s ≤ length a → Wrote a 0 s (s ++ drop (length s) a) (length s)
unfolding laid place_after
front_wrote s a fits = record { bytes = sym (sets-eq s a 0 (omega arith) ∙ rw zero-add); place = omega arith }
