-- The names read so far, kept in two lists as the lines are read: the fingerprint of each, and where it stands.
-- Cited by the proof of reading.
-- Assumes nothing.
use Rattle.std.specs.Prelude.{◌≡◌, refl, List, ℕ, zero, suc, ◌+◌, ◌-◌, ◌<◌, ◌≤◌, length, get_or, set, take, drop, replicate}
use Rattle.std.proofs.Common.{sym, ap, ◌∙◌, add-one, arith, below_more, length-set, get_or-set_same, get_or-set_other, length-take-le}
use Rattle.std.proofs.Common.{get_or-take}
use Rattle.apportionment.specs.Limits.{state_limit}
use Rattle.fields.specs.Grammar.{rest_of}
use Rattle.lines.specs.Lines.{name_at}
use Rattle.lines.specs.inner.Fingerprints.{fingerprint_of}
use Rattle.lines.specs.inner.Places.{EndOf, drop_is_end, end_of_end, rest_is_end, name_is_front, name_on, part_of}
use Rattle.lines.specs.inner.Places.{Stands, no_place, StandsAt, NamesAt, NamesKept}
use Rattle.lines.specs.declared.NamePlace.{NamePlace}
use Rattle.register.specs.Register.{lines_after}
use Rattle.register.specs.inner.Names.{lines_next}

-- ---- what is left after k lines

pub lines_are_end : (k : ℕ) (s : List ℕ) → EndOf s (lines_after k s)
unfolding lines_after
lines_are_end zero s = drop_is_end 0 s
lines_are_end (suc k) s = end_of_end (rest_is_end s) (lines_are_end k (rest_of s))

pub name_on_line : (k : ℕ) (s : List ℕ) → name_on k s ≡ name_at (lines_after k s)
unfolding name_on lines_after
name_on_line zero s = refl
name_on_line (suc k) s = name_on_line k (rest_of s)

-- ---- the names kept

-- After k lines from `first`, `s` is what is left, and the names passed are kept: where each stands, and its fingerprint.
pub record Kept (k : ℕ) (first s prints : List ℕ) (places : List NamePlace) : Type 0 where
  pub here : s ≡ lines_after k first
  pub names : NamesAt k first places
  pub room : length prints ≡ state_limit
  pub printed : (i : ℕ) → i < k → get_or prints i 0 ≡ fingerprint_of (name_on i first)

pub kept_none : (s : List ℕ) (places : List NamePlace) → length places ≡ state_limit → Kept 0 s s (replicate state_limit 0) places
unfolding lines_after
kept_none s places room = record {
  here = refl;
  names = record { few = omega arith; room = room; each = λ i below. absurd (omega arith) };
  room = refl;
  printed = λ i below. absurd (omega arith);
}

-- The names passed, without the room that is left.
pub kept_many : {k : ℕ} {first s prints : List ℕ} {places : List NamePlace} → Kept k first s prints places → length (take k prints) ≡ k
kept_many {k} {first} {s} {prints} so = length-take-le k prints (omega (arith, so.names.few, so.room))

pub kept_names : {k : ℕ} {first s prints : List ℕ} {places : List NamePlace} → Kept k first s prints places
    → NamesKept first (take k prints) (take k places)
kept_names {k} {first} {s} {prints} {places} so =
    let many = kept_many so in
    let paired : length (take k places) ≡ k = length-take-le k places (omega (arith, so.names.few, so.names.room)) in
    record {
      paired = paired ∙ sym many;
      each = λ i below. rw (get_or-take k places i no_place (omega arith)) (so.names.each i (omega arith));
      printed = λ i below. rw (get_or-take k prints i 0 (omega arith)) (so.printed i (omega arith));
    }

pub kept_end : {k : ℕ} {first s prints : List ℕ} {places : List NamePlace} → Kept k first s prints places → EndOf first s
kept_end {k} {first} so = rw so.here (lines_are_end k first)

-- The name of the line that is next starts where the line does.
pub next_fits : (first s : List ℕ) → EndOf first s → length first - length s + length (name_at s) ≤ length first
next_fits first s end = omega (arith, end.shorter, (name_is_front s).shorter)

next_stands : (first s : List ℕ) (width : ℕ) → EndOf first s → width ≡ length (name_at s)
    → Stands first (name_at s) (length first - length s) (length first - length s + width)
unfolding part_of
next_stands first s width end long =
    let start = length first - length s in
    let all : start + width - start ≡ length (name_at s) = omega arith in
    record {
      ordered = omega arith;
      inside = omega (arith, next_fits first s end);
      there =
          ap (λ n. take n (drop start first)) all
          ∙ ap (take (length (name_at s))) (sym end.stands)
          ∙ sym (name_is_front s).stands;
    }

-- One line more, with the rest after it and its name's fingerprint and length.
pub kept_more : (k : ℕ) (first s rest prints : List ℕ) (places : List NamePlace) (print width : ℕ) → Kept k first s prints places
    → k < state_limit → rest ≡ rest_of s → print ≡ fingerprint_of (name_at s) → width ≡ length (name_at s)
    → let start = length first - length s in
    Kept (k + 1) first rest (set prints k print) (set places k (record { start = start; end = start + width }))
kept_more k first s rest prints places print width so inside after its long = record {
  here = rw (after, add-one, lines_next k first, so.here);
  names = record {
    few = omega arith;
    room = length-set places k place ∙ so.names.room;
    each = below_more (StandsAt first (set places k place)) k earlier latest;
  };
  room = length-set prints k print ∙ so.room;
  printed = below_more PrintedAt k printed_earlier printed_latest;
}
  where
    start : ℕ
    start = length first - length s

    place : NamePlace
    place = record { start = start; end = start + width }

    name_here : name_on k first ≡ name_at s
    name_here = rw so.here (name_on_line k first)

    earlier : (i : ℕ) → i < k → StandsAt first (set places k place) i
    earlier i below = rw (get_or-set_other places k i place no_place (λ e. absurd (omega arith))) (so.names.each i below)

    latest : StandsAt first (set places k place) k
    latest =
        rw (get_or-set_same places k place no_place (omega (arith, so.names.room)), name_here)
        (next_stands first s width (kept_end so) long)

    PrintedAt : ℕ → Type 0
    PrintedAt i = get_or (set prints k print) i 0 ≡ fingerprint_of (name_on i first)

    printed_earlier : (i : ℕ) → i < k → PrintedAt i
    printed_earlier i below = get_or-set_other prints k i print 0 (λ e. absurd (omega arith)) ∙ so.printed i below

    printed_latest : PrintedAt k
    printed_latest = get_or-set_same prints k print 0 (omega (arith, so.room)) ∙ its ∙ rw name_here
