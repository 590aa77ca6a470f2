-- Document 01, "Quantities": departures and sizes as exact fractions, what is shown of them, and marks.
use Rattle.std.specs.Prelude.{◌++◌, ◌+◌, ◌-◌, ◌*◌, ◌/◌, ◌%◌, Bool, cond, List, ℕ, ltb, leb, eqb, ℤ, pos, negsuc, neg_ℤ}
use Rattle.apportionment.specs.Words.{Mark, In, High, Over, None}
use Rattle.apportionment.specs.Text.{bytes_of, decimal, digit}

pub record Fraction : Type 0 where  -- A fraction of two whole numbers, not reduced.
  pub over : ℕ
  pub under : ℕ

unfoldable pub less : Fraction → Fraction → Bool  -- One fraction is less than another: compared exactly, by cross-multiplication.
less s t = ltb (s.over * t.under) (t.over * s.under)

unfoldable pub at_most : Fraction → Fraction → Bool  -- One fraction is at most another.
at_most s t = leb (s.over * t.under) (t.over * s.under)

unfoldable pub distance : ℕ → ℕ → ℕ  -- How far apart two numbers are.
distance x y = (x - y) + (y - x)

unfoldable pub size_of : (p a P H : ℕ) → Fraction  -- |p H - a P| / (a P), for p people and a seats, a ≥ 1.
size_of p a P H = record { over = distance (p * H) (a * P); under = a * P }

unfoldable pub is_below : (p a P H : ℕ) → Bool  -- The departure is below zero: the state's people per seat are fewer than the average.
is_below p a P H = ltb (p * H) (a * P)

unfoldable pub nearest_whole : (over under : ℕ) → ℕ  -- The whole number nearest to a fraction; halves go up.
nearest_whole over under = (2 * over + under) / (2 * under)

abbrev pub shown_scale : ℕ  -- Departures are shown in thousandths of a per cent, of which so many make one whole.
shown_scale = 100000

unfoldable pub shown_size : Fraction → ℕ  -- A size as it is shown: the nearest number of thousandths; halves, away from zero.
shown_size s = nearest_whole (shown_scale * s.over) s.under

unfoldable pub shown_of : (p a P H : ℕ) → ℤ  -- The shown departure. One that rounds to zero has no sign, as zero has none.
shown_of p a P H =
    let size = shown_size (size_of p a P H) in
    cond (is_below p a P H) (neg_ℤ (pos size)) (pos size)

unfoldable pub shown_size_text : ℕ → List ℕ  -- The bytes of a shown size: per cent, with a point and three digits after it.
shown_size_text s = decimal (s / 1000) ++ bytes_of "." ++ digit (s / 100 % 10) ++ digit (s / 10 % 10) ++ digit (s % 10)

unfoldable pub shown_text : ℤ → List ℕ  -- The bytes of a shown departure: a minus sign only below zero, no plus sign.
shown_text (pos s) = shown_size_text s
shown_text (negsuc s) = bytes_of "-" ++ shown_size_text (s + 1)

unfoldable pub departure_text : (p a P H : ℕ) → List ℕ  -- The bytes of a state's departure: the shown one, or `none` with 0 seats.
departure_text p a P H = cond (eqb a 0) (bytes_of "none") (shown_text (shown_of p a P H))

abbrev pub percent : ℕ → Fraction  -- So many per cent.
percent n = record { over = n; under = 100 }

unfoldable pub mark_of : Fraction → Mark  -- The mark of an exact size: in up to 10 per cent, high up to 15, over beyond.
mark_of s = cond (at_most s (percent 10)) In (cond (at_most s (percent 15)) High Over)

unfoldable pub mark_for : (p a P H : ℕ) → Mark  -- A state's mark: that of its exact size, or `none` with 0 seats.
mark_for p a P H = cond (eqb a 0) None (mark_of (size_of p a P H))

unfoldable pub mark_text : Mark → List ℕ  -- The word of a mark.
mark_text = elim [ In ↦ bytes_of "in" | High ↦ bytes_of "high" | Over ↦ bytes_of "over" | None ↦ bytes_of "none" ]
