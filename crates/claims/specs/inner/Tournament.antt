-- A tournament among n places, for any order of them: leaf n + i holds place i, each inner place k the better of those at 2k and 2k + 1.
-- The place at its root is the one that a scan picks. TournamentReplay has how it is built, and replayed after a move.
-- Assumes nothing.
use Rattle.std.specs.Prelude.{◌≡◌, ◌⊎◌, Bool, true, false, cond, List, ltb, eqb, length, get_or}
use Rattle.std.proofs.Common.{sym, ◌∙◌, subst, ⊎_elim, lt-ltb, le-ltb, ltb-true, ltb-false, eqb-true}
use Rattle.std.proofs.Math.Logic.{inl, inr}
use Rattle.std.proofs.lemmas.Bool.{false≢true, eqb-false}
use Prim.Native.Nat.{ℕ, zero, suc, ◌+◌, ◌*◌, ◌-◌, ◌/◌, ◌<◌, ◌≤◌}
use Rattle.std.proofs.Math.Decide.{dec_lt}
use native.Mathlib.Omega.{arith}
use Rattle.apportionment.specs.Lists.{first_place}
use Rattle.apportionment.specs.inner.Tests.{either_way}
use Rattle.claims.specs.inner.StandingOrder.{first_place_le, first_place_holds}

-- ---- what a tournament is

-- The better of two places: the earlier one, unless the later one comes before it. Leaves stand out of register order for most n, so it
-- looks at the places itself.
unfoldable pub better : (ℕ → ℕ → Bool) → ℕ → ℕ → ℕ
better before a b = cond (ltb a b) (cond (before b a) b a) (cond (before a b) a b)

-- Of three places in order: what the last does to the middle one and the middle one to the first, the last does to the first.
pub record Passes (n : ℕ) (before : ℕ → ℕ → Bool) : Type 0 where
  pub comes : (i j k : ℕ) → i < j → j < k → k < n → before k j ≡ true → before j i ≡ true → before k i ≡ true
  pub stays : (i j k : ℕ) → i < j → j < k → k < n → before k j ≡ false → before j i ≡ false → before k i ≡ false

-- The leaves are right, and so are all inner places but those due to be decided.
pub record Except (due : ℕ → Type 0) (before : ℕ → ℕ → Bool) (n : ℕ) (t : List ℕ) : Type 0 where
  pub size : length t ≡ 2 * n
  pub leaves : (i : ℕ) → i < n → get_or t (n + i) 0 ≡ i
  pub inner : (k : ℕ) → 0 < k → k < n → (due k → ⊥) → get_or t k 0 ≡ better before (get_or t (2 * k) 0) (get_or t (2 * k + 1) 0)

-- Every place is right.
abbrev pub Winners : (before : ℕ → ℕ → Bool) (n : ℕ) → List ℕ → Type 0
Winners before n t = Except (λ _. ⊥) before n t

-- ---- the better of two

-- Of two places one is earlier, or they are the same.
abbrev Ways : ℕ → ℕ → Type 0
Ways a b = (a < b) ⊎ ((a ≡ b) ⊎ (b < a))

three_ways : (a b : ℕ) → Ways a b
three_ways a b = by_test (dec_lt a b) (dec_lt b a)
  where
    by_test : Dec (a < b) → Dec (b < a) → Ways a b
    by_test (yes l) d = inl l
    by_test (no h) (yes l) = inr (inr l)
    by_test (no h) (no k) = inr (inl (omega (arith, h, k)))

module _ (before : ℕ → ℕ → Bool) where
  better_of_earlier : {a b : ℕ} → a < b → better before a b ≡ cond (before b a) b a
  unfolding better
  better_of_earlier {a} {b} l = rw (lt-ltb a b l)

  better_of_later : {a b : ℕ} → b ≤ a → better before a b ≡ cond (before a b) a b
  unfolding better
  better_of_later {a} {b} l = rw (le-ltb a b l)

  pub better_either_way : (a b : ℕ) → better before a b ≡ better before b a
  better_either_way a b = ⊎_elim (λ l. better_of_earlier l ∙ sym (better_of_later (omega arith)))
      (λ h. ⊎_elim (λ e. rw e) (λ l. better_of_later (omega arith) ∙ sym (better_of_earlier l)) h) (three_ways a b)

  pub better_is_one : (a b : ℕ) → (better before a b ≡ a) ⊎ (better before a b ≡ b)
  unfolding better
  better_is_one a b =
      either_way (ltb a b)
      (λ s. either_way (before b a) (λ t. inr (rw (s, t))) (λ t. inl (rw (s, t))))
      (λ s. either_way (before a b) (λ t. inl (rw (s, t))) (λ t. inr (rw (s, t))))

  -- a holds its own against b.
  abbrev Over : ℕ → ℕ → Type 0
  Over a b = better before a b ≡ a

  earlier_over : {a b : ℕ} → a < b → Over a b → before b a ≡ false
  earlier_over {a} {b} l e =
      let same = sym (better_of_earlier l) ∙ e in
      either_way (before b a) (λ takes. absurd (omega (arith, rw takes at same, l))) (λ stays. stays)

  later_over : {a b : ℕ} → b < a → Over a b → before a b ≡ true
  later_over {a} {b} l e =
      let same = sym (better_of_later (omega arith)) ∙ e in
      either_way (before a b) (λ takes. takes) (λ stays. absurd (omega (arith, rw stays at same, l)))

  over_both_ways : {a b : ℕ} → Over a b → Over b a → a ≡ b
  over_both_ways {a} {b} ab ba = sym ab ∙ better_either_way a b ∙ ba

  better_itself : (a : ℕ) → Over a a
  better_itself a = ⊎_elim (λ e. e) (λ e. e) (better_is_one a a)

  better_over_first : (a b : ℕ) → Over (better before a b) a
  better_over_first a b =
      ⊎_elim (λ e. rw e (better_itself a)) (λ e. rw e (better_either_way b a ∙ e)) (better_is_one a b)

  better_over_second : (a b : ℕ) → Over (better before a b) b
  better_over_second a b = rw (better_either_way a b) (better_over_first b a)

  -- One place more of a scan: the better of the best so far and the next place.
  pub scan_next : (i : ℕ) → 0 < i → better before (first_place before (i - 1)) i ≡ first_place before (i + 1 - 1)
  unfolding first_place
  scan_next zero h = elim h [ ]
  scan_next (suc k) h =
      let last : suc k - 1 ≡ k = omega arith in
      let next : suc k + 1 - 1 ≡ suc k = omega arith in
      rw (last, next) (better_of_earlier (omega (arith, first_place_le before k)))

  module _ {n : ℕ} (passes : Passes n before) where
    -- Three places do not hold their own against each other in a ring.
    no_ring : {a b c : ℕ} → a < b → a < c → b < n → c < n → Over a b → Over b c → Over c a → ⊥
    no_ring {a} {b} {c} ab ac hb hc p q r = ⊎_elim
        (λ bc. false≢true (sym (passes.stays a b c ab bc hc (earlier_over bc q) (earlier_over ab p)) ∙ later_over ac r))
        (λ h. ⊎_elim
        (λ e. absurd (omega (arith, ab, over_both_ways p (rw (← e) at r))))
        (λ cb. false≢true (sym (earlier_over ab p) ∙ passes.comes a c b ac cb hb (later_over cb q) (later_over ac r))) h)
        (three_ways b c)

    over_through : {a b c : ℕ} → a < n → b < n → c < n → Over a b → Over b c → Over a c
    over_through {a} {b} {c} ha hb hc p q =
        ⊎_elim (λ e. e) (λ e. in_a_ring (better_either_way c a ∙ e) (three_ways a b) (three_ways b c) (three_ways c a)) (better_is_one a c)
      where
        in_a_ring : Over c a → Ways a b → Ways b c → Ways c a → Over a c
        in_a_ring r (inr (inl e)) bc ca = rw e q
        in_a_ring r (inl ab) (inr (inl e)) ca = rw (← e) p
        in_a_ring r (inr (inr ba)) (inr (inl e)) ca = rw (← e) p
        in_a_ring r (inl ab) (inl bc) ca = absurd (no_ring ab (omega arith) hb hc p q r)
        in_a_ring r (inl ab) (inr (inr cb)) (inl ca) = absurd (no_ring ca cb ha hb r p q)
        in_a_ring r (inl ab) (inr (inr cb)) (inr (inl e)) = rw e (better_itself a)
        in_a_ring r (inl ab) (inr (inr cb)) (inr (inr ac)) = absurd (no_ring ab ac hb hc p q r)
        in_a_ring r (inr (inr ba)) (inl bc) ca = absurd (no_ring bc ba hc ha q r p)
        in_a_ring r (inr (inr ba)) (inr (inr cb)) ca = absurd (no_ring (omega arith) cb ha hb r p q)

    -- The place that a scan picks holds its own against every place passed.
    first_over : (k : ℕ) → k < n → (i : ℕ) → i ≤ k → Over (first_place before k) i
    first_over k h = first_place_holds before (λ i b. Over b i) k (λ i l. better_itself i)
        (λ i j ij l stays. better_of_earlier ij ∙ rw stays)
        (λ l i j lj ij hj takes. over_through (omega arith) (omega arith) (omega arith) (better_of_later (omega arith) ∙ rw takes))

-- ---- the root

-- What holds at the leaves, and at an inner place where it holds at the two below it, holds everywhere.
pub from_the_leaves : (n : ℕ) (P : ℕ → Type 0) → ((i : ℕ) → i < n → P (n + i))
    → ((k : ℕ) → 0 < k → k < n → P (2 * k) → P (2 * k + 1) → P k) → (x : ℕ) → 0 < x → x < 2 * n → P x
from_the_leaves n P leaf step x some within = down (2 * n) x (omega arith) some within
  where
    down : (far x : ℕ) → 2 * n ≤ x + far → 0 < x → x < 2 * n → P x
    down zero x left some within = absurd (omega arith)
    down (suc far) x left some within =
        either_way (ltb x n)
        (λ t.
        let l = ltb-true x n t in
        step x some l (down far (2 * x) (omega arith) (omega arith) (omega (arith, l)))
        (down far (2 * x + 1) (omega arith) (omega arith) (omega (arith, l))))
        (λ t.
        let h = ltb-false x n t in
        let e : n + (x - n) ≡ x = omega (arith, h) in
        subst P e (leaf (x - n) (omega (arith, h))))

pub halved : (k : ℕ) → 2 * k / 2 ≡ k
halved k = omega arith

pub halved_too : (k : ℕ) → (2 * k + 1) / 2 ≡ k
halved_too k = omega arith

-- A place is the first or the second of those that its half decides between.
pub half_of : (x : ℕ) → (x ≡ 2 * (x / 2)) ⊎ (x ≡ 2 * (x / 2) + 1)
half_of x =
    either_way (eqb x (2 * (x / 2))) (λ e. inl (eqb-true x (2 * (x / 2)) e)) (λ e. inr (omega (arith, eqb-false x (2 * (x / 2)) e)))

-- A right place holds one of the n places, if with a place its half is due.
pub right_lt : {due : ℕ → Type 0} {before : ℕ → ℕ → Bool} {n : ℕ} {t : List ℕ} → Except due before n t
    → ((x : ℕ) → due x → due (x / 2)) → (x : ℕ) → 0 < x → x < 2 * n → (due x → ⊥) → get_or t x 0 < n
right_lt {due} {before} {n} {t} so_far upward =
    from_the_leaves n (λ x. (due x → ⊥) → get_or t x 0 < n) (λ i l right. rw (so_far.leaves i l) l)
    (λ k some l first second right. rw (so_far.inner k some l right) (⊎_elim
    (λ e. rw e (first (λ d. right (subst due (halved k) (upward (2 * k) d)))))
    (λ e. rw e (second (λ d. right (subst due (halved_too k) (upward (2 * k + 1) d)))))
    (better_is_one before (get_or t (2 * k) 0) (get_or t (2 * k + 1) 0))))

module _ {before : ℕ → ℕ → Bool} {n : ℕ} {t : List ℕ} (w : Winners before n t) where
  pub winner_lt : (x : ℕ) → 0 < x → x < 2 * n → get_or t x 0 < n
  winner_lt x some within = right_lt w (λ y d. d) x some within (λ z. z)

  -- A place holds its own against those that it chose between, and the root against all.
  half_over : (x : ℕ) → 1 < x → x < 2 * n → Over before (get_or t (x / 2) 0) (get_or t x 0)
  half_over x l h = rw (w.inner k (omega arith) (omega arith) (λ z. z)) (⊎_elim
      (λ e. subst (λ y. Over before won (get_or t y 0)) (sym e) (better_over_first before (get_or t (2 * k) 0) (get_or t (2 * k + 1) 0)))
      (λ e. subst (λ y. Over before won (get_or t y 0)) (sym e) (better_over_second before (get_or t (2 * k) 0) (get_or t (2 * k + 1) 0)))
      (half_of x))
    where
      k : ℕ
      k = x / 2

      won : ℕ
      won = better before (get_or t (2 * k) 0) (get_or t (2 * k + 1) 0)

  root_over : Passes n before → (far x : ℕ) → x ≤ far → 0 < x → x < 2 * n → Over before (get_or t 1 0) (get_or t x 0)
  root_over passes zero x near some within = absurd (omega arith)
  root_over passes (suc far) x near some within =
      either_way (eqb x 1)
      (λ e. rw (eqb-true x 1 e) (better_itself before (get_or t 1 0)))
      (λ e.
      let past : 1 < x = omega (arith, eqb-false x 1 e) in
      over_through before passes (winner_lt 1 (omega arith) (omega arith)) (winner_lt (x / 2) (omega arith) (omega arith))
      (winner_lt x some within) (root_over passes far (x / 2) (omega arith) (omega arith) (omega arith)) (half_over x past within))

  -- The root is the place that a scan picks.
  pub root_is_first : Passes n before → 0 < n → get_or t 1 0 ≡ first_place before (n - 1)
  root_is_first passes some = over_both_ways before
      (subst (Over before (get_or t 1 0)) (w.leaves first within)
      (root_over passes (n + first) (n + first) (omega arith) (omega arith) (omega (arith, within))))
      (first_over before passes (n - 1) (omega arith) (get_or t 1 0) (omega (arith, winner_lt 1 (omega arith) (omega arith))))
    where
      first : ℕ
      first = first_place before (n - 1)

      within : first < n
      within = omega (arith, first_place_le before (n - 1))
