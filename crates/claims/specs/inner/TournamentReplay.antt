-- A tournament is built, and replayed after a move, by deciding one inner place after another: from the last place to the first, or up
-- from the leaf of the one place that changed.
-- Assumes nothing.
use Rattle.std.specs.Prelude.{◌≡◌, refl, ◌≢◌, ◌⊎◌, Bool, List, ℕ, ◌+◌, ◌*◌, ◌-◌, ◌/◌, ◌<◌, ◌≤◌, length, get_or, set}
use Rattle.std.proofs.Common.{sym, ap, ◌∙◌, subst, inl, inr, ⊎_elim, arith, length-set, get_or-set_same, get_or-set_other}
use Rattle.std.specs.Int.Bits.{bit_xor, xor_add_and}
use Rattle.std.proofs.lemmas.Nat.{and_mask}
use Rattle.std.proofs.Math.Decide.{ℕ_discrete}
use Rattle.claims.specs.inner.Tournament.{better, Except, Winners, better_is_one, better_either_way}
use Rattle.claims.specs.inner.Tournament.{half_of, from_the_leaves, halved, halved_too, right_lt}

-- ---- deciding a place

-- Inner place k decided between the two below it.
abbrev pub decided_at : (before : ℕ → ℕ → Bool) (k : ℕ) → List ℕ → List ℕ
decided_at before k t = set t k (better before (get_or t (2 * k) 0) (get_or t (2 * k + 1) 0))

-- What the code needs to decide it: below it stand two of the n places.
pub record Decidable (n k : ℕ) (t : List ℕ) : Type 0 where
  pub some : 0 < k
  pub inside : k < n
  pub size : length t ≡ 2 * n
  pub first : get_or t (2 * k) 0 < n
  pub second : get_or t (2 * k + 1) 0 < n

-- Deciding an inner place makes it right; the place half as far is due, as it chose between this one and another.
decided : {due still : ℕ → Type 0} {before : ℕ → ℕ → Bool} {n : ℕ} {t : List ℕ} {k : ℕ} → Except due before n t → Decidable n k t
    → still (k / 2) → ((x : ℕ) → x ≢ k → due x → still x) → Except still before n (decided_at before k t)
decided {due} {still} {before} {n} {t} {k} so_far ready half rest =
    record {
      size = length-set t k won ∙ so_far.size;
      leaves = λ i l. kept (n + i) (λ e. omega (arith, e, ready.inside)) ∙ so_far.leaves i l;
      inner = λ x above l settled. by_place x (ℕ_discrete x k) above l settled;
    }
  where
    won : ℕ
    won = better before (get_or t (2 * k) 0) (get_or t (2 * k + 1) 0)

    kept : (x : ℕ) → x ≢ k → get_or (set t k won) x 0 ≡ get_or t x 0
    kept x other = get_or-set_other t k x won 0 other

    by_place : (x : ℕ) → Dec (x ≡ k) → 0 < x → x < n → (still x → ⊥)
        → get_or (set t k won) x 0 ≡ better before (get_or (set t k won) (2 * x) 0) (get_or (set t k won) (2 * x + 1) 0)
    by_place x (yes e) above l settled =
        let it = get_or-set_same t k won 0 (omega (arith, so_far.size, ready.inside)) in
        rw (e, it, kept (2 * k) (λ h. omega (arith, ready.some)), kept (2 * k + 1) (λ h. omega (arith, ready.some)))
    by_place x (no other) above l settled =
        let elsewhere : k / 2 ≢ x = λ e. settled (subst still e half) in
        rw (kept x other, kept (2 * x) (λ h. omega (arith, h, elsewhere)), kept (2 * x + 1) (λ h. omega (arith, h, elsewhere)))
        (so_far.inner x above l (λ d. settled (rest x other d)))

-- Where no inner place is due, every place is right.
none_due_lem : {due : ℕ → Type 0} {before : ℕ → ℕ → Bool} {n : ℕ} {t : List ℕ} → Except due before n t
    → ((x : ℕ) → due x → x ≡ 0) → Winners before n t
none_due_lem so_far only =
    record {
      size = so_far.size;
      leaves = so_far.leaves;
      inner = λ k some l _. so_far.inner k some l (λ d. omega (arith, only k d));
    }

-- Place k can be decided if no place past it is due.
decidable : {due : ℕ → Type 0} {before : ℕ → ℕ → Bool} {n : ℕ} {t : List ℕ} {k : ℕ} → Except due before n t
    → ((x : ℕ) → due x → due (x / 2)) → ((x : ℕ) → due x → x ≤ k) → 0 < k → k < n → Decidable n k t
decidable {due} {before} {n} {t} {k} so_far upward last some inside =
    record {
      some = some;
      inside = inside;
      size = so_far.size;
      first = right_lt so_far upward (2 * k) (omega arith) (omega arith) (λ d. omega (arith, last (2 * k) d));
      second = right_lt so_far upward (2 * k + 1) (omega arith) (omega arith) (λ d. omega (arith, last (2 * k + 1) d));
    }

-- ---- building

-- The first i leaves are in place.
pub record Planted (n i : ℕ) (t : List ℕ) : Type 0 where
  pub size : length t ≡ 2 * n
  pub leaves : (x : ℕ) → x < i → get_or t (n + x) 0 ≡ x

pub planted_none : {n : ℕ} {t : List ℕ} → length t ≡ 2 * n → Planted n 0 t
planted_none size = record { size = size; leaves = λ x l. absurd (omega arith) }

pub planted_more : {n i : ℕ} {t : List ℕ} → Planted n i t → i < n → Planted n (i + 1) (set t (n + i) i)
planted_more {n} {i} {t} so_far h =
    record { size = length-set t (n + i) i ∙ so_far.size; leaves = λ x l. by_place x l (ℕ_discrete x i) }
  where
    by_place : (x : ℕ) → x < i + 1 → Dec (x ≡ i) → get_or (set t (n + i) i) (n + x) 0 ≡ x
    by_place x l (yes e) = rw (e, get_or-set_same t (n + i) i 0 (omega (arith, so_far.size)))
    by_place x l (no other) =
        get_or-set_other t (n + i) (n + x) i 0 (λ e. other (omega (arith, e))) ∙ so_far.leaves x (omega (arith, other))

-- The places from k to the first are due.
abbrev pub Building : (before : ℕ → ℕ → Bool) (n k : ℕ) → List ℕ → Type 0
Building before n k t = Except (λ x. x ≤ k) before n t

module _ {before : ℕ → ℕ → Bool} {n : ℕ} {t : List ℕ} where
  pub building_none : Planted n n t → Building before n (n - 1) t
  building_none p = record { size = p.size; leaves = p.leaves; inner = λ k some l right. absurd (right (omega arith)) }

  pub building_next : {k : ℕ} → Building before n k t → 0 < k → k < n → Decidable n k t
  building_next so_far = decidable so_far (λ x d. omega arith) (λ x d. d)

  pub building_more : {k : ℕ} → Building before n k t → Decidable n k t → Building before n (k - 1) (decided_at before k t)
  building_more so_far ready = decided so_far ready (omega (arith, ready.some)) (λ x other d. omega arith)

  pub built : {k : ℕ} → Building before n k t → k ≡ 0 → Winners before n t
  built so_far e = none_due_lem so_far (λ x d. omega arith)

-- ---- replaying

-- x is k, or on the way up from k to the root.
pub data OnWay : ℕ → ℕ → Type 0 where
  here : {k : ℕ} → OnWay k k
  up : {k x : ℕ} → OnWay (k / 2) x → OnWay k x

further : {k x : ℕ} → OnWay k x → OnWay k (x / 2)
further here = up here
further (up o) = up (further o)

on_way_le : {k x : ℕ} → OnWay k x → x ≤ k
on_way_le {k} here = omega arith
on_way_le {k} (up o) = omega (arith, on_way_le o)

past_start : {k x : ℕ} → OnWay k x → x ≢ k → OnWay (k / 2) x
past_start here other = absurd (other refl)
past_start (up o) other = o

-- The places on the way up from k are due.
abbrev pub Replaying : (before : ℕ → ℕ → Bool) (n k : ℕ) → List ℕ → Type 0
Replaying before n k t = Except (OnWay k) before n t

module _ {before : ℕ → ℕ → Bool} {n : ℕ} {t : List ℕ} where
  pub replaying_next : {k : ℕ} → Replaying before n k t → 0 < k → k < n → Decidable n k t
  replaying_next so_far = decidable so_far (λ x. further) (λ x. on_way_le)

  pub replaying_more : {k : ℕ} → Replaying before n k t → Decidable n k t → Replaying before n (k / 2) (decided_at before k t)
  replaying_more so_far ready = decided so_far ready here (λ x other o. past_start o other)

  pub replayed : {k : ℕ} → Replaying before n k t → k ≡ 0 → Winners before n t
  replayed so_far e = none_due_lem so_far (λ x o. omega (arith, on_way_le o))

  -- Every place holds a leaf from which it is on the way up.
  winner_below : Winners before n t → (x : ℕ) → 0 < x → x < 2 * n → OnWay (n + get_or t x 0) x
  winner_below w = from_the_leaves n (λ x. OnWay (n + get_or t x 0) x) (λ i l. rw (w.leaves i l) here)
      (λ k some l first second. rw (w.inner k some l (λ z. z)) (⊎_elim
      (λ e. rw e (subst (OnWay (n + get_or t (2 * k) 0)) (halved k) (further first)))
      (λ e. rw e (subst (OnWay (n + get_or t (2 * k + 1) 0)) (halved_too k) (further second)))
      (better_is_one before (get_or t (2 * k) 0) (get_or t (2 * k + 1) 0))))

-- The place beside k: the two meet at the place half as far, and are twice that and the next.
abbrev pub beside : ℕ → ℕ
beside k = 4 * (k / 2) + 1 - k

-- It differs from k in the last bit alone.
pub beside_flips : (k : ℕ) → bit_xor k 1 ≡ beside k
beside_flips k = omega (arith, xor_add_and k 1, and_mask k 1)

beside_cases : (k : ℕ)
    → ((k ≡ 2 * (k / 2)) × (beside k ≡ 2 * (k / 2) + 1)) ⊎ ((k ≡ 2 * (k / 2) + 1) × (beside k ≡ 2 * (k / 2)))
beside_cases k = ⊎_elim (λ e. inl (e, omega arith)) (λ e. inr (e, omega arith)) (half_of k)

better_beside : (before : ℕ → ℕ → Bool) (t : List ℕ) (k : ℕ)
    → better before (get_or t k 0) (get_or t (beside k) 0) ≡ better before (get_or t (2 * (k / 2)) 0) (get_or t (2 * (k / 2) + 1) 0)
better_beside before t k = ⊎_elim
    (λ h. ap (λ x. better before (get_or t x 0) (get_or t (beside k) 0)) h.0
    ∙ ap (λ x. better before (get_or t (2 * (k / 2)) 0) (get_or t x 0)) h.1)
    (λ h. better_either_way before (get_or t k 0) (get_or t (beside k) 0)
    ∙ ap (λ x. better before (get_or t x 0) (get_or t k 0)) h.1
    ∙ ap (λ x. better before (get_or t (2 * (k / 2)) 0) (get_or t x 0)) h.0) (beside_cases k)

-- Replaying with the winner at k in hand: the way up from the place half as far is due.
pub record Climbing (before : ℕ → ℕ → Bool) (n k won : ℕ) (t : List ℕ) : Type 0 where
  pub some : 0 < k
  pub inside : k < 2 * n
  pub right : get_or t k 0 ≡ won
  pub above : Replaying before n (k / 2) t

module _ {before : ℕ → ℕ → Bool} {n : ℕ} {t : List ℕ} where
  pub climbing_none : {j : ℕ} → Replaying before n ((n + j) / 2) t → j < n → Climbing before n (n + j) j t
  climbing_none {j} so_far h =
      record { some = omega arith; inside = omega arith; right = so_far.leaves j h; above = so_far }

  module _ {k won : ℕ} (c : Climbing before n k won t) where
    settled_lt : (x : ℕ) → k / 2 < x → x < 2 * n → get_or t x 0 < n
    settled_lt x past within =
        right_lt c.above (λ y. further) x (omega arith) within (λ o. omega (arith, on_way_le o))

    pub won_lt : won < n
    won_lt = rw c.right at (settled_lt k (omega (arith, c.some)) c.inside)

    pub beside_within : beside k < 2 * n
    beside_within = ⊎_elim (λ h. omega (arith, h, c.inside)) (λ h. omega (arith, h, c.inside)) (beside_cases k)

    pub beside_lt : 1 < k → get_or t (beside k) 0 < n
    beside_lt l = settled_lt (beside k) (⊎_elim (λ h. omega (arith, h)) (λ h. omega (arith, h)) (beside_cases k)) beside_within

    pub climbing_more : {v : ℕ} → 1 < k → v ≡ better before won (get_or t (beside k) 0) → Climbing before n (k / 2) v (set t (k / 2) v)
    climbing_more {v} l e =
        record {
          some = omega arith;
          inside = omega (arith, c.inside);
          right = get_or-set_same t (k / 2) v 0 (omega (arith, c.above.size, c.inside));
          above = subst (λ x. Replaying before n (k / 2 / 2) (set t (k / 2) x)) (sym same)
              (replaying_more c.above (replaying_next c.above (omega arith) (omega (arith, c.inside))));
        }
      where
        same : v ≡ better before (get_or t (2 * (k / 2)) 0) (get_or t (2 * (k / 2) + 1) 0)
        same = e ∙ rw (← c.right) (better_beside before t k)

    pub climbed : k ≤ 1 → Winners before n t
    climbed l = replayed c.above (omega arith)

-- The tests agree on all places but j.
abbrev pub AgreeBut : (j : ℕ) (before after : ℕ → ℕ → Bool) → Type 0
AgreeBut j before after = (a b : ℕ) → a ≢ j → b ≢ j → before a b ≡ after a b

better_agrees : (before after : ℕ → ℕ → Bool) (a b : ℕ) → before a b ≡ after a b → before b a ≡ after b a
    → better before a b ≡ better after a b
unfolding better
better_agrees before after a b e h = rw (e, h)

module _ {before after : ℕ → ℕ → Bool} {n : ℕ} {t : List ℕ} where
  -- Where one place changed, only the way up from its leaf is due.
  pub replaying_start : Winners before n t → (j : ℕ) → AgreeBut j before after → Replaying after n ((n + j) / 2) t
  replaying_start w j agree =
      record {
        size = w.size;
        leaves = w.leaves;
        inner =
            λ k some l off. w.inner k some l (λ z. z) ∙ (
            let first = elsewhere k (2 * k) l (halved k) (omega arith) (omega arith) off in
            let second = elsewhere k (2 * k + 1) l (halved_too k) (omega arith) (omega arith) off in
            better_agrees before after (get_or t (2 * k) 0) (get_or t (2 * k + 1) 0) (agree _ _ first second) (agree _ _ second first)
            );
      }
    where
      elsewhere : (k x : ℕ) → k < n → x / 2 ≡ k → 0 < x → x < 2 * n → (OnWay ((n + j) / 2) k → ⊥) → get_or t x 0 ≢ j
      elsewhere k x inside half some within off e =
          let below : OnWay (n + j) x = subst (λ i. OnWay (n + i) x) e (winner_below w x some within) in
          off (past_start (subst (OnWay (n + j)) half (further below)) (λ same. omega arith))
