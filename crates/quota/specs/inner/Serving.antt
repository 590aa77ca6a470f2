-- Seats given by turns: at each number either nothing is given, or the seat of that number goes where the quota method would give it. The
-- method itself gives a seat at every number; the code starts from the whole parts and gives few. What follows for both is told here.
-- Assumes nothing.
use Rattle.std.specs.Prelude.{◌≡◌, refl, ◌⊎◌, Bool, true, false, List, ℕ, zero, suc, ◌+◌, ◌-◌, ◌*◌, ◌<◌, ◌≤◌, ltb, length, get_or}
use Rattle.std.proofs.Common.{sym, ◌∙◌, inl, inr, ⊎_elim, mul-le-mul_left, lt_of_lt_of_le, le_refl, arith, ltb-true, ltb-false}
use Rattle.std.proofs.lemmas.Bool.{false≢true}
use Rattle.apportionment.specs.Lists.{sum}
use Rattle.apportionment.specs.Divisor.{one_more}
use Rattle.apportionment.specs.Quota.{able, quotient_before, seat_goes_to}
use Rattle.apportionment.specs.inner.Tests.{either_way}
use Rattle.apportionment.specs.inner.Problem.{Problem}
use Rattle.claims.specs.inner.Order.{comes, wants_before}
use Rattle.claims.specs.inner.StandingMoves.{length-one_more, at_one_more}
use Rattle.quota.specs.inner.Turns.{quotient_test, quotient_order, turn_of, turn_lt, turn_passes, none_comes}

-- States to whom seats can be given: some, and someone in each.
pub record Peopled (ps : List ℕ) : Type 0 where
  pub some : 0 < length ps
  pub people : (i : ℕ) → i < length ps → 0 < get_or ps i 0

-- So they are where the checks of allotting let them through.
pub problem_peopled : {ps : List ℕ} {P H : ℕ} → Problem ps P H → Peopled ps
problem_peopled ok = record { some = ok.states.some_state; people = ok.states.peopled }

-- The seat numbered t + 1 is given, to a state able to have it.
pub record Given (ps : List ℕ) (x : ℕ → List ℕ) (t : ℕ) : Type 0 where
  pub is_able : able ps (suc t) (x t) (seat_goes_to ps (suc t) (x t)) ≡ true
  pub seats : x (suc t) ≡ one_more (x t) (seat_goes_to ps (suc t) (x t))

-- The seats x t stand after number t, up to the house H.
pub record Serving (ps : List ℕ) (x : ℕ → List ℕ) (H : ℕ) : Type 0 where
  pub states : length (x 0) ≡ length ps
  pub step : (t : ℕ) → t < H → (x (suc t) ≡ x t) ⊎ Given ps x t

-- ---- the state that has a seat

-- Whose turn it is among those able.
seat_by_turn : (ps : List ℕ) (h : ℕ) (xs : List ℕ) → seat_goes_to ps h xs ≡ turn_of (quotient_test ps) (length ps) (able ps h xs) xs
unfolding seat_goes_to turn_of quotient_before wants_before quotient_test
seat_by_turn ps h xs = refl

module _ {ps : List ℕ} (ok : Peopled ps) (h : ℕ) (xs : List ℕ) where
  pub seat_lt : seat_goes_to ps h xs < length ps
  seat_lt = rw (seat_by_turn ps h xs) (turn_lt (quotient_order ps ok.people) ok.some (able ps h xs) xs)

  pub seat_able : (i : ℕ) → i < length ps → able ps h xs i ≡ true → able ps h xs (seat_goes_to ps h xs) ≡ true
  seat_able i hi e =
      rw (seat_by_turn ps h xs) (turn_passes (quotient_order ps ok.people) ok.some (able ps h xs) xs i hi e)

  pub no_able_comes : (i : ℕ) → i < length ps → able ps h xs i ≡ true
      → comes (quotient_test ps) i (get_or xs i 0) (seat_goes_to ps h xs) (get_or xs (seat_goes_to ps h xs) 0) ≡ false
  no_able_comes i hi e =
      rw (seat_by_turn ps h xs) (none_comes (quotient_order ps ok.people) ok.some (able ps h xs) xs i hi e)

pub able_true : (ps : List ℕ) (h : ℕ) (xs : List ℕ) (i : ℕ) → able ps h xs i ≡ true → get_or xs i 0 * sum ps < get_or ps i 0 * h
unfolding able
able_true ps h xs i e = ltb-true _ _ e

pub able_false : (ps : List ℕ) (h : ℕ) (xs : List ℕ) (i : ℕ) → able ps h xs i ≡ false → get_or ps i 0 * h ≤ get_or xs i 0 * sum ps
unfolding able
able_false ps h xs i e = ltb-false _ _ e

-- ---- seats on the way

module _ {ps : List ℕ} (ok : Peopled ps) {x : ℕ → List ℕ} {H : ℕ} (run : Serving ps x H) where
  pub serving_long : (t : ℕ) → t ≤ H → length (x t) ≡ length ps
  serving_long zero h = run.states
  serving_long (suc t) h =
      let before = serving_long t (omega arith) in
      ⊎_elim (λ same. rw same before) (λ given. rw given.seats (length-one_more (x t) _ ∙ before)) (run.step t (omega arith))

  -- A state's seats after one number more: the same, or one more for the state whose turn it was, which was able.
  pub data Next (t i : ℕ) : Type 0 where
    stays : get_or (x (suc t)) i 0 ≡ get_or (x t) i 0 → Next t i
    gains : Given ps x t → i ≡ seat_goes_to ps (suc t) (x t) → get_or (x (suc t)) i 0 ≡ suc (get_or (x t) i 0) → Next t i

  pub next : (t : ℕ) → t < H → (i : ℕ) → Next t i
  next t h i = ⊎_elim (λ same. stays (rw same)) seated (run.step t h)
    where
      seated : Given ps x t → Next t i
      seated given = ⊎_elim (λ here. gains given here.0 (rw given.seats here.1)) (λ there. stays (rw given.seats there.1))
          (at_one_more (x t) (seat_goes_to ps (suc t) (x t)) i (rw (serving_long t (omega arith)) (seat_lt ok (suc t) (x t))))

  pub never_lost : (s t i : ℕ) → s ≤ t → t ≤ H → get_or (x s) i 0 ≤ get_or (x t) i 0
  never_lost s zero i st th = rw (first st) (le_refl _)
    where
      first : s ≤ 0 → s ≡ 0
      first h = omega arith
  never_lost s (suc t) i st th =
      either_way (ltb s (suc t))
      (λ e. by_next (never_lost s t i (omega (arith, ltb-true s (suc t) e)) (omega arith)) (next t (omega arith) i))
      (λ e. rw (last (ltb-false s (suc t) e)) (le_refl _))
    where
      by_next : get_or (x s) i 0 ≤ get_or (x t) i 0 → Next t i → get_or (x s) i 0 ≤ get_or (x (suc t)) i 0
      by_next so_far (stays e) = omega (arith, e)
      by_next so_far (gains given it e) = omega (arith, e)

      last : suc t ≤ s → s ≡ suc t
      last h = omega arith

  -- A state that has gained had its last seat when it was able.
  pub gained_able : (t : ℕ) → t ≤ H → (i : ℕ) → get_or (x 0) i 0 < get_or (x t) i 0 → (get_or (x t) i 0 - 1) * sum ps < get_or ps i 0 * t
  gained_able zero h i more = absurd (omega arith)
  gained_able (suc t) h i more = by_next (gained_able t (omega arith) i) (next t (omega arith) i)
    where
      longer : get_or ps i 0 * t ≤ get_or ps i 0 * suc t
      longer = mul-le-mul_left (get_or ps i 0) (omega arith)

      by_next : (get_or (x 0) i 0 < get_or (x t) i 0 → (get_or (x t) i 0 - 1) * sum ps < get_or ps i 0 * t) → Next t i
          → (get_or (x (suc t)) i 0 - 1) * sum ps < get_or ps i 0 * suc t
      by_next so_far (stays e) = rw e (lt_of_lt_of_le (so_far (omega (arith, e, more))) longer)
      by_next so_far (gains given it e) =
          let one_less : get_or (x (suc t)) i 0 - 1 ≡ get_or (x t) i 0 = omega (arith, e) in
          rw one_less (rw (← it) at (able_true ps (suc t) (x t) (seat_goes_to ps (suc t) (x t)) given.is_able))

-- ---- parting claims

-- Claims are parted in two: a state's former claims are preferred where a later one is, and each preferred claim comes before each other.
pub record Parting (ps : List ℕ) (q : ℕ → ℕ → Bool) : Type 0 where
  pub falls : (i a : ℕ) → i < length ps → q i (suc a) ≡ true → q i a ≡ true
  pub parts : (i a j b : ℕ) → i < length ps → j < length ps → q i a ≡ true → q j b ≡ false → comes (quotient_test ps) i a j b ≡ true

pub preferred_before : {ps : List ℕ} {q : ℕ → ℕ → Bool} → Parting ps q
    → (i a b : ℕ) → i < length ps → a ≤ b → q i b ≡ true → q i a ≡ true
preferred_before {ps} {q} p i a b hi h e = down (b - a) (rw (up h) e)
  where
    up : a ≤ b → b - a + a ≡ b
    up l = omega arith

    down : (d : ℕ) → q i (d + a) ≡ true → q i a ≡ true
    down zero f = rw (none a) at f
      where
        none : (a : ℕ) → 0 + a ≡ a
        none a = omega arith
    down (suc d) f = down d (p.falls i (d + a) hi (rw (more d a) at f))
      where
        more : (d a : ℕ) → suc d + a ≡ suc (d + a)
        more d a = omega arith

-- Since number s only preferred claims were met, and a state whose claim was preferred then was not able. Such an s there is for every
-- number t: the last one whose seat went to a claim not preferred, or 0.
pub record Since (ps : List ℕ) (x : ℕ → List ℕ) (q : ℕ → ℕ → Bool) (t s : ℕ) : Type 0 where
  pub within : s ≤ t
  pub started : (s ≡ 0) ⊎ ((r : ℕ) × (s ≡ suc r) × Given ps x r)
  pub met : (i : ℕ) → i < length ps → get_or (x s) i 0 < get_or (x t) i 0 → q i (get_or (x t) i 0 - 1) ≡ true
  pub not_able : (i : ℕ) → i < length ps → q i (get_or (x s) i 0) ≡ true → get_or ps i 0 * s ≤ get_or (x s) i 0 * sum ps

module _ {ps : List ℕ} (ok : Peopled ps) {x : ℕ → List ℕ} {H : ℕ} (run : Serving ps x H) {q : ℕ → ℕ → Bool} (p : Parting ps q) where
  -- One number more.
  since_next : (t s : ℕ) → t < H → Since ps x q t s → (s' : ℕ) × Since ps x q (suc t) s'
  since_next t s h so_far = ⊎_elim on seated (run.step t h)
    where
      on : x (suc t) ≡ x t → (s' : ℕ) × Since ps x q (suc t) s'
      on same = (
        s,
        record {
          within = omega (arith, so_far.within);
          started = so_far.started;
          met = rw same so_far.met;
          not_able = so_far.not_able;
        },
      )

      seated : Given ps x t → (s' : ℕ) × Since ps x q (suc t) s'
      seated given = either_way (q turn (get_or (x t) turn 0)) preferred other
        where
          turn : ℕ
          turn = seat_goes_to ps (suc t) (x t)

          preferred : q turn (get_or (x t) turn 0) ≡ true → (s' : ℕ) × Since ps x q (suc t) s'
          preferred e = (
            s,
            record {
              within = omega (arith, so_far.within);
              started = so_far.started;
              met = λ i hi. by_next i hi (next ok run t h i);
              not_able = so_far.not_able;
            },
          )
            where
              by_next : (i : ℕ) → i < length ps → Next ok run t i → get_or (x s) i 0 < get_or (x (suc t)) i 0
                  → q i (get_or (x (suc t)) i 0 - 1) ≡ true
              by_next i hi (stays f) l = rw f (so_far.met i hi (omega (arith, f, l)))
              by_next i hi (gains _ it f) l =
                  let one_less : get_or (x (suc t)) i 0 - 1 ≡ get_or (x t) i 0 = omega (arith, f) in
                  rw (one_less, it) e

          other : q turn (get_or (x t) turn 0) ≡ false → (s' : ℕ) × Since ps x q (suc t) s'
          other e = (
            suc t,
            record {
              within = le_refl (suc t);
              started = inr (t, refl, given);
              met = λ i hi l. absurd (omega (arith, l));
              not_able = λ i hi. by_next i hi (next ok run t h i);
            },
          )
            where
              unable : (i : ℕ) → i < length ps → q i (get_or (x t) i 0) ≡ true → get_or ps i 0 * suc t ≤ get_or (x t) i 0 * sum ps
              unable i hi f = either_way (able ps (suc t) (x t) i)
                  (λ one. absurd (false≢true (sym (no_able_comes ok (suc t) (x t) i hi one)
                  ∙ p.parts i (get_or (x t) i 0) turn (get_or (x t) turn 0) hi (seat_lt ok (suc t) (x t)) f e)))
                  (λ not. able_false ps (suc t) (x t) i not)

              by_next : (i : ℕ) → i < length ps → Next ok run t i → q i (get_or (x (suc t)) i 0) ≡ true
                  → get_or ps i 0 * suc t ≤ get_or (x (suc t)) i 0 * sum ps
              by_next i hi (stays f) l = rw f (unable i hi (rw f at l))
              by_next i hi (gains _ it f) l =
                  absurd (false≢true (sym e ∙ (rw it at (p.falls i (get_or (x t) i 0) hi (rw f at l)))))

  pub since : (t : ℕ) → t ≤ H → (s : ℕ) × Since ps x q t s
  since zero h = (
    0,
    record {
      within = le_refl 0;
      started = inl refl;
      met = λ i hi l. absurd (omega (arith, l));
      not_able = λ i hi e. omega arith;
    },
  )
  since (suc t) h = let so_far = since t (omega arith) in since_next t so_far.0 (omega arith) so_far.1
