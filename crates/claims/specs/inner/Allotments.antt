-- The list of all allotments for a total has exactly the allotments with that total; and of a list, an allotment that is chosen before
-- every other one is the first. So leximin's choice is known by comparing it with any other allotment.
-- Assumes nothing.
use Rattle.std.specs.Prelude.{◌≡◌, Bool, true, false, cond, ◌⊎◌, ℕ, zero, suc, ◌-◌, ◌<◌, ◌≤◌, length, get_or}
use Rattle.std.proofs.Math.Path.{refl}
use Rattle.std.proofs.Common.{sym, ap, arith}
use Rattle.std.proofs.Math.Logic.{⊎_elim}
use mathlib.Core.List.Memᴰ
use mathlib.Core.List.{List, [], ◌∷◌, map, Memᴰ}
use Rattle.std.proofs.Math.Nat.{le-suc_iff}
use Rattle.apportionment.specs.Lists.{sum}
use Rattle.apportionment.specs.Leximin.{with_first, allotments, first_of, first_of_all}
use Rattle.apportionment.specs.inner.Tests.{cond_both}
use Rattle.claims.specs.inner.Every.{Every, every_implied, every_append, every_map}

-- ---- all allotments

-- An allotment of a total to n states: at least one seat each.
pub record Allotment (n total : ℕ) (ys : List ℕ) : Type 0 where
  pub states : length ys ≡ n
  pub each : (i : ℕ) → i < n → 1 ≤ get_or ys i 0
  pub whole : sum ys ≡ total

with_one_first : (n total a : ℕ) → 1 ≤ a → a ≤ total → (ys : List ℕ) → Allotment n (total - a) ys → Allotment (suc n) total (a ∷ ys)
unfolding sum
with_one_first n total a some most ys h = record { states = ap suc h.states; each = at; whole = omega (arith, h.whole) }
  where
    at : (i : ℕ) → i < suc n → 1 ≤ get_or (a ∷ ys) i 0
    at zero lt = some
    at (suc i) lt = h.each i (omega arith)

rest_of : {n total a : ℕ} {ys : List ℕ} → Allotment (suc n) total (a ∷ ys) → Allotment n (total - a) ys
unfolding sum
rest_of h = record { states = omega (arith, h.states); each = λ i lt. h.each (suc i) (omega arith); whole = omega (arith, h.whole) }

with_first_every : (P : List ℕ → Type 0) (rest : ℕ → List (List ℕ)) (most : ℕ)
    → ((a : ℕ) → 1 ≤ a → a ≤ most → Every (λ (ys : List ℕ). P (a ∷ ys)) (rest a)) → Every P (with_first rest most)
unfolding with_first
with_first_every P rest zero h = tt
with_first_every P rest (suc m) h =
    every_append P (map (λ (ys : List ℕ). suc m ∷ ys) (rest (suc m))) (with_first rest m)
    (every_map P (λ (ys : List ℕ). suc m ∷ ys) (rest (suc m)) (h (suc m) (omega arith) (omega arith)))
    (with_first_every P rest m (λ a some le. h a some (omega arith)))

-- Each list of seats in the list of all is an allotment.
pub every_allotment : (n total : ℕ) → Every (Allotment n total) (allotments n total)
unfolding allotments sum
every_allotment zero zero = (record { states = refl; each = λ i h. absurd (omega arith); whole = refl }, tt)
every_allotment zero (suc t) = tt
every_allotment (suc n) total =
    with_first_every (Allotment (suc n) total) (λ (first : ℕ). allotments n (total - first)) total
    (λ a some le. every_implied (with_one_first n total a some le) (allotments n (total - a)) (every_allotment n (total - a)))

in_map : {A B : Type 0} (f : A → B) (x : A) (xs : List A) → Memᴰ x xs → Memᴰ (f x) (map f xs)
in_map f x [] m = absurd (Memᴰ.not-nil m)
in_map f x (y ∷ ys) m = ⊎_elim (λ e. Memᴰ.head (ap f e)) (λ t. Memᴰ.tail (in_map f x ys t)) (Memᴰ.cases_cons m)

in_with_first : (rest : ℕ → List (List ℕ)) (most a : ℕ) (ys : List ℕ) → 1 ≤ a → a ≤ most → Memᴰ ys (rest a)
    → Memᴰ (a ∷ ys) (with_first rest most)
unfolding with_first
in_with_first rest zero a ys some le m = absurd (omega arith)
in_with_first rest (suc k) a ys some le m =
    ⊎_elim
    (λ (h : a ≤ k). Memᴰ.append_right (map (λ (zs : List ℕ). suc k ∷ zs) (rest (suc k))) (in_with_first rest k a ys some h m))
    (λ (e : a ≡ suc k).
    rw e (Memᴰ.append_left (with_first rest k) (in_map (λ (zs : List ℕ). suc k ∷ zs) ys (rest (suc k)) (rw e at (m)))))
    (le-suc_iff.0 le)

-- Each allotment is in the list of all.
pub in_allotments : (n total : ℕ) (ys : List ℕ) → Allotment n total ys → Memᴰ ys (allotments n total)
unfolding allotments sum
in_allotments zero zero [] h = Memᴰ.head refl
in_allotments zero (suc t) [] h = absurd (omega (arith, h.whole))
in_allotments zero total (y ∷ ys) h = absurd (omega (arith, h.states))
in_allotments (suc n) total [] h = absurd (omega (arith, h.states))
in_allotments (suc n) total (y ∷ ys) h =
    in_with_first (λ (first : ℕ). allotments n (total - first)) total y ys
    (h.each 0 (omega arith))
    (omega (arith, h.whole))
    (in_allotments n (total - y) ys (rest_of h))

-- ---- the first of a list

module _ (before : List ℕ → List ℕ → Bool) (xs : List ℕ) where
  -- xs comes before y unless it is y.
  abbrev Beaten : List ℕ → Type 0
  Beaten y = (y ≡ xs) ⊎ (before xs y ≡ true)

  -- None of a list comes before xs, and xs before each other one.
  abbrev pub Winner : List (List ℕ) → Type 0
  Winner = Every (λ (y : List ℕ). (before y xs ≡ false) × Beaten y)

  picked : (best z : List ℕ) → Beaten best → xs ≡ z → cond (before z best) z best ≡ xs
  picked best z b e =
      cond_both
      (λ (u : List ℕ). u ≡ xs)
      (before z best)
      z
      best
      (λ _. sym e)
      (λ f. ⊎_elim (λ (same : best ≡ xs). same) (λ (t : before xs best ≡ true). cc) b)

  winner_stays : (zs : List (List ℕ)) → Winner zs → first_of before xs zs ≡ xs
  unfolding first_of
  winner_stays [] h = refl
  winner_stays (z ∷ zs) h = rw h.0.0 (winner_stays zs h.1)

  winner_arrives : (best : List ℕ) (zs : List (List ℕ)) → Beaten best → Winner zs → Memᴰ xs zs
      → first_of before best zs ≡ xs
  unfolding first_of
  winner_arrives best [] b h m = absurd (Memᴰ.not-nil m)
  winner_arrives best (z ∷ zs) b h m =
      ⊎_elim
      (λ (e : xs ≡ z). rw (picked best z b e) (winner_stays zs h.1))
      (λ (t : Memᴰ xs zs).
      winner_arrives (cond (before z best) z best) zs
      (cond_both Beaten (before z best) z best (λ _. h.0.1) (λ _. b))
      h.1
      t)
      (Memᴰ.cases_cons m)

  -- The first of a list is the one that comes before each other one.
  pub winner_first : (zs : List (List ℕ)) → Winner zs → Memᴰ xs zs → first_of_all before zs ≡ xs
  unfolding first_of_all
  winner_first [] h m = absurd (Memᴰ.not-nil m)
  winner_first (z ∷ zs) h m =
      ⊎_elim
      (λ (e : xs ≡ z). rw (← e) (winner_stays zs h.1))
      (λ (t : Memᴰ xs zs). winner_arrives z zs h.0.1 h.1 t)
      (Memᴰ.cases_cons m)
