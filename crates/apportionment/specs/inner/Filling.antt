-- A list filled from the front: what a loop that stores one number after another cites, whichever numbers they are.
-- Assumes nothing.
use Rattle.std.specs.Prelude.{◌≡◌, List, ℕ, ◌+◌, ◌≤◌, ◌<◌, eqb, length, get_or, set}
use Rattle.std.proofs.Common.{◌∙◌, arith, length-set, get_or-set_same, get_or-set_other, eqb-true}
use Rattle.std.proofs.lemmas.Bool.{eqb-false}
use Rattle.apportionment.specs.Lists.{list_of}
use Rattle.apportionment.specs.inner.Lists.{is_list_of}
use Rattle.apportionment.specs.inner.Tests.{either_way}

-- A loop that fills n places by f has reached place i.
pub record FilledTo (f : ℕ → ℕ) (n i : ℕ) (xs : List ℕ) : Type 0 where
  pub reached : i ≤ n
  pub long : length xs ≡ n
  pub right : (k : ℕ) → k < i → get_or xs k 0 ≡ f k

pub fill_starts : (f : ℕ → ℕ) (n : ℕ) (xs : List ℕ) → length xs ≡ n → FilledTo f n 0 xs
fill_starts f n xs long = record { reached = omega arith; long = long; right = λ (k : ℕ) (h : k < 0). absurd (omega arith) }

pub fill_goes_on : (f : ℕ → ℕ) (n i v : ℕ) (xs : List ℕ) → i < n → v ≡ f i → FilledTo f n i xs → FilledTo f n (i + 1) (set xs i v)
fill_goes_on f n i v xs h e so_far = record {
  reached = omega arith;
  long = length-set xs i v ∙ so_far.long;
  right = λ (k : ℕ) (l : k < i + 1).
      either_way (eqb k i)
      (λ here. rw (eqb-true k i here) (get_or-set_same xs i v 0 (omega (arith, so_far.long)) ∙ e))
      (λ there. get_or-set_other xs i k v 0 (eqb-false k i there) ∙ so_far.right k (omega (arith, eqb-false k i there)));
}

pub fill_ends : (f : ℕ → ℕ) (n i : ℕ) (xs : List ℕ) → n ≤ i → FilledTo f n i xs → xs ≡ list_of f n
fill_ends f n i xs h all = is_list_of xs f n all.long (λ (k : ℕ) (l : k < n). all.right k (omega arith))

-- A list filled in place: what stands from place i on is still what stood there.
pub rest_is_kept : (xs old : List ℕ) (i v : ℕ)
    → ((k : ℕ) → i ≤ k → get_or xs k 0 ≡ get_or old k 0)
    → (k : ℕ) → i + 1 ≤ k → get_or (set xs i v) k 0 ≡ get_or old k 0
rest_is_kept xs old i v kept k h = get_or-set_other xs i k v 0 (λ e. omega arith) ∙ kept k (omega arith)
