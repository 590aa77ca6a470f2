-- What a tournament asks of the list that holds it, whatever stands in it: that its entries are read and written as the numbers that they
-- stand for.
-- Assumes nothing.
use Rattle.std.specs.Prelude.{◌≡◌, refl, Bool, List, ℕ, ◌<◌, ◌≤◌, length, get_or, set}
use Rattle.std.proofs.Common.{sym, ◌∙◌, ⊎_elim, arith}
use Rattle.std.proofs.lemmas.List.{get_or_default}
use Rattle.claims.specs.inner.Tournament.{better, better_is_one}

-- `numbers` gives the numbers of a list's entries, in order.
pub record Reads {E : Type 0} (number : E → ℕ) (numbers : List E → List ℕ) : Type 0 where
  pub size : (t : List E) → length (numbers t) ≡ length t
  pub read : (t : List E) (k : ℕ) (e : E) → k < length t → e ≡ get_or t k e → number e ≡ get_or (numbers t) k 0
  pub written : (t : List E) (k : ℕ) (e : E) → numbers (set t k e) ≡ set (numbers t) k (number e)

-- Entries that are numbers.
pub reads_itself : Reads {E = ℕ} (λ x. x) (λ t. t)
reads_itself = record {
  size = λ t. refl;
  read = λ t k e within at. at ∙ get_or_default t k e 0 within;
  written = λ t k e. refl;
}

-- An entry written with a number in it stands for that number.
pub holding_written : {E : Type 0} {number : E → ℕ} {numbers : List E → List ℕ} → Reads number numbers
    → (t : List E) (k : ℕ) {e : E} {v : ℕ} → number e ≡ v → set (numbers t) k v ≡ numbers (set t k e)
holding_written r t k {e} h = rw (← h) (sym (r.written t k e))

-- The better of two entrants is an entrant, so an entry can hold it.
pub better_held : (before : ℕ → ℕ → Bool) {n limit a b v : ℕ} → v ≡ better before a b → a < n → b < n → n ≤ limit → v < limit
better_held before {n} {limit} {a} {b} {v} h ha hb fits =
    ⊎_elim (λ e. omega (arith, h, e)) (λ e. omega (arith, h, e)) (better_is_one before a b)
