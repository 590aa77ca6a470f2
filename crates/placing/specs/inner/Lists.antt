-- Lists filled up with 0, as a placing holds them.
-- Assumes nothing.
use Rattle.std.specs.Prelude.{◌≡◌, true, List, ◌++◌, ℕ, zero, suc, ◌-◌, ◌≤◌, length, take, drop, replicate}
use Rattle.std.proofs.Common.{sym, ◌∙◌, ap, take-append-drop, length-drop, length-take-le}
use Rattle.std.proofs.Math.Nat.{sub-zero, zero-sub, suc-sub-suc}
use Rattle.std.proofs.Math.Seq.{take-append_seam, drop-append_seam}
use Rattle.apportionment.specs.Limits.{state_limit}
use Rattle.agreement.specs.inner.Lists.{all_zero, all_zero_replicate, zeros_pass}
use Rattle.placing.specs.Placing.{padded}

-- A list of the full length that is 0 from place n on is its first n places filled up.
pub padded_first : (xs : List ℕ) (n : ℕ) → length xs ≡ state_limit → n ≤ state_limit → all_zero (drop n xs) ≡ true → xs ≡ padded (take n xs)
unfolding padded
padded_first xs n full few e =
    sym (take-append-drop n xs)
    ∙ ap (λ (l : List ℕ). take n xs ++ l) (all_zero_replicate (drop n xs) e ∙ ap (λ (k : ℕ). replicate k 0) rest)
  where
    rest : length (drop n xs) ≡ state_limit - length (take n xs)
    rest = rw (length-drop, length-take-le n xs (rw full few), full)

pub take_padded : (xs : List ℕ) → take (length xs) (padded xs) ≡ xs
unfolding padded
take_padded xs = take-append_seam xs _

pub zeros_past_padded : (xs : List ℕ) → all_zero (drop (length xs) (padded xs)) ≡ true
unfolding padded
zeros_past_padded xs = rw (drop-append_seam xs (replicate (state_limit - length xs) 0)) (zeros_pass (state_limit - length xs))

drop_zeros : (n m : ℕ) → drop {A = ℕ} n (replicate m 0) ≡ replicate (m - n) 0
drop_zeros zero m = rw (sub-zero m)
drop_zeros (suc n) zero = rw (zero-sub (suc n))
drop_zeros (suc n) (suc m) = drop_zeros n m ∙ ap (λ (k : ℕ). replicate k 0) (sym (suc-sub-suc m n))

-- A list laid over the front of a full list of zeros.
pub laid_over_zeros : (xs ys : List ℕ) (n : ℕ) → ys ≡ xs → length xs ≡ n → ys ++ drop n (replicate state_limit 0) ≡ padded xs
unfolding padded
laid_over_zeros xs ys n e l = rw (e, l) (ap (λ (zs : List ℕ). xs ++ zs) (drop_zeros n state_limit))
