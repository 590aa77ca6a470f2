-- `wide::in_one_word` is right because two half words are each at most 2^32 - 1, and the square of that is below 2^64.
use Prim.Native.Nat.{ℕ, ◌-◌, ◌*◌, ◌^◌, ◌<◌, ◌≤◌}
use native.Mathlib.Nat.{mul-le-mul}
use native.Mathlib.Omega.{arith}
use mathlib.Core.Path.{sym}
use mathlib.Core.Bool.{true≢false}
use borrow.Author.Tests.{ltb-true}
use Rattle.wide.proofs.Digits.{half}
use Rattle.wide.proofs.in_one_word.Goals as goal

pub returns-then-a-lt-HALF : goal.returns-then-a-lt-HALF
returns-then-a-lt-HALF c =
    λ narrow. half_words c.args.a c.args.b c.if-a-lt-HALF.true (ltb-true c.args.b half narrow)
  where
    half_words : (a b : ℕ) → a < half → b < half → a * b < 2 ^ 64
    half_words a b small narrow =
        let largest : a * b ≤ (half - 1) * (half - 1) = mul-le-mul {n₂ = half - 1} {m₂ = half - 1} (omega arith) (omega arith) in
        omega (arith, largest)

pub returns : goal.returns
returns c = λ none. absurd (true≢false (sym none))
