-- Numbers of two digits in any base B: the two words of their product, that no step on the way passes a word, and the order
-- of two words. `product` and `product_less` cite these laws at the base 2^32.
-- Assumes nothing.
use mathlib.Core.Path.{◌≡◌, refl, ◌∙◌, ap, sym}
use mathlib.Core.Bool.{Bool, true, false}
use Prim.Native.Nat.{ℕ, zero, suc, ◌+◌, ◌*◌, ◌/◌, ◌%◌, ◌≤◌, ◌<◌}
use native.Mathlib.Nat.{add-mul, mul-add, mul_assoc, mul_comm, mul_left_comm, mul-suc, suc-mul, add-zero, mul-le-mul, mul-le-mul_right}
use native.Mathlib.Nat.{not-suc-le-zero, le_of_suc-le-suc, mod-lt, div-add-mod', div-lt_iff_lt-mul}
use native.Mathlib.Omega.{arith}
use lib.Dec.{ltb}
use borrow.Author.Tests.{ltb-true, ltb-false, lt-ltb, le-ltb}

-- Half a word, the base that the code splits by.
abbrev pub half : ℕ
half = 4294967296

-- ---- the product

-- The partial products of a and b, each with what it takes over from the one before.
abbrev pub lowest : (B a b : ℕ) → ℕ
lowest B a b = a % B * (b % B)

abbrev pub left : (B a b : ℕ) → ℕ
left B a b = a / B * (b % B) + lowest B a b / B

abbrev pub right : (B a b : ℕ) → ℕ
right B a b = a % B * (b / B) + left B a b % B

-- The two words of the product.
abbrev pub high_word : (B a b : ℕ) → ℕ
high_word B a b = a / B * (b / B) + left B a b / B + right B a b / B

abbrev pub low_word : (B a b : ℕ) → ℕ
low_word B a b = right B a b % B * B + lowest B a b % B

-- Partial products whose carries add up make the whole product.
carried : (B x₁ x₀ y₁ y₀ q₀ r₀ q₁ r₁ q₂ r₂ : ℕ)
    → q₀ * B + r₀ ≡ x₀ * y₀
    → q₁ * B + r₁ ≡ x₁ * y₀ + q₀
    → q₂ * B + r₂ ≡ x₀ * y₁ + r₁
    → (x₁ * y₁ + q₁ + q₂) * (B * B) + (r₂ * B + r₀) ≡ (x₁ * B + x₀) * (y₁ * B + y₀)
carried B x₁ x₀ y₁ y₀ q₀ r₀ q₁ r₁ q₂ r₂ e₀ e₁ e₂ =
    simp (mul-add, add-mul, mul_assoc, mul_comm, mul_left_comm)
    (omega (
      arith,
      simp mul_comm at e₀,
      simp (add-mul, mul_assoc, mul_comm, mul_left_comm) at (ap (λ (n : ℕ). n * B) e₁),
      simp (add-mul, mul_assoc, mul_comm, mul_left_comm) at (ap (λ (n : ℕ). n * B) e₂),
    ))

-- The two words are the product, exactly.
pub words_are_product : (B a b : ℕ) → high_word B a b * (B * B) + low_word B a b ≡ a * b
words_are_product B a b =
    carried B (a / B) (a % B) (b / B) (b % B) _ _ _ _ _ _
    (div-add-mod' (lowest B a b) B)
    (div-add-mod' (left B a b) B)
    (div-add-mod' (right B a b) B)
    ∙ simp div-add-mod'

-- A product of two digits with two digits more is below B * B.
digits_fit : (B : ℕ) {x y r s : ℕ} → x < B → y < B → r < B → s < B → x * y + r + s < B * B
digits_fit zero hx hy hr hs = absurd (not-suc-le-zero hx)
digits_fit (suc n) {x} {y} {r} {s} hx hy hr hs =
    simp (suc-mul, mul-suc)
    (omega (arith, mul-le-mul (le_of_suc-le-suc hx) (le_of_suc-le-suc hy)))

-- No step of the product of two words passes a word.
module _ (B a b : ℕ) (positive : 0 < B) (a-fits : a < B * B) (b-fits : b < B * B) where
  high_digit : {n : ℕ} → n < B * B → n / B < B
  high_digit = (div-lt_iff_lt-mul positive).1

  pub lowest_fits : lowest B a b < B * B
  lowest_fits = simp add-zero at (digits_fit B (mod-lt a positive) (mod-lt b positive) positive positive)

  pub left_fits : left B a b < B * B
  left_fits =
      simp add-zero at (digits_fit B (high_digit a-fits) (mod-lt b positive) (high_digit lowest_fits) positive)

  pub right_fits : right B a b < B * B
  right_fits =
      simp add-zero at (digits_fit B (mod-lt a positive) (high_digit b-fits) (mod-lt (left B a b) positive) positive)

  pub high_word_fits : high_word B a b < B * B
  high_word_fits =
      digits_fit B (high_digit a-fits) (high_digit b-fits) (high_digit left_fits) (high_digit right_fits)

-- ---- the order

-- Two tests give the same answer where each answer of the one leads to that of the other.
same_answer : (a b x y : ℕ) → (a < b → x < y) → (b ≤ a → y ≤ x) → ltb a b ≡ ltb x y
same_answer a b x y less least = by (ltb a b) refl
  where
    by : (t : Bool) → ltb a b ≡ t → t ≡ ltb x y
    by true e = sym (lt-ltb x y (less (ltb-true a b e)))
    by false e = sym (le-ltb x y (least (ltb-false a b e)))

-- High words that differ settle the order of two numbers of two words below W ..
pub high_words_decide : (W h k l m : ℕ) → l < W → m < W → (h ≡ k → ⊥) → ltb h k ≡ ltb (h * W + l) (k * W + m)
high_words_decide W h k l m l-fits m-fits apart =
    same_answer h k (h * W + l) (k * W + m)
    (λ below. omega (arith, simp suc-mul at (mul-le-mul_right W below)))
    (λ above. let below : k < h = omega arith in omega (arith, simp suc-mul at (mul-le-mul_right W below)))

-- .. and equal ones leave it to the low words.
pub low_words_decide : (W h l m : ℕ) → ltb l m ≡ ltb (h * W + l) (h * W + m)
low_words_decide W h l m =
    same_answer l m (h * W + l) (h * W + m) (λ below. omega arith) (λ above. omega arith)
