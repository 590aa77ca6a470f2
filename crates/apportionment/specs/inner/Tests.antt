-- Splitting on a test: what a proof that goes by the outcome of a test cites, whichever the test.
-- Assumes nothing.
use Rattle.std.specs.Prelude.{◌≡◌, refl, Bool, true, false, cond}

-- What holds of each pick where the test makes it holds of the pick.
pub cond_both : {A : Type 0} (P : A → Type 0) (b : Bool) (x y : A) → (b ≡ true → P x) → (b ≡ false → P y) → P (cond b x y)
cond_both P true x y on_true on_false = on_true refl
cond_both P false x y on_true on_false = on_false refl

-- What follows from either outcome of a test follows.
pub either_way : {A : Type 0} (b : Bool) → (b ≡ true → A) → (b ≡ false → A) → A
either_way true on_true on_false = on_true refl
either_way false on_true on_false = on_false refl
