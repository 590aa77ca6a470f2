-- Tests that order by value, and how they are put together: by one test first and then another, or by one test within a class and another
-- outside it. The order of leximin's claims is made of these.
-- Assumes nothing.
use Rattle.std.specs.Prelude.{◌≡◌, refl, Bool, true, false, cond}
use Rattle.std.proofs.Common.{sym}

-- ---- tests that order by value

-- No two come before each other, and not coming before is passed on.
pub record Ordered {A : Type 0} (lt : A → A → Bool) : Type 0 where
  pub asym : (x y : A) → lt x y ≡ true → lt y x ≡ false
  pub through : (x y z : A) → lt x y ≡ false → lt y z ≡ false → lt x z ≡ false

pub none_ordered : {A : Type 0} → Ordered (λ (x y : A). false)
none_ordered = record { asym = λ x y e. refl; through = λ x y z e f. refl }

pub reversed_ordered : {A : Type 0} {lt : A → A → Bool} → Ordered lt → Ordered (λ x y. lt y x)
reversed_ordered o = record { asym = λ x y e. o.asym y x e; through = λ x y z e f. o.through z y x f e }

-- ---- first one test, then another

-- f and f' say whether the first test puts x before y and y before x, g what the second says.
unfoldable pub then_by : (f f' g : Bool) → Bool
then_by f f' g = cond f true (cond f' false g)

then_by_asym : (f f' g g' : Bool) → (f ≡ true → f' ≡ false) → (g ≡ true → g' ≡ false) → then_by f f' g ≡ true → then_by f' f g' ≡ false
unfolding then_by
then_by_asym true true g g' a b e = a refl
then_by_asym true false g g' a b e = refl
then_by_asym false true g g' a b e = sym e
then_by_asym false false g g' a b e = b e

then_by_false : (f f' g : Bool) → f ≡ false → (f' ≡ false → g ≡ false) → then_by f f' g ≡ false
unfolding then_by
then_by_false true f' g a b = a
then_by_false false true g a b = refl
then_by_false false false g a b = b refl

then_by_false_first : (f f' g : Bool) → then_by f f' g ≡ false → f ≡ false
unfolding then_by
then_by_false_first true f' g e = e
then_by_false_first false f' g e = refl

then_by_false_second : (f f' g : Bool) → then_by f f' g ≡ false → f' ≡ false → g ≡ false
unfolding then_by
then_by_false_second true f' g e h = cc
then_by_false_second false true g e h = cc
then_by_false_second false false g e h = e

pub then_by_ordered : {A : Type 0} {f g : A → A → Bool} → Ordered f → Ordered g → Ordered (λ x y. then_by (f x y) (f y x) (g x y))
then_by_ordered F G =
    record {
      asym = λ x y. then_by_asym _ _ _ _ (F.asym x y) (G.asym x y);
      through = λ x y z p q.
          let xy = then_by_false_first _ _ _ p in
          let yz = then_by_false_first _ _ _ q in
          then_by_false _ _ _ (F.through x y z xy yz)
          (λ zx. G.through x y z
          (then_by_false_second _ _ _ p (F.through y z x yz zx))
          (then_by_false_second _ _ _ q (F.through z x y zx xy)));
    }

-- ---- one test within a class, which comes first, and another outside it

-- c and c' say whether x and y are of the class.
unfoldable pub classed : (c c' g h : Bool) → Bool
classed c c' g h = cond c (cond c' g true) (cond c' false h)

classed_asym : (c c' g g' h h' : Bool) → (g ≡ true → g' ≡ false) → (h ≡ true → h' ≡ false)
    → classed c c' g h ≡ true → classed c' c g' h' ≡ false
unfolding classed
classed_asym true true g g' h h' a b e = a e
classed_asym true false g g' h h' a b e = refl
classed_asym false true g g' h h' a b e = sym e
classed_asym false false g g' h h' a b e = b e

classed_through : (c c' c'' g g' g'' h h' h'' : Bool) → (g ≡ false → g' ≡ false → g'' ≡ false) → (h ≡ false → h' ≡ false → h'' ≡ false)
    → classed c c' g h ≡ false → classed c' c'' g' h' ≡ false → classed c c'' g'' h'' ≡ false
unfolding classed
classed_through true true true g g' g'' h h' h'' a b p q = a p q
classed_through true true false g g' g'' h h' h'' a b p q = q
classed_through true false c'' g g' g'' h h' h'' a b p q = cc
classed_through false c' true g g' g'' h h' h'' a b p q = refl
classed_through false true false g g' g'' h h' h'' a b p q = cc
classed_through false false false g g' g'' h h' h'' a b p q = b p q

pub classed_ordered : {A : Type 0} (c : A → Bool) {g h : A → A → Bool} → Ordered g → Ordered h
    → Ordered (λ x y. classed (c x) (c y) (g x y) (h x y))
classed_ordered c G H =
    record {
      asym = λ x y. classed_asym (c x) (c y) _ _ _ _ (G.asym x y) (H.asym x y);
      through = λ x y z. classed_through (c x) (c y) (c z) _ _ _ _ _ _ (G.through x y z) (H.through x y z);
    }
