-- `departure::Departure::at_most` is right because one size is at most another exactly if the other is not less.
use mathlib.Core.Path.{◌≡◌, sym}
use mathlib.Core.Bool.{not}
use Prim.Native.Nat.{ℕ, ◌*◌}
use lib.Dec.{leb, ltb}
use borrow.Author.Tests.{ltb-true, ltb-false, le-leb, lt-leb}
use Rattle.apportionment.specs.inner.Tests.{either_way}
use Rattle.apportionment.specs.Quantities.{Fraction, at_most, less}
use Rattle.departure.specs.inner.Exact.{size}
use Rattle.wide.proofs.Signed.{read_back}
use Rattle.departure.proofs.Departure.at_most.Goals as goal

not_ltb : (x y : ℕ) → not (ltb x y) ≡ leb y x
not_ltb x y =
    either_way (ltb x y) (λ e. rw e (sym (lt-leb y x (ltb-true x y e)))) (λ e. rw e (sym (le-leb y x (ltb-false x y e))))

not_less : (s t : Fraction) → not (less t s) ≡ at_most s t
unfolding less at_most
not_less s t = not_ltb (t.over * s.under) (s.over * t.under)

pub returns : goal.returns
unfolding less size
returns c =
    let own = c.struct_told-1 in
    let other = c.struct_told-2-1 in
    rw (
      c.product_less.ensures,
      c.magnitude-own.ensures,
      c.magnitude-most.ensures,
      read_back c.args.self.numerator own.given.0.1,
      read_back c.args.limit.numerator other.given.0.1,
    )
    (not_less (size c.args.self) (size c.args.limit))
