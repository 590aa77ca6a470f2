-- `departure::Departure::shown` is right because it rounds the size and then gives it the numerator's sign.
use Rattle.departure.specs.inner.Exact.{shown, size}
use Rattle.departure.proofs.Rounding.{moderate_fits}
use Rattle.wide.proofs.Signed.{read_back}
use Rattle.departure.proofs.Departure.shown.Goals as goal

pub nearest-rounded-requires : goal.nearest-rounded-requires
unfolding size
nearest-rounded-requires c =
    rw (c.magnitude.ensures, read_back c.args.self.numerator c.struct_told-1.given.0.1) c.requires

pub with_sign-requires : goal.with_sign-requires
unfolding size
with_sign-requires c =
    rw (
      c.nearest-rounded.ensures,
      c.magnitude.ensures,
      read_back c.args.self.numerator c.struct_told-1.given.0.1,
    )
    (moderate_fits (size c.args.self) c.requires)

pub returns : goal.returns
unfolding shown size
returns c =
    rw (
      read_back c.with_sign.result c.with_sign.type_inv,
      c.with_sign.ensures,
      c.nearest-rounded.ensures,
      c.magnitude.ensures,
      read_back c.args.self.numerator c.struct_told-1.given.0.1,
    )
