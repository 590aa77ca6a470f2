-- `cleaning::put_pair` meets its contract: its pieces, one after the other.
use Rattle.writing.specs.inner.Page.{appended_then}
use Rattle.cleaning.specs.inner.Stored.{pair_without_tail}
use Rattle.cleaning.proofs.put_pair.Goals as goal

pub returns : goal.returns
returns c =
    let word = appended_then c.put_bytes.ensures c.put_byte.ensures in
    rw pair_without_tail (appended_then (appended_then word c.put_decimal.ensures) c.put_byte-2.ensures)
