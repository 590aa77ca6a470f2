-- `Page::put_byte` meets its contract: a byte whose place lies within the buffer is stored, and any other leaves the buffer as it was.
use Rattle.std.proofs.Common.{[], ◌∷◌, refl, arith}
use Rattle.writing.specs.inner.Writing.{wrote_byte, wrote_past}
use Rattle.writing.proofs.Page.put_byte.Goals as goal

pub returns-then-self : goal.returns-then-self
returns-then-self c =
    let page = c.args.self.now in
    record { same = refl; wrote = wrote_byte page.buffer.now page.place c.args.byte (omega arith) }

pub returns-else-self : goal.returns-else-self
returns-else-self c =
    let page = c.args.self.now in
    record { same = refl; wrote = wrote_past page.buffer.now page.place (c.args.byte ∷ []) (omega arith) (omega arith) }
