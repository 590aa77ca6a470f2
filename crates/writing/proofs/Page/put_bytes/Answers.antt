-- `Page::put_bytes` meets its contract: a part that fits is laid whole, and of any other the bytes for which there is room.
use Rattle.std.proofs.Common.{◌≡◌, sym, ◌∙◌, refl, arith, length, ◌+◌, ◌-◌, length-take-le}
use Rattle.writing.specs.inner.Writing.{wrote_past, laid_copied, wrote_laid, wrote_cut}
use Rattle.writing.proofs.Page.put_bytes.Goals as goal

pub returns-then-self : goal.returns-then-self
returns-then-self c =
    let page = c.args.self.now in
    let end : page.place ≡ length page.buffer.now + 1 = omega arith in
    let past = wrote_past page.buffer.now page.place c.args.part.now (omega arith) (omega arith) in
    record { same = refl; wrote = record { bytes = past.bytes; place = end ∙ past.place } }

pub returns-then-part-room : goal.returns-then-part-room
returns-then-part-room c =
    let page = c.args.self.now in
    let part = c.args.part.now in
    record {
      same = refl;
      wrote =
          rw (
            c.lay.ensures,
            laid_copied page.buffer.now part page.place (page.place + length part - page.place) (omega arith) (omega arith),
          )
          (wrote_laid page.buffer.now page.place part (omega arith));
    }

pub returns-else-part-room : goal.returns-else-part-room
returns-else-part-room c =
    let page = c.args.self.now in
    let part = c.args.part.now in
    let cut = length-take-le (length page.buffer.now - page.place) part (omega arith) in
    let end : page.place + (length page.buffer.now - page.place + 1) ≡ length page.buffer.now + 1 = omega arith in
    record {
      same = refl;
      wrote =
          rw (c.lay-else-part-room.ensures, laid_copied page.buffer.now _ page.place _ (sym cut) (omega arith), end)
          (wrote_cut page.buffer.now page.place part (omega arith) (omega arith));
    }
