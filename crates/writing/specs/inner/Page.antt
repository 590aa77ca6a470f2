-- What every method of a page promises, and the law that joins what two calls in a row wrote.
-- Assumes nothing.
use Rattle.std.specs.Prelude.{◌≡◌, refl, List, [], ◌++◌, ℕ}
use Rattle.std.proofs.Common.{◌∙◌, arith}
use Rattle.writing.specs.declared.Page.{Page}
use Rattle.writing.specs.inner.Writing.{Wrote, wrote_then, wrote_nothing}

-- A page on which nothing is written yet, over a buffer with these bytes.
pub record Begun (bytes : List ℕ) (page : Page) : Type 0 where
  pub held : page.buffer.now ≡ bytes
  pub front : page.place ≡ 0

-- Text was written on a page, which still holds the same buffer.
pub record Appended (before : Page) (text : List ℕ) (after : Page) : Type 0 where
  pub same : after.buffer.ghost_name ≡ before.buffer.ghost_name
  pub wrote : Wrote before.buffer.now before.place text after.buffer.now after.place

-- Before the first call nothing was written.
pub appended_nothing : (page : Page) → Appended page [] page
appended_nothing page = record { same = refl; wrote = wrote_nothing page.buffer.now page.place (omega arith) }

-- What two calls in a row wrote is one text.
pub appended_then : {a b c : Page} {s t : List ℕ} → Appended a s b → Appended b t c → Appended a (s ++ t) c
appended_then first second = record { same = second.same ∙ first.same; wrote = wrote_then first.wrote second.wrote }

-- A text written on a page that was begun stands in its buffer from the front on.
pub written_whole : {bytes text last : List ℕ} {before after : Page} {end : ℕ} → Begun bytes before → Appended before text after
    → last ≡ after.buffer.now → end ≡ after.place → Wrote bytes 0 text last end
written_whole begun appended left place = rw (left, place) (rw (begun.held, begun.front) at appended.wrote)
