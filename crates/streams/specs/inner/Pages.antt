-- What is asked of a writer before a program runs it.
-- Assumes nothing.
use Rattle.std.specs.Prelude.{◌≡◌, ◌≤◌, ℕ, List, length}
use Rattle.std.specs.Fn.{FnOnceReturns, Once}
use denote.Ref.{Bor, MutBor}

-- Whatever register it is lent, no more is written than there is room for on the page.
abbrev pub WritesWithin : {F P : Type 0} → Once F (Bor (List ℕ) × (MutBor P × Unit {0})) (ℕ × (MutBor P × Unit {0})) → (P → List ℕ)
    → F → P → Type 0
WritesWithin {F} {P} f bytes write page =
    (register : Bor (List ℕ)) (before after : MutBor P) (size : ℕ) → before.now ≡ page
    → FnOnceReturns f write (register, (before, tt)) (size, (after, tt)) → size ≤ length (bytes after.now)
