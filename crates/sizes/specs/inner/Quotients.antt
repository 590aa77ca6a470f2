-- What comparing claims by quotients asks, and that it gives their order.
-- Assumes nothing.
use Rattle.std.specs.Prelude.{◌≡◌, ℕ, ◌+◌}
use Rattle.claims.specs.inner.SizeClaims.{size_before}
use Rattle.claims.specs.inner.SizeQuotients.{Climbs, climbs_before, climbs_by_quotient}
use Rattle.claims.specs.inner.SizeQuotients.{Falls, falls_before, falls_by_quotient}
use Rattle.sizes.specs.inner.Sizes.{WithSeats}

-- A claim to a seat that fits, at or above the start; and below it.
abbrev pub ClimbingClaim : (p a P H : ℕ) → Type 0
ClimbingClaim p a P H = WithSeats p (a + 1) P H × Climbs p P H a

abbrev pub FallingClaim : (p a P H : ℕ) → Type 0
FallingClaim p a P H = WithSeats p (a + 1) P H × Falls p P H a

pub climbs_compared : {p a q b P H : ℕ} → ClimbingClaim p a P H → ClimbingClaim q b P H → size_before P H p a q b
    ≡ climbs_before P H p a q b
climbs_compared {p} {a} {q} {b} (k, c) (l, d) = climbs_by_quotient k.state.peopled k.state.some_seat p a q b c d

pub falls_compared : {p a q b P H : ℕ} → FallingClaim p a P H → FallingClaim q b P H → size_before P H p a q b ≡ falls_before P H p a q b
falls_compared {p} {a} {q} {b} (k, c) (l, d) = falls_by_quotient k.state.peopled k.state.some_seat p a q b c d
