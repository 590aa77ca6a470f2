-- What singles out the seats of the quota method for a house, without going through its seats one by one: `Best`. Two lists that have it
-- are the same.
-- Assumes nothing.
use Rattle.std.specs.Prelude.{◌≡◌, Bool, true, false, not, List, ltb, eqb, length}
use Rattle.std.proofs.Common.{sym, ◌∙◌, ext_get_or, ltb-true, ltb-false, eq-eqb, eqb-true}
use Rattle.std.proofs.lemmas.Bool.{false≢true, eqb-false}
use Prim.Native.Nat.{ℕ, ◌+◌, ◌*◌, ◌<◌, ◌≤◌}
use native.Mathlib.Omega.{arith}
use Rattle.std.proofs.Math.ListN.{get_or}
use Rattle.apportionment.specs.Lists.{sum}
use Rattle.apportionment.specs.Remainders.{whole_part}
use Rattle.apportionment.specs.inner.Tests.{either_way}
use Rattle.apportionment.specs.inner.Lists.{get_d_list_of, sum-list_of_less}
use Rattle.apportionment.specs.inner.WholeParts.{whole_parts}
use Rattle.claims.specs.inner.Order.{comes}
use Rattle.quota.specs.inner.Turns.{quotient_test, quotient_order, turn_of, turn_lt, turn_passes, none_comes}
use Rattle.quota.specs.inner.Serving.{Peopled}
use Rattle.quota.specs.inner.Released.{released, released_all, released_step, released_next, released_late}
use Rattle.quota.specs.inner.Sums.{sum_beside}

-- State c stays at its whole part for want of room since number s: all seats since then are ones that nobody was able to have before, and
-- those beyond a whole part went to states that come before c.
pub record NoRoom (ps : List ℕ) (H : ℕ) (xs : List ℕ) (c s : ℕ) : Type 0 where
  pub within : s ≤ H
  pub full : released_all ps xs s ≤ s
  pub not_yet : get_or ps c 0 * s ≤ whole_part ps H c * sum ps
  pub before : (i : ℕ) → i < length ps → whole_part ps H i < get_or xs i 0 → get_or ps i 0 * s ≤ whole_part ps H i * sum ps
      → comes (quotient_test ps) i (whole_part ps H i) c (whole_part ps H c) ≡ true

-- Each state has its whole part or one seat more, this only if it is able to have it by the house; by each number s at least s of the seats
-- could be had; and a state that could have had one more stays at its whole part only for want of room.
pub record Best (ps : List ℕ) (H : ℕ) (xs : List ℕ) : Type 0 where
  pub states : length xs ≡ length ps
  pub whole : sum xs ≡ H
  pub not_below : (i : ℕ) → i < length ps → whole_part ps H i ≤ get_or xs i 0
  pub not_above : (i : ℕ) → i < length ps → get_or xs i 0 ≤ whole_part ps H i + 1
  pub in_time : (i : ℕ) → i < length ps → whole_part ps H i < get_or xs i 0 → whole_part ps H i * sum ps < get_or ps i 0 * H
  pub enough : (s : ℕ) → s ≤ H → s ≤ released_all ps xs s
  pub kept : (c : ℕ) → c < length ps → get_or xs c 0 ≡ whole_part ps H c → whole_part ps H c * sum ps < get_or ps c 0 * H
      → (s : ℕ) × NoRoom ps H xs c s

module _ {ps : List ℕ} (ok : Peopled ps) {H : ℕ} where
  -- Where two lists differ first, neither has a seat more than the other there.
  no_first_difference : (xs ys : List ℕ) → Best ps H xs → Best ps H ys → (c : ℕ) → c < length ps
      → ((i : ℕ) → i < length ps → (get_or xs i 0 ≡ get_or ys i 0 → ⊥)
      → comes (quotient_test ps) i (whole_part ps H i) c (whole_part ps H c) ≡ false)
      → get_or xs c 0 < get_or ys c 0 → ⊥
  unfolding released_all
  no_first_difference xs ys bx by c hc first fewer =
      let sums = sum-list_of_less (λ (i : ℕ). get_or xs i 0 + out ys i) (λ (i : ℕ). get_or ys i 0 + out xs i) (length ps) each c hc here in
      omega (
        arith,
        sums,
        sum_beside (length ps) xs (out ys) bx.states,
        sum_beside (length ps) ys (out xs) by.states,
        bx.whole,
        by.whole,
        by.enough s room.within,
        room.full,
      )
    where
      f : ℕ → ℕ
      f i = whole_part ps H i

      x_is : get_or xs c 0 ≡ f c
      x_is = omega (arith, fewer, bx.not_below c hc, by.not_above c hc)

      y_is : get_or ys c 0 ≡ f c + 1
      y_is = omega (arith, fewer, bx.not_below c hc, by.not_above c hc)

      found : (s : ℕ) × NoRoom ps H xs c s
      found = bx.kept c hc x_is (by.in_time c hc (omega (arith, y_is)))

      s : ℕ
      s = found.0

      room : NoRoom ps H xs c s
      room = found.1

      out : List ℕ → ℕ → ℕ
      out zs i = released (get_or ps i 0) (sum ps) (get_or zs i 0) s

      here : get_or xs c 0 + out ys c < get_or ys c 0 + out xs c
      here = rw (x_is, y_is) (omega (arith, released_late (get_or ps c 0) (sum ps) s (f c) room.not_yet))

      each : (i : ℕ) → i < length ps → get_or xs i 0 + out ys i ≤ get_or ys i 0 + out xs i
      each i hi = either_way (eqb (get_or xs i 0) (get_or ys i 0))
          (λ e. rw (eqb-true (get_or xs i 0) (get_or ys i 0) e) (omega arith))
          (λ e. differ (eqb-false _ _ e))
        where
          differ : (get_or xs i 0 ≡ get_or ys i 0 → ⊥) → get_or xs i 0 + out ys i ≤ get_or ys i 0 + out xs i
          differ apart = either_way (ltb (get_or xs i 0) (get_or ys i 0)) less_than more_than
            where
              less_than : ltb (get_or xs i 0) (get_or ys i 0) ≡ true → get_or xs i 0 + out ys i ≤ get_or ys i 0 + out xs i
              less_than e =
                  let l = ltb-true (get_or xs i 0) (get_or ys i 0) e in
                  let xi : get_or xs i 0 ≡ f i = omega (arith, l, bx.not_below i hi, by.not_above i hi) in
                  let yi : get_or ys i 0 ≡ f i + 1 = omega (arith, l, bx.not_below i hi, by.not_above i hi) in
                  rw (xi, yi) (omega (arith, released_step (get_or ps i 0) (sum ps) s (f i)))

              more_than : ltb (get_or xs i 0) (get_or ys i 0) ≡ false → get_or xs i 0 + out ys i ≤ get_or ys i 0 + out xs i
              more_than e =
                  let l = ltb-false (get_or xs i 0) (get_or ys i 0) e in
                  let xi : get_or xs i 0 ≡ f i + 1 = omega (arith, l, apart, by.not_below i hi, bx.not_above i hi) in
                  let yi : get_or ys i 0 ≡ f i = omega (arith, l, apart, by.not_below i hi, bx.not_above i hi) in
                  either_way (ltb (f i * sum ps) (get_or ps i 0 * s))
                  (λ t. rw (xi, yi) (omega (arith, released_next (get_or ps i 0) (sum ps) s (f i) (ltb-true _ _ t))))
                  (λ t.
                  let comes_first = room.before i hi (omega (arith, xi)) (ltb-false _ _ t) in
                  absurd (false≢true (sym (first i hi apart) ∙ comes_first)))

  pub best_unique : (xs ys : List ℕ) → Best ps H xs → Best ps H ys → xs ≡ ys
  best_unique xs ys bx by =
      ext_get_or 0 xs ys (bx.states ∙ sym by.states) (λ i h. same i (omega (arith, h, bx.states)))
    where
      differs : ℕ → Bool
      differs i = not (eqb (get_or xs i 0) (get_or ys i 0))

      c : ℕ
      c = turn_of (quotient_test ps) (length ps) differs (whole_parts ps H)

      hc : c < length ps
      hc = turn_lt (quotient_order ps ok.people) ok.some differs (whole_parts ps H)

      differs_where : (i : ℕ) → (get_or xs i 0 ≡ get_or ys i 0 → ⊥) → differs i ≡ true
      differs_where i apart = either_way (eqb (get_or xs i 0) (get_or ys i 0)) (λ e. absurd (apart (eqb-true _ _ e))) (λ e. rw e)

      first : (i : ℕ) → i < length ps → (get_or xs i 0 ≡ get_or ys i 0 → ⊥)
          → comes (quotient_test ps) i (whole_part ps H i) c (whole_part ps H c) ≡ false
      first i hi apart =
          let place : (j : ℕ) → j < length ps → get_or (whole_parts ps H) j 0 ≡ whole_part ps H j =
          get_d_list_of (whole_part ps H) (length ps) in
          rw (place i hi, place c hc) at
          (none_comes (quotient_order ps ok.people) ok.some differs (whole_parts ps H) i hi (differs_where i apart))

      same_at_first : get_or xs c 0 ≡ get_or ys c 0
      same_at_first =
          either_way (ltb (get_or xs c 0) (get_or ys c 0))
          (λ e. absurd (no_first_difference xs ys bx by c hc first (ltb-true _ _ e)))
          (λ e. either_way (ltb (get_or ys c 0) (get_or xs c 0))
          (λ f. absurd (no_first_difference ys xs by bx c hc (λ i hi apart. first i hi (λ q. apart (sym q))) (ltb-true _ _ f)))
          (λ f. omega (arith, ltb-false (get_or xs c 0) (get_or ys c 0) e, ltb-false (get_or ys c 0) (get_or xs c 0) f)))

      same : (i : ℕ) → i < length ps → get_or xs i 0 ≡ get_or ys i 0
      same i hi = either_way (eqb (get_or xs i 0) (get_or ys i 0)) (λ e. eqb-true _ _ e)
          (λ e.
          let one : differs i ≡ true = rw e in
          let other : differs c ≡ true
          = turn_passes (quotient_order ps ok.people) ok.some differs (whole_parts ps H) i hi one in
          let alike : differs c ≡ false = rw (eq-eqb _ _ same_at_first) in
          absurd (false≢true (sym alike ∙ other)))
