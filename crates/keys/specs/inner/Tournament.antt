-- A tournament of keys: at each inner place the one of its two with the larger key, of equal keys the earlier.
-- Assumes nothing.
use Rattle.std.specs.Prelude.{◌≡◌, Bool, List, ℕ, ◌+◌, ◌-◌, ◌/◌, ◌<◌, ◌≤◌, ltb, length, get_or, set}
use Rattle.std.proofs.Common.{arith, length-set, get_or-set_other}
use borrow.Author.Tests.{lt-ltb, le-ltb, ltb-true, ltb-false}
use Rattle.apportionment.specs.Lists.{first_place}
use Rattle.claims.specs.inner.StandingOrder.{first_place_holds}
use Rattle.apportionment.specs.inner.Tests.{either_way}
use Rattle.claims.specs.inner.Tournament.{better, Passes, Winners, winner_lt, root_is_first}
use Rattle.claims.specs.inner.TournamentReplay.{AgreeBut, Replaying, replaying_start}

-- The key at place i is larger than that at place j.
unfoldable pub larger : (keys : List ℕ) (i j : ℕ) → Bool
larger keys i j = ltb (get_or keys j 0) (get_or keys i 0)

larger_passes : (keys : List ℕ) (n : ℕ) → Passes n (larger keys)
unfolding larger
larger_passes keys n = record {
  comes = λ i j k ij jk hk kj ji.
      lt-ltb (get_or keys i 0) (get_or keys k 0)
      (omega (arith, ltb-true (get_or keys j 0) (get_or keys k 0) kj, ltb-true (get_or keys i 0) (get_or keys j 0) ji));
  stays = λ i j k ij jk hk kj ji.
      le-ltb (get_or keys i 0) (get_or keys k 0)
      (omega (arith, ltb-false (get_or keys j 0) (get_or keys k 0) kj, ltb-false (get_or keys i 0) (get_or keys j 0) ji));
}

larger_agree : (keys : List ℕ) (j v : ℕ) → AgreeBut j (larger keys) (larger (set keys j v))
unfolding larger
larger_agree keys j v a b ha hb = rw (get_or-set_other keys j a v 0 ha, get_or-set_other keys j b v 0 hb)

-- The better of two places, by their keys.
module _ (keys : List ℕ) (a b : ℕ) where
  pub later_larger : get_or keys a 0 < get_or keys b 0 → b ≡ better (larger keys) a b
  unfolding better larger
  later_larger h = either_way (ltb a b)
      (λ e. rw (e, lt-ltb (get_or keys a 0) (get_or keys b 0) h))
      (λ e. rw (e, le-ltb (get_or keys b 0) (get_or keys a 0) (omega (arith, h))))

  pub first_larger : get_or keys b 0 < get_or keys a 0 → a ≡ better (larger keys) a b
  unfolding better larger
  first_larger h = either_way (ltb a b)
      (λ e. rw (e, le-ltb (get_or keys a 0) (get_or keys b 0) (omega (arith, h))))
      (λ e. rw (e, lt-ltb (get_or keys b 0) (get_or keys a 0) h))

  pub equal_earlier : get_or keys b 0 ≤ get_or keys a 0 → a < b → a ≡ better (larger keys) a b
  unfolding better larger
  equal_earlier h l = rw (lt-ltb a b l, le-ltb (get_or keys a 0) (get_or keys b 0) h)

  pub equal_later : get_or keys a 0 ≤ get_or keys b 0 → b ≤ a → b ≡ better (larger keys) a b
  unfolding better larger
  equal_later h l = rw (le-ltb a b l, le-ltb (get_or keys b 0) (get_or keys a 0) h)

-- At each inner place stands the one of its two with the larger key, of equal keys the earlier.
abbrev pub Played : (keys tree : List ℕ) → Type 0
Played keys tree = Winners (larger keys) (length keys) tree

-- The way up from a place whose key has changed is due.
abbrev pub Replays : (keys : List ℕ) (place : ℕ) (tree : List ℕ) → Type 0
Replays keys place tree = (place < length keys) × Replaying (larger keys) (length keys) ((length keys + place) / 2) tree

pub key_changed : (keys : List ℕ) (place v : ℕ) {tree : List ℕ} → Played keys tree → place < length keys
    → Replays (set keys place v) place tree
key_changed keys place v played within =
    rw (length-set keys place v) (within, replaying_start played place (larger_agree keys place v))

-- The place that a scan picks has no key above its own.
largest_so_far : (keys : List ℕ) (k i : ℕ) → i ≤ k → get_or keys i 0 ≤ get_or keys (first_place (larger keys) k) 0
unfolding larger
largest_so_far keys k = first_place_holds (larger keys) (λ i j. get_or keys i 0 ≤ get_or keys j 0) k (λ i h. omega arith)
    (λ i j ij h e. ltb-false (get_or keys i 0) (get_or keys j 0) e)
    (λ l i j lj ij h e so_far. omega (arith, so_far, ltb-true (get_or keys i 0) (get_or keys j 0) e))

module _ (keys : List ℕ) {tree : List ℕ} (played : Played keys tree) (some : 0 < length keys) where
  pub root_lt : get_or tree 1 0 < length keys
  root_lt = winner_lt played 1 (omega arith) (omega (arith, some))

  pub root_first : get_or tree 1 0 ≡ first_place (larger keys) (length keys - 1)
  root_first = root_is_first played (larger_passes keys (length keys)) some

  -- No key is above the root's.
  pub root_largest : (i : ℕ) → i < length keys → get_or keys i 0 ≤ get_or keys (get_or tree 1 0) 0
  root_largest i h = rw root_first (largest_so_far keys (length keys - 1) i (omega (arith, h)))
