-- The flag at hand: a row of the table, and what its change does to it and to its hash.
-- Assumes nothing.
use mathlib.Core.Path.{◌≡◌, sym, ap, subst, ◌∙◌}
use mathlib.Core.List.{List}
use Prim.Native.Nat.{ℕ, ◌+◌, ◌-◌, ◌*◌, ◌%◌, ◌≤◌, ◌<◌}
use native.Mathlib.Omega.{arith}
use lib.ListN.{length, get_or, set, length-set}
use lib.Seq.{set-set, set-get_or}
use Rattle.std.specs.Prelude.{Result}
use Rattle.listing.specs.declared.Slices.{Slices}
use Rattle.listing.specs.Listing.{width, Listing, held, limits, rank}
use Rattle.valid.specs.Tests.{closed}
use Rattle.valid.proofs.InClosed.{shaped}
use Rattle.flag_change.specs.declared.chain.Replaced.{Replaced}
use Rattle.flag_change.specs.Change.{replaced_at, change_at}
use Rattle.flag_change.proofs.Replaced.{taken_is}
use Rattle.search_theory.specs.Search.{meet}
use Rattle.search_index.specs.Rows.{row_of, same_list}
use Rattle.search_index.proofs.Rows.{row_end}
use Rattle.search_index.specs.Hash.{hashes, weight, sum_from, hash_of}
use Rattle.search_index.proofs.Hash.{weights_small, old_inside, hash_changed}
use Rattle.search_store.specs.declared.Found.{Found}
use Rattle.search_store.specs.declared.Full.{Full}
use Rattle.search_store.specs.declared.Store.{Store}
use Rattle.search_store.specs.Held.{state_in, Moved}
use Rattle.search_store.proofs.Meets.{moved_to}
use Rattle.search_walk.specs.declared.Ranks.{Ranks}
use Rattle.search_walk.specs.Ready.{AtHand, Ready, Walks}

-- row k of a table whose rows are walked, got into a slice of m numbers
module _ {L : Listing} {ranks : Ranks} {t : Store} {mask n : ℕ} (W : Walks L ranks mask t n) {k : ℕ} (i : k < n)
    {at m : ℕ} (z : at ≡ k) (e : m ≡ length L.counts) where
  pub row_there : at * m + m ≤ length t.table.now
  row_there = rw (z, e) (omega (arith, row_end k n (length L.counts) i, W.rows.indexed.fits))

  pub row_got : {flag : List ℕ} → flag ≡ row_of m t.table.now at → flag ≡ row_of (length L.counts) t.table.now k
  row_got d = rw (z, e) at d

  -- is the flag at hand, as long as it stays
  pub row_at_hand : {flag now : List ℕ} {sum : ℕ} → flag ≡ row_of m t.table.now at
      → now ≡ row_of (length L.counts) t.table.now k
      → (sum ≡ sum_from 0 flag) × (sum ≤ length flag * (width * hashes)) → AtHand L now sum
  row_at_hand d g s =
      let same = row_got d ∙ sym g in
      record { is_flag = rw g (W.flags k i); sum_is = rw same at s.0; small = rw same at s.1 }

module _ (s : Slices) (e : (closed limits (held s)).no ≡ 0) where
  abbrev L : Listing
  L = held s

  pub few : length s.counts.now ≤ limits.ranks
  few = (shaped s e).few_ranks

  module _ (flag : List ℕ) (sum : ℕ) (H : AtHand L flag sum) where
    pub sum_small : sum ≤ limits.ranks * (width * hashes)
    sum_small = omega (arith, H.small, H.is_flag.one_each, few)

    -- the change at rank r, which is the number at, puts one number in and takes another out
    module _ (r : ℕ) (k : (0 < r) × (r < rank L)) (at : ℕ) (z : at ≡ r) (p : Replaced) (d : p ≡ replaced_at L at flag)
      where
        hand_taken : p.taken ≡ get_or flag at 0
        hand_taken = ap (λ (x : Replaced). x.taken) d ∙ taken_is L flag at

        -- with what was taken out put back, the flag is as it was
        pub hand_back : set (set flag at p.put) at p.taken ≡ flag
        hand_back = rw hand_taken (set-set flag at p.put (get_or flag at 0) ∙ set-get_or flag at 0)

        -- the flag with what is put in is met
        pub hand_met : (t u : Store) (f : Found) (q : Result Found Full) (byte : ℕ)
            → Moved (length (set flag at p.put)) t f u q
            (meet same_list t.room byte (state_in (length (set flag at p.put)) t f) (set flag at p.put))
            → Moved (length s.counts.now) t f u q
            (meet same_list t.room byte (state_in (length s.counts.now) t f) (change_at L r flag))
        unfolding change_at
        hand_met t u f q byte M =
            let long : length (set flag at p.put) ≡ length s.counts.now =
            length-set flag at p.put ∙ H.is_flag.one_each in
            let is : set flag at p.put ≡ set flag r (replaced_at L r flag).put =
            ap (λ (x : Replaced). set flag at x.put) d ∙ ap (λ n. set flag n (replaced_at L n flag).put) z in
            moved_to (subst (λ w. Moved w t f u q
            (meet same_list t.room byte (state_in w t f) (set flag at p.put))) long M)
            (ap (meet same_list t.room byte (state_in (length s.counts.now) t f)) is)

        module _ (ranks : Ranks) (R : Ready L ranks) where
          abbrev v : ℕ
          v = get_or ranks.weights at 0

          weighs : v ≡ weight at
          weighs = R.weighs.each at (omega (arith, k.1, few))

          pub weight_few : v < hashes
          weight_few = weights_small ranks.weights R.weighs at (omega (arith, k.1, few))

          inside : at < length flag
          inside = omega (arith, k.1, H.is_flag.one_each)

          pub hand_old : p.taken * v ≤ sum + p.put * v
          hand_old = rw (weighs, H.sum_is, hand_taken) (old_inside flag at p.put inside)

          pub hand_hash : (h : ℕ) → h ≡ (sum + p.put * v - p.taken * v) % hashes → h ≡ hash_of (set flag at p.put)
          hand_hash h y = y ∙ rw (weighs, H.sum_is, hand_taken) (hash_changed flag at p.put inside)

pub ruleset hand = (few, sum_small, weight_few, hand_old, hand_hash, hand_back, hand_met)
