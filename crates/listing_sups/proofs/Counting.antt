-- The sups of elements counted rank by rank: what holds on the way, and in the end.
-- Assumes nothing.
use mathlib.Core.Path.{◌≡◌, sym, ◌∙◌}
use mathlib.Core.List.{List}
use Prim.Native.Nat.{ℕ, suc, ◌+◌, ◌*◌, ◌≤◌, ◌<◌}
use native.Mathlib.Decide.{dec_lt}
use native.Mathlib.Numerals.{add-one}
use native.Mathlib.Omega.{arith}
use lib.ListN.{length, get_or, get_or-eq_default}
use Rattle.order.specs.Lists.{occurs}
use Rattle.order.specs.Sums.{sum}
use Rattle.order.proofs.Sums.{sum_none}
use Rattle.listing.specs.Listing.{Listing, count, before, start, subs_at}
use Rattle.listing.specs.Layers.{derived}
use Rattle.listing.proofs.Listing.{before_next, before_le, some_rank}
use Rattle.listing.proofs.Layers.{derived_length}
use Rattle.listing_sups.specs.Sups.{layers_from, UpCounts, Raised}

-- where the elements of the next rank begin, with b elements before them all
pub here_is : (b from n k : ℕ) → from + n ≡ k → b + from + n ≡ b + k
here_is b from n k e = omega arith

-- how many sups are derived for an element
abbrev up_count : ℕ → Listing → ℕ → ℕ → ℕ
up_count b L i x = length (derived (layers_from b L) i x)

-- the sups of the ranks below r are counted, nothing is counted past them, and no count is over what has been read
pub record CountedTo (b : ℕ) (L : Listing) (r : ℕ) (up : List ℕ) : Type 0 where
  pub done : (i x : ℕ) → i < r → x < count L i → get_or up (before L.counts i + x) 0 ≡ up_count b L i x
  pub rest : (k : ℕ) → before L.counts r ≤ k → get_or up k 0 ≡ 0
  pub few : (k : ℕ) → get_or up k 0 ≤ start L.ends (2 * (b + before L.counts (r + 1)))

pub few_at : {b : ℕ} {L : Listing} {r here : ℕ} {up : List ℕ} → CountedTo b L r up
    → here ≡ b + before L.counts (r + 1) → (k : ℕ) → get_or up k 0 ≤ start L.ends (2 * here)
few_at v e = rw e v.few

pub counted_none : (b : ℕ) (L : Listing) (up : List ℕ) → ((k : ℕ) → get_or up k 0 ≡ 0) → CountedTo b L 0 up
counted_none b L up z = record {
  done = λ i x h l. absurd (omega arith);
  rest = λ k h. z k;
  few = λ k. omega (arith, z k);
}

-- how often element x of rank r is listed among the elements of rank r + 1, which begin at `here`
abbrev read : Listing → ℕ → ℕ → ℕ → ℕ
read L r here x = sum (λ a. occurs x (subs_at L.ends L.inc here a)) (count L (r + 1))

read_all : (b : ℕ) (L : Listing) (r x here : ℕ) → here ≡ b + before L.counts (r + 1)
    → read L r here x ≡ up_count b L r x
read_all b L r x here e = rw (e, add-one r) (sym (derived_length (layers_from b L) r x))

-- one rank more
module _ (b : ℕ) (L : Listing) (r here : ℕ) (up up' : List ℕ) (h : here ≡ b + before L.counts (r + 1))
    (v : CountedTo b L r up) (w : Raised (before L.counts r) (count L r) (read L r here) up up')
    (f : (k : ℕ) → get_or up' k 0 ≤ start L.ends (2 * (here + count L (r + 1)))) where
  abbrev c : List ℕ
  c = L.counts

  next_done : (i x : ℕ) → i < r + 1 → x < count L i → get_or up' (before c i + x) 0 ≡ up_count b L i x
  next_done i x k l = go (dec_lt i r)
    where
      go : Dec (i < r) → get_or up' (before c i + x) 0 ≡ up_count b L i x
      go (yes a) =
          w.earlier (before c i + x) (omega (arith, before_next c i, before_le c (i + 1) r (omega arith)))
          ∙ v.done i x a l
      go (no a) =
          let e : i ≡ r = omega arith in
          let l' : x < get_or c r 0 = rw e at l in
          rw e (w.at x l' ∙ omega (arith, v.rest (before c r + x) (omega arith), read_all b L r x here h))

  next_counted : CountedTo b L (r + 1) up'
  next_counted = record {
    done = next_done;
    rest = λ k l. w.later k (omega (arith, before_next c r)) ∙ v.rest k (omega (arith, before_next c r));
    few = λ k.
        let e : here + get_or c (r + 1) 0 ≡ b + before c (r + 1 + 1) = omega (arith, before_next c (r + 1)) in
        rw (← e) (f k);
  }

-- the same, by the numbers that the code has in hand
pub counted_next : (b : ℕ) (L : Listing) (r from n m here : ℕ) (up up' : List ℕ) → from ≡ before L.counts r
    → n ≡ count L r → m ≡ count L (r + 1) → here ≡ b + before L.counts (r + 1) → CountedTo b L r up
    → Raised from n (λ y. sum (λ a. occurs y (subs_at L.ends L.inc here a)) m) up up'
    → ((k : ℕ) → get_or up' k 0 ≤ start L.ends (2 * (here + m))) → CountedTo b L (r + 1) up'
counted_next b L r from n m here up up' ef en em eh v w f =
    next_counted b L r here up up' eh v (rw (ef, en, em) at w) (rw em at f)

-- the highest rank has nothing over it
none_over : (b : ℕ) (L : Listing) (i x : ℕ) → length L.counts ≤ i + 1 → up_count b L i x ≡ 0
none_over b L i x h =
    derived_length (layers_from b L) i x
    ∙ rw (get_or-eq_default L.counts 0 {n = suc i} (omega arith)) (sum_none _)

pub counted_all : (b : ℕ) (L : Listing) (r : ℕ) (up : List ℕ) → length L.counts ≤ r + 1 → CountedTo b L r up
    → UpCounts b L up
counted_all b L r up h v i x l = go (dec_lt i r)
  where
    go : Dec (i < r) → get_or up (before L.counts i + x) 0 ≡ up_count b L i x
    go (yes a) = v.done i x a l
    go (no a) =
        v.rest (before L.counts i + x) (omega (arith, before_le L.counts r i (omega arith)))
        ∙ sym (none_over b L i x (omega (arith, some_rank L.counts i x l)))
