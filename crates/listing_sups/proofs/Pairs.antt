-- A loop over the counts of each rank and of the one above it: where it stands, and what a turn reads.
-- Assumes nothing.
use mathlib.Core.Path.{◌≡◌, ◌∙◌}
use mathlib.Core.List.{List}
use Prim.Native.Nat.{ℕ, ◌+◌, ◌-◌, ◌≤◌, ◌<◌}
use native.Mathlib.Omega.{arith}
use lib.ListN.{length, get_or, take, drop}
use denote.Ref.{Bor}
use Rattle.std.proofs.Common.{rules, Option, Some, None}
use Rattle.std.proofs.lemmas.Iterator.{window_more}
use Rattle.std.specs.Option.{MatchOption}
use Rattle.std.specs.Slice.Iter.{windows_rest, windows_size}
use Rattle.std.specs.declared.slice.Windows.{Windows}
use Rattle.listing.specs.Listing.{before}
use Rattle.listing.proofs.Listing.{before_next, before_all}

-- the rank of the pair that is read next
abbrev pub rank_of : List ℕ → Windows ℕ → ℕ
rank_of counts w = length counts - length (windows_rest w)

-- what is left are the counts from that rank on
pub record PairsLeft (counts : List ℕ) (w : Windows ℕ) : Type 0 where
  pub size : windows_size w ≡ 2
  pub within : length (windows_rest w) ≤ length counts
  pub rest : windows_rest w ≡ drop (rank_of counts w) counts

pub pairs_all : (counts : List ℕ) (w : Windows ℕ) → windows_size w ≡ 2 → windows_rest w ≡ counts
    → PairsLeft counts w × (rank_of counts w ≡ 0)
pairs_all counts w z e =
    let n : rank_of counts w ≡ 0 = rw e (omega arith) in
    (record { size = z; within = rw e (omega arith); rest = rw n (search rules) }, n)

-- what a call of the iterator gives
abbrev Steps : Windows ℕ → Option (Bor (List ℕ)) → Windows ℕ → Type 0
Steps s r t = (windows_size t ≡ windows_size s)
    × MatchOption r ((length (windows_rest s) < windows_size s) × (t ≡ s))
    (λ x. (windows_size s ≤ length (windows_rest s)) × (x.now ≡ take (windows_size s) (windows_rest s))
    × (windows_rest t ≡ drop 1 (windows_rest s)) × (length x.now ≡ windows_size s))

-- a pair read: n elements of the rank, which begin at `from`, and m of the rank above
pub record Pair (counts : List ℕ) (s t : Windows ℕ) (from n m : ℕ) : Type 0 where
  pub left : PairsLeft counts t
  pub next : rank_of counts t ≡ rank_of counts s + 1
  pub n_is : n ≡ get_or counts (rank_of counts s) 0
  pub m_is : m ≡ get_or counts (rank_of counts s + 1) 0
  pub here_is : from + n ≡ before counts (rank_of counts s + 1)
  pub in_all : from + n + m ≤ before counts (length counts)

pub pair_read : (counts : List ℕ) (s t : Windows ℕ) (r : Option (Bor (List ℕ))) (w : Bor (List ℕ)) (from n m : ℕ)
    → PairsLeft counts s → from ≡ before counts (rank_of counts s) → r ≡ Some w → Steps s r t
    → n ≡ get_or w.now 0 0 → m ≡ get_or w.now 1 0 → Pair counts s t from n m
pair_read counts s t r w from n m v ef e step en em =
    let h = window_more counts s t r w e step (omega (arith, v.size)) v.within v.rest in
    let k = rank_of counts s in
    let z : k + 0 ≡ k = omega arith in
    let n_is : n ≡ get_or counts k 0 = rw z at (en ∙ h.3 0 0 (omega (arith, v.size))) in
    let m_is : m ≡ get_or counts (k + 1) 0 = em ∙ h.3 1 0 (omega (arith, v.size)) in
    record {
      left = record { size = step.0 ∙ v.size; within = omega (arith, h.0, v.within); rest = h.1 };
      next = omega (arith, h.0, v.within);
      n_is = n_is;
      m_is = m_is;
      here_is = omega (arith, before_next counts k);
      in_all =
          omega (
            arith,
            before_next counts k,
            before_next counts (k + 1),
            before_all counts (k + 1 + 1),
          );
    }

-- no pair is left
pub pairs_end : (counts : List ℕ) (s t : Windows ℕ) (r : Option (Bor (List ℕ))) → PairsLeft counts s → r ≡ None
    → Steps s r t → length counts ≤ rank_of counts s + 1
pairs_end counts s t r v e step =
    let h = rw e at step in
    omega (arith, v.size, v.within, h.1.0)
