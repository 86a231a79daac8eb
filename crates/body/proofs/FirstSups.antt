-- The flag of first sups, written rank by rank.
-- Assumes nothing.
use mathlib.Core.Path.{◌≡◌, sym, ap, ◌∙◌}
use mathlib.Core.List.{List}
use Prim.Native.Nat.{ℕ, ◌+◌, ◌-◌, ◌*◌, ◌≤◌, ◌<◌}
use native.Mathlib.Omega.{arith}
use lib.ListN.{length, get_or, take, set, replicate}
use lib.Seq.{get_or-take, length-take-le, ext_get_or}
use Rattle.order.proofs.Positions.{set_next}
use Rattle.listing.specs.declared.Slices.{Slices}
use Rattle.listing.specs.Listing.{Listing, held, limits, count, before, entries, sups}
use Rattle.listing.proofs.Listing.{before_zero, before_on}
use Rattle.listing.proofs.InCell.{ends_are, side_there}
use Rattle.listing.proofs.Places.{side_at, few_before}
use Rattle.listing.proofs.Written.{tabulated_length, tabulated_at}
use Rattle.valid.specs.Closed.{Closed}
use Rattle.valid.specs.Tests.{closed}
use Rattle.valid.proofs.InClosed.{is_closed, shaped}
use Rattle.body_theory.specs.First.{sup_at, sups_flag}
use Rattle.body_theory.proofs.First.{sup_zero, sup_next, sup_exists, sup_there}

module _ (L : Listing) where
  -- the ranks below r are written
  abbrev pub WrittenTo : ℕ → List ℕ → Type 0
  WrittenTo r a = (k : ℕ) → k < r → get_or a k 0 ≡ sup_at L k

  -- the first sup of the element before is the next
  pub first_next : (r x : ℕ) → 0 < r → x ≡ sup_at L (r - 1) → get_or (sups L (r - 1) x) 0 0 ≡ sup_at L r
  first_next r x h e =
      let z : r - 1 + 1 ≡ r = omega arith in
      rw e (sym (rw z at (sup_next L (r - 1))))

  -- the element written at the rank below r, of which r is not the lowest and there are ranks from it on
  pub record Lower (r x : ℕ) : Type 0 where
    pub is : x ≡ sup_at L (r - 1)
    pub exists : x < count L (r - 1)
    pub has_sups : 0 < length (sups L (r - 1) x)

  pub lower_at : Closed limits L → (r : ℕ) (a : List ℕ) → 0 < r → r < length L.counts → WrittenTo r a
      → Lower r (get_or a (r - 1) 0)
  lower_at C r a h k w =
      let e : get_or a (r - 1) 0 ≡ sup_at L (r - 1) = w (r - 1) (omega arith) in record {
        is = e;
        exists = rw e (sup_exists L C.bounded C.incident (r - 1) (omega arith));
        has_sups = rw e (sup_there L C.bounded C.incident (r - 1) (omega arith));
      }

  -- all ranks
  pub written_all : (a : List ℕ) → length L.counts ≤ length a → WrittenTo (length L.counts) a
      → take (length L.counts) a ≡ sups_flag L
  written_all a h w =
      let n = length L.counts in
      let t = length-take-le n a h in
      ext_get_or 0 (take n a) (sups_flag L) (t ∙ sym (tabulated_length (sup_at L) n))
      (λ k l.
      let i : k < n = omega arith in
      get_or-take n a k 0 i ∙ w k i ∙ sym (tabulated_at (sup_at L) n k i))

-- ---- the same as the code meets it

module _ (s : Slices) (C : (closed limits (held s)).no ≡ 0) where
  pub begun : WrittenTo (held s) 1 (replicate limits.ranks 0)
  begun k h = let z : k ≡ 0 = omega arith in rw z (sym (sup_zero (held s)))

  pub some : 0 < length s.counts.now
  some = (shaped s C).some_rank

  pub few : length s.counts.now ≤ limits.ranks
  few = (shaped s C).few_ranks

  -- rank r, of which the rank below begins at place here
  module _ (r here : ℕ) (flag : List ℕ) (e : here ≡ before s.counts.now (r - 1)) (h : 0 < r)
      (k : r < length s.counts.now) (w : WrittenTo (held s) r flag) where
    lower : Lower (held s) r (get_or flag (r - 1) 0)
    lower = lower_at (held s) (is_closed s C) r flag h k w

    pub sups_there : 2 * (here + get_or flag (r - 1) 0) + 1 < length s.ends.now
    sups_there = side_there s (shaped s C) (r - 1) here _ 1 e lower.exists (omega arith)

    module _ (list : List ℕ) (l : list ≡ entries s.ends.now s.inc.now (2 * (here + get_or flag (r - 1) 0) + 1)) where
      are_sups : list ≡ sups (held s) (r - 1) (get_or flag (r - 1) 0)
      are_sups = l ∙ side_at (held s) here (r - 1) _ 1 e

      pub first_there : 0 < length list
      first_there = rw are_sups lower.has_sups

      pub next_written : length flag ≡ limits.ranks → WrittenTo (held s) (r + 1) (set flag r (get_or list 0 0))
      next_written long =
          let first = ap (λ i. get_or i 0 0) are_sups ∙ first_next (held s) r _ h lower.is in
          set_next (sup_at (held s)) flag r _ (omega (arith, few)) first w

    pub next_begins : (n : ℕ) → n ≡ get_or s.counts.now (r - 1) 0 → here + n ≡ before s.counts.now (r + 1 - 1)
    next_begins n d =
        let z : r + 1 - 1 ≡ r = omega arith in
        rw z (before_on s.counts.now r here n h e d)

    pub next_few : (n : ℕ) → n ≡ get_or s.counts.now (r - 1) 0 → here + n ≤ limits.elements
    next_few n d = rw (before_on s.counts.now r here n h e d) (few_before (held s) (shaped s C) r)

  pub written : (r : ℕ) (flag : List ℕ) → r ≡ length s.counts.now → length flag ≡ limits.ranks
      → WrittenTo (held s) r flag → take (length s.counts.now) flag ≡ sups_flag (held s)
  written r flag z long w = written_all (held s) flag (omega (arith, few)) (rw z at w)

pub ruleset firsts = (
  begun,
  some,
  few,
  before_zero,
  ends_are,
  shaped,
  sups_there,
  first_there,
  next_written,
  next_begins,
  next_few,
  written,
)
