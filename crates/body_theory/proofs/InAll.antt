-- A closed listing has exactly as many flags as lead up to its maximal element.
-- Assumes nothing.
use mathlib.Core.Path.{◌≡◌}
use mathlib.Core.Logic.{◌↔◌}
use mathlib.Core.List.{List, Memᴰ}
use Prim.Native.Nat.{ℕ, suc, ◌≤◌, ◌<◌}
use native.Mathlib.Omega.{arith}
use lib.ListN.{length, take}
use lib.Seq.{length-take-le}
use Rattle.listing.specs.Listing.{Listing, Limits, rank, count}
use Rattle.valid.specs.Closed.{Closed}
use Rattle.flag_change.specs.Flags.{IsFlag}
use Rattle.search_theory.specs.Search.{Once}
use Rattle.search_theory.proofs.Once.{take_mem, once_take, once_fits}
use Rattle.body_theory.specs.InAll.{flags_in_all, ManyFlags}
use Rattle.body_theory.proofs.Chains.{ChainTo, chains, chains_length, chains_exact, chains_once}

module _ {m : Limits} {L : Listing} (C : Closed m L) where
  -- the maximal element exists
  top_exists : 0 < count L (rank L)
  top_exists = omega (arith, C.bounded.one_maximal)

  -- a flag is a chain to the maximal element
  flag_chain : (f : List ℕ) → IsFlag L f ↔ ChainTo L (rank L) 0 f
  flag_chain f = (
    λ F.
        let n : length f ≡ suc (rank L) = omega (arith, F.one_each, C.shaped.some_rank) in
        record {
          long = n;
          last = omega (arith, F.exists (rank L) (omega arith), C.bounded.one_maximal);
          exists = λ k l. F.exists k (omega arith);
          under = λ k l. F.under k (omega arith);
        },
    λ c. record {
      one_each = omega (arith, c.long, C.shaped.some_rank);
      exists = λ k l. c.exists k (omega (arith, c.long));
      under = λ k l. c.under k (omega (arith, c.long));
    },
  )

  -- all flags, one after another
  abbrev pub all_flags : List (List ℕ)
  all_flags = chains L (rank L) 0

  pub all_flags_lem : (f : List ℕ) → Memᴰ f all_flags ↔ IsFlag L f
  all_flags_lem f =
      let e = chains_exact L C.incident (rank L) 0 top_exists f in
      (λ h. (flag_chain f).1 (e.0 h), λ F. e.1 ((flag_chain f).0 F))

  pub all_once : Once all_flags
  all_once = chains_once L C.incident C.ascends (rank L) 0 top_exists

  pub all_many : length all_flags ≡ flags_in_all L
  all_many = chains_length L (rank L) 0

  -- There are n different flags exactly if n is not more than the flags in all.
  pub flags_exact : (n : ℕ) → ManyFlags n L ↔ (n ≤ flags_in_all L)
  flags_exact n = (
    λ M.
        let h = once_fits M.flags all_flags M.once (λ f i. (all_flags_lem f).1 (M.each f i)) in
        omega (arith, h, M.many, all_many),
    λ h. record {
      flags = take n all_flags;
      many = length-take-le n all_flags (omega (arith, all_many));
      once = once_take n all_flags all_once;
      each = λ f i. (all_flags_lem f).0 (take_mem n all_flags i);
    },
  )
