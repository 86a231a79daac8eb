-- The search with every change: a closed listing can be searched so from each of its flags.
-- Assumes nothing.
use mathlib.Core.List.{List}
use Prim.Native.Nat.{ℕ, ◌<◌}
use native.Mathlib.Omega.{arith}
use Rattle.listing.specs.Listing.{Listing, limits, rank}
use Rattle.valid.specs.Closed.{Closed}
use Rattle.flag_change.specs.Flags.{IsFlag}
use Rattle.search_masks.specs.Masks.{InMask, every_rank}
use Rattle.search_masks.proofs.Every.{every_exact}
use Rattle.search.specs.Exact.{Searchable}

module _ {L : Listing} (C : Closed limits L) where
  few_ranks : rank L < limits.ranks
  few_ranks = omega (arith, C.shaped.some_rank, C.shaped.few_ranks)

  -- it asks for the change at each inner rank
  pub every_asked : {r : ℕ} → (0 < r) × (r < rank L) → InMask (every_rank (rank L)) r
  every_asked {r} i = (every_exact (rank L) r few_ranks).1 i

  pub every_searchable : {first : List ℕ} → IsFlag L first → Searchable limits L first (every_rank (rank L))
  every_searchable F = record { closed = C; is_flag = F; inner = λ r i. (every_exact (rank L) r few_ranks).0 i }
