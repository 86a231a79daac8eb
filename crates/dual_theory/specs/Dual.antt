-- The dual of a listing: the same elements upside down.
--
-- dual_el       an element of a cell of rank t, as an element of the dual: of the opposite rank, with the same index
-- Dual          D is the dual of L, said of elements: it has the same rank; at each rank there are as many elements as at
--               the opposite rank of L; and the subs of each are the sups of the one with its index there, its sups the
--               subs
-- dual_size     how many elements each rank of the dual has: as many as the opposite one, and none past the top
-- dual_layers   the layers of the dual: under each element the sups of that one of L
-- dual_over     what lies over each element of the dual: the subs of that one of L
-- dual_of       the dual, written out
use Rattle.std.specs.Prelude.{◌≡◌, List, ℕ, ◌-◌, ◌≤◌, ◌<◌}
use Rattle.std.proofs.Math.Decide.{dec_lt}
use Rattle.order.specs.Sums.{choose}
use Rattle.listing.specs.Listing.{Listing, rank, count, subs, sups}
use Rattle.listing.specs.Layers.{Layers}
use Rattle.listing.specs.Written.{written}

abbrev pub dual_el : ℕ → ℕ × ℕ → ℕ × ℕ
dual_el t x = (t - x.0, x.1)

pub record Dual (L D : Listing) : Type 0 where
  pub ranks : rank D ≡ rank L
  pub sizes : (r : ℕ) → r ≤ rank L → count D r ≡ count L (rank L - r)
  pub under : (r i : ℕ) → r ≤ rank L → i < count L (rank L - r) → subs D r i ≡ sups L (rank L - r) i
  pub above : (r i : ℕ) → r ≤ rank L → i < count L (rank L - r) → sups D r i ≡ subs L (rank L - r) i

unfoldable pub dual_size : Listing → ℕ → ℕ
dual_size L r = choose (dec_lt (rank L) r) 0 (count L (rank L - r))

abbrev pub dual_layers : Listing → Layers
dual_layers L = record { top = rank L; size = dual_size L; under = λ r i. sups L (rank L - r) i }

abbrev pub dual_over : Listing → ℕ → ℕ → List ℕ
dual_over L r i = subs L (rank L - r) i

unfoldable pub dual_of : Listing → Listing
dual_of L = written (dual_layers L) (dual_over L)
