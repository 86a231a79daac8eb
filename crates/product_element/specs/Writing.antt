-- What the code that writes a product has in hand: its two factors, and slices that are being written.
--
-- lists_in    the lists of the product of two factors
-- number_in   the number, among all elements, of the pair of the elements a and b of a block's ranks
-- begins_in   the number of the first pair of rank R whose first member is of rank i or higher, among all elements
-- size_in     how many elements the product has
-- BlockIn     the numbers of a block of pairs of the factors
-- Writable    there is a plan for the factors, and slices as long as it asks for
use Rattle.std.specs.Prelude.{List, ℕ, length}
use Rattle.listing.specs.Listing.{held}
use Rattle.product_places.specs.declared.block.Block.{Block}
use Rattle.product_places.specs.Places.{first_at}
use Rattle.product_places.specs.Blocks.{BlockOf, in_block}
use Rattle.product_element.specs.declared.Factors.{Factors}
use Rattle.product_element.specs.Pairs.{product_lists, size_of, Plan}

module _ (f : Factors) where
  abbrev pub lists_in : ℕ → List ℕ
  lists_in = product_lists f.poles (held f.p.slices) (held f.q.slices)

  abbrev pub number_in : Block → ℕ → ℕ → ℕ
  number_in B a b = in_block f.poles f.p.slices.counts.now f.q.slices.counts.now B a b

  abbrev pub begins_in : ℕ → ℕ → ℕ
  begins_in R i = first_at f.poles.min f.p.slices.counts.now f.q.slices.counts.now R i

  abbrev pub size_in : ℕ
  size_in = size_of f.poles.min f.poles.max f.p.slices.counts.now f.q.slices.counts.now

  abbrev pub BlockIn : Block → Type 0
  BlockIn B = BlockOf f.poles f.p.slices.counts.now f.q.slices.counts.now B.i B.j B

pub record Writable (f : Factors) (ends inc : List ℕ) : Type 0 where
  pub plan : Plan f.poles.min f.poles.max (held f.p.slices) (held f.q.slices) (length ends) (length inc)
