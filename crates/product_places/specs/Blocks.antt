-- What the pairs of two ranks have in common.
--
-- BlockOf    the numbers of a block of pairs, for the ranks i and j
-- in_block   the number, among all elements, of the pair of the elements a and b of a block's ranks
use Rattle.std.specs.Prelude.{◌≡◌, cond, ◌&&◌, List, ℕ, pred, ◌+◌, eqb, length, get_or}
use Rattle.listing.specs.Listing.{before}
use Rattle.product_pairs.specs.Trimmed.{bit}
use Rattle.product_places.specs.declared.Poles.{Poles}
use Rattle.product_places.specs.declared.block.Block.{Block}
use Rattle.product_places.specs.Places.{offset_in, first_at, pair_number}

pub record BlockOf (poles : Poles) (p q : List ℕ) (i j : ℕ) (B : Block) : Type 0 where
  pub ranks : (B.i ≡ i) × (B.j ≡ j)
  pub base : B.base ≡ bit poles.min
  pub from : B.from ≡ first_at poles.min p q (i + j) i
  pub low : B.low ≡ (poles.min && eqb (i + j) 0)
  pub cap : B.cap ≡ cond (poles.max && eqb (i + j + 2) (length p + length q)) 1 0
  pub p_before : B.pbefore ≡ before p i
  pub q_before : B.qbefore ≡ before q j
  pub left : B.left ≡ offset_in p q (pred i) j
  pub right : B.right ≡ offset_in p q i (pred j)
  pub q_count : B.qcount ≡ get_or q j 0
  pub q_below : B.qbelow ≡ get_or q (pred j) 0

abbrev pub in_block : Poles → List ℕ → List ℕ → Block → ℕ → ℕ → ℕ
in_block poles p q B a b = pair_number poles.min p q B.i a B.j b
