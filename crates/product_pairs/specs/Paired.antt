-- All pairs of the elements of two layers. In one rank, pairs go by the first member's rank, then its index, then the
-- second's index.
--
-- El           an element: its rank and its index
-- block        how many pairs of rank R have a first member of rank i
-- offset       how many pairs of the same rank come before those of the ranks i and j
-- position     the rank and the index of a pair
-- Sooner       the order of pairs: by the first member's rank, then its index, then the second's index
-- pair_of      the pair of rank R in a block, by the first member's rank and the place in the block
-- pair_at      the pair at a rank and an index
-- left_subs    the positions of the pairs with the first member's subs in their order, the second member fixed
-- right_subs   the positions of the pairs with the second member's subs in their order, the first member fixed
-- pair_subs    both, those of the first member before those of the second
-- paired       the layers of all pairs
use Rattle.std.specs.Prelude.{◌≡◌, ◌⊎◌, List, ◌++◌, map, ℕ, suc, pred, ◌+◌, ◌-◌, ◌*◌, ◌/◌, ◌%◌, ◌<◌}
use Rattle.order.specs.Lists.{Earlier}
use Rattle.order.specs.Sums.{sum, part_at}
use Rattle.listing.specs.Layers.{Layers}

abbrev pub El : Type 0
El = ℕ × ℕ

unfoldable pub block : Layers → Layers → ℕ → ℕ → ℕ
block A B R i = A.size i * B.size (R - i)

unfoldable pub offset : Layers → Layers → ℕ → ℕ → ℕ
offset A B i j = sum (block A B (i + j)) i

unfoldable pub position : Layers → Layers → El × El → El
position A B x =
    (x.0.0 + x.1.0, offset A B x.0.0 x.1.0 + (x.0.1 * B.size x.1.0 + x.1.1))

abbrev pub Sooner : El × El → El × El → Type 0
Sooner x y = Earlier x.0.0 x.0.1 y.0.0 y.0.1 ⊎ ((x.0 ≡ y.0) × (x.1.1 < y.1.1))

unfoldable pub pair_of : Layers → ℕ → ℕ × ℕ → El × El
pair_of B R p = ((p.0, p.1 / B.size (R - p.0)), (R - p.0, p.1 % B.size (R - p.0)))

unfoldable pub pair_at : Layers → Layers → El → El × El
pair_at A B y = pair_of B y.0 (part_at (block A B y.0) (suc y.0) y.1)

unfoldable pub left_subs : Layers → Layers → El × El → List ℕ
left_subs A B x = map (λ a. (position A B ((pred x.0.0, a), x.1)).1) (A.under x.0.0 x.0.1)

unfoldable pub right_subs : Layers → Layers → El × El → List ℕ
right_subs A B x = map (λ b. (position A B (x.0, (pred x.1.0, b))).1) (B.under x.1.0 x.1.1)

abbrev pub pair_subs : Layers → Layers → El × El → List ℕ
pair_subs A B x = left_subs A B x ++ right_subs A B x

abbrev pub paired : Layers → Layers → Layers
paired A B = record {
  top = A.top + B.top;
  size = λ R. sum (block A B R) (suc R);
  under = λ R k. pair_subs A B (pair_at A B (R, k));
}
