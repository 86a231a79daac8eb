-- How long the lists of layers are together.
--
-- rank_subs      the subs of all elements of a rank
-- all_subs       the subs of all elements
-- paired_subs    the subs of all pairs of a rank, counted by the members: those of the first members for each second
--                member, and those of the second for each first
-- product_subs   the subs of all elements of a product of the trimmed factors A and B: those of all pairs, one for each
--                lowest pair where a minimal element is added, and one for each highest pair where a maximal one is
use Rattle.std.specs.Prelude.{Bool, ℕ, suc, ◌+◌, ◌-◌, ◌*◌, length}
use Rattle.order.specs.Sums.{sum}
use Rattle.listing.specs.Layers.{Layers}
use Rattle.product_pairs.specs.Trimmed.{bit}

unfoldable pub rank_subs : Layers → ℕ → ℕ
rank_subs M r = sum (λ b. length (M.under r b)) (M.size r)

unfoldable pub all_subs : Layers → ℕ
all_subs M = sum (rank_subs M) (suc M.top)

unfoldable pub paired_subs : Layers → Layers → ℕ → ℕ
paired_subs A B R = sum (λ i. rank_subs A i * B.size (R - i) + A.size i * rank_subs B (R - i)) (suc R)

unfoldable pub product_subs : Bool → Bool → Layers → Layers → ℕ
product_subs min max A B =
    sum (paired_subs A B) (suc (A.top + B.top)) + bit min * (A.size 0 * B.size 0)
    + bit max * (A.size A.top * B.size B.top)
