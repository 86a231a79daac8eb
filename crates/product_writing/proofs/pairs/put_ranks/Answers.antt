-- Each rank stands where the one before ended, and the pairs are few.
use Prim.Native.Nat.{ℕ, ◌+◌}
use native.Mathlib.Omega.{arith}
use Rattle.listing_sups.proofs.Laying.{put_then}
use Rattle.product_places.proofs.Numbers.{pairs_next}
use Rattle.product_element.specs.Writing.{begins_in}
use Rattle.product_element.proofs.Fits.{first_few}
use Rattle.product_writing.proofs.pairs.put_ranks.Goals as goal

pub overflow_add-start : goal.overflow_add-start
overflow_add-start c =
    let k = c.loop-rank.rank in
    omega (arith, first_few c.requires.writable k (k + 1) (omega arith) (omega arith))

pub loop-rank-preserved : goal.loop-rank-preserved
loop-rank-preserved c =
    let number : ℕ → ℕ = λ r. begins_in c.args.factors r 0 in
    let r = c.loop-rank.rank in
    let v = c.loop-rank.invariant in record {
      begins = omega (arith, pairs_next);
      put = put_then _ (number 0) (number r) (number (r + 1)) _ _ _ _ _ _ _ _ v.put c.put_rank-to.ensures;
    }
