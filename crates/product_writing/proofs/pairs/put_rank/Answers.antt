-- Each block stands where the one before ended, and behind the last begins the next rank.
use mathlib.Core.Path.{◌≡◌}
use Prim.Native.Nat.{ℕ, ◌+◌, ◌-◌}
use native.Mathlib.Omega.{arith}
use Rattle.listing_sups.proofs.Laying.{put_then}
use Rattle.product_places.proofs.Numbers.{first_next}
use Rattle.product_element.specs.Writing.{begins_in}
use Rattle.product_element.proofs.Fits.{first_few, block_put}
use Rattle.product_writing.proofs.pairs.put_rank.Goals as goal

pub block_of-block-requires-clause-i_bound : goal.block_of-block-requires-clause-i_bound
block_of-block-requires-clause-i_bound c =
    let whole : c.loop-i.i + (c.args.rank - c.loop-i.i) ≡ c.args.rank = omega arith in
    rw whole
    (omega (
      arith,
      c.requires.start_value,
      first_few c.requires.writable c.args.rank c.loop-i.i (omega arith) c.requires.rank_in_bounds,
    ))

pub loop-i-preserved : goal.loop-i-preserved
loop-i-preserved c =
    let number : ℕ → ℕ = begins_in c.args.factors c.args.rank in
    let i = c.loop-i.i in
    let whole : i + (c.args.rank - i) ≡ c.args.rank = omega arith in
    put_then _ (number 0) (number i) (number (i + 1)) _ _ _ _ _ _ _ _ c.loop-i.invariant
    (block_put c.block_of-block.ensures whole c.put_block-to.ensures)

pub returns : goal.returns
returns c =
    let f = c.args.factors in
    let e : c.loop-i.i ≡ c.args.rank + 1 = omega arith in
    rw (← first_next f.poles.min f.p.slices.counts.now f.q.slices.counts.now c.args.rank, ← e) c.loop-i.invariant
