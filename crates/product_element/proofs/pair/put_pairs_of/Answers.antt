-- Each pair stands where the one before ended, and behind the last begin those of the next element.
use mathlib.Core.Path.{◌≡◌}
use Prim.Native.Nat.{ℕ, ◌+◌}
use native.Mathlib.Omega.{arith}
use lib.ListN.{get_or}
use Rattle.listing_sups.proofs.Laying.{put_then}
use Rattle.product_places.proofs.Numbers.{number_next}
use Rattle.product_element.specs.Writing.{number_in}
use Rattle.product_element.proofs.Fits.{left_there, left_few, left_subs}
use Rattle.product_element.proofs.pair.put_pairs_of.Goals as goal

pub overflow_add-block : goal.overflow_add-block
overflow_add-block c = omega (arith, left_few c.requires.writable c.requires.block_of c.requires.a_bound)

pub overflow_add-block-2 : goal.overflow_add-block-2
overflow_add-block-2 c = omega (arith, left_few c.requires.writable c.requires.block_of c.requires.a_bound)

pub subs_in_use-left-requires-clause-e_in_bounds : goal.subs_in_use-left-requires-clause-e_in_bounds
subs_in_use-left-requires-clause-e_in_bounds c =
    left_there c.requires.writable c.requires.block_of c.requires.a_bound

pub put_pair-to-requires-clause-left_value : goal.put_pair-to-requires-clause-left_value
put_pair-to-requires-clause-left_value c =
    left_subs c.requires.writable c.requires.block_of c.requires.a_bound _ c.subs_in_use-left.ensures

pub loop-b-preserved : goal.loop-b-preserved
loop-b-preserved c =
    let number : ℕ → ℕ = number_in c.args.factors c.args.block c.args.a in
    let b = c.loop-b.b in
    put_then _ (number 0) (number b) (number (b + 1)) _ _ _ _ _ _ _ _ c.loop-b.invariant c.put_pair-to.ensures

pub returns : goal.returns
returns c =
    let f = c.args.factors in
    let block = c.args.block in
    let e : c.loop-b.b ≡ get_or f.q.slices.counts.now block.j 0 = omega (arith, c.requires.block_of.q_count) in
    rw (← number_next f.poles.min f.p.slices.counts.now f.q.slices.counts.now block.i c.args.a block.j, ← e)
    c.loop-b.invariant
