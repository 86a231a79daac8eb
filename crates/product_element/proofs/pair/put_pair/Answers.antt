-- The plan says what the pair has under it and how many lie over it, and put_element writes that.
use Prim.Native.Nat.{◌+◌, ◌*◌, ◌≤◌, ◌<◌}
use native.Mathlib.Omega.{arith}
use lib.ListN.{length}
use Rattle.listing.specs.Listing.{width, limits}
use Rattle.product_places.proofs.Numbers.{bit_le}
use Rattle.product_element.proofs.Fits.{PairIn, right_there, up_p, up_q, cap_few, index, index_few}
use Rattle.product_element.proofs.Fits.{left_shift_few, right_shift_few, InHand, pair_asked, pair_put}
use Rattle.product_element.proofs.pair.put_pair.Goals as goal
use Rattle.product_element.proofs.pair.put_pair.Goals.{Start, After-get_element_index-e}

-- the pair that is asked for
asked : (c : Start) → let a = c.args in
    PairIn a.factors a.ends.now a.inc.now a.block a.pair.a a.pair.b
asked c =
    let l = c.requires.a_bound in
    record { ready = c.requires.writable; block = c.requires.block_of; left = l.0; right = l.1 }

-- the numbers that it is made of are small
small : (c : Start) → let a = c.args.pair.a in
    let b = c.args.pair.b in
    let B = c.args.block in
    (2 * (B.base + B.qbefore + b) + 0 < length c.args.factors.q.slices.ends.now)
    × (B.base ≤ 1)
    × (B.pbefore + a ≤ limits.elements)
    × (B.qbefore + b ≤ limits.elements)
    × (B.cap ≤ 1)
    × (B.from + a * B.qcount + b < limits.elements)
    × (B.left + b ≤ width)
    × (a * B.qbelow ≤ width * width)
    × (B.right ≤ width)
small c =
    let x = asked c in
    let r = right_shift_few x in (
      right_there x,
      omega (arith, c.requires.block_of.base, bit_le c.args.factors.poles.min),
      up_p x,
      up_q x,
      cap_few x,
      omega (arith, index x, index_few x),
      left_shift_few x,
      r.0,
      r.1,
    )

-- what is in hand when it is written
hand : (c : After-get_element_index-e) → let a = c.args in
    InHand a.factors a.ends.now a.inc.now a.block a.pair.a a.pair.b a.left.now c.subs_in_use-right.result.now
    c.sups_over-sups.result c.get_element_index-e.result a.at
hand c =
    let l = c.requires.a_bound in
    record {
      pair = record { ready = c.requires.writable; block = c.requires.block_of; left = l.0; right = l.1 };
      left_is = c.requires.left_value;
      right_is = c.subs_in_use-right.ensures;
      sups_is = c.sups_over-sups.ensures;
      k_is = c.get_element_index-e.ensures;
      at_is = c.requires.at_value;
    }

pub overflow_add-block : goal.overflow_add-block
overflow_add-block c = omega (arith, small (goal.at.overflow_add-block c).Start)

pub overflow_add-block-2 : goal.overflow_add-block-2
overflow_add-block-2 c = omega (arith, small (goal.at.overflow_add-block-2 c).Start)

pub subs_in_use-right-requires-clause-e_in_bounds : goal.subs_in_use-right-requires-clause-e_in_bounds
subs_in_use-right-requires-clause-e_in_bounds c =
    omega (arith, small (goal.at.subs_in_use-right-requires-clause-e_in_bounds c).Start)

pub sups_over-sups-requires : goal.sups_over-sups-requires
sups_over-sups-requires c = omega (arith, small (goal.at.sups_over-sups-requires c).Start)

pub get_element_index-e-requires : goal.get_element_index-e-requires
get_element_index-e-requires c = omega (arith, small (goal.at.get_element_index-e-requires c).Start)

pub overflow_add-shift : goal.overflow_add-shift
overflow_add-shift c = omega (arith, small (goal.at.overflow_add-shift c).Start)

pub overflow_mul-shift : goal.overflow_mul-shift
overflow_mul-shift c = omega (arith, small (goal.at.overflow_mul-shift c).Start)

pub overflow_add-shift-2 : goal.overflow_add-shift-2
overflow_add-shift-2 c = omega (arith, small (goal.at.overflow_add-shift-2 c).Start)

pub put_element-requires : goal.put_element-requires
put_element-requires c =
    let r = pair_asked (hand (goal.at.put_element-requires c).After-get_element_index-e) in
    record {
      sups_bound = r.0;
      sups_in_bounds = r.1.0;
      e_in_bounds = r.1.1.0;
      by_index = r.1.1.1;
    }

pub returns : goal.returns
returns c =
    let w = c.put_element.ensures in
    pair_put (hand (goal.at.returns c).After-get_element_index-e) _ _ _ w.value w.laid_list w.ends_after
