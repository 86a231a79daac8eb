-- What put_counts, put_elements and fill leave is the product.
use mathlib.Core.Path.{sym}
use native.Mathlib.Omega.{arith}
use lib.Seq.{length-take-le}
use Rattle.order.proofs.Lists.{zeros}
use Rattle.listing.specs.Listing.{held, limits}
use Rattle.listing_sups.proofs.Unfilled.{fill_asked, filled_all}
use Rattle.product_building.proofs.Built.{Buildable, counts_room, BeforeFill, product_unfilled}
use Rattle.product_building.proofs.build.build.Goals as goal
use Rattle.product_building.proofs.build.build.Goals.{After-put_elements-n}

pub tally-requires-clause-by_index : goal.tally-requires-clause-by_index
tally-requires-clause-by_index c = zeros limits.elements

pub tally-requires-2-clause-by_index : goal.tally-requires-2-clause-by_index
tally-requires-2-clause-by_index c = zeros limits.elements

pub put_counts-ranks-requires-clause-q_in_bounds : goal.put_counts-ranks-requires-clause-q_in_bounds
put_counts-ranks-requires-clause-q_in_bounds c =
    let a = c.args in
    let ready : Buildable a.poles (held a.p) (held a.q) a.counts.now a.ends.now a.inc.now = record {
      plan = c.requires.plan;
      room = c.requires.qinc_in_bounds;
    } in
    counts_room ready

-- what is written before the sups are filled in
before : (c : After-put_elements-n) → let a = c.args in
    BeforeFill a.poles (held a.p) (held a.q) a.counts.now a.ends.now a.inc.now
    c.put_counts-ranks.new.counts c.put_elements-n.new.ends c.put_elements-n.new.inc
    c.put_counts-ranks.result c.put_elements-n.result
before c =
    let a = c.put_counts-ranks.ensures in
    let b = c.put_elements-n.ensures in
    record {
      ready = record { plan = c.requires.plan; room = c.requires.qinc_in_bounds };
      k_is = a.value;
      counts = a.laid_list;
      n_is = b.value;
      elements = b.elements_laid;
    }

pub slice_bounds-fill-end : goal.slice_bounds-fill-end
slice_bounds-fill-end c =
    let w = before (goal.at.slice_bounds-fill-end c).After-put_elements-n in
    omega (arith, w.k_is, w.counts.same_length, counts_room w.ready)

pub slice_bounds-fill-end-2 : goal.slice_bounds-fill-end-2
slice_bounds-fill-end-2 c =
    let w = before (goal.at.slice_bounds-fill-end-2 c).After-put_elements-n in
    sym (length-take-le _ _ (omega (arith, w.k_is, w.counts.same_length, counts_room w.ready)))

pub fill-requires : goal.fill-requires
fill-requires c = fill_asked (product_unfilled (before (goal.at.fill-requires c).After-put_elements-n))

pub returns : goal.returns
returns c =
    let w = before (goal.at.returns c).After-put_elements-n in
    let r = filled_all (product_unfilled w) _ c.fill.ensures in
    record {
      counts_after = r.0;
      ends_after = r.1.0;
      inc_after = r.1.1;
    }
