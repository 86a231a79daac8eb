-- The lowest element, the pairs and the highest one follow one another, each where the one before
-- ended.
use mathlib.Core.Path.{refl}
use Prim.Native.Nat.{◌+◌}
use native.Mathlib.Omega.{arith}
use Rattle.listing_sups.proofs.Laying.{elements_none, put_then}
use Rattle.product_places.proofs.Numbers.{bit_is}
use Rattle.product_element.proofs.Fits.{first_few, writable_room}
use Rattle.product_writing.proofs.Extremes.{sizes, min_put, max_asked, max_put}
use Rattle.product_writing.proofs.pairs.put_elements.Goals as goal

pub put_min-at-requires : goal.put_min-at-requires
put_min-at-requires c =
    let p = c.requires.plan.ranks_p in
    let q = c.requires.plan.ranks_q in
    let f = first_few c.requires 0 1 (omega arith) (omega arith) in
    let n = sizes _ _ _ _ _ _ c.requires.plan in
    omega (arith, c.requires.plan.room_for_ends, f, c.pairs_in-lowest.ensures)

pub put_ranks-to-requires-clause-at_value : goal.put_ranks-to-requires-clause-at_value
put_ranks-to-requires-clause-at_value c =
    let w = c.put_min-at.ensures in
    let low = min_put _ _ _ _ _ _ c.requires.plan _ _ _ c.args.inc.now _ refl c.pairs_in-lowest.ensures w.value
    w.ends_after in
    low.place

pub put_max-requires-clause-n_in_bounds : goal.put_max-requires-clause-n_in_bounds
put_max-requires-clause-n_in_bounds c =
    let e = c.from.result + c.pairs_to.result in
    let b = c.put_ranks-to.ensures in
    let s = c.pairs_in-highest.ensures in
    let r = max_asked _ _ _ _ _ _ c.requires.plan _ _ e b.place s (omega (arith, bit_is)) in
    omega (arith, r)

pub returns-clause-elements_laid : goal.returns-clause-elements_laid
returns-clause-elements_laid c =
    let w = c.put_min-at.ensures in
    let low = min_put _ _ _ _ _ _ c.requires.plan _ _ _ _ _ refl c.pairs_in-lowest.ensures w.value w.ends_after in
    let b = put_then _ _ _ _ _ _ _ _ _ _ _ _ low c.put_ranks-to.ensures in
    let planned = (writable_room c.requires _ _ b.ends_length b.inc_length).plan in
    let h = c.put_max.ensures in
    let high = max_put _ _ _ _ _ _ planned _ _ _ b.place c.pairs_in-highest.ensures (omega (arith, bit_is)) _ _ _ _ _
    refl h.value h.laid h.ends_after in
    (put_then _ _ _ _ _ _ _ _ _ _ _ _ b high).laid _ _ (elements_none _ _ _)
