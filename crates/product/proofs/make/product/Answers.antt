-- The sizes are those of the product; where they pass, all that the builder asks holds, and it writes the product.
use Rattle.listing.specs.Listing.{held}
use Rattle.product_pairs.specs.Product.{product_of}
use Rattle.product_sizes.specs.Sizing.{Measures}
use Rattle.product_sizes.proofs.Extents.{measured_by}
use Rattle.product.proofs.Made.{sizes_halt, sizes_pass, sizes_done}
use Rattle.product.proofs.Planned.{built_is, build_plan, build_room}
use Rattle.product.proofs.make.product.Goals as goal
use Rattle.product.proofs.make.product.Goals.{After-product_sizes-s}

measures : (c : After-product_sizes-s) → let a = c.args in
    Measures (product_of a.poles.min a.poles.max (held a.p) (held a.q)) c.product_sizes-s.result
measures c =
    measured_by c.args.poles c.requires.usable c.requires.usable_2 c.extent_of.ensures.value c.extent_of-2.ensures.value
    c.product_sizes-s.ensures

pub returns-in_err-n : goal.returns-in_err-n
returns-in_err-n c =
    let m = measures (goal.at.returns-in_err-n c).After-product_sizes-s in
    sizes_halt _ m _ _ _ _ _ c.in_err-n.ensures.test c.from_residual.ensures.1

pub build-requires : goal.build-requires
build-requires c =
    let m = measures (goal.at.build-requires c).After-product_sizes-s in
    let h = sizes_pass _ m _ _ _ c.in_ok-n.ensures.test in
    record {
      plan = build_plan c.requires.usable c.requires.usable_2 c.in_use.ensures c.in_use-2.ensures h;
      qinc_in_bounds = build_room c.requires.usable c.requires.usable_2 c.in_use.ensures c.in_use-2.ensures h;
    }

pub returns : goal.returns
returns c =
    let m = measures (goal.at.returns c).After-product_sizes-s in
    let e = built_is c.requires.usable c.requires.usable_2 c.in_use.ensures c.in_use-2.ensures in
    let w = c.build.ensures in
    sizes_done _ m _ _ _ c.in_ok-n.ensures.test _ _ c.in_ok-n.ensures.lengths
    (rw e at w.counts_after) (rw e at w.ends_after) (rw e at w.inc_after)
