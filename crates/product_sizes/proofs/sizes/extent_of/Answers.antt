-- There is a rank in use, its counts are small, and what is counted is what the layers in use have.
use mathlib.Core.Path.{refl, ◌∙◌}
use Prim.Native.Nat.{◌+◌, ◌*◌, ◌≤◌, ◌<◌}
use native.Mathlib.Omega.{arith}
use lib.ListN.{length, get_or}
use Rattle.listing.specs.Listing.{limits, before}
use Rattle.listing.proofs.ShapeExact.{shaped_ends}
use Rattle.product_pairs.specs.Trimmed.{bit}
use Rattle.product_places.proofs.Numbers.{bit_is}
use Rattle.product_sizes.proofs.Extents.{room, extent_is, little}
use Rattle.product_sizes.proofs.Parts.{usable_shaped}
use Rattle.product_sizes.proofs.sizes.extent_of.Goals as goal
use Rattle.product_sizes.proofs.sizes.extent_of.Goals.{After-range-p}

-- how large what is in use may be
asked : (c : After-range-p) → let a = c.args in
    let x = c.range-p.result.now in
    let n = before x (length x) in
    (0 < length x) × (length x ≤ limits.ranks) × (get_or x 0 0 ≤ n) × (bit a.poles.min + n ≤ limits.elements)
    × (2 * (bit a.poles.min + n) ≤ length a.slices.ends.now)
asked c = room _ _ _ c.requires _ c.range-p.ensures

pub elements_before-elements-requires : goal.elements_before-elements-requires
elements_before-elements-requires c = omega (arith, asked (goal.at.elements_before-elements-requires c).After-range-p)

pub bounds-p-0 : goal.bounds-p-0
bounds-p-0 c = omega (arith, asked (goal.at.bounds-p-0 c).After-range-p)

pub overflow_sub-p : goal.overflow_sub-p
overflow_sub-p c = omega (arith, asked (goal.at.overflow_sub-p c).After-range-p)

pub bounds-p-p : goal.bounds-p-p
bounds-p-p c = omega (arith, asked (goal.at.bounds-p-p c).After-range-p)

pub overflow_add-base-2 : goal.overflow_add-base-2
overflow_add-base-2 c =
    omega (
      arith,
      c.from-base.ensures,
      bit_is,
      c.elements_before-elements.ensures,
      asked (goal.at.overflow_add-base-2 c).After-range-p,
    )

pub subs_listed-subs-requires : goal.subs_listed-subs-requires
subs_listed-subs-requires c =
    let S = usable_shaped _ _ _ c.requires in
    let r = asked (goal.at.subs_listed-subs-requires c).After-range-p in
    let n = c.elements_before-elements.ensures in
    let b = c.from-base.ensures ∙ bit_is _ in record {
      ends = shaped_ends _ S;
      from_le_to = (
        omega (arith, c.from-lowest.ensures),
        omega arith,
        omega arith,
        S.few_incidences,
      );
    }

pub returns : goal.returns
returns c =
    let u = c.requires in
    let n = c.elements_before-elements.ensures in
    let l = c.from-lowest.ensures in
    let h = c.from-highest.ensures in
    let k = c.range-p.ensures in
    let b = c.from-base.ensures ∙ bit_is _ in record {
      little = little _ _ _ u _ k _ refl n l h _ b c.subs_listed-subs.ensures.upper_bound;
      value = extent_is _ _ _ u _ k _ refl n l h _ b c.subs_listed-subs.ensures.value;
    }
