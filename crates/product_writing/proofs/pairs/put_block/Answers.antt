-- Each element's pairs stand where those of the one before ended, and behind the last begins the next
-- block.
use mathlib.Core.Path.{◌≡◌, refl, sym, ◌∙◌}
use Prim.Native.Nat.{ℕ, ◌+◌}
use native.Mathlib.Omega.{arith}
use lib.ListN.{get_or}
use Rattle.listing_sups.proofs.Laying.{put_none, put_then}
use Rattle.product_places.proofs.Numbers.{number_first, number_last, first_same}
use Rattle.product_element.specs.Writing.{number_in}
use Rattle.product_writing.proofs.pairs.put_block.Goals as goal

pub returns-then-block-eq0 : goal.returns-then-block-eq0
returns-then-block-eq0 c =
    let a = c.args in
    put_none _ _ _ _ _ _ c.requires.at_value
    (first_same a.factors.poles.min a.factors.p.slices.counts.now a.factors.q.slices.counts.now a.block.i a.block.j
    (sym c.requires.block_of.q_count ∙ c.if-block-eq0.true))

pub loop-a-init : goal.loop-a-init
loop-a-init c =
    let a = c.args in
    let f = a.factors in
    let m = number_first f.poles.min f.p.slices.counts.now f.q.slices.counts.now a.block.i a.block.j in
    put_none _ _ _ _ _ _ (rw m c.requires.at_value) refl

pub loop-a-preserved : goal.loop-a-preserved
loop-a-preserved c =
    let number : ℕ → ℕ = λ a. number_in c.args.factors c.args.block a 0 in
    let a = c.loop-a.a in
    put_then _ (number 0) (number a) (number (a + 1)) _ _ _ _ _ _ _ _ c.loop-a.invariant c.put_pairs_of-to.ensures

pub returns : goal.returns
returns c =
    let B = c.args.block in
    let poles = c.args.factors.poles in
    let p = c.args.factors.p.slices.counts.now in
    let q = c.args.factors.q.slices.counts.now in
    let e : c.loop-a.a ≡ get_or p B.i 0 = omega arith in
    rw (
      ← number_last poles.min p q B.i B.j,
      ← number_first poles.min p q B.i B.j,
      ← e,
    )
    c.loop-a.invariant
