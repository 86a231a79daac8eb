-- `put_rank`: the lists of an element are put behind those of the elements before it.
-- Assumes nothing.
use mathlib.Core.Path.{◌≡◌, ap}
use mathlib.Core.List.{List}
use Prim.Native.Nat.{ℕ, ◌+◌, ◌*◌, ◌≤◌}
use native.Mathlib.Omega.{arith}
use lib.ListN.{length}
use Rattle.order.proofs.Sums.{sum_same}
use Rattle.dual.specs.Writing.{turned_from}
use Rattle.dual.proofs.Putting.{lists_none, lists_as, lists_then, ends_room, inc_room}
use Rattle.dual.proofs.Turned.{turned_later}
use Rattle.dual.proofs.write.put_rank.Goals as goal

pub loop-k-init : goal.loop-k-init
loop-k-init c = lists_none _ _ _ _

pub put_element-q-requires : goal.put_element-q-requires
put_element-q-requires c =
    let a = c.args in
    let q = c.requires in
    let w = c.from.ensures in
    let k = c.loop-k.k in
    let p = c.loop-k.invariant in
    let turned : ℕ → List ℕ = turned_from a.cell.slices.ends.now a.cell.slices.inc.now a.here in
    let few : 2 * k + 2 ≤ 2 * a.n = omega arith in
    let e = sum_same _ _ 2 (λ j l. ap length (turned_later a.cell.slices.ends.now a.cell.slices.inc.now a.here k _ j w)) in
    let r = inc_room turned _ _ _ _ _ _ _ p 2 (2 * a.n) few in record {
      at_there = omega (arith, q.n_there);
      ends_in_bounds = ends_room turned _ _ _ _ _ _ _ p 2 (2 * a.n) few q.n_in_bounds;
      at_in_bounds =
          (omega (arith, e, r, q.n_in_bounds_2.0, p.inc_laid.same_length), omega (arith, e, r, q.n_in_bounds_2.1));
    }

pub loop-k-preserved : goal.loop-k-preserved
loop-k-preserved c =
    let a = c.args in
    let k = c.loop-k.k in
    let turned : ℕ → List ℕ = turned_from a.cell.slices.ends.now a.cell.slices.inc.now a.here in
    let e : 2 * (k + 1) ≡ 2 * k + 2 = omega arith in
    let b = lists_as _ 2 _ _ _ _ _ _ c.put_element-q.ensures (λ j. turned (2 * k + j))
    (λ j h. turned_later a.cell.slices.ends.now a.cell.slices.inc.now a.here k _ j c.from.ensures) in
    rw e (lists_then turned _ _ _ _ _ _ _ c.loop-k.invariant 2 _ _ _ b)
