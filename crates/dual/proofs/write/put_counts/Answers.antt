-- `put_counts`: a turn reads the last of the counts that are left (`last_read`), and its place is the next one.
-- Assumes nothing.
use mathlib.Core.Path.{◌≡◌, refl}
use Prim.Native.Nat.{◌+◌, ◌-◌}
use native.Mathlib.Omega.{arith}
use lib.ListN.{length}
use Rattle.std.proofs.Common.{rules}
use Rattle.listing.proofs.Laying.{laid_none, laid_next}
use Rattle.dual.specs.Writing.{reversed}
use Rattle.dual.proofs.Backward.{left_of, first_all, none_left, last_read}
use Rattle.dual.proofs.Putting.{tabulated_over}
use Rattle.dual.proofs.write.put_counts.Goals as goal

pub loop-place-init : goal.loop-place-init
loop-place-init c =
    let s = c.into_iter-place-iterator.result in
    let v = first_all c.args.pcounts.now s.iter.iter (search rules) in
    let z : s.count ≡ 0 = search rules in
    (v.0, omega (arith, v.1), rw z (laid_none _ _ _))

pub loop-place-preserved : goal.loop-place-preserved
loop-place-preserved c =
    let l = c.loop-place in
    let v = l.invariant in
    let n = l.place-iterator.count in
    let h = rw c.in-Some.is at c.next.ensures.steps in
    let p = last_read _ _ c.next.new.self.iter.iter _ c.in-Some.field-0-1 v.0 refl h.0 in
    let k : left_of c.next.new.self.iter.iter ≡ length c.args.pcounts.now - 1 - n = omega (arith, v.1, p.one) in
    let x = rw k at p.n_is in
    let z : 0 + n ≡ n = omega arith in
    let w = rw z at (laid_next 0 _ n _ _ _ v.2 (omega (arith, v.1, p.one)) x) in
    (p.next, omega (arith, h.2, v.1, p.one), rw (h.1, h.2) w)

pub returns : goal.returns
unfolding reversed
returns c =
    let l = c.loop-place in
    let v = l.invariant in
    let h = rw c.in-None.is at c.next.ensures.steps in
    let z = none_left _ _ _ refl h.0 in
    let e : l.place-iterator.count ≡ length c.args.pcounts.now = omega (arith, v.1, z) in
    tabulated_over _ _ _ _ c.requires (rw e at v.2)
