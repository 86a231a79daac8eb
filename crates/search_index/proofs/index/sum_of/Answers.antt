-- Each turn of the loop takes the next number of the flag and its weight, and the loop ends past the last.
-- Assumes nothing.
use mathlib.Core.Path.{◌≡◌, sym, ◌∙◌}
use Prim.Native.Nat.{ℕ, ◌*◌, ◌≤◌, ◌<◌}
use native.Mathlib.Omega.{arith}
use lib.ListN.{length, get_or}
use Rattle.std.proofs.lemmas.List.{length_push}
use Rattle.std.proofs.lemmas.Slice.Zip.{zip_turn, zip_end}
use Rattle.listing.specs.Listing.{width}
use Rattle.search_index.specs.Hash.{hashes, weight}
use Rattle.search_index.proofs.Hash.{times_small, weights_small, sum_next, sum_end}
use Rattle.search_index.proofs.index.sum_of.Goals as goal

record Turn (c : goal.After-from) (r : ℕ) : Type 0 where
  below : r < length c.args.flag.now
  number : c.from.result ≡ get_or c.args.flag.now r 0
  weighs : c.in-Some.field-0-1.now ≡ weight r
  small : c.from.result * c.in-Some.field-0-1.now ≤ width * hashes

turn : (c : goal.After-from) → Turn c (length c.loop-x.yielded)
turn c =
    let v = c.args.weights.now in
    let r : ℕ = length c.loop-x.yielded in
    let t = zip_turn c.args.flag.now v c.loop-x.yielded c.into_iter-x-iterator.result c.loop-x.x-iterator
    c.next.new.self c.next.result (cc) (cc) c.loop-x.yielded_by _ c.in-Some.is c.next.ensures.steps in record {
      below = omega (arith, t.0);
      number = c.from.ensures ∙ t.2 0;
      weighs = t.3 0 ∙ c.requires.1.each r (omega (arith, t.0));
      small =
          times_small _ _ (rw (c.from.ensures, t.2 0) (omega (arith, c.type_inv.flag r)))
          (rw (t.3 0) (weights_small v c.requires.1 r (omega (arith, t.0))));
    }

pub overflow_mul-sum : goal.overflow_mul-sum
overflow_mul-sum c = omega (arith, (turn c).small)

pub overflow_add-sum : goal.overflow_add-sum
overflow_add-sum c = let t = turn c in omega (arith, t.small, t.below)

pub loop-x-preserved : goal.loop-x-preserved
loop-x-preserved c =
    let t = turn c in
    let l = c.loop-x in
    let next = sum_next _ l.sum c.args.flag.now _ l.invariant.1 t.below _ _ t.number t.weighs in
    rw (length_push l.yielded _) (omega (arith, t.small), next)

pub returns : goal.returns
returns c =
    let l = c.loop-x in
    let e = zip_end c.args.flag.now c.args.weights.now l.yielded c.into_iter-x-iterator.result l.x-iterator
    c.next.new.self c.next.result (cc) (cc) l.yielded_by c.in-None.is c.next.ensures.steps in
    let all : length l.yielded ≡ length c.args.flag.now = omega arith in
    (sym (sum_end _ l.sum _ (length l.yielded) l.invariant.1 (omega (arith, all))), rw all at l.invariant.0)
