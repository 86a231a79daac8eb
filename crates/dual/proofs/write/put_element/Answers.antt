-- `put_element`. The sups, and the subs behind them.
-- Assumes nothing.
use mathlib.Core.Path.{sym, ◌∙◌}
use mathlib.Core.List.{List}
use Prim.Native.Nat.{ℕ, ◌+◌}
use native.Mathlib.Omega.{arith}
use Rattle.order.specs.Sums.{sum}
use Rattle.dual.specs.Writing.{turned_from}
use Rattle.dual.proofs.Putting.{lists_is, lists_then}
use Rattle.dual.proofs.Turned.{turned_sups, turned_subs, turned_sizes}
use Rattle.dual.proofs.write.put_element.Goals as goal

pub put_list-q-requires : goal.put_list-q-requires
put_list-q-requires c =
    let t = turned_sizes _ _ c.args.at _ _ c.list_of-sups.ensures c.list_of-subs.ensures in
    let q = c.requires in record {
      ends_in_bounds = omega (arith, q.ends_in_bounds);
      list_in_bounds = (omega (arith, t, q.at_in_bounds.0), omega (arith, t, q.at_in_bounds.1));
    }

pub put_list-requires : goal.put_list-requires
unfolding sum
put_list-requires c =
    let t = turned_sizes _ _ c.args.at _ _ c.list_of-sups.ensures c.list_of-subs.ensures in
    let q = c.requires in
    let p = c.put_list-q.ensures in
    let i = p.inc_next in record {
      ends_in_bounds = omega (arith, q.ends_in_bounds, p.ends_next, p.ends_laid.same_length);
      list_in_bounds =
          (omega (arith, t, i, q.at_in_bounds.0, p.inc_laid.same_length), omega (arith, t, i, q.at_in_bounds.1));
    }

pub returns : goal.returns
returns c =
    let turned : ℕ → List ℕ = turned_from c.args.cell.slices.ends.now c.args.cell.slices.inc.now c.args.at in
    let u = c.list_of-sups.ensures ∙ sym (turned_sups _ _ c.args.at) in
    let v = c.list_of-subs.ensures ∙ sym (turned_subs _ _ c.args.at) in
    let a = lists_is _ _ _ _ _ _ _ turned u c.put_list-q.ensures in
    let b = lists_is _ _ _ _ _ _ _ (λ j. turned (1 + j)) v c.put_list.ensures in
    lists_then turned 1 _ _ _ _ _ _ a 1 _ _ _ b
