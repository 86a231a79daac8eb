-- `put_elements`. The line of an element is that of its subs, and there is room for it, as there is for all. Assumes
-- nothing.
use native.Mathlib.Omega.{arith}
use mathlib.Core.Path.{◌≡◌, ap}
use mathlib.Core.List.{List}
use Prim.Native.Nat.{ℕ}
use lib.ListN.{length}
use Rattle.text_theory.specs.Text.{subs_key, line, line_bytes}
use Rattle.text_writing.specs.Writing.{line_from, lines_from}
use Rattle.text_writing.proofs.Putting.{put_as}
use Rattle.text_writing.proofs.Parts.{parts_none, parts_room, parts_next}
use Rattle.text_writing.proofs.write.put_elements.Goals as goal

pub loop-i-init : goal.loop-i-init
loop-i-init c = parts_none _ _ _

pub put_line-p-requires : goal.put_line-p-requires
unfolding lines_from
put_line-p-requires c =
    let own = ap (λ (l : List ℕ). length (line_bytes (line subs_key l))) c.side_of.ensures in
    let f = line_from c.args.cell.slices.ends.now c.args.cell.slices.inc.now c.args.here in
    omega (arith, own, parts_room f _ _ _ _ _ c.loop-i.invariant c.args.n c.loop-i-test.true c.requires.n_bound)

pub loop-i-preserved : goal.loop-i-preserved
loop-i-preserved c =
    let own = ap (λ (l : List ℕ). line_bytes (line subs_key l)) c.side_of.ensures in
    parts_next _ _ _ _ _ _ c.loop-i.invariant _ _ (put_as own c.put_line-p.ensures)

pub returns : goal.returns
unfolding lines_from
returns c =
    let e : c.args.n ≡ c.loop-i.i = omega arith in
    rw e c.loop-i.invariant
