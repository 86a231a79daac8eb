-- One number more is put in.
-- Assumes nothing.
use mathlib.Core.Path.{◌≡◌, refl}
use Prim.Native.Nat.{◌*◌}
use native.Mathlib.Omega.{arith}
use lib.ListN.{length, length-set}
use lib.Seq.{paste-zero}
use Rattle.search_index.proofs.Rows.{put_next}
use Rattle.search_index.proofs.row.put_row.Goals as goal

pub loop-j-init : goal.loop-j-init
loop-j-init c = let a = c.args in (refl, paste-zero a.table.now (a.k * length a.flag.now) a.flag.now)

pub loop-j-preserved : goal.loop-j-preserved
loop-j-preserved c =
    let a = c.args in let l = c.loop-j in (
      simp length-set l.invariant.0,
      put_next a.table.now (a.k * length a.flag.now) a.flag.now l.j l.table l.invariant.1 (omega arith) (omega arith),
    )

pub returns : goal.returns
returns c = let z : c.loop-j.j ≡ length c.args.flag.now = omega arith in rw z at c.loop-j.invariant.1
