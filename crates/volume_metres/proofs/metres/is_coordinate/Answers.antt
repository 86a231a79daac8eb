-- Two returns: the comparison of the float with itself without its fraction; too high or too low.
-- Assumes nothing.
use Rattle.std.proofs.Common.{sym, ap, ◌∙◌, lit<, w64}
use mir.ValLaws.{to_z-of_z}
use lib.Ieee.{binary64, of_bits, of_int, neg, eq}
use Rattle.volume_metres.proofs.CoordinateTest.{castable, cut_exact, above_out, below_out}
use Rattle.volume_metres.proofs.metres.is_coordinate.Goals.{else-x-via-then-x+else-x-2, else-x-via-else-x}
use Rattle.volume_metres.proofs.metres.is_coordinate.Goals as goal

pub truncating_f64_to_i64-whole-requires : goal.truncating_f64_to_i64-whole-requires
unfolding of_bits neg
truncating_f64_to_i64-whole-requires c =
    let k = castable _ _ (lit< tt) c.args.x c.if-x.true c.if-x-2.true in record { lower_bound = k.0; upper_bound = k.1 }

pub returns-then-x-2 : goal.returns-then-x-2
unfolding of_bits neg
returns-then-x-2 c =
    let x = c.args.x in
    let cut = c.truncating_f64_to_i64-whole in
    let whole = to_z-of_z w64 cut.result (record { sfits = cut.type_inv }) ∙ cut.ensures in
    ap (λ y. eq y x) (c.nearest_i64_to_f64.ensures ∙ ap (of_int binary64) whole)
    ∙ cut_exact x c.if-x.true c.if-x-2.true

pub returns : goal.returns
unfolding of_bits neg
returns c = elim c.else-x.branch [
  | else-x-via-then-x+else-x-2 w ↦ sym (above_out _ w.if-x-2.false)
  | else-x-via-else-x w ↦ sym (below_out _ w.if-x.false)
]
