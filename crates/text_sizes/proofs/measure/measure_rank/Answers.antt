-- Past the line with the count it is noted, and the rank is entered.
use native.Mathlib.Omega.{arith}
use Rattle.std.proofs.lemmas.Result.{IfOk-weaker}
use Rattle.text_sizes.proofs.Ranks.{rank_fits, rank_noted, rank_entered}
use Rattle.text_sizes.proofs.measure.measure_rank.Goals as goal

pub overflow_add-s-2 : goal.overflow_add-s-2
overflow_add-s-2 c =
    let q = c.requires in
    let e = c.in_ok-c.ensures in
    omega (arith, rank_fits q.arrived q.rank_bound.0 e.test e.line_read, q.arrived.elements)

pub measure_elements-requires : goal.measure_elements-requires
measure_elements-requires c =
    let q = c.requires in
    let e = c.in_ok-c.ensures in
    rank_entered q.arrived q.rank_bound.0 e.test e.line_read c.if-s-c-gt-ELEMENTS.false

pub returns-clause-comes : goal.returns-clause-comes
returns-clause-comes c =
    let q = c.requires in
    let e = c.in_ok-c.ensures in
    let m = c.measure_elements.ensures in
    let k = rank_noted q.arrived q.rank_bound.0 e.test e.line_read q.rank_bound.1 in
    IfOk-weaker c.measure_elements.result _ _ (λ h p. (p.0, p.1, rw (p.1, m.same_counts) k)) m.comes
