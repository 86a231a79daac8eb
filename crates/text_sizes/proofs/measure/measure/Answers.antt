-- The first rank comes after the first line; after the last rank what is left decides.
use native.Mathlib.Omega.{arith}
use Rattle.listing.specs.Listing.{limits}
use Rattle.text_sizes.proofs.Whole.{first_came, top_is, bytes_over, bytes_none, sizes_read}
use Rattle.text_sizes.proofs.measure.measure.Goals as goal

pub measure_ranks-requires-clause-arrived : goal.measure_ranks-requires-clause-arrived
measure_ranks-requires-clause-arrived c =
    let q = c.in_ok-c.ensures in
    first_came limits _ c.if-text-gt-TEXT.false q.test q.line_read c.if-c-ge-RANKS.false
    (omega arith) c.requires (omega arith) (omega arith)

pub measure_ranks-requires-clause-top_value : goal.measure_ranks-requires-clause-top_value
measure_ranks-requires-clause-top_value c =
    let q = c.in_ok-c.ensures in
    top_is limits _ c.if-text-gt-TEXT.false q.test q.line_read

pub returns-then-s-text-clause-test : goal.returns-then-s-text-clause-test
returns-then-s-text-clause-test c =
    let m = c.in_ok-s.ensures.comes in
    bytes_over m.0 m.1 c.if-s-text.true

pub returns-clause-test : goal.returns-clause-test
returns-clause-test c =
    let m = c.in_ok-s.ensures.comes in
    bytes_none m.0 m.1 c.if-s-text.false

pub returns-clause-sizes : goal.returns-clause-sizes
returns-clause-sizes c =
    let q = c.in_ok-c.ensures in
    let m = c.in_ok-s.ensures.comes in
    sizes_read m.0 m.1 m.2 _ (top_is limits _ c.if-text-gt-TEXT.false q.test q.line_read)
