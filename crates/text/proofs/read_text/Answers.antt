-- The text's own test, then the room, and then all that is asked for writing holds.
use mathlib.Core.Path.{ap, ◌∙◌}
use Rattle.order.proofs.Lists.{zeros}
use Rattle.listing.specs.Listing.{limits}
use Rattle.listing_outputs.specs.declared.outputs.Room.{Room}
use Rattle.listing_outputs.proofs.Output.{made_err, made_ok}
use Rattle.text_theory.specs.Said.{said}
use Rattle.text.proofs.Read.{read_halt, read_then, read_fits, text_source}
use Rattle.text.proofs.read_text.Goals as goal

pub measure-requires : goal.measure-requires
measure-requires c = zeros limits.elements

pub returns-in_err-need : goal.returns-in_err-need
returns-in_err-need c = made_err _ _ c.from_residual.ensures.1 (read_halt _ _ _ _ _ c.in_err-need.ensures.test) _

pub returns-in_err-check_room : goal.returns-in_err-check_room
returns-in_err-check_room c =
    let m = c.in_ok-need.ensures in
    let e = read_then _ _ _ _ m.sizes.need m.test c.in_err-check_room.ensures in
    made_err _ _ c.from_residual-in_err-check_room.ensures.1 e _

pub build-requires : goal.build-requires
build-requires c =
    let m = c.in_ok-need.ensures in
    (said c.args.text.now, text_source m.sizes (read_fits _ _ _ _ m.sizes.need c.in_ok-check_room.ensures))

pub returns : goal.returns
returns c =
    let m = c.in_ok-need.ensures in
    let e = read_then _ _ _ _ m.sizes.need m.test c.in_ok-check_room.ensures in
    let source = text_source m.sizes (read_fits _ _ _ _ m.sizes.need c.in_ok-check_room.ensures) in
    let o = c.build.ensures (said c.args.text.now) source in
    let n = c.lengths.ensures in
    let k = m.sizes.need in
    made_ok e _ _ _ _ (n.0 ∙ ap (λ (r : Room). r.counts) k) (n.1 ∙ ap (λ (r : Room). r.ends) k)
    (n.2 ∙ ap (λ (r : Room). r.inc) k) o.counts o.ends o.inc
