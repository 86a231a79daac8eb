-- The closed test, then the room, and then all that is asked for writing holds.
use mathlib.Core.Path.{refl, sym, ap, ◌∙◌}
use mathlib.Core.List.{List}
use Prim.Native.Nat.{ℕ}
use native.Mathlib.Omega.{arith}
use Rattle.order.specs.Lists.{over}
use Rattle.listing.specs.Listing.{Listing, listing, held}
use Rattle.listing.proofs.Told.{then_halt}
use Rattle.listing_outputs.specs.declared.outputs.Room.{Room}
use Rattle.listing_outputs.specs.Output.{need_of}
use Rattle.listing_outputs.proofs.Output.{made_err, made_ok}
use Rattle.dual_theory.specs.Dual.{dual_of}
use Rattle.dual_theory.proofs.DualLists.{dual_counts, dual_counts_length, dual_ends_length, dual_inc_length}
use Rattle.dual.specs.Duals.{dual_test}
use Rattle.dual.specs.Writing.{reversed}
use Rattle.dual.proofs.DualBroken.{passed_shaped, room_answered, room_there}
use Rattle.dual.proofs.dual.Goals as goal

pub returns-in_err-closed : goal.returns-in_err-closed
unfolding dual_test
returns-in_err-closed c = made_err _ _ c.from_residual.ensures.1 (then_halt _ _ c.in_err-closed.ensures.value) _

pub returns-in_err-check_room : goal.returns-in_err-check_room
returns-in_err-check_room c =
    let room : Room = need_of (listing c.args.counts.now c.args.ends.now c.args.inc.now) in
    let t = room_answered (held c.args.slices) _ room c.in_ok-closed.ensures.value c.in_err-check_room.ensures in
    made_err _ _ c.from_residual-in_err-check_room.ensures.1 t _

pub put_counts-requires : goal.put_counts-requires
put_counts-requires c =
    let room : Room = need_of (listing c.args.counts.now c.args.ends.now c.args.inc.now) in
    let closed = c.in_ok-closed.ensures.value in
    (room_there (held c.args.slices) _ room closed c.in_ok-check_room.ensures refl).0

pub put_lists-requires : goal.put_lists-requires
put_lists-requires c =
    let room : Room = need_of (listing c.args.counts.now c.args.ends.now c.args.inc.now) in
    let closed = c.in_ok-closed.ensures.value in
    let f = room_there (held c.args.slices) _ room closed c.in_ok-check_room.ensures refl in
    rw (c.cell-cell.ensures ∙ c.in_ok-closed.ensures.same) (f.1, f.2)

pub lengths-requires : goal.lengths-requires
lengths-requires c =
    let S = passed_shaped (held c.args.slices) c.in_ok-closed.ensures.value in
    (omega (arith, S.few_ranks), omega (arith, S.two_ends_each, S.few_elements), omega (arith, S.few_incidences))

pub returns : goal.returns
unfolding reversed
returns c =
    let L : Listing = held c.args.slices in
    let room : Room = need_of (listing c.args.counts.now c.args.ends.now c.args.inc.now) in
    let closed = c.in_ok-closed.ensures.value in
    let S = passed_shaped L closed in
    let same = c.cell-cell.ensures ∙ c.in_ok-closed.ensures.same in
    let put = rw same at c.put_lists.ensures in
    let long = c.lengths.ensures in
    let n = c.put_counts.ensures ∙ ap (λ (k : List ℕ). over k c.args.counts.now) (sym (dual_counts L S)) in
    made_ok (room_answered L _ room closed c.in_ok-check_room.ensures) (dual_of L) _ _ _
    (long.0 ∙ sym (dual_counts_length L S)) (long.1 ∙ sym (dual_ends_length L S))
    (long.2 ∙ sym (dual_inc_length L S)) n put.ends_after put.inc_after
