-- The four products of listings that are one body are one body.
-- Assumes nothing.
use mathlib.Core.Path.{◌≡◌}
use mathlib.Core.Bool.{Bool, true, false}
use Prim.Native.Nat.{ℕ, ◌≤◌}
use native.Mathlib.Omega.{arith}
use Rattle.order.specs.Flags.{need_thick}
use Rattle.listing.specs.Listing.{Listing, Limits, rank}
use Rattle.listing.specs.Shape.{Shaped}
use Rattle.product_pairs.specs.Product.{product_of}
use Rattle.product_pairs.proofs.Listings.{product_of_connected}
use Rattle.product_closure.specs.Result.{first_factor, second_factor, result_of, HighEnough}
use Rattle.product_closure.proofs.Cells.{incident_sound, closed_cell}
use Rattle.product_closure.proofs.Results.{result_product, not_null, both}
use Rattle.product_closure.proofs.Products.{high_enough, four_closed}
use Rattle.body_theory.specs.Pieces.{OnePiece, OneBody}
use Rattle.body_theory.specs.High.{HighForOne}
use Rattle.body_theory.proofs.Elements.{one_piece_connected}

-- The product of the pairs of two bodies, in this order, is in one piece.
pairs_piece : (min max : Bool) {m : Limits} (A B : Listing) → OneBody m A → OneBody m B → need_thick min max ≤ rank A
    → need_thick min max ≤ rank B → Shaped m (product_of min max A B) → OnePiece (product_of min max A B)
pairs_piece min max A B b_a b_b p q h =
    (one_piece_connected (product_of min max A B) h.some_rank).1
    (product_of_connected min max A B (incident_sound A b_a.closed.incident) (incident_sound B b_b.closed.incident)
    p q (closed_cell A b_a.closed).frame (closed_cell B b_b.closed).frame
    ((one_piece_connected A b_a.closed.shaped.some_rank).0 b_a.one_piece)
    ((one_piece_connected B b_b.closed.shaped.some_rank).0 b_b.one_piece))

-- The ranks of the table, as the orders need them; they are high enough for closed factors too.
high_thick : (min max : Bool) (p q : ℕ) → HighForOne min max p q → (need_thick min max ≤ p) × (need_thick min max ≤ q)
unfolding HighForOne
high_thick true true p q h = h
high_thick true false p q h = h
high_thick false true p q h = h
high_thick false false p q h = (omega arith, omega arith)

one_high : (min max : Bool) (p q : ℕ) → HighForOne min max p q → HighEnough min max p q
unfolding HighForOne HighEnough
one_high true true p q h = (omega (arith, h), omega (arith, h), omega (arith, h))
one_high true false p q h = h
one_high false true p q h = h
one_high false false p q h = tt

-- such factors make no null case
high_product : (min max : Bool) (A B : Listing) → HighForOne min max (rank A) (rank B)
    → result_of min max A B ≡ product_of min max (first_factor min A B) (second_factor min A B)
high_product min max A B h =
    let n = high_enough min max (rank A) (rank B) (one_high min max (rank A) (rank B) h) in
    result_product min max A B (not_null min max A B n.0 n.1)

-- Whichever of the four products, of any two bodies whose ranks are high enough: if it is within the limits, so that it
-- has a good shape, it is one body.
pub four_bodies : (min max : Bool) (m : Limits) (A B : Listing) → OneBody m A → OneBody m B
    → HighForOne min max (rank A) (rank B) → Shaped m (result_of min max A B) → OneBody m (result_of min max A B)
four_bodies min max m A B b_a b_b h s = record {
  closed = four_closed min max m A B b_a.closed b_b.closed (one_high min max (rank A) (rank B) h) s;
  one_piece =
      let e = high_product min max A B h in
      let t = high_thick min max (rank A) (rank B) h in
      let b = both (OneBody m) min A B b_a b_b in
      let r = both (λ L. need_thick min max ≤ rank L) min A B t.0 t.1 in
      rw e (pairs_piece min max (first_factor min A B) (second_factor min A B) b.0 b.1 r.0 r.1 (rw e at s));
}
