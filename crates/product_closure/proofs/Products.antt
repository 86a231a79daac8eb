-- The four products of closed listings are closed.
-- Assumes nothing.
use mathlib.Core.Bool.{Bool, true, false}
use Prim.Native.Nat.{ℕ, ◌+◌, ◌≤◌}
use native.Mathlib.Omega.{arith}
use Rattle.order.specs.Ends.{need, together}
use Rattle.listing.specs.Listing.{Listing, Limits, rank}
use Rattle.listing.specs.Shape.{Shaped}
use Rattle.valid.specs.Closed.{Closed}
use Rattle.product_pairs.specs.Product.{product_of}
use Rattle.product_pairs.proofs.Listings.{product_of_sound, product_of_sorted, product_of_cell}
use Rattle.product_closure.specs.Result.{first_factor, second_factor, result_of, HighEnough}
use Rattle.product_closure.proofs.Cells.{incident_sound, ascends_sorted, closed_cell, cell_closed}
use Rattle.product_closure.proofs.Alike.{product_of_derived}
use Rattle.product_closure.proofs.Results.{result_product, not_null, both, both_ranks}

product_of_closed : (min max : Bool) {m : Limits} (A B : Listing) → Closed m A → Closed m B → need min max ≤ rank A
    → need min max ≤ rank B → together min max ≤ rank A + rank B → Shaped m (product_of min max A B)
    → Closed m (product_of min max A B)
product_of_closed min max A B c_a c_b p q t h =
    let s_a = incident_sound A c_a.incident in
    let s_b = incident_sound B c_b.incident in
    cell_closed (product_of min max A B) h
    (product_of_cell min max A B s_a s_b p q t (closed_cell A c_a) (closed_cell B c_b))
    (product_of_sound min max A B s_a s_b)
    (product_of_sorted min max A B s_a s_b (ascends_sorted A c_a.ascends) (ascends_sorted B c_b.ascends))
    (product_of_derived min max A B)

product_closed : (min max : Bool) (m : Limits) (A B : Listing) → Closed m A → Closed m B → need min max ≤ rank A
    → need min max ≤ rank B → together min max ≤ rank A + rank B → Shaped m (result_of min max A B)
    → Closed m (result_of min max A B)
product_closed min max m A B c_a c_b p q t h =
    let e = result_product min max A B (not_null min max A B p q) in
    let c = both (Closed m) min A B c_a c_b in
    let r = both (λ L. need min max ≤ rank L) min A B p q in
    rw e
    (product_of_closed min max (first_factor min A B) (second_factor min A B) c.0 c.1 r.0 r.1
    (rw (both_ranks min A B) t) (rw e at h))

-- The ranks from which that holds, as the table of HighEnough has them.
pub high_enough : (min max : Bool) (p q : ℕ) → HighEnough min max p q
    → (need min max ≤ p) × (need min max ≤ q) × (together min max ≤ p + q)
unfolding HighEnough
high_enough true true p q h = h
high_enough true false p q h = (h.0, h.1, omega arith)
high_enough false true p q h = (h.0, h.1, omega arith)
high_enough false false p q h = (omega arith, omega arith, omega arith)

-- Whichever of the four products, of any two closed listings whose ranks are high enough: if it is within the limits,
-- so that it has a good shape, it is closed.
pub four_closed : (min max : Bool) (m : Limits) (A B : Listing) → Closed m A → Closed m B
    → HighEnough min max (rank A) (rank B) → Shaped m (result_of min max A B) → Closed m (result_of min max A B)
four_closed min max m A B c_a c_b h =
    let n = high_enough min max (rank A) (rank B) h in
    product_closed min max m A B c_a c_b n.0 n.1 n.2
