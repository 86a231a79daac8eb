-- Products of factors that is_valid accepts pass tests 1 and 2.
-- Assumes nothing.
use mathlib.Core.Path.{◌≡◌, refl}
use mathlib.Core.Bool.{Bool, true, false}
use Prim.Native.Nat.{◌≤◌}
use Rattle.order.specs.Ends.{need}
use Rattle.listing.specs.Listing.{Listing, Limits, rank}
use Rattle.listing.specs.Layers.{layers}
use Rattle.valid_incidence.specs.Incidence.{incidences_test, Incident}
use Rattle.valid_incidence.proofs.IncidenceExact.{incidences_exact}
use Rattle.valid.specs.Bounds.{bounded_test, Bounded}
use Rattle.valid.specs.Tests.{is_valid}
use Rattle.valid.proofs.BoundsExact.{bounded_exact}
use Rattle.valid.proofs.ClosedExact.{valid_exact}
use Rattle.product_pairs.specs.Sound.{Sound}
use Rattle.product_pairs.specs.Product.{product_of}
use Rattle.product_pairs.proofs.Listings.{product_of_sound, product_of_frame}
use Rattle.product_closure.specs.Result.{first_factor, second_factor, null_case, comb_case, result_of}
use Rattle.product_closure.proofs.Cells.{incident_sound, framed, frame_bounded, frame_incident}
use Rattle.product_closure.proofs.Alike.{product_of_derived}
use Rattle.product_closure.proofs.Results.{result_product, result_null, nullitope_closed, needed, both}

-- What tests 1 and 2 accept.
abbrev Framed : Listing → Type 0
Framed L = Bounded L × Incident L

-- what is_valid accepts has its subs one rank lower
pub valid_sound : (m : Limits) (L : Listing) → (is_valid m L).no ≡ 0 → Sound (layers L)
valid_sound m L v = incident_sound L ((valid_exact m L).0 v).2

product_of_framed : (min max : Bool) (A B : Listing) → Framed A → Framed B → need min max ≤ rank A
    → need min max ≤ rank B → Framed (product_of min max A B)
product_of_framed min max A B g_a g_b p q =
    let s_a = incident_sound A g_a.1 in
    let s_b = incident_sound B g_b.1 in
    let f_a = framed A g_a.0 g_a.1 in
    let f_b = framed B g_b.0 g_b.1 in
    let f = product_of_frame min max A B s_a s_b p q f_a f_b in (
      frame_bounded (product_of min max A B) f,
      frame_incident (product_of min max A B) f (product_of_sound min max A B s_a s_b) (product_of_derived min max A B),
    )

result_framed : (min max : Bool) (A B : Listing) → Framed A → Framed B → comb_case min max A B ≡ false
    → Framed (result_of min max A B)
result_framed min max A B g_a g_b c = go (null_case min max A B) refl
  where
    go : (n : Bool) → null_case min max A B ≡ n → Framed (result_of min max A B)
    go true e = rw (result_null min max A B e) (nullitope_closed.bounded, nullitope_closed.incident)
    go false e =
        let p = needed min max A B e c in
        let g = both Framed min A B g_a g_b in
        let r = both (λ L. need min max ≤ rank L) min A B p.0 p.1 in
        rw (result_product min max A B e)
        (product_of_framed min max (first_factor min A B) (second_factor min A B) g.0 g.1 r.0 r.1)

-- Whatever two listings is_valid accepts, and whichever product, unless it is a duocomb that is refused: the result has
-- one minimal and one maximal element, and its incidences are right.
product_framed : (min max : Bool) (m : Limits) (A B : Listing) → (is_valid m A).no ≡ 0 → (is_valid m B).no ≡ 0
    → comb_case min max A B ≡ false → Bounded (result_of min max A B) × Incident (result_of min max A B)
product_framed min max m A B v_a v_b c =
    let a = (valid_exact m A).0 v_a in
    let b = (valid_exact m B).0 v_b in
    result_framed min max A B (a.1, a.2) (b.1, b.2) c

-- Tests 1 and 2 say so.
pub product_tests : (min max : Bool) (m : Limits) (A B : Listing) → (is_valid m A).no ≡ 0 → (is_valid m B).no ≡ 0
    → comb_case min max A B ≡ false
    → ((bounded_test (result_of min max A B)).no ≡ 0) × ((incidences_test (result_of min max A B)).no ≡ 0)
product_tests min max m A B v_a v_b c =
    let t = product_framed min max m A B v_a v_b c in
    ((bounded_exact (result_of min max A B)).1 t.0, (incidences_exact (result_of min max A B)).1 t.1)
