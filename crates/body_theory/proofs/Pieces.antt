-- Single changes lead back, so that a listing is in one piece if they lead from one flag to all; and where they are
-- made.
-- Assumes nothing.
use mathlib.Core.Path.{◌≡◌, sym}
use mathlib.Core.List.{List}
use Prim.Native.Nat.{ℕ, ◌<◌}
use native.Mathlib.Omega.{arith}
use lib.ListN.{length}
use Rattle.order.specs.Steps.{ChangedAt, here, there, Reach}
use Rattle.order.proofs.Steps.{Reach-then, Reach-back, Reach-kept}
use Rattle.listing.specs.Listing.{Listing, Limits, rank, count}
use Rattle.valid.specs.Closed.{Closed}
use Rattle.flag_change.specs.Flags.{IsFlag}
use Rattle.flag_change.proofs.Replaced.{changed_apart}
use Rattle.body_theory.specs.Pieces.{OneChange, OnePiece}

-- ---- back

changed_back : {r : ℕ} {f g : List ℕ} → ChangedAt r f g → ChangedAt r g f
changed_back (here d) = here (λ e. d (sym e))
changed_back (there c) = there (changed_back c)

changes_back : (L : Listing) {f g : List ℕ} → IsFlag L f → Reach (OneChange L) f g → Reach (OneChange L) g f
changes_back L F q =
    Reach-back (λ f g c. record { at = c.1.at; is_flag = c.0; changed = changed_back c.1.changed })
    (Reach-kept (λ f g c. c.is_flag) F q)

-- A listing is in one piece if single changes lead from one of its flags to each other.
pub one_piece_from : (L : Listing) {f : List ℕ} → IsFlag L f
    → ((g : List ℕ) → IsFlag L g → Reach (OneChange L) f g) → OnePiece L
unfolding OnePiece
one_piece_from L F to g h G H = Reach-then (changes_back L F (to g G)) (to h H)

-- ---- where

changed_within : {r : ℕ} {f g : List ℕ} → ChangedAt r f g → r < length f
changed_within (here d) = omega arith
changed_within (there c) = omega (arith, changed_within c)

-- The ends of a flag are not changed: there is no other.
pub change_inner : {m : Limits} {L : Listing} → Closed m L → {f g : List ℕ} → IsFlag L f → (c : OneChange L f g)
    → (0 < c.at) × (c.at < rank L)
change_inner {L = L} C {f} {g} F c = (go_low, go_high)
  where
    within : c.at < length f
    within = changed_within c.changed

    -- where there is one element, both flags have it
    one : (r : ℕ) → count L r ≡ 1 → c.at ≡ r → ⊥
    one r e z =
        let h : r < length f = omega (arith, within) in
        let k = c.is_flag.exists r (omega (arith, F.one_each, c.is_flag.one_each)) in
        changed_apart c.changed (rw z (omega (arith, F.exists r h)))

    go_low : 0 < c.at
    go_low = omega (arith, one 0 C.bounded.one_minimal)

    go_high : c.at < rank L
    go_high = omega (arith, within, F.one_each, one (rank L) C.bounded.one_maximal)
