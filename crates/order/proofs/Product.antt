-- The product of two structures, once over the two Booleans: when it is a closed cell, what its elements are, and what
-- exchanging the factors does.
-- Assumes nothing.
use mathlib.Core.Path.{◌≡◌}
use mathlib.Core.Bool.{Bool, true, false}
use Prim.Native.Nat.{ℕ, pred, ◌+◌, ◌≤◌, ◌<◌}
use native.Mathlib.Omega.{arith}
use lib.Dec.{T}
use Rattle.order.specs.Structure.{Order, Ranked, Renumbering}
use Rattle.order.specs.Diamond.{Frame, Cell}
use Rattle.order.specs.Pairs.{swap}
use Rattle.order.specs.Ends.{trim, InUse, Product, need, together, as_trimmed, as_grown, added_min, added_max}
use Rattle.order.proofs.Renumbering.{Renumbering-back}
use Rattle.order.proofs.Pairs.{Pairs-ranked, Pairs-swap}
use Rattle.order.proofs.PairsCell.{Pairs-frame, Pairs-cell}
use Rattle.order.proofs.Trim.{trim-ranked, grow-ranked, trim-frame, grow-frame, trim-cell, grow-cell}
use Rattle.order.proofs.Trim.{grow-renumbered}
use Rattle.order.proofs.Trim.{trim-grow, trim-grow_from, grow-inside, grow-added_min, grow-added_max}

pub InUse-ranked : (min max : Bool) {A B : Order} → Ranked A → Ranked B → Ranked (InUse min max A B)
InUse-ranked min max r_a r_b = Pairs-ranked (trim-ranked min max r_a) (trim-ranked min max r_b)

pub Product-ranked : (min max : Bool) {A B : Order} → Ranked A → Ranked B → Ranked (Product min max A B)
Product-ranked min max r_a r_b = grow-ranked min max (InUse-ranked min max r_a r_b)

-- Where both ends are taken off, more than one rank of pairs is left.
room : (min max : Bool) (A B : Order) → together min max ≤ A.top + B.top → T min → T max
    → 0 < (InUse min max A B).top
room true true A B h s t = left_over A.top B.top h
  where
    left_over : (a b : ℕ) → together true true ≤ a + b → 0 < pred (pred a) + pred (pred b)
    left_over a b h = omega arith
room true false A B h s t = absurd t
room false max A B h s t = absurd s

-- The product of two frames is a frame.
pub Product-frame : (min max : Bool) {A B : Order} → Ranked A → Ranked B → need min max ≤ A.top → need min max ≤ B.top
    → Frame false false A → Frame false false B → Frame false false (Product min max A B)
Product-frame min max r_a r_b p q g_a g_b =
    let t_a = trim-ranked min max r_a in
    let t_b = trim-ranked min max r_b in
    grow-frame min max (Pairs-ranked t_a t_b)
    (Pairs-frame t_a t_b (trim-frame min max r_a p g_a) (trim-frame min max r_b q g_b))

-- The product of two closed cells is a closed cell.
pub Product-cell : (min max : Bool) {A B : Order} → Ranked A → Ranked B → need min max ≤ A.top → need min max ≤ B.top
    → together min max ≤ A.top + B.top → Cell false false A → Cell false false B
    → Cell false false (Product min max A B)
Product-cell min max {A} {B} r_a r_b p q h g_a g_b =
    let t_a = trim-ranked min max r_a in
    let t_b = trim-ranked min max r_b in
    grow-cell min max (Pairs-ranked t_a t_b) (room min max A B h)
    (Pairs-cell t_a t_b (trim-cell min max r_a p g_a) (trim-cell min max r_b q g_b))

unfoldable pub Product-swap : (min max : Bool) (A B : Order) → Renumbering (Product min max A B) (Product min max B A)
Product-swap min max A B = grow-renumbered min max (Pairs-swap (trim min max A) (trim min max B))

-- Apart from the added ends the elements of a product are the pairs in use. (It needs an element of each factor.)
unfoldable pub Product-pairs : (min max : Bool) {A B : Order} → Ranked A → Ranked B → A.Elem → B.Elem
    → Renumbering (InUse min max A B) (trim min max (Product min max A B))
Product-pairs min max {A} {B} r_a r_b a b =
    Renumbering-back (trim-grow min max (InUse-ranked min max r_a r_b) (as_trimmed min max A a, as_trimmed min max B b))

pub Product-pairs-to : (min max : Bool) {A B : Order} (r_a : Ranked A) (r_b : Ranked B) (a : A.Elem) (b : B.Elem)
    (x : (InUse min max A B).Elem)
    → (Product-pairs min max r_a r_b a b).to x
    ≡ as_trimmed min max (Product min max A B) (as_grown min max (InUse min max A B) x)
unfolding Product-pairs Renumbering-back
Product-pairs-to min max {A} {B} r_a r_b a b x =
    trim-grow_from min max (InUse-ranked min max r_a r_b) (as_trimmed min max A a, as_trimmed min max B b) x

-- Exchanging the factors only swaps pairs, and leaves the added ends where they are.
pub Product-swap-pair : (min max : Bool) (A B : Order) (x : (InUse min max A B).Elem)
    → (Product-swap min max A B).to (as_grown min max (InUse min max A B) x)
    ≡ as_grown min max (InUse min max B A) (swap x)
unfolding Product-swap Pairs-swap
Product-swap-pair min max A B x = grow-inside (Pairs-swap (trim min max A) (trim min max B)) min max x

pub Product-swap-min : (max : Bool) (A B : Order)
    → (Product-swap true max A B).to (added_min max (InUse true max A B)) ≡ added_min max (InUse true max B A)
unfolding Product-swap
Product-swap-min max A B = grow-added_min (Pairs-swap (trim true max A) (trim true max B)) max

pub Product-swap-max : (min : Bool) (A B : Order)
    → (Product-swap min true A B).to (added_max min (InUse min true A B)) ≡ added_max min (InUse min true B A)
unfolding Product-swap
Product-swap-max min A B = grow-added_max (Pairs-swap (trim min true A) (trim min true B)) min
