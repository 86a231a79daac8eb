-- Structures trimmed and grown, as the two Booleans say: what becomes of closed cells, and trimming undoes growing.
-- Assumes nothing.
use mathlib.Core.Path.{◌≡◌, refl}
use mathlib.Core.Bool.{Bool, true, false}
use Prim.Native.Nat.{ℕ, pred, ◌≤◌, ◌<◌}
use native.Mathlib.Omega.{arith}
use lib.Dec.{T}
use Rattle.order.specs.Structure.{Order, Ranked, Renumbering}
use Rattle.order.specs.Diamond.{Frame, Cell}
use Rattle.order.specs.Ends.{end, with_max, trim_min, trim, grow_max, grow}
use Rattle.order.specs.Ends.{need, as_trimmed, as_grown, added_min, added_max}
use Rattle.order.proofs.Renumbering.{Renumbering-same, Renumbering-back, Renumbering-then}
use Rattle.order.proofs.Renumbering.{Renumbering-turned, turned-turned}
use Rattle.order.proofs.Added.{with_min-ranked, with_max-ranked, with_min-frame, with_max-frame}
use Rattle.order.proofs.Added.{with_min-cell, with_max-cell}
use Rattle.order.proofs.Added.{with_min-renumbered, with_max-renumbered}
use Rattle.order.proofs.Struck.{without_min-ranked, without_max-ranked, without_min-frame, without_max-frame}
use Rattle.order.proofs.Struck.{without_min-cell, without_max-cell}
use Rattle.order.proofs.Struck.{without_min-renumbered, without_max-renumbered}
use Rattle.order.proofs.Struck.{without_min-with_min, without_max-with_max}

pub trim_min-ranked : (min : Bool) {W : Order} → Ranked W → Ranked (trim_min min W)
trim_min-ranked true r_w = without_min-ranked r_w
trim_min-ranked false r_w = r_w

pub trim-ranked : (min max : Bool) {W : Order} → Ranked W → Ranked (trim min max W)
trim-ranked min true r_w = without_max-ranked (trim_min-ranked min r_w)
trim-ranked min false r_w = trim_min-ranked min r_w

grow_max-ranked : (max : Bool) {W : Order} → Ranked W → Ranked (grow_max max W)
grow_max-ranked true r_w = with_max-ranked r_w
grow_max-ranked false r_w = r_w

pub grow-ranked : (min max : Bool) {W : Order} → Ranked W → Ranked (grow min max W)
grow-ranked true max r_w = with_min-ranked (grow_max-ranked max r_w)
grow-ranked false max r_w = grow_max-ranked max r_w

two_off : (t : ℕ) → need true true ≤ t → 0 < pred t
two_off t h = omega arith

pub trim-frame : (min max : Bool) {W : Order} → Ranked W → need min max ≤ W.top → Frame false false W
    → Frame min max (trim min max W)
trim-frame true true r_w h g =
    without_max-frame (without_min-ranked r_w) (two_off _ h) (without_min-frame r_w (omega arith) g)
trim-frame true false r_w h g = without_min-frame r_w h g
trim-frame false true r_w h g = without_max-frame r_w h g
trim-frame false false r_w h g = g

pub trim-cell : (min max : Bool) {W : Order} → Ranked W → need min max ≤ W.top → Cell false false W
    → Cell min max (trim min max W)
trim-cell true true r_w h g = without_max-cell (without_min-ranked r_w) (two_off _ h) (without_min-cell r_w (omega arith) g)
trim-cell true false r_w h g = without_min-cell r_w h g
trim-cell false true r_w h g = without_max-cell r_w h g
trim-cell false false r_w h g = g

pub grow-frame : (min max : Bool) {W : Order} → Ranked W → Frame min max W → Frame false false (grow min max W)
grow-frame true true r_w g = with_min-frame (with_max-frame r_w g)
grow-frame true false r_w g = with_min-frame g
grow-frame false true r_w g = with_max-frame r_w g
grow-frame false false r_w g = g

pub grow-cell : (min max : Bool) {W : Order} → Ranked W → (T min → T max → 0 < W.top) → Cell min max W
    → Cell false false (grow min max W)
grow-cell true true r_w h g = with_min-cell (with_max-ranked r_w) (λ t. absurd t) (with_max-cell r_w (h tt) g)
grow-cell true false r_w h g = with_min-cell r_w (h tt) g
grow-cell false true r_w h g = with_max-cell r_w (λ t. absurd t) g
grow-cell false false r_w h g = g

unfoldable pub trim_min-renumbered : (min : Bool) {A B : Order} → Ranked A → Ranked B → Renumbering A B
    → Renumbering (trim_min min A) (trim_min min B)
trim_min-renumbered true r_a r_b f = without_min-renumbered r_a r_b f
trim_min-renumbered false r_a r_b f = f

unfoldable pub trim-renumbered : (min max : Bool) {A B : Order} → Ranked A → Ranked B → Renumbering A B
    → Renumbering (trim min max A) (trim min max B)
trim-renumbered min true r_a r_b f =
    without_max-renumbered (trim_min-ranked min r_a) (trim_min-ranked min r_b) (trim_min-renumbered min r_a r_b f)
trim-renumbered min false r_a r_b f = trim_min-renumbered min r_a r_b f

unfoldable pub grow_max-renumbered : (max : Bool) {A B : Order} → Renumbering A B
    → Renumbering (grow_max max A) (grow_max max B)
grow_max-renumbered true f = with_max-renumbered f
grow_max-renumbered false f = f

unfoldable pub grow-renumbered : (min max : Bool) {A B : Order} → Renumbering A B
    → Renumbering (grow min max A) (grow min max B)
grow-renumbered true max f = with_min-renumbered (grow_max-renumbered max f)
grow-renumbered false max f = grow_max-renumbered max f

unfoldable pub trim-grow : (min max : Bool) {W : Order} → Ranked W → W.Elem
    → Renumbering (trim min max (grow min max W)) W
trim-grow true true {W} r_w d =
    let r_m = with_max-ranked r_w in
    let inner = without_min-with_min (with_max W) end in
    Renumbering-then (without_max-renumbered (without_min-ranked (with_min-ranked r_m)) r_m inner) (without_max-with_max r_w d)
trim-grow true false {W} r_w d = without_min-with_min W d
trim-grow false true r_w d = without_max-with_max r_w d
trim-grow false false {W} r_w d = Renumbering-same W

-- What the renumberings do with the elements that were there, and with the added ends, by computation.
pub trim-grow_from : (min max : Bool) {W : Order} (r_w : Ranked W) (d x : W.Elem)
    → (trim-grow min max r_w d).from x ≡ as_trimmed min max (grow min max W) (as_grown min max W x)
unfolding trim-grow Renumbering-same Renumbering-back Renumbering-then Renumbering-turned turned-turned
    without_min-renumbered without_max-renumbered without_min-with_min without_max-with_max
trim-grow_from true true r_w d x = refl
trim-grow_from true false r_w d x = refl
trim-grow_from false true r_w d x = refl
trim-grow_from false false r_w d x = refl

pub trim-inside : (min max : Bool) {A B : Order} (r_a : Ranked A) (r_b : Ranked B) (f : Renumbering A B) (x : A.Elem)
    → (trim-renumbered min max r_a r_b f).to (as_trimmed min max A x) ≡ as_trimmed min max B (f.to x)
unfolding trim-renumbered trim_min-renumbered without_min-renumbered without_max-renumbered Renumbering-turned
trim-inside true true r_a r_b f x = refl
trim-inside true false r_a r_b f x = refl
trim-inside false true r_a r_b f x = refl
trim-inside false false r_a r_b f x = refl

module _ {A B : Order} (f : Renumbering A B) where
  pub grow-inside : (min max : Bool) (x : A.Elem)
      → (grow-renumbered min max f).to (as_grown min max A x) ≡ as_grown min max B (f.to x)
  unfolding grow-renumbered grow_max-renumbered with_min-renumbered with_max-renumbered Renumbering-turned
  grow-inside true true x = refl
  grow-inside true false x = refl
  grow-inside false true x = refl
  grow-inside false false x = refl

  pub grow-added_min : (max : Bool) → (grow-renumbered true max f).to (added_min max A) ≡ added_min max B
  unfolding grow-renumbered with_min-renumbered
  grow-added_min max = refl

  pub grow-added_max : (min : Bool) → (grow-renumbered min true f).to (added_max min A) ≡ added_max min B
  unfolding grow-renumbered grow_max-renumbered with_min-renumbered with_max-renumbered Renumbering-turned
  grow-added_max true = refl
  grow-added_max false = refl

-- What was there is there in the grown structure, and so is the added maximal element.
pub grow-inside_exists : (min max : Bool) (W : Order) (x : W.Elem) → W.Exists x
    → (grow min max W).Exists (as_grown min max W x)
grow-inside_exists true true W x e = e
grow-inside_exists true false W x e = e
grow-inside_exists false true W x e = e
grow-inside_exists false false W x e = e

pub grow-added_max_exists : (min : Bool) (W : Order) → (grow min true W).Exists (added_max min W)
grow-added_max_exists true W = tt
grow-added_max_exists false W = tt
