-- Upside down, a product is the product, with the ends exchanged, of what is upside down: a pair goes to the pair of
-- where its members go, and each added end to the added end at the other side.
-- Assumes nothing.
use mathlib.Core.Path.{◌≡◌, ap, ◌∙◌}
use mathlib.Core.Bool.{Bool, true}
use Rattle.order.specs.Structure.{Order, Ranked, turned, Renumbering}
use Rattle.order.specs.Ends.{trim, InUse, Product, as_trimmed, as_grown, added_min, added_max}
use Rattle.order.proofs.Renumbering.{Renumbering-back, Renumbering-then, turned-ranked}
use Rattle.order.proofs.Pairs.{pair_path, Pairs-turned, Pairs-renumbered}
use Rattle.order.proofs.Trim.{trim-ranked, trim-renumbered, trim-inside}
use Rattle.order.proofs.Trim.{grow-renumbered, grow-inside, grow-added_min, grow-added_max}
use Rattle.order.proofs.TurnedEnds.{trim-turned, trim-turned_to}
use Rattle.order.proofs.TurnedEnds.{grow-turned, grow-turned_inside, grow-turned_min, grow-turned_max}
use Rattle.order.proofs.Product.{InUse-ranked}

-- What is left of A, upside down, is what is left of C, which is A upside down by f.
module _ (min max : Bool) {A C : Order} (r_a : Ranked A) (r_c : Ranked C) (f : Renumbering (turned A) C) where
  unfoldable pub factor-turned : Renumbering (turned (trim min max A)) (trim max min C)
  factor-turned = Renumbering-then (trim-turned min max r_a) (trim-renumbered max min (turned-ranked r_a) r_c f)

  factor-turned_to : (x : A.Elem) → factor-turned.to (as_trimmed min max A x) ≡ as_trimmed max min C (f.to x)
  unfolding factor-turned Renumbering-then
  factor-turned_to x =
      ap (trim-renumbered max min (turned-ranked r_a) r_c f).to (trim-turned_to min max r_a x)
      ∙ trim-inside max min (turned-ranked r_a) r_c f x

module _ (min max : Bool) {A B C D : Order} (r_a : Ranked A) (r_b : Ranked B) (r_c : Ranked C) (r_d : Ranked D)
    (f : Renumbering (turned A) C) (g : Renumbering (turned B) D) where
  unfoldable pub InUse-turned : Renumbering (turned (InUse min max A B)) (InUse max min C D)
  InUse-turned =
      Renumbering-then (Renumbering-back (Pairs-turned (trim-ranked min max r_a) (trim-ranked min max r_b)))
      (Pairs-renumbered (factor-turned min max r_a r_c f) (factor-turned min max r_b r_d g))

  InUse-turned-to : (a : A.Elem) (b : B.Elem) → InUse-turned.to (as_trimmed min max A a, as_trimmed min max B b)
      ≡ (as_trimmed max min C (f.to a), as_trimmed max min D (g.to b))
  unfolding InUse-turned Renumbering-then Renumbering-back Pairs-turned Pairs-renumbered
  InUse-turned-to a b = pair_path (factor-turned_to min max r_a r_c f a) (factor-turned_to min max r_b r_d g b)

  unfoldable pub Product-turned : Renumbering (turned (Product min max A B)) (Product max min C D)
  Product-turned =
      Renumbering-then (grow-turned min max (InUse-ranked min max r_a r_b)) (grow-renumbered max min InUse-turned)

  pub Product-turned-pair : (a : A.Elem) (b : B.Elem)
      → Product-turned.to (as_grown min max (InUse min max A B) (as_trimmed min max A a, as_trimmed min max B b))
      ≡ as_grown max min (InUse max min C D) (as_trimmed max min C (f.to a), as_trimmed max min D (g.to b))
  unfolding Product-turned Renumbering-then
  Product-turned-pair a b =
      ap (grow-renumbered max min InUse-turned).to (grow-turned_inside (InUse-ranked min max r_a r_b) min max _)
      ∙ grow-inside InUse-turned max min _ ∙ ap (as_grown max min (InUse max min C D)) (InUse-turned-to a b)

-- the added minimal element goes to the added maximal one
module _ (max : Bool) {A B C D : Order} (r_a : Ranked A) (r_b : Ranked B) (r_c : Ranked C) (r_d : Ranked D)
    (f : Renumbering (turned A) C) (g : Renumbering (turned B) D) where
  pub Product-turned-min : (Product-turned true max r_a r_b r_c r_d f g).to (added_min max (InUse true max A B))
      ≡ added_max max (InUse max true C D)
  unfolding Product-turned Renumbering-then
  Product-turned-min =
      let h = InUse-turned true max r_a r_b r_c r_d f g in
      ap (grow-renumbered max true h).to (grow-turned_min (InUse-ranked true max r_a r_b) max) ∙ grow-added_max h max

-- and the added maximal element to the added minimal one
module _ (min : Bool) {A B C D : Order} (r_a : Ranked A) (r_b : Ranked B) (r_c : Ranked C) (r_d : Ranked D)
    (f : Renumbering (turned A) C) (g : Renumbering (turned B) D) where
  pub Product-turned-max : (Product-turned min true r_a r_b r_c r_d f g).to (added_max min (InUse min true A B))
      ≡ added_min min (InUse true min C D)
  unfolding Product-turned Renumbering-then
  Product-turned-max =
      let h = InUse-turned min true r_a r_b r_c r_d f g in
      ap (grow-renumbered true min h).to (grow-turned_max (InUse-ranked min true r_a r_b) min) ∙ grow-added_min h min
