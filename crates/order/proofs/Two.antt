-- The two things with a property: one of them and its only other; and the same two of a property that says the same.
-- Assumes nothing.
use mathlib.Core.Path.{◌≡◌, sym, ◌∙◌}
use mathlib.Core.Logic.{inl, inr, ⊎_elim}
use Rattle.order.specs.Diamond.{OneOther, TheTwo}

pub TheTwo-of : {E : Type 0} (P : E → Type 0) (x y : E) → P x → (o : OneOther P x) → y ≡ o.other → TheTwo P x y
TheTwo-of P x y p o e = record {
  first = p;
  second = rw e o.holds;
  differ = rw e o.differs;
  only = λ w q. ⊎_elim inl (λ z. inr (z ∙ sym e)) (o.only w q);
}

pub TheTwo-same : {E : Type 0} (P Q : E → Type 0) {x y : E} → ((w : E) → P w → Q w) → ((w : E) → Q w → P w)
    → TheTwo P x y → TheTwo Q x y
TheTwo-same P Q {x} {y} to from t = record {
  first = to x t.first;
  second = to y t.second;
  differ = t.differ;
  only = λ w q. t.only w (from w q);
}
