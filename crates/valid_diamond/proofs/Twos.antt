-- Exactly two numbers: of a list that holds each number once, and the other of the two.
-- Assumes nothing.
use mathlib.Core.Path.{◌≡◌, refl, sym, ◌∙◌}
use mathlib.Core.Logic.{◌↔◌, ◌⊎◌, inl, inr, ⊎_swap}
use mathlib.Core.List.{List, [], ◌∷◌}
use Prim.Native.Nat.{ℕ}
use native.Mathlib.Omega.{arith}
use lib.ListN.{length}
use Rattle.order.specs.Lists.{In}
use Rattle.order.specs.Diamond.{OneOther}
use Rattle.order.proofs.Once.{Once, once_tail, once_head}

-- of three numbers that are one of two, two are equal
pigeons : (p q a b c : ℕ) → (a ≡ p) ⊎ (a ≡ q) → (b ≡ p) ⊎ (b ≡ q) → (c ≡ p) ⊎ (c ≡ q)
    → (a ≡ b) ⊎ ((a ≡ c) ⊎ (b ≡ c))
pigeons p q a b c (inl x) (inl y) z = inl (x ∙ sym y)
pigeons p q a b c (inl x) (inr y) (inl z) = inr (inl (x ∙ sym z))
pigeons p q a b c (inl x) (inr y) (inr z) = inr (inr (y ∙ sym z))
pigeons p q a b c (inr x) (inl y) (inl z) = inr (inr (y ∙ sym z))
pigeons p q a b c (inr x) (inl y) (inr z) = inr (inl (x ∙ sym z))
pigeons p q a b c (inr x) (inr y) z = inl (x ∙ sym y)

two_of : (l : List ℕ) → Once l → length l ≡ 2 → (y : ℕ) → In y l → OneOther (λ x. In x l) y
unfolding In
two_of [] h e y m = absurd m
two_of (a ∷ []) h e y m = absurd (omega arith)
two_of (a ∷ b ∷ []) h e y m = go m
  where
    apart : a ≡ b → ⊥
    apart q = once_head a (b ∷ []) h (inl q)

    either : (w : ℕ) → In w (a ∷ b ∷ []) → (w ≡ a) ⊎ (w ≡ b)
    either w (inl q) = inl q
    either w (inr (inl q)) = inr q
    either w (inr (inr n)) = absurd n

    go : In y (a ∷ b ∷ []) → OneOther (λ x. In x (a ∷ b ∷ [])) y
    go (inl p) = record {
      other = b;
      differs = λ q. apart (sym (q ∙ p));
      holds = inr (inl refl);
      only = λ w k. rw p (either w k);
    }
    go (inr (inl p)) = record {
      other = a;
      differs = λ q. apart (q ∙ p);
      holds = inl refl;
      only = λ w k. rw p (⊎_swap (either w k));
    }
    go (inr (inr n)) = absurd n
two_of (a ∷ b ∷ c ∷ l) h e y m = absurd (omega arith)

of_two : (l : List ℕ) → Once l → (y : ℕ) → In y l → OneOther (λ x. In x l) y → length l ≡ 2
unfolding In
of_two [] h y m o = absurd m
of_two (a ∷ []) h y m o = absurd (go m o.holds)
  where
    go : (y ≡ a) ⊎ ⊥ → (o.other ≡ a) ⊎ ⊥ → ⊥
    go (inl p) (inl q) = o.differs (q ∙ sym p)
    go (inl p) (inr n) = n
    go (inr n) q = n
of_two (a ∷ b ∷ []) h y m o = refl
of_two (a ∷ b ∷ c ∷ l) h y m o =
    let p = o.only a (inl refl) in
    let q = o.only b (inr (inl refl)) in
    absurd (go (pigeons _ _ a b c p q (o.only c (inr (inr (inl refl))))))
  where
    go : (a ≡ b) ⊎ ((a ≡ c) ⊎ (b ≡ c)) → ⊥
    go (inl e) = once_head a (b ∷ c ∷ l) h (inl e)
    go (inr (inl e)) = once_head a (b ∷ c ∷ l) h (inr (inl e))
    go (inr (inr e)) = once_head b (c ∷ l) (once_tail a (b ∷ c ∷ l) h) (inl e)

-- A list that holds each number once has length two exactly if beside one of its numbers exactly one other stands
-- in it.
pub two_exact : (l : List ℕ) → Once l → (y : ℕ) → In y l → length l ≡ 2 ↔ OneOther (λ x. In x l) y
two_exact l h y m = (λ e. two_of l h e y m, of_two l h y m)
