-- Sums, and the places that they give: parts of the sizes f 0, f 1, .. stand one after another, and each number below
-- the sum of the sizes falls into one part.
--
-- choose     the first of two where something holds, else the second
-- sum        f 0 + .. + f (n - 1)
-- sum_over   f of each number of a list, added up
-- add_up     f of each thing of a list, added up, where f gives integers
-- part_at    the part, among n, that a number falls into, and its place there
-- Placed     what `part_at` finds: the part is there, the place lies in it, and both lead back to the number
use Rattle.std.specs.Prelude.{◌≡◌, List, [], ◌∷◌, ℕ, zero, suc, ◌+◌, ◌-◌, ◌<◌, ℤ, pos, ◌+ℤ◌}
use Rattle.std.proofs.Math.Decide.{dec_lt}

unfoldable pub choose {ℓ} : {P : Type 0} {A : Type ℓ} → Dec P → A → A → A
choose (yes p) a b = a
choose (no p) a b = b

unfoldable pub sum : (ℕ → ℕ) → ℕ → ℕ
sum f zero = zero
sum f (suc n) = sum f n + f n

unfoldable pub sum_over : (ℕ → ℕ) → List ℕ → ℕ
sum_over f [] = zero
sum_over f (x ∷ l) = f x + sum_over f l

unfoldable pub add_up : {A : Type 0} → (A → ℤ) → List A → ℤ
add_up f [] = pos 0
add_up f (x ∷ l) = f x +ℤ add_up f l

unfoldable pub part_at : (ℕ → ℕ) → ℕ → ℕ → ℕ × ℕ
part_at f zero k = (zero, k)
part_at f (suc n) k = choose (dec_lt k (sum f n)) (part_at f n k) (n, k - sum f n)

abbrev pub Placed : (ℕ → ℕ) → ℕ → ℕ → ℕ × ℕ → Type 0
Placed f n k p = (p.0 < n) × (p.1 < f p.0) × (k ≡ sum f p.0 + p.1)
