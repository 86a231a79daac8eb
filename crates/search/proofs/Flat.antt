-- Flags written one after another: how many numbers that makes, and each stands in its row.
-- Assumes nothing.
use mathlib.Core.Path.{◌≡◌, refl, sym, ◌∙◌}
use mathlib.Core.List.Memᴰ
use mathlib.Core.List.{List, [], ◌∷◌, ◌++◌, append_assoc}
use Prim.Native.Nat.{ℕ, zero, suc, ◌+◌, ◌*◌, ◌<◌}
use native.Mathlib.Nat.{suc-mul, zero-mul}
use native.Mathlib.Omega.{arith}
use lib.ListN.{length, get_or, length-append}
use lib.Seq.{take_at, drop-append-add}
use Rattle.search_index.specs.Rows.{row_of, flatten}
use Rattle.search_walk.proofs.Neighbours.{All}

module _ (w : ℕ) where
  -- all have w numbers
  abbrev pub Wide : List (List ℕ) → Type 0
  Wide l = All (λ f. length f ≡ w) l

  pub flat_length : (l : List (List ℕ)) → Wide l → length (flatten l) ≡ length l * w
  unfolding flatten
  flat_length [] h = sym (zero-mul w)
  flat_length (f ∷ l) h =
      length-append f (flatten l)
      ∙ omega (arith, h f (Memᴰ.head refl), flat_length l (λ g m. h g (Memᴰ.tail m)), suc-mul (length l) w)

  pub flat_row : (l : List (List ℕ)) (rest : List ℕ) → Wide l → (k : ℕ) → k < length l
      → row_of w (flatten l ++ rest) k ≡ get_or l k []
  unfolding flatten row_of
  flat_row [] rest h k i = absurd (omega arith)
  flat_row (f ∷ l) rest h zero i =
      rw (zero-mul w, append_assoc f (flatten l) rest) (take_at f (flatten l ++ rest) w (h f (Memᴰ.head refl)))
  flat_row (f ∷ l) rest h (suc k) i =
      let e : suc k * w ≡ length f + k * w = omega (arith, suc-mul k w, h f (Memᴰ.head refl)) in
      rw (e, append_assoc f (flatten l) rest, drop-append-add f (flatten l ++ rest) (k * w))
      (flat_row l rest (λ g m. h g (Memᴰ.tail m)) k (omega arith))
