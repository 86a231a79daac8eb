-- Coordinates by their codes.
--
-- metres_for      the coordinate of a code: up to 4000 so many metres less 2000, then NaN, both infinities, a half, -0.0
-- MetresStored   the coordinates of codes stored from the start of a slice on, as far as there is room: what it held
--                and holds, where they end
-- Lendable       a slice has so many numbers to lend from its start; the second part follows, and lending looks for
--                both
use Rattle.std.specs.Prelude.{◌≡◌, ℕ, ◌≤◌, min, true, false, cond, List, map, length, take, pos, negsuc, ◌-ℤ◌, ◌==◌, nat_le, Float}
use Rattle.std.proofs.lemmas.List.Edits.{sets}
use Rattle.std.specs.Float.{nan, inf, fin, binary64}
use Rattle.std.specs.Float.Ieee.{of_int}

unfoldable pub metres_for : ℕ → Float
metres_for code =
    cond (nat_le code 4000) (of_int binary64 (pos code -ℤ pos 2000))
    (cond (code == 4001) nan
    (cond (code == 4002) (inf false)
    (cond (code == 4003) (inf true)
    (cond (code == 4004) (fin false 1 (negsuc 0))
    (fin true 0 (pos 0))))))

pub record MetresStored (codes : List ℕ) (old held : List Float) (r : ℕ) : Type 0 where
  pub up_to : r ≡ min (length codes) (length old)
  pub holds : held ≡ sets old 0 (map metres_for codes)

abbrev pub Lendable : ℕ → List Float → Type 0
Lendable n xs = (n ≤ length xs) × (n ≡ length (take n xs))
