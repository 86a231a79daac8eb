-- Parts of a text behind one another: a key, numbers and a newline are a line; lists of bytes, one after another, are
-- the lines of elements, or of ranks. How long they are, and as they are written.
-- Assumes nothing.
use mathlib.Core.Path.{◌≡◌, sym}
use mathlib.Core.List.{List, [], ◌∷◌, ◌++◌}
use Prim.Native.Nat.{ℕ, ◌+◌, ◌≤◌, ◌<◌}
use native.Mathlib.Omega.{arith}
use lib.ListN.{length, set, length-append}
use Rattle.listing.specs.Written.{joined}
use Rattle.listing.proofs.Written.{joined_next, joined_longer, joined_le}
use Rattle.text_theory.specs.Text.{newline, commas, line, line_bytes}
use Rattle.text_writing.specs.Writing.{PutAt}
use Rattle.text_writing.proofs.Putting.{put_none, put_byte, put_then, put_as}

-- ---- a line

module _ (key numbers : List ℕ) where
  pub line_length : length (line_bytes (line key numbers)) ≡ length key + length (commas numbers) + 1
  unfolding line_bytes
  line_length =
      omega (
        arith,
        length-append key (commas numbers ++ (newline ∷ [])),
        length-append (commas numbers) (newline ∷ []),
      )

  pub line_put : (at : ℕ) (d d' d'' : List ℕ) (p q : ℕ) → PutAt key at d d' p → PutAt (commas numbers) p d' d'' q
      → q < length d'' → PutAt (line_bytes (line key numbers)) at d (set d'' q newline) (q + 1)
  unfolding line_bytes
  line_put at d d' d'' p q a b h =
      put_then _ _ at d d' _ p _ a (put_then _ _ p d' d'' _ q _ b (put_byte newline q d'' h))

-- ---- lists of bytes, one after another

module _ (f : ℕ → List ℕ) where
  pub parts_none : (at : ℕ) (d : List ℕ) → PutAt (joined f 0) at d d at
  unfolding joined
  parts_none at d = put_none at d

  module _ (at : ℕ) (d : List ℕ) (k : ℕ) (d' : List ℕ) (p : ℕ) (a : PutAt (joined f k) at d d' p) where
    -- there is room for the next, as there is for n
    pub parts_room : (n : ℕ) → k < n → at + length (joined f n) ≤ length d → p + length (f k) ≤ length d'
    parts_room n h room =
        let w = joined_le f (k + 1) n (omega arith) in
        omega (arith, room, w, joined_longer f k, a.next, a.laid.same_length)

    pub parts_next : (d'' : List ℕ) (q : ℕ) → PutAt (f k) p d' d'' q → PutAt (joined f (k + 1)) at d d'' q
    parts_next d'' q b = put_as (sym (joined_next f k)) (put_then _ _ at d d' d'' p q a b)

-- how long a line is, and as it is written
pub ruleset line_parts = (line_length, line_put)
