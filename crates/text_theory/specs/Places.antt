-- Where a text goes wrong, said of lines and of any layers that could have been meant: the longest run of good lines
-- within the limits, and then what follows it.
--
-- Begins       a text begins with some bytes
-- NumbersFit   numbers that a text can have
-- GoodLines    a text begins with the first k lines of layers, their numbers are such that a text can have them, and
--              then it goes on with rest
-- Run          the same, and none of these lines passes a limit
-- Whole        no line is missing, and nothing is left
-- BytesLeft    no line is missing, and bytes are left
-- OffKey       the next line does not begin with its key
-- OffForm      the next line begins with its key, but is not one that any layers have there: a bad number, one that is
--              too large, or no newline
-- OffLimit     the next line is good and passes a limit
-- Then         what follows a run, and the number that says so: 0, 43, 40, 41, or 2, 3, 5
-- FirstPlace   n is the number of what follows the longest run; after a shorter one nothing of Then holds. Whether the
--              text is too long, 42, is asked before
-- Readable     layers within the limits, whose numbers a text can have, and whose text is not too long
-- cut_at       the layers up to rank r, with only the first i elements of that rank
use Rattle.std.specs.Prelude.{◌≡◌, ◌⊎◌, cond, List, [], ◌++◌, ℕ, suc, ◌≤◌, ◌<◌, ltb, eqb, length}
use Rattle.order.specs.Lists.{In}
use Rattle.order.specs.Sums.{sum}
use Rattle.listing.specs.Refusals.{wrong_key, bad_line, more_bytes}
use Rattle.listing.specs.Listing.{Limits}
use Rattle.listing.specs.Layers.{Layers, Topped, derived}
use Rattle.listing.specs.Written.{written}
use Rattle.text_theory.specs.Text.{text_width, line_at, line_count, text_to, text_of}
use Rattle.text_theory.specs.Said.{bound_at}

abbrev pub Begins : List ℕ → List ℕ → Type 0
Begins p t = (rest : List ℕ) × (t ≡ p ++ rest)

abbrev pub NumbersFit : List ℕ → Type 0
NumbersFit l = (x : ℕ) → In x l → x < text_width

pub record GoodLines (t : List ℕ) (M : Layers) (k : ℕ) (rest : List ℕ) : Type 0 where
  pub topped : Topped M
  pub there : k ≤ line_count M
  pub text : t ≡ text_to M k ++ rest
  pub fit : (j : ℕ) → j < k → NumbersFit (line_at M j).numbers

pub record Run (m : Limits) (t : List ℕ) (M : Layers) (k : ℕ) (rest : List ℕ) : Type 0 where
  pub good : GoodLines t M k rest
  pub within : (j : ℕ) → j < k → (bound_at m M j).amount ≤ (bound_at m M j).most

module _ (m : Limits) (t : List ℕ) (M : Layers) (k : ℕ) (rest : List ℕ) (n : ℕ) where
  abbrev pub Whole : Type 0
  Whole = (k ≡ line_count M) × (rest ≡ []) × (n ≡ 0)

  abbrev pub BytesLeft : Type 0
  BytesLeft = (k ≡ line_count M) × (¬ (rest ≡ [])) × (n ≡ more_bytes)

  abbrev pub OffKey : Type 0
  OffKey = (k < line_count M) × (¬ Begins (line_at M k).key rest) × (n ≡ wrong_key)

  abbrev pub OffForm : Type 0
  OffForm =
      (k < line_count M) × Begins (line_at M k).key rest
      × ((N : Layers) (left : List ℕ) → ¬ GoodLines t N (suc k) left) × (n ≡ bad_line)

  abbrev pub OffLimit : Type 0
  OffLimit =
      ((left : List ℕ) × GoodLines t M (suc k) left) × ((bound_at m M k).most < (bound_at m M k).amount)
      × (n ≡ (bound_at m M k).no)

  abbrev pub Then : Type 0
  Then = Whole ⊎ (BytesLeft ⊎ (OffKey ⊎ (OffForm ⊎ OffLimit)))

pub record FirstPlace (m : Limits) (t : List ℕ) (n : ℕ) : Type 0 where
  pub meant : Layers
  pub lines : ℕ
  pub rest : List ℕ
  pub run : Run m t meant lines rest
  pub next : Then m t meant lines rest n

pub record Readable (m : Limits) (M : Layers) : Type 0 where
  pub topped : Topped M
  pub ranks : suc M.top ≤ m.ranks
  pub elements : sum M.size (suc M.top) ≤ m.elements
  pub incidences : length (written M (derived M)).inc ≤ m.incidences
  pub fit : (j : ℕ) → j < line_count M → NumbersFit (line_at M j).numbers
  pub short : length (text_of M) ≤ m.text

unfoldable pub cut_at : Layers → ℕ → ℕ → Layers
cut_at M r i = record {
  top = r;
  size = λ q. cond (ltb q r) (M.size q) (cond (eqb q r) i 0);
  under = M.under;
}
