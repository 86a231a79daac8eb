-- The refusals of a text, and of writing one, in their order. Which line of a text is the first that is wrong, and so
-- which number from 2 to 43 comes, says FirstPlace of text_theory.
--
-- text_rules    42; then that the text is that of some layers within the limits
-- read_rules    the same, and then 36, for slices of the lengths c, e and i
-- check_rules   the text's, and then those of the closed test, of the listing that it says
-- write_rules   of a listing to be written: those of the closed test, then 44 and 42, for a slice of a length
use Rattle.std.specs.Prelude.{◌≡◌, List, [], ◌∷◌, ◌++◌, ℕ, ◌≤◌, length}
use Rattle.listing.specs.Refusals.{over_ranks, long_text, more_bytes, bytes_short, output_short}
use Rattle.listing.specs.Listing.{Listing, Limits}
use Rattle.listing.specs.Layers.{Layers, layers}
use Rattle.listing.specs.Rules.{Rule, rule, rules}
use Rattle.listing_outputs.specs.Output.{Fits}
use Rattle.valid.specs.Rules.{closed_rules}
use Rattle.text_theory.specs.Text.{text_of}
use Rattle.text_theory.specs.Said.{listing_in}
use Rattle.text_theory.specs.Places.{Readable}

module _ (m : Limits) (t : List ℕ) where
  abbrev pub text_rules : List Rule
  text_rules =
      rule long_text (length t ≤ m.text) ∷
      rules over_ranks more_bytes ((M : Layers) × Readable m M × (text_of M ≡ t)) ∷ []

  abbrev pub read_rules : ℕ → ℕ → ℕ → List Rule
  read_rules c e i = text_rules ++ rule output_short (Fits (listing_in t) c e i) ∷ []

  abbrev pub check_rules : List Rule
  check_rules = text_rules ++ closed_rules m (listing_in t)

abbrev pub write_rules : Limits → Listing → ℕ → List Rule
write_rules m L room =
    let n = length (text_of (layers L)) in
    closed_rules m L ++ rule bytes_short (n ≤ room) ∷ rule long_text (n ≤ m.text) ∷ []
