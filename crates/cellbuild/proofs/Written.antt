-- A text that was written: its bytes lie in the slice that was lent for it, and can be taken from there.
-- Assumes nothing.
use Rattle.std.proofs.Common.{◌≡◌, ℕ, ◌≤◌, List, length, take, Result, Ok, sym, arith}
use lib.Seq.{length-take-le}
use Rattle.listing.specs.declared.Refusal.{Refusal}
use Rattle.listing.specs.Listing.{Listing, limits}
use Rattle.listing.specs.Layers.{layers}
use Rattle.text_theory.specs.Text.{text_of}
use Rattle.text.specs.WrittenTexts.{write_test, told_written, TextMade}
use Rattle.text.proofs.WrittenTexts.{text_inside}

module _ (L : Listing) {old new : List ℕ} {r : Result ℕ Refusal} {n : ℕ} (e : r ≡ Ok n)
    (d : TextMade (write_test limits L (length old)) (text_of (layers L)) old new (told_written r)) where
  pub inside : n ≤ length new
  inside = let i = text_inside limits L (rw e at d) in omega (arith, i.0, i.1)

  pub taken : n ≡ length (take n new)
  taken = sym (length-take-le n new inside)
