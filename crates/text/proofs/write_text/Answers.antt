-- The closed test, then the length, and then there is room for what is written.
use mathlib.Core.Path.{◌≡◌, refl, ap, ◌∙◌}
use Prim.Native.Nat.{ℕ}
use native.Mathlib.Omega.{arith}
use lib.ListN.{length}
use Rattle.listing.specs.declared.Slices.{Slices}
use Rattle.listing.specs.Listing.{held, limits}
use Rattle.listing.specs.Layers.{layers}
use Rattle.listing.proofs.Answers.{no_of}
use Rattle.text_theory.specs.Text.{text_of}
use Rattle.text.proofs.WrittenTexts.{length_fits, write_halt, write_then, text_err, text_ok}
use Rattle.text.proofs.write_text.Goals as goal

-- the length is that of the text of the slices, which the cell has
sized : {c o s : Slices} {n : ℕ} → n ≡ length (text_of (layers (held c))) → c ≡ o → o ≡ s
    → n ≡ length (text_of (layers (held s)))
sized e p q = e ∙ ap (λ (u : Slices). length (text_of (layers (held u)))) (p ∙ q)

pub returns-in_err-closed : goal.returns-in_err-closed
returns-in_err-closed c =
    text_err _ _ c.from_residual.ensures.1 (write_halt limits _ _ _ c.in_err-closed.ensures.value) _

pub returns-in_err-check_length : goal.returns-in_err-check_length
returns-in_err-check_length c =
    let o = c.in_ok-closed.ensures in
    let n = sized c.text_length-n.ensures c.cell-cell.ensures o.same in
    text_err _ _ c.from_residual-in_err-check_length.ensures.1
    (write_then limits _ _ o.value n c.in_err-check_length.ensures) _

pub put_text-requires : goal.put_text-requires
put_text-requires c =
    omega (arith, c.text_length-n.ensures, (length_fits limits _ _ (no_of c.in_ok-check_length.ensures refl)).0)

pub returns : goal.returns
returns c =
    let o = c.in_ok-closed.ensures in
    let n = sized c.text_length-n.ensures c.cell-cell.ensures o.same in
    let e = write_then limits _ _ o.value n c.in_ok-check_length.ensures in
    text_ok e _ _ _ _ n (rw (c.cell-cell.ensures, o.same) at c.put_text.ensures)
