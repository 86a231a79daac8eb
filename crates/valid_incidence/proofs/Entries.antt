-- Test 2 piece by piece: the answers of an entry, of a list along its way, and of an element.
-- Assumes nothing.
use mathlib.Core.Path.{◌≡◌, refl}
use mathlib.Core.Bool.{true, false}
use mathlib.Core.List.{List}
use Prim.Native.Nat.{ℕ, ◌≤◌, ◌<◌}
use native.Mathlib.Omega.{arith}
use borrow.Author.Tests.{lt-ltb, le-ltb, eq-eqb, ne_eqb}
use lib.ListN.{length}
use Rattle.order.specs.Lists.{has}
use Rattle.order.proofs.Tests.{and_off}
use Rattle.listing.specs.declared.Answer.{Answer}
use Rattle.listing.specs.Answers.{fine, refusal}
use Rattle.listing.specs.Listing.{Listing, subs, sups}
use Rattle.listing.specs.Told.{bare_no, not_back_no, missing_no}
use Rattle.listing.proofs.Answers.{or_stop, or_fine}
use Rattle.listing.proofs.Told.{bare_some}
use Rattle.valid_incidence.specs.declared.incidence.Way.{Way}
use Rattle.valid_incidence.specs.Ways.{down, up, back, entry_test, along_test, list_test}

module _ (ends inc : List ℕ) (w : Way) (r i : ℕ) where
  -- ---- an entry

  module _ (x : ℕ) where
    pub entry_fine : x < w.size → has (back ends inc w x) i ≡ true → entry_test ends inc w r i x ≡ fine
    unfolding entry_test
    entry_fine h k = rw (lt-ltb _ _ h, k)

    pub entry_oneway : x < w.size → has (back ends inc w x) i ≡ false
        → entry_test ends inc w r i x ≡ refusal (not_back_no w.side) r i x 0
    unfolding entry_test
    entry_oneway h k = rw (lt-ltb _ _ h, k)

    pub entry_missing : w.size ≤ x → entry_test ends inc w r i x ≡ refusal (missing_no w.side) r i x 0
    unfolding entry_test
    entry_missing h = rw (le-ltb _ _ h)

    pub ruleset entry = (entry_fine, entry_oneway, entry_missing)

  -- ---- a list along its way

  module _ (list : List ℕ) where
    pub list_none : w.asked ≡ true → length list ≡ 0
        → list_test ends inc w r i list ≡ refusal (bare_no w.side) r i 0 0
    unfolding list_test
    list_none a e =
        rw (a, eq-eqb _ 0 e) (or_stop (refusal (bare_no w.side) r i 0 0) _ (λ z. omega (arith, bare_some w.side)))

    pub list_unasked : w.asked ≡ false → list_test ends inc w r i list ≡ along_test ends inc w r i list
    unfolding list_test
    list_unasked e = rw e (or_fine fine _ refl)

    pub list_some : (length list ≡ 0 → ⊥) → list_test ends inc w r i list ≡ along_test ends inc w r i list
    unfolding list_test
    list_some h = rw (and_off w.asked (ne_eqb _ 0 h)) (or_fine fine _ refl)

    -- the same test, whichever way the way and the list are told
    pub list_same : {v : Way} {l : List ℕ} → v ≡ w → l ≡ list
        → list_test ends inc v r i l ≡ list_test ends inc w r i list
    list_same e d = λ j. list_test ends inc (e j) r i (d j)

    pub ruleset lists = (list_none, list_unasked, list_some)

-- ---- an element: its subs along the way down, then its sups along the way up

module _ (L : Listing) (r i : ℕ) where
  abbrev pub lower : Answer
  lower = list_test L.ends L.inc (down L r) r i (subs L r i)

  abbrev pub upper : Answer
  upper = list_test L.ends L.inc (up L r) r i (sups L r i)
