-- Which numbers a text's own test can answer, and that they tell it from what is asked after it: the room answers 36,
-- and the closed test, of a listing that was read, 10 to 19.
-- Assumes nothing.
use mathlib.Core.Path.{◌≡◌, refl, sym, ap, ◌∙◌}
use mathlib.Core.Logic.{◌≢◌, ◌⊎◌, inl, inr, ⊎_elim, ◌↔◌}
use mathlib.Core.List.{List}
use Prim.Native.Nat.{ℕ, ◌≤◌, ◌<◌}
use native.Mathlib.Decide.{dec_lt}
use native.Mathlib.Omega.{arith}
use lib.ListN.{length}
use Rattle.listing.specs.declared.Answer.{Answer}
use Rattle.listing.specs.Refusals.{over_ranks, over_incidences, not_bounded, not_ascending, output_short, wrong_key}
use Rattle.listing.specs.Refusals.{more_bytes}
use Rattle.listing.specs.Answers.{◌or_else◌}
use Rattle.listing.specs.Listing.{Limits, rank}
use Rattle.listing.specs.Shape.{shape_test}
use Rattle.listing.specs.Layers.{Layers}
use Rattle.listing.proofs.Answers.{or_fine, or_stop}
use Rattle.listing.proofs.Among.{Among, among_or}
use Rattle.listing.proofs.Broken.{zero_or}
use Rattle.listing.proofs.ShapeExact.{shape_exact}
use Rattle.listing_outputs.specs.Output.{room_test}
use Rattle.listing_outputs.proofs.Output.{room_tested}
use Rattle.valid.specs.Tests.{closed}
use Rattle.valid.proofs.TestNumbers.{bounded_numbers, incidence_numbers, ascent_numbers, dyadic_numbers}
use Rattle.text_theory.specs.Said.{listing_in, text_test}
use Rattle.text_theory.specs.Places.{Then}
use Rattle.text_theory.proofs.Forms.{bound_numbers}
use Rattle.text_theory.proofs.TextTest.{text_long}
use Rattle.text_theory.proofs.FirstPlaces.{first_place}
use Rattle.text.specs.Texts.{read_test, check_test}
use Rattle.text.proofs.Read.{text_shaped}

-- ---- a text's own numbers: 0, 2 to 5, 40 to 43

abbrev pub Own : ℕ → Type 0
Own n = (n ≡ 0) ⊎ (((over_ranks ≤ n) × (n ≤ over_incidences)) ⊎ ((wrong_key ≤ n) × (n ≤ more_bytes)))

pub own_between : (n : ℕ) → Own n → n ≢ 0 → (over_ranks ≤ n) × (n ≤ more_bytes)
own_between n (inl z) s = absurd (s z)
own_between n (inr (inl w)) s = omega arith
own_between n (inr (inr w)) s = omega arith

own_apart : (n : ℕ) → Own n → n ≢ output_short
own_apart n (inl z) e = omega arith
own_apart n (inr (inl w)) e = omega arith
own_apart n (inr (inr w)) e = omega arith

module _ (m : Limits) (t : List ℕ) where
  then_own : (M : Layers) (k : ℕ) (rest : List ℕ) (n : ℕ) → Then m t M k rest n → Own n
  then_own M k rest n (inl w) = inl w.2
  then_own M k rest n (inr (inl w)) = inr (inr (omega (arith, w.2)))
  then_own M k rest n (inr (inr (inl w))) = inr (inr (omega (arith, w.2)))
  then_own M k rest n (inr (inr (inr (inl w)))) = inr (inr (omega (arith, w.3)))
  then_own M k rest n (inr (inr (inr (inr w)))) = inr (inl (omega (arith, w.2, bound_numbers m M k)))

  pub text_numbers : Own (text_test m t).no
  text_numbers = go (dec_lt m.text (length t))
    where
      go : Dec (m.text < length t) → Own (text_test m t).no
      go (yes h) = inr (inr (omega (arith, text_long m t h)))
      go (no h) =
          let p = (first_place m t (omega arith) (text_test m t).no).1 refl in
          then_own p.meant p.lines p.rest _ p.next

-- ---- whose a number is

-- one that what comes after cannot answer
or_exact : (x y : Answer) (n : ℕ) → n ≢ 0 → (x.no ≡ 0 → y.no ≢ n) → (x or_else y).no ≡ n ↔ x.no ≡ n
or_exact x y n h far = go (zero_or x.no)
  where
    go : (x.no ≡ 0) ⊎ (x.no ≡ 0 → ⊥) → (x or_else y).no ≡ n ↔ x.no ≡ n
    go (inl z) = rw (or_fine x y z) (λ e. absurd (far z e), λ e. absurd (h (sym e ∙ z)))
    go (inr s) = rw (or_stop x y s) (λ e. e, λ e. e)

-- the room
module _ (m : Limits) (t : List ℕ) (c e i : ℕ) where
  room_far : (n : ℕ) → n ≢ 0 → n ≢ output_short → (room_test (listing_in t) c e i).no ≢ n
  room_far n h k q =
      let w = (room_tested (listing_in t) c e i).numbers (λ z. h (sym q ∙ z)) in
      k (omega arith)

  pub read_exact : (n : ℕ) → n ≢ 0 → n ≢ output_short → (read_test m t c e i).no ≡ n ↔ (text_test m t).no ≡ n
  unfolding read_test
  read_exact n h k = or_exact (text_test m t) _ n h (λ z. room_far n h k)

  -- 0, or 36: nothing in the text is refused
  good_text : ((read_test m t c e i).no ≡ 0) ⊎ ((read_test m t c e i).no ≡ output_short) → (text_test m t).no ≡ 0
  unfolding read_test
  good_text g = go (zero_or (text_test m t).no)
    where
      go : ((text_test m t).no ≡ 0) ⊎ ((text_test m t).no ≡ 0 → ⊥) → (text_test m t).no ≡ 0
      go (inl z) = z
      go (inr s) =
          let q = ap (λ (a : Answer). a.no) (or_stop (text_test m t) (room_test (listing_in t) c e i) s) in
          absurd (⊎_elim (λ z. s (sym q ∙ z)) (λ k. own_apart _ (text_numbers m t) (sym q ∙ k)) g)

  text_good : (text_test m t).no ≡ 0 → ((read_test m t c e i).no ≡ 0) ⊎ ((read_test m t c e i).no ≡ output_short)
  unfolding read_test
  text_good z = rw (or_fine (text_test m t) (room_test (listing_in t) c e i) z) (go (zero_or _))
    where
      go : ((room_test (listing_in t) c e i).no ≡ 0) ⊎ ((room_test (listing_in t) c e i).no ≡ 0 → ⊥)
          → ((room_test (listing_in t) c e i).no ≡ 0) ⊎ ((room_test (listing_in t) c e i).no ≡ output_short)
      go (inl y) = inl y
      go (inr s) = inr (omega (arith, (room_tested (listing_in t) c e i).numbers s))

  pub read_good : (((read_test m t c e i).no ≡ 0) ⊎ ((read_test m t c e i).no ≡ output_short)) ↔ (text_test m t).no ≡ 0
  read_good = (good_text, text_good)

-- the closed test: what was read has a good shape
among_wider : {low high : ℕ} {a : Answer} → not_bounded ≤ low → high ≤ not_ascending → Among low high a
    → Among not_bounded not_ascending a
among_wider l h p = record { numbers = λ s. let n = p.numbers s in (omega arith, omega arith) }

module _ (m : Limits) (t : List ℕ) where
  closed_numbers : (text_test m t).no ≡ 0 → Among not_bounded not_ascending (closed m (listing_in t))
  unfolding closed
  closed_numbers z =
      let L = listing_in t in
      rw (or_fine (shape_test m L) _ ((shape_exact m L).1 (text_shaped m t z)))
      (among_or (among_wider (omega arith) (omega arith) (bounded_numbers L))
      (among_or (among_wider (omega arith) (omega arith) (incidence_numbers L))
      (among_or (among_wider (omega arith) (omega arith) (ascent_numbers L))
      (among_wider (omega arith) (omega arith) (dyadic_numbers L (rank L))))))

  closed_far : (n : ℕ) → n ≢ 0 → (n < not_bounded) ⊎ (not_ascending < n) → (text_test m t).no ≡ 0
      → (closed m (listing_in t)).no ≢ n
  closed_far n h k z q = far k ((closed_numbers z).numbers (λ y. h (sym q ∙ y)))
    where
      far : (n < not_bounded) ⊎ (not_ascending < n)
          → ¬ ((not_bounded ≤ (closed m (listing_in t)).no) × ((closed m (listing_in t)).no ≤ not_ascending))
      far (inl l) b = omega arith
      far (inr l) b = omega arith

  pub check_exact : (n : ℕ) → n ≢ 0 → (n < not_bounded) ⊎ (not_ascending < n)
      → (check_test m t).no ≡ n ↔ (text_test m t).no ≡ n
  unfolding check_test
  check_exact n h k = or_exact (text_test m t) (closed m (listing_in t)) n h (closed_far n h k)
