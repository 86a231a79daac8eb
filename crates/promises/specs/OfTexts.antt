-- What is promised of reading a text, of checking one, and of writing one. A text is the one that some layers have,
-- text_of; the listing that is read is what these layers are written as, with derived sups. Where a text goes wrong is
-- said by FirstPlace.
--
-- TextGood       the number of a reading in whose text nothing is refused: 0, or 36 where only the room is too small
-- text_of_cell   the text of a listing
-- TextsTaken     any slices are taken
-- TextsRefuse    which refusal comes exactly when, what it carries, and that nothing is then written
-- TextsAnswer    what is read, what is checked, and what is written
-- TextsOnce      no second answer fits
use Rattle.std.specs.Prelude.{◌≡◌, ◌≢◌, ◌⊎◌, ◌↔◌, List, ℕ, suc, ◌≤◌, ◌<◌, length, take}
use Rattle.order.specs.Lists.{over}
use Rattle.listing.specs.Refusals.{not_bounded, not_ascending, output_short, long_text}
use Rattle.listing.specs.Answers.{plain}
use Rattle.listing.specs.Listing.{Listing, limits}
use Rattle.listing.specs.Layers.{Layers, Topped, layers, derived}
use Rattle.listing.specs.Written.{written}
use Rattle.listing.specs.Rules.{FirstBroken}
use Rattle.listing_outputs.specs.Output.{Fits, prefix, Untouched, Wrote}
use Rattle.valid.specs.Closed.{Closed}
use Rattle.valid.specs.Derived.{Derived}
use Rattle.text_theory.specs.Text.{text_of}
use Rattle.text_theory.specs.Said.{bound_of}
use Rattle.text_theory.specs.Places.{FirstPlace, Readable, cut_at}
use Rattle.text.specs.Rules.{read_rules, check_rules, write_rules}
use Rattle.flumedrac.proofs.fd_closed.Reads as closed
use Rattle.flumedrac.proofs.fd_read_text.Reads as read_text
use Rattle.flumedrac.proofs.fd_check_text.Reads as check_text
use Rattle.flumedrac.proofs.fd_write_text.Reads as write_text
use Rattle.promises.specs.Entries.{Takes, Says, SaysOfTwo, SaysOfThree, OneAnswer, OneOutcome, lent}
use Rattle.promises.specs.Entries.{lent_text, read_into, written_into}
use Rattle.promises.specs.OfProducts.{Carries}

abbrev pub TextGood : ℕ → Type 0
TextGood n = (n ≡ 0) ⊎ (n ≡ output_short)

abbrev pub text_of_cell : Listing → List ℕ
text_of_cell L = text_of (layers L)

pub record TextsTaken : Type 0 where
  -- reading, checking and writing
  pub texts : Takes read_text.Asked × Takes check_text.Asked × Takes write_text.Asked

pub record TextsRefuse : Type 0 where
  -- read_text refuses with 42, then by the text's lines, then with 36
  pub read_text_refuses : Says read_text.Post (λ a r x. FirstBroken (read_rules limits (lent_text a)
      (length (read_into a).counts) (length (read_into a).ends) (length (read_into a).inc)) r.answer.no)
  -- check_text refuses with 42, then by the text's lines, then as closed does
  pub check_text_refuses : Says check_text.Post (λ a r x. FirstBroken (check_rules limits (lent_text a)) r)
  -- read_text answers 42 exactly if the text is too long
  pub long_text_told : Says read_text.Post (λ a r x. r.answer.no ≡ long_text ↔ (limits.text < length (lent_text a)))
  -- so does check_text
  pub long_text_checked : Says check_text.Post (λ a r x. r ≡ long_text ↔ (limits.text < length (lent_text a)))
  -- of a text that is not too long read_text answers the number of the first place that is wrong, and 0 or 36 exactly
  -- if there is none
  pub first_place : Says read_text.Post (λ a r x. length (lent_text a) ≤ limits.text
      → ((n : ℕ) → n ≢ 0 → n ≢ output_short → r.answer.no ≡ n ↔ FirstPlace limits (lent_text a) n)
      × (TextGood r.answer.no ↔ FirstPlace limits (lent_text a) 0))
  -- so does check_text, but for the numbers from 10 to 19, which are those of closed
  pub first_place_checked : Says check_text.Post (λ a r x. length (lent_text a) ≤ limits.text
      → (n : ℕ) → n ≢ 0 → (n < not_bounded) ⊎ (not_ascending < n) → r ≡ n ↔ FirstPlace limits (lent_text a) n)
  -- the refusals of read_text carry nothing
  pub read_text_plain : Carries read_text.Post
  -- at a refusal no number of the three slices has changed, and the lengths answered are 0
  pub read_text_untouched : Says read_text.Post
      (λ a r x. r.answer.no ≢ 0 → Untouched (read_into a) (read_into x) r)
  -- write_text refuses as closed does, then with 44, then with 42
  pub write_text_refuses : Says write_text.Post
      (λ a r x. FirstBroken (write_rules limits (lent a) (length (written_into a))) r.answer.no)
  -- where closed refuses, it answers what closed does, with all fields
  pub write_text_as_closed : SaysOfTwo write_text.Post closed.Post
      (λ a r x c s y. lent c ≡ lent a → s.no ≢ 0 → r.answer ≡ s)
  -- else its refusal carries nothing
  pub write_text_plain : Says write_text.Post
      (λ a r x. Closed limits (lent a) → r.answer ≡ plain r.answer.no)
  -- at a refusal no byte of the slice has changed, and the length answered is 0
  pub write_text_untouched : Says write_text.Post
      (λ a r x. r.answer.no ≢ 0 → (written_into x ≡ written_into a) × (r.length ≡ 0))

pub record TextsAnswer : Type 0 where
  -- nothing in a text is refused exactly if it is the text of some layers within the limits
  pub reads_exactly : Says read_text.Post
      (λ a r x. TextGood r.answer.no ↔ ((M : Layers) × Readable limits M × (text_of M ≡ lent_text a)))
  -- what is read are the layers that have this text, with derived sups; nothing else is changed
  pub read_wrote : Says read_text.Post (λ a r x. r.answer.no ≡ 0 → (M : Layers) → Topped M → text_of M ≡ lent_text a
      → Wrote (written M (derived M)) (read_into a) (read_into x) r)
  -- the text of what was read is the text
  pub text_back : Says read_text.Post
      (λ a r x. r.answer.no ≡ 0 → text_of (layers (prefix (read_into x) r)) ≡ lent_text a)
  -- two layers that have one text are written alike
  pub one_reading : (M N : Layers) → Topped M → Topped N → text_of M ≡ text_of N
      → written M (derived M) ≡ written N (derived N)
  -- 5 is decided at the line of element i of rank r by the incidences of the layers that end there: the subs of all
  -- elements so far, and a sup for each of those that exist
  pub bound_incidences : (M : Layers) (r i : ℕ) → (bound_of limits M (r, suc i)).amount
      ≡ length (written (cut_at M r (suc i)) (derived (cut_at M r (suc i)))).inc
  -- check_text answers 0 exactly if the text is that of layers within the limits whose listing is closed
  pub check_text_by_the_book : Says check_text.Post (λ a r x. r ≡ 0 ↔ ((M : Layers) × Readable limits M
      × (text_of M ≡ lent_text a) × Closed limits (written M (derived M))))
  -- check_text answers the number that refuses the text, as read_text does
  pub check_text_first : SaysOfTwo check_text.Post read_text.Post (λ a r x c s y. lent_text c ≡ lent_text a
      → ¬ TextGood s.answer.no → r ≡ s.answer.no)
  -- else that of closed, of the listing that was read
  pub check_text_then : SaysOfThree check_text.Post read_text.Post closed.Post
      (λ a r x c s y d u z. lent_text c ≡ lent_text a → s.answer.no ≡ 0 → lent d ≡ prefix (read_into y) s → r ≡ u.no)
  -- write_text answers 0 exactly if the listing is closed and its text fits into the slice and the limit
  pub writes_exactly : Says write_text.Post (λ a r x. r.answer.no ≡ 0 ↔ (Closed limits (lent a)
      × (length (text_of_cell (lent a)) ≤ length (written_into a)) × (length (text_of_cell (lent a)) ≤ limits.text)))
  -- it then has written the text of the listing, whose length it answers; past that nothing is changed
  pub write_wrote : Says write_text.Post (λ a r x. r.answer.no ≡ 0
      → (r.length ≡ length (text_of_cell (lent a))) × (written_into x ≡ over (text_of_cell (lent a)) (written_into a)))
  -- reading what was written gives the same three slices, where they have room
  pub write_then_read : SaysOfTwo write_text.Post read_text.Post (λ a r x c s y. r.answer.no ≡ 0
      → lent_text c ≡ take r.length (written_into x)
      → Fits (lent a) (length (read_into c).counts) (length (read_into c).ends) (length (read_into c).inc)
      → (s.answer.no ≡ 0) × (prefix (read_into y) s ≡ lent a))
  -- writing what was read gives the same bytes, where it is closed and the slice has room
  pub read_then_write : SaysOfTwo read_text.Post write_text.Post (λ a r x c s y. r.answer.no ≡ 0
      → lent c ≡ prefix (read_into x) r → Closed limits (lent c) → length (lent_text a) ≤ length (written_into c)
      → (s.answer.no ≡ 0) × (take s.length (written_into y) ≡ lent_text a))
  -- in a closed listing the sups are those that follow from the subs: so no text need hold them
  pub sups_follow : (L : Listing) → Closed limits L → Derived L

pub record TextsOnce : Type 0 where
  pub one_read_text : OneOutcome read_text.Post read_into
  pub one_check_text : OneAnswer check_text.Post
  pub one_write_text : OneOutcome write_text.Post written_into
