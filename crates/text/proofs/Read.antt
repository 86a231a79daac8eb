-- What reading a text answers, put together from the text's own test and from the room; and that what a good text says
-- has a good shape, so that slices as long as the limits have room for it.
-- Assumes nothing.
use mathlib.Core.Path.{◌≡◌, refl, sym, ap, ◌∙◌}
use mathlib.Core.List.{List}
use Prim.Native.Nat.{ℕ, ◌*◌, ◌/◌, ◌≤◌}
use native.Mathlib.Omega.{arith}
use lib.ListN.{length}
use Rattle.order.proofs.Over.{over_length}
use Rattle.listing.specs.declared.Answer.{Answer}
use Rattle.listing.specs.declared.Built.{Built}
use Rattle.listing.specs.declared.Refusal.{Refusal}
use Rattle.listing.specs.Answers.{fine}
use Rattle.listing.specs.Told.{answer_of}
use Rattle.listing.proofs.Told.{then_ok, then_halt}
use Rattle.listing.specs.Listing.{Listing, Limits, limits}
use Rattle.listing.specs.Shape.{Shaped}
use Rattle.listing.specs.Layers.{derived}
use Rattle.listing.proofs.Answers.{or_fine, or_stop, or_no, no_or, no_of, stops}
use Rattle.listing.proofs.Written.{written_counts_length, written_ends_length, written_inc_length, written_shaped}
use Rattle.listing_outputs.specs.declared.outputs.Room.{Room}
use Rattle.listing_outputs.specs.Output.{Fits, need_of, short_test, room_test, Made, prefix}
use Rattle.listing_outputs.proofs.Output.{room_tested, room_fits, made_answer, made_wrote, made_prefix}
use Rattle.valid.specs.Tests.{closed}
use Rattle.text_theory.specs.Said.{said, listing_in, text_test}
use Rattle.text_theory.proofs.Accepted.{reads_exactly, read_is}
use Rattle.text_theory.proofs.Spots.{said_topped}
use Rattle.text_sizes.specs.Measure.{SizesRead}
use Rattle.text_building.specs.Building.{Source}
use Rattle.text.specs.Texts.{read_test, check_test}

-- ---- the order of the refusals

module _ (t : List ℕ) (c e i : ℕ) where
  abbrev tested : Answer
  tested = read_test limits t c e i

  pub read_halt : (d : Refusal) → answer_of d ≡ text_test limits t → answer_of d ≡ tested
  unfolding read_test
  read_halt d f = then_halt (room_test (listing_in t) c e i) d f

  module _ {need : Room} (n : need ≡ need_of (listing_in t)) where
    pub read_then : fine ≡ text_test limits t → {a : Answer}
        → a ≡ short_test need (record { counts = c; ends = e; inc = i }) → a ≡ tested
    unfolding read_test
    read_then f {a} h = then_ok (room_test (listing_in t) c e i) f a (rw n at h)

    pub read_fits : fine ≡ short_test need (record { counts = c; ends = e; inc = i }) → Fits (listing_in t) c e i
    read_fits f = room_fits (listing_in t) c e i (no_of (rw n at f) refl)

-- ---- shape

pub text_shaped : (m : Limits) (t : List ℕ) → (text_test m t).no ≡ 0 → Shaped m (listing_in t)
text_shaped m t z =
    let M = ((reads_exactly m t).0 z).0 in
    let R = ((reads_exactly m t).0 z).1 in
    let e = ((reads_exactly m t).0 z).2 in
    let i = written_inc_length M (derived M) in
    rw (← read_is M t e R.topped)
    (written_shaped M (derived M) R.topped m R.ranks R.elements (rw (← i) R.incidences))

-- what was noted of a good text is what its listing is written from
pub text_source : {t : List ℕ} {up counts many subs : List ℕ} {w : Room} → SizesRead limits t up counts many subs w
    → {c e i : ℕ} → Fits (listing_in t) c e i
    → Source (said t) counts many subs up w.counts (w.ends / 2) c e i
text_source {t} r f =
    let k = ap (λ (n : Room). n.counts) r.need in
    let n = ap (λ (n : Room). n.ends) r.need in
    record {
      topped = said_topped t;
      shaped = r.shaped;
      room = f;
      counted = r.counted;
      notes = r.noted;
      ranks_are = k ∙ written_counts_length (said t) (derived (said t));
      elements_are = omega (arith, n, written_ends_length (said t) (derived (said t)));
    }

-- slices as long as the limits have room
pub all_fit : (t : List ℕ) → (text_test limits t).no ≡ 0
    → Fits (listing_in t) limits.ranks (2 * limits.elements) limits.incidences
all_fit t z =
    let s = text_shaped limits t z in
    (s.few_ranks, omega (arith, s.two_ends_each, s.few_elements), s.few_incidences)

-- ---- the number of a text, read into slices as long as the limits

pub record AsLong (old : Listing) : Type 0 where
  pub counts : length old.counts ≡ limits.ranks
  pub ends : length old.ends ≡ 2 * limits.elements
  pub inc : length old.inc ≡ limits.incidences

module _ (t : List ℕ) {old new : Listing} {r : Built} (l : AsLong old)
    (d : Made (read_test limits t (length old.counts) (length old.ends) (length old.inc)) (listing_in t) old
    new r)
  where
    -- it is not the room that refuses
    text_own : (r.answer.no ≡ 0 → ⊥) → (text_test limits t).no ≡ 0 → ⊥
    unfolding read_test
    text_own s z =
        let f = all_fit t z in
        let g : Fits (listing_in t) (length old.counts) (length old.ends) (length old.inc) =
        (omega (arith, f.0, l.counts), omega (arith, f.1, l.ends), omega (arith, f.2, l.inc)) in
        let w = (room_tested (listing_in t) (length old.counts) (length old.ends) (length old.inc)).exact.1 g in
        stops (made_answer d) s (no_or (text_test limits t) _ z w)

    pub check_stops : (r.answer.no ≡ 0 → ⊥) → r.answer ≡ check_test limits t
    unfolding read_test check_test
    check_stops s =
        let n = text_own s in
        made_answer d ∙ or_stop (text_test limits t) _ n ∙ sym (or_stop (text_test limits t) _ n)

    module _ (z : r.answer.no ≡ 0) where
      good : (text_test limits t).no ≡ 0
      unfolding read_test
      good = (or_no (text_test limits t) _ (no_of (made_answer d) z)).0

      -- what was written lies inside the slices, which are as long as before
      pub counts_fit : (r.counts ≤ limits.ranks) × (r.counts ≤ length new.counts)
      counts_fit =
          let w = (made_wrote d z).counts in
          let n = over_length (listing_in t).counts old.counts (omega (arith, (all_fit t good).0, l.counts)) in
          let f = (all_fit t good).0 in
          (omega (arith, w.0, f), omega (arith, w.0, f, ap length w.1, n, l.counts))

      pub ends_fit : (r.ends ≤ 2 * limits.elements) × (r.ends ≤ length new.ends)
      ends_fit =
          let w = (made_wrote d z).ends in
          let n = over_length (listing_in t).ends old.ends (omega (arith, (all_fit t good).1, l.ends)) in
          let f = (all_fit t good).1 in
          (omega (arith, w.0, f), omega (arith, w.0, f, ap length w.1, n, l.ends))

      pub inc_fit : (r.inc ≤ limits.incidences) × (r.inc ≤ length new.inc)
      inc_fit =
          let w = (made_wrote d z).inc in
          let n = over_length (listing_in t).inc old.inc (omega (arith, (all_fit t good).2, l.inc)) in
          let f = (all_fit t good).2 in
          (omega (arith, w.0, f), omega (arith, w.0, f, ap length w.1, n, l.inc))

      pub check_goes : closed limits (prefix new r) ≡ check_test limits t
      unfolding check_test
      check_goes = rw (made_prefix d z, or_fine (text_test limits t) (closed limits (listing_in t)) good) refl
