-- A change that is not refused: it is the one and only change there, what it took out and put in are the two elements
-- between, and made twice it leads back.
-- Assumes nothing.
use mathlib.Core.Path.{◌≡◌, sym, ap, ◌∙◌}
use mathlib.Core.List.{List}
use Prim.Native.Nat.{ℕ, ◌+◌, ◌<◌}
use native.Mathlib.Omega.{arith}
use lib.ListN.{length, take}
use Rattle.listing.specs.Answers.{fine}
use Rattle.listing.specs.Listing.{Listing, Limits, rank}
use Rattle.listing.proofs.Answers.{no_of}
use Rattle.valid.specs.Closed.{Closed}
use Rattle.flag_change.specs.Flags.{IsFlag}
use Rattle.flag_change.specs.Change.{change_at, padded, Changes, Replaces}
use Rattle.flag_change.proofs.Padding.{padded_at, padded_first}
use Rattle.flag_change.proofs.Changes.{changes, replaces, back_taken, back_put}
use Rattle.flag.specs.declared.Changed.{Changed}
use Rattle.flag.specs.Changed.{changed_as, changed_of}
use Rattle.flag.proofs.ChangeAnswers.{change_exact, changed_answer, changed_some}

module _ (m : Limits) (L : Listing) (f : List ℕ) (r : ℕ) where
  abbrev said : Changed
  said = changed_of m L f r

  abbrev new : List ℕ
  new = change_at L r f

  module _ (e : said.answer.no ≡ 0) where
    -- no refusal: what was asked holds
    pub change_asked : Closed m L × IsFlag L f × (0 < r) × (r < rank L)
    change_asked = (change_exact m L f r).0 (no_of (changed_answer m L f r) e)

    change_made : said ≡ changed_as fine L f r
    change_made = sym (changed_some m L f r (no_of (changed_answer m L f r) e))

    the_change : Changes L f r
    the_change = let p = change_asked in changes L p.0 r p.2 p.3 f p.1

    -- the new flag has a number for each rank, and stands at the beginning of the record
    new_long : length new ≡ rank L + 1
    new_long = omega (arith, the_change.is_flag.one_each, change_asked.0.shaped.some_rank)

    -- Its flag is the one and only change there.
    pub change_changes : Changes L f r × (said.flag ≡ padded new)
    unfolding changed_as
    change_changes = (the_change, ap (λ (c : Changed). c.flag) change_made)

    new_flag : take (rank L + 1) said.flag ≡ new
    new_flag = rw change_changes.1 (padded_first new (rank L + 1) new_long)

    -- What it took out and put in are the two elements between.
    pub change_replaces : Replaces L f r said.flag said.taken said.put
    unfolding changed_as
    change_replaces =
        let p = change_asked in
        let R = replaces L p.0 r p.2 p.3 f p.1 in
        let at_r = padded_at new r (omega (arith, new_long)) in
        rw change_made (record { taken = R.taken; put = R.put ∙ sym at_r; two = R.two })

-- Where a change is not refused, the same change of the new flag is not refused either; it gives the old flag, and what
-- is taken out and put in are exchanged.
pub change_twice : (m : Limits) (L : Listing) (f : List ℕ) (r : ℕ) → (changed_of m L f r).answer.no ≡ 0
    → changed_of m L (take (rank L + 1) (changed_of m L f r).flag) r
    ≡ record { answer = fine; flag = padded f; taken = (changed_of m L f r).put; put = (changed_of m L f r).taken }
unfolding changed_as
change_twice m L f r e =
    let p = change_asked m L f r e in
    let g = change_at L r f in
    let C = the_change m L f r e in
    let z = (change_exact m L g r).1 (p.0, C.is_flag, p.2, p.3) in
    rw (new_flag m L f r e, change_made m L f r e, ← changed_some m L g r z)
    (λ i. record {
      answer = fine;
      flag = padded (C.back i);
      taken = back_taken L p.0 r p.2 p.3 f p.1 i;
      put = back_put L p.0 r p.2 p.3 f p.1 i;
    })
