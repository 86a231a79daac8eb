-- What is promised of volumes, of whatever the contracts admit.
-- Assumes nothing.
use mathlib.Core.Path.{◌≡◌, refl, sym, ap, ◌∙◌}
use mathlib.Core.Logic.{◌≢◌}
use mathlib.Core.Bool.{not}
use mathlib.Core.List.{List}
use Prim.Native.Nat.{ℕ}
use lib.Ieee.{Float, binary64, of_int}
use Rattle.std.proofs.Common.{Result}
use Rattle.listing.specs.declared.Answer.{Answer}
use Rattle.listing.specs.declared.Refusal.{Refusal}
use Rattle.listing.specs.declared.Refusal.TheVariants.{NotRankFour, NotOrientable, WrongCoordinates, NotInMetres}
use Rattle.listing.specs.Refusals.{not_in_metres}
use Rattle.listing.specs.Listing.{Listing, limits, rank}
use Rattle.listing.proofs.Answers.{if_not}
use Rattle.listing.proofs.Clear.{Clear, clear_or, clear_plain}
use Rattle.valid.specs.Tests as tests
use Rattle.search_masks.specs.Masks.{every_rank}
use Rattle.search.specs.SearchedBy.{search_test}
use Rattle.search.proofs.SearchBroken as search
use Rattle.search.specs.Promised.{room_in}
use Rattle.volume_metres.specs.Whole.{all_coordinates}
use Rattle.volume_theory.specs.Six.{even_flags, six_of}
use Rattle.volume.specs.Volumes.{unmeasured, volume_test, volume_by, told_volume}
use Rattle.volume.proofs.Cases.{said}
use Rattle.volume.proofs.VolumeBroken.{number_is, stopped, as_searched, searched_first}
use Rattle.volume.proofs.Exact.{volume_promised}
use Rattle.volume.proofs.TwoCalls.{volume_negated, volume_moved}
use Rattle.promises.specs.Entries.{lent, flag, metres, tables}
use Rattle.promises.specs.OfVolumes.{VolumesTaken, VolumesRefuse, VolumesNamed, VolumesAnswer, VolumesOnce}
use Rattle.promises.proofs.Alike.{alike, any}
use Rattle.promises.proofs.OfFlags.{search_refused, search_refusals, same_search}
use Rattle.promises.proofs.Refused.{Refused, or_refused, on_refused, told_so}

pub volumes_taken : VolumesTaken
volumes_taken = record { six_volume = any; numbers = any }

pub volumes_refuse : VolumesRefuse
volumes_refuse = record {
  six_volume_tests = λ k a r x p. rw (p.0, p.1.0, p.1.1)
      (volume_promised (lent a) (flag a) (metres a) (tables a).0 (tables a).1);
}

-- the closed test refuses, and so does the search
as_closed : (L : Listing) (first : List ℕ) (xs : List Float) (table bytes : List ℕ) → (tests.closed limits L).no ≢ 0
    → (volume_by limits L first xs table bytes).no ≡ (tests.closed limits L).no
as_closed L first xs table bytes h =
    let e = search.said limits L first (every_rank (rank L)) table bytes
    ∙ search_refused limits L first h (every_rank (rank L)) _ in
    let n = ap (λ a. a.no) e in
    stopped L first xs table bytes (λ z. h (sym n ∙ z)) ∙ n

pub volumes_named : VolumesNamed
volumes_named = record {
  six_volume_as_closed = λ k l a c r s x y p q e. rw (p, q.0, e)
      (λ h. as_closed (lent a) (flag c) (metres c) (tables c).0 (tables c).1 h);
  six_volume_as_search = λ k l a c r s x y p q e f m t b.
      rw (p.0, p.1.0, p.1.1, q.0, q.1.0, q.1.1, e, f, m, t, b) (
        refl,
        refl,
        as_searched (lent a) (flag a) (metres a) (tables a).0 (tables a).1,
        searched_first (lent a) (flag a) (metres a) (tables a).0 (tables a).1,
      );
}

-- beside a refusal stands the positive zero
module _ (L : Listing) (first : List ℕ) (xs : List Float) (table bytes : List ℕ) where
  abbrev t : Answer
  t = volume_test L.counts xs (said L first xs table bytes)

  zero_beside : let r = volume_by limits L first xs table bytes in r.no ≢ 0 → r ≡ unmeasured r.no
  unfolding volume_by
  zero_beside h = if_not t.no _ _ (rw (number_is L first xs table bytes) at h)
      ∙ ap unmeasured (sym (number_is L first xs table bytes))

  -- a result that is told as six_volume answers
  test_clear : Clear t
  unfolding volume_test
  test_clear =
      rw (search.said limits L first (every_rank (rank L)) table bytes) (
      clear_or (search_test limits L first (every_rank (rank L)) _)
      (clear_or _ (clear_or _ (clear_or _ (clear_plain (not (all_coordinates xs)) not_in_metres)))))

  test_refused : Refused t
  unfolding volume_test
  test_refused =
      rw (search.said limits L first (every_rank (rank L)) table bytes) (
      or_refused _ _ (search_refusals L first (every_rank (rank L)) _)
      (or_refused _ _ (on_refused _ NotRankFour) (or_refused _ _ (on_refused _ NotOrientable)
      (or_refused _ _ (on_refused _ WrongCoordinates) (on_refused _ NotInMetres)))))

  pub measured_so : (d : Result Float Refusal) × (told_volume d ≡ volume_by limits L first xs table bytes)
  unfolding volume_by
  measured_so =
      let six = of_int binary64 (six_of L xs (even_flags L first (room_in limits L table bytes))) in
      let d = told_so test_clear test_refused told_volume (volume_by limits L first xs table bytes) (λ x. Unit)
      (λ e. (six, tt, rw e refl)) (λ d e h. rw (if_not t.no _ _ h, e) refl) in
      (d.0, d.2)

pub volumes_answer : VolumesAnswer
volumes_answer = record {
  six_volume_negated = λ k l a c r s x y p q n h i e f m.
      rw (p.0, q.0, e, f, m)
      (λ z w. volume_negated (lent a) (flag a) (metres a) (tables a).0 (tables a).1 z n h i (tables c).0
      (tables c).1 w);
  six_volume_moved = λ k l a c r s x y p q t e f S.
      rw (p.0, q.0, e, f)
      (λ z w. volume_moved (lent a) (flag a) (metres a) (tables a).0 (tables a).1 z t (metres c) S (tables c).0
      (tables c).1 w);
  volume_told = λ k a r x p. p;
  volume_by_numbers = λ k a r x p. rw p.0
      (zero_beside (lent a) (flag a) (metres a) (tables a).0 (tables a).1);
}

pub volumes_once : VolumesOnce
volumes_once = record {
  one_six_volume = λ k a b c x y p q. same_search p.0 p.1.0 p.1.1 q.0 q.1.0 q.1.1;
  one_volume_numbers = λ k a b c x y. alike;
}
