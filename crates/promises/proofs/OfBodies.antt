-- What is promised of the test for one body, of whatever its contract admits.
-- Assumes nothing.
use mathlib.Core.Path.{◌≡◌, refl, ap, ◌∙◌}
use mathlib.Core.Logic.{◌≢◌}
use mathlib.Core.List.{List}
use Prim.Native.Nat.{ℕ}
use native.Mathlib.Omega.{arith}
use lib.Dec.{ltb}
use lib.ListN.{length}
use Rattle.std.proofs.Common.{Result}
use Rattle.listing.specs.declared.Refusal.{Refusal}
use Rattle.listing.specs.Listing.{Listing, limits, rank}
use Rattle.listing.proofs.Answers.{or_stop}
use Rattle.listing.proofs.Clear.{Clear, clear_exact, clear_or, clear_plain}
use Rattle.valid.specs.Tests as tests
use Rattle.body_theory.specs.InAll.{flags_in_all}
use Rattle.search.specs.declared.Found.{Found}
use Rattle.search.specs.SearchedBy.{told_searched}
use Rattle.search.specs.Promised.{room_in}
use Rattle.body.specs.Body.{whole_search, parts_test, body_test, body_by}
use Rattle.body.proofs.Verdict.{Verdict, verdict, body_exact}
use Rattle.body.proofs.Verdict.Verdict.{not_closed, too_many, several, one_body}
use Rattle.body.proofs.Exact.{body_said, body_as_search, from_any_flag, body_promised}
use Rattle.promises.specs.Entries.{lent, flag, tables, body_tables}
use Rattle.promises.specs.Named.{Named, of_flags, named_several_parts}
use Rattle.promises.specs.OfBodies.{BodiesTaken, BodiesRefuse, BodiesNamed, BodiesAnswer, BodiesOnce}
use Rattle.promises.proofs.Alike.{any}
use Rattle.promises.proofs.Firsts.{Tells}
use Rattle.promises.proofs.NamedTests.{closed_named}
use Rattle.promises.proofs.Refused.{named_tells}
use Rattle.promises.proofs.OfFlags.{same_search, found_so}

pub bodies_taken : BodiesTaken
bodies_taken = record { one_body = any }

module _ (L : Listing) (room : ℕ) where
  body_clear : Clear (body_test limits L room)
  unfolding body_test parts_test
  body_clear =
      clear_or (tests.closed limits L)
      (clear_or _ (clear_plain (ltb (length (whole_search L room).found) (flags_in_all L)) 25))

  body_refused : (tests.closed limits L).no ≢ 0 → body_test limits L room ≡ tests.closed limits L
  unfolding body_test
  body_refused h = or_stop (tests.closed limits L) _ h

  body_tells : Tells (Named (rank L) L) (body_test limits L room)
  body_tells h = go (verdict L room)
    where
      go : Verdict L room (body_test limits L room) → Named (rank L) L (body_test limits L room)
      go (not_closed n s e) = rw e (closed_named limits L (rw e at s))
      go (too_many C M e) = rw e (of_flags 22 (omega arith) (omega arith))
      go (several C n o e) = rw e (named_several_parts o)
      go (one_body C f o e) = absurd (h (ap (λ x. x.no) e))

pub bodies_refuse : BodiesRefuse
bodies_refuse = record {
  one_body_tests = λ k a r x p. rw (p.0, p.1.0, p.1.1)
      (body_promised (lent a) (body_tables a).0 (body_tables a).1);
  one_body_fine = λ k a r x p. rw (p.0, body_said (lent a) (body_tables a).0 (body_tables a).1)
      (clear_exact (body_clear (lent a) _));
}

pub bodies_named : BodiesNamed
bodies_named = record {
  one_body_as_closed = λ k l a c r s x y p q e. rw (p, q.0, e)
      (λ z. body_said (lent a) (body_tables c).0 (body_tables c).1 ∙ body_refused (lent a) _ z);
  one_body_names = λ k a r x p. rw (p.0, body_said (lent a) (body_tables a).0 (body_tables a).1)
      (body_tells (lent a) _);
}

pub bodies_answer : BodiesAnswer
bodies_answer = record {
  one_body_by_the_book = λ k a r x p. rw (p.0, body_said (lent a) (body_tables a).0 (body_tables a).1)
      (body_exact (lent a) _);
  one_body_as_search = λ k l a c r s x y p q e f m t b.
      rw (p.0, p.1.0, p.1.1, q.0, q.1.0, q.1.1, e, f, m, t, b)
      (refl, refl, body_as_search (lent a) (body_tables a).0 (body_tables a).1);
  one_body_from_any_flag = λ k l a c r s x y p q e. rw (p.0, q.0, e) (λ z F m h. rw m
      (from_any_flag (lent a) (body_tables a).0 (body_tables a).1 z (flag c) (tables c).0 (tables c).1 F h));
}

-- a result that is told as the test for one body answers
pub body_so : (L : Listing) (table bytes : List ℕ)
    → (d : Result Found Refusal) × (told_searched d ≡ body_by limits L table bytes)
unfolding body_by
body_so L table bytes =
    let room = room_in limits L table bytes in
    found_so (body_clear L room) (named_tells (rank L) L (body_tells L room)) (whole_search L room)

pub bodies_once : BodiesOnce
bodies_once = record {
  one_one_body = λ k a b c x y p q. same_search p.0 p.1.0 p.1.1 q.0 q.1.0 q.1.1;
}
