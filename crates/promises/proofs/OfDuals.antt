-- What is promised of the dual, of whatever its contract admits.
-- Assumes nothing.
use mathlib.Core.Path.{◌≡◌, ap, ◌∙◌}
use mathlib.Core.Logic.Iff
use mathlib.Core.Logic.{◌≢◌, ◌↔◌}
use mathlib.Core.Bool.{Bool, true, false, ◌||◌}
use lib.Dec.{ltb}
use lib.ListN.{length}
use Rattle.std.proofs.Common.{Result}
use Rattle.listing.specs.declared.Built.{Built}
use Rattle.listing.specs.declared.Lengths.{Lengths}
use Rattle.listing.specs.declared.Refusal.{Refusal}
use Rattle.listing.specs.Refusals.{output_short}
use Rattle.listing.specs.Listing.{Listing, limits}
use Rattle.listing.specs.Shape.{Shaped}
use Rattle.listing.specs.Rules.{FirstBroken}
use Rattle.listing.specs.Told.{told_built}
use Rattle.listing.proofs.Answers.{or_fine, or_stop, or_no, no_or}
use Rattle.listing.proofs.Clear.{Plain, plain_on, clear_or}
use Rattle.listing_outputs.specs.Output.{Fits, short_test, prefix}
use Rattle.listing_outputs.proofs.Output.{room_tested, made_answer, made_untouched, made_wrote, made_prefix, made_once}
use Rattle.valid.specs.Closed.{Closed}
use Rattle.valid.specs.Tests as tests
use Rattle.valid.proofs.ClosedExact.{closed_exact}
use Rattle.product_closure.specs.Result.{result_of}
use Rattle.product.specs.Outcome.{Outcome}
use Rattle.body_theory.specs.Pieces.{OneBody}
use Rattle.dual_theory.specs.Dual.{Dual, dual_of}
use Rattle.dual_theory.specs.TurnedOver.{TurnedOver}
use Rattle.dual_theory.proofs.Duals as duals
use Rattle.dual_theory.proofs.DualLists.{dual_counts_length, dual_ends_length, dual_inc_length}
use Rattle.dual_theory.proofs.DualShaped.{dual_shaped, dual_dual}
use Rattle.dual_theory.proofs.DualClosed as kept
use Rattle.dual_theory.proofs.DualProducts.{product_turned_over}
use Rattle.dual.specs.Duals.{dual_test, DualMade}
use Rattle.dual.specs.Rules.{dual_rules}
use Rattle.dual.proofs.DualBroken.{dual_broken}
use Rattle.flumedrac.proofs.fd_dual.Reads as dual
use Rattle.promises.specs.Entries.{Call, Three, ThreeWritten, lent, right, outputs}
use Rattle.promises.specs.OfDuals.{turned_by, built_by, BothSides, DualsTaken, DualsRefuse, DualsAnswer, DualsKeep}
use Rattle.promises.specs.OfDuals.{DualsOnce}
use Rattle.promises.proofs.Alike.{any}
use Rattle.promises.proofs.Refused.{closed_refused, or_refused, room_refused, room_clear, built_so}

pub duals_taken : DualsTaken
duals_taken = record { dual = any }

-- the listing fits where its dual does
same_room : (L : Listing) → Closed limits L → (old : Listing)
    → Fits (dual_of L) (length old.counts) (length old.ends) (length old.inc)
    ↔ Fits L (length old.counts) (length old.ends) (length old.inc)
same_room L C old =
    let S = C.shaped in
    rw (dual_counts_length L S, dual_ends_length L S, dual_inc_length L S) Iff.rfl

module _ (L : Listing) {old new : Listing} {r : Built} (d : DualMade limits L old new r) where
  turn_refuses : FirstBroken (dual_rules limits L (length old.counts) (length old.ends) (length old.inc))
      r.answer.no
  turn_refuses = rw (made_answer d) (dual_broken limits L _ _ _)

  as_closed : (tests.closed limits L).no ≢ 0 → r.answer ≡ tests.closed limits L
  unfolding dual_test
  as_closed h = made_answer d ∙ or_stop (tests.closed limits L) _ h

  turn_plain : Closed limits L → Plain r.answer
  unfolding dual_test short_test
  turn_plain C =
      let D = dual_of L in
      rw (made_answer d, or_fine (tests.closed limits L) _ ((closed_exact limits L).1 C))
      (plain_on (ltb (length old.counts) (length D.counts) || (ltb (length old.ends) (length D.ends)
      || ltb (length old.inc) (length D.inc))) output_short)

  turn_exactly : r.answer.no ≡ 0
      ↔ (Closed limits L × Fits L (length old.counts) (length old.ends) (length old.inc))
  unfolding dual_test
  turn_exactly = rw (made_answer d) (
    λ e.
        let p = or_no (tests.closed limits L) _ e in
        let C = (closed_exact limits L).0 p.0 in
        (C, (same_room L C old).0 ((room_tested (dual_of L) _ _ _).exact.0 p.1)),
    λ q. no_or (tests.closed limits L) _ ((closed_exact limits L).1 q.0)
        ((room_tested (dual_of L) _ _ _).exact.1 ((same_room L q.0 old).1 q.1)),
  )

  module _ (z : r.answer.no ≡ 0) where
    was_closed : Closed limits L
    was_closed = (turn_exactly.0 z).0

    is_dual : Dual L (prefix new r)
    is_dual = rw (made_prefix d z) (duals.dual_is L)

    pub now_closed : Closed limits (prefix new r)
    now_closed =
        rw (made_prefix d z) (kept.dual_closed (duals.dual_is L) (dual_shaped L was_closed.shaped) was_closed)

    now_body : OneBody limits L → OneBody limits (prefix new r)
    now_body b = rw (made_prefix d z) (kept.dual_body (duals.dual_is L) (dual_shaped L was_closed.shaped) b)

-- ---- turned over twice

module _ (L : Listing) {old new : Listing} {r : Built} (d : DualMade limits L old new r) (z : r.answer.no ≡ 0)
    (D : Listing) {old' new' : Listing} {s : Built} (d' : DualMade limits D old' new' s) (e : D ≡ prefix new r)
    (f : Fits L (length old'.counts) (length old'.ends) (length old'.inc)) where
  is_dual_of : D ≡ dual_of L
  is_dual_of = e ∙ made_prefix d z

  turned_back : (s.answer.no ≡ 0) × (prefix new' s ≡ L)
  turned_back =
      let C = was_closed L d z in
      let room = (same_room L C old').1 f in
      let a = (turn_exactly D d').1 (rw e (now_closed L d z), rw is_dual_of room) in
      (a, made_prefix d' a ∙ ap dual_of is_dual_of ∙ dual_dual L C.shaped)

-- ---- products turned over

-- L was turned over into D
record Turned (L D : Listing) : Type 0 where
  closed : Closed limits L
  dual : Dual L D
  shaped : Shaped limits D

turned_over : (c : Call dual.Post) → c.answer.answer.no ≡ 0 → {L : Listing} → lent c.args ≡ L
    → Turned L (turned_by c)
turned_over c z e =
    let L = lent c.args in
    rw (← e)
    (record {
      closed = was_closed L c.admitted z;
      dual = is_dual L c.admitted z;
      shaped = (now_closed L c.admitted z).shaped;
    })

law : (min max : Bool) {A B C E R D Q : Listing} → Turned A C → Turned B E → R ≡ result_of min max A B → Turned R D
    → Q ≡ result_of max min C E → TurnedOver min max A B C E D Q
law min max a b e d f =
    rw f
    (product_turned_over min max a.dual b.dual a.closed b.closed (rw e at d.dual) (rw e at d.closed)
    d.shaped)

-- the five calls, of products told by min and max
module _ (min max : Bool) {K L A C X Y : Type 0}
    {P : K → Three (Three (ThreeWritten A)) → Built → Three (Three (ThreeWritten X)) → Type 0}
    {Q : L → Three (Three (ThreeWritten C)) → Built → Three (Three (ThreeWritten Y)) → Type 0}
    (p : Call P) (d a b : Call dual.Post) (q : Call Q) (s : BothSides p d a b q) where
  both_sides : Outcome limits min max (lent p.args) (right p.args) (outputs p.args) (outputs p.exit)
      p.answer
      → Outcome limits max min (lent q.args) (right q.args) (outputs q.args) (outputs q.exit) q.answer
      → TurnedOver min max (lent p.args) (right p.args) (turned_by a) (turned_by b) (turned_by d) (built_by q)
  both_sides o w =
      let f = made_prefix w.made s.turned_built in
      law min max (turned_over a s.left_turned s.of_left) (turned_over b s.right_turned s.of_right)
      (made_prefix o.made s.built) (turned_over d s.built_turned s.of_built)
      (rw (s.of_turned.0, s.of_turned.1) at f)

-- a result that is told as the dual answers
pub dual_so : (L : Listing) {old new : Listing} {r : Built} → DualMade limits L old new r
    → (d : Result Lengths Refusal) × DualMade limits L old new (told_built d) × (r ≡ told_built d)
unfolding dual_test
dual_so L =
    built_so (clear_or (tests.closed limits L) (room_clear _ _ _ _))
    (or_refused _ _ (closed_refused L) (room_refused _ _ _ _))

pub duals_refuse : DualsRefuse
duals_refuse = record {
  dual_refuses = λ k a r x. turn_refuses (lent a);
  dual_as_closed = λ k l a c r s x y p q e h. as_closed (lent a) p (rw (q, e) at h) ∙ rw (q, e);
  dual_plain = λ k a r x. turn_plain (lent a);
  dual_untouched = λ k a r x. made_untouched;
}

pub duals_answer : DualsAnswer
duals_answer = record {
  dual_exactly = λ k a r x. turn_exactly (lent a);
  dual_wrote = λ k a r x. made_wrote;
  dual_turns = λ k a r x. is_dual (lent a);
  dual_only = λ L D E. duals.one_dual;
}

pub duals_keep : DualsKeep
duals_keep = record {
  dual_closed = λ k a r x. now_closed (lent a);
  dual_one_body = λ k a r x. now_body (lent a);
  dual_back = λ k l a c r s x y p q z. turned_back (lent a) p z (lent c) q;
  duopyramid_turns = λ p d a b q s. both_sides false false p d a b q s p.admitted q.admitted;
  duoprism_turns = λ p d a b q s. both_sides true false p d a b q s p.admitted q.admitted;
  duotegum_turns = λ p d a b q s. both_sides false true p d a b q s p.admitted q.admitted;
  duocomb_turns = λ p d a b q s. both_sides true true p d a b q s p.admitted q.admitted;
}

pub duals_once : DualsOnce
duals_once = record { one_dual = λ k a b c x y. made_once }
