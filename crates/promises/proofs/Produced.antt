-- What the four products promise, said once over the two flags, of whatever their contracts admit.
-- Assumes nothing.
use mathlib.Core.Path.{◌≡◌}
use mathlib.Core.Logic.{◌↔◌}
use mathlib.Core.Bool.{Bool, false}
use lib.ListN.{length}
use Rattle.listing.specs.declared.Built.{Built}
use Rattle.listing.specs.Listing.{Listing, limits}
use Rattle.listing.specs.Rules.{FirstBroken}
use Rattle.listing_outputs.specs.Output.{prefix}
use Rattle.listing.proofs.Answers.{no_or}
use Rattle.listing_outputs.proofs.Output.{made_answer, made_untouched, made_wrote, made_prefix}
use Rattle.listing.proofs.ShapeExact.{shape_exact}
use Rattle.valid.specs.Tests.{bounded, check_incidences, is_valid}
use Rattle.product_closure.specs.Result.{comb_case, result_of}
use Rattle.product_closure.proofs.Results.{result_null, result_rank, nullitope_closed, needed}
use Rattle.product_closure.proofs.Valid.{valid_sound, product_tests}
use Rattle.product_closure.proofs.Pairs.{result_matched, result_low, result_high, result_swapped}
use Rattle.product_closure.proofs.Lists.{result_arranged}
use Rattle.product.specs.Outcome.{Outcome}
use Rattle.product.proofs.ProductBroken.{product_broken}
use Rattle.product.proofs.Answered.{answered_passed, answered_shaped, answered_closed}
use Rattle.product.proofs.Exchange.{answers_same}
use Rattle.body_theory.proofs.Products.{four_bodies}
use Rattle.promises.specs.Products.{room_rules, Produces, Kept, SameRoom, Exchange}

module _ (min max : Bool) {A B old new : Listing} {r : Built} (o : Outcome limits min max A B old new r) where
  abbrev R : Listing
  R = result_of min max A B

  -- the refusals come in their order
  outcome_refusals : FirstBroken (room_rules min max A B old) r.answer.no
  outcome_refusals =
      rw (made_answer o.made)
      (product_broken limits min max A B (length old.counts) (length old.ends) (length old.inc))

  module _ (z : r.answer.no ≡ 0) where
    is_result : prefix new r ≡ R
    is_result = made_prefix o.made z

    valid : ((is_valid limits A).no ≡ 0) × ((is_valid limits B).no ≡ 0) × (comb_case min max A B ≡ false)
    valid = let p = answered_passed min max o z in (p.0, p.1, p.2)

    framed : ((bounded limits R).no ≡ 0) × ((check_incidences limits R).no ≡ 0)
    unfolding bounded check_incidences
    framed =
        let s = (shape_exact limits R).1 (answered_shaped min max o z) in
        let t = product_tests min max limits A B valid.0 valid.1 valid.2 in
        (no_or _ _ s t.0, no_or _ _ s t.1)

    -- What an answered product keeps.
    pub outcome_kept : Kept min max A B (prefix new r)
    outcome_kept =
        let s_a = valid_sound limits A valid.0 in
        let s_b = valid_sound limits B valid.1 in
        rw is_result (record {
          closed = λ c_a c_b h. rw is_result at (answered_closed min max o z c_a c_b h);
          one_body = λ b_a b_b h. four_bodies min max limits A B b_a b_b h (answered_shaped min max o z);
          null_closed = λ n. rw (result_null min max A B n) nullitope_closed;
          framed = framed;
          ranks = λ n. let h = needed min max A B n valid.2 in result_rank min max A B h.0 h.1;
          matched = result_matched min max A B s_a s_b;
          low = λ e n. rw e (result_low max A B s_a s_b (rw e at n));
          high = λ e n. rw e (result_high min A B s_a s_b (rw e at n));
          arranged = result_arranged min max A B s_a s_b;
          null = result_null min max A B;
        })

-- What a product answers, and what it leaves in the output slices.
pub produces : (min max : Bool) {A B old new : Listing} {r : Built} → Outcome limits min max A B old new r
    → Produces min max A B old new r
produces min max o = record {
  refusals = outcome_refusals min max o;
  untouched = made_untouched o.made;
  written = made_wrote o.made;
}

-- Exchanging the factors changes no answer where they are valid, and only swaps the pairs.
module _ (min max : Bool) {A B old new old' new' : Listing} {r s : Built} (o : Outcome limits min max A B old new r)
    (p : Outcome limits min max B A old' new' s) where
  same_answers : SameRoom old old' → (is_valid limits A).no ≡ 0 → (is_valid limits B).no ≡ 0 → r ≡ s
  same_answers l v_a v_b = answers_same min max A B v_a v_b o p l.0 l.1 l.2

  both_answered : SameRoom old old' → r.answer.no ≡ 0 ↔ s.answer.no ≡ 0
  both_answered l = (
    λ z. let v = valid min max o z in rw (same_answers l v.0 v.1) at z,
    λ z. let v = valid min max p z in rw (same_answers l v.1 v.0) z,
  )

  outcomes_exchanged : Exchange min max A B old old' (prefix new r) (prefix new' s) r s
  outcomes_exchanged = record {
    same = same_answers;
    both = both_answered;
    swapped = λ y z n.
        let v = valid min max o y in
        rw (is_result min max o y, is_result min max p z)
        (result_swapped min max A B (valid_sound limits A v.0) (valid_sound limits B v.1) n);
  }

-- the same where the factors of the second call are said to be those of the first
pub outcomes_swapped : (min max : Bool) {A B C D old new old' new' : Listing} {r s : Built}
    → Outcome limits min max A B old new r → Outcome limits min max C D old' new' s → C ≡ B → D ≡ A
    → Exchange min max A B old old' (prefix new r) (prefix new' s) r s
outcomes_swapped min max o p e_c e_d = outcomes_exchanged min max o (rw (e_c, e_d) at p)
