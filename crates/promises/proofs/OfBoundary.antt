-- What is promised of the functions for C and of the entries: each pair answers and writes alike.
-- Assumes nothing.
use mathlib.Core.Path.{◌≡◌, refl, sym, ap, ◌∙◌}
use mathlib.Core.Bool.{true, false}
use Rattle.listing.specs.Listing.{limits}
use Rattle.listing_shape.specs.Counts.{rank_of, el_count_of, vertex_count_of, facet_count_of}
use Rattle.listing_outputs.proofs.Output.{made_once}
use Rattle.valid.proofs.TestsClear.{bounded_clear, incidences_clear, is_dyadic_clear, is_valid_clear, closed_clear}
use Rattle.text.proofs.WrittenTexts.{text_once}
use Rattle.search_events.specs.Events.{event_at, said_of}
use Rattle.promises.specs.Entries.{lent, flag, asked, metres, tables, body_tables, gathered, lent_text}
use Rattle.promises.specs.OfBoundary.{BoundaryTaken, Boundary, BoundaryBack, BoundaryOnce}
use Rattle.promises.proofs.Alike.{alike, any}
use Rattle.promises.proofs.NamedTests.{bounded_named, incidences_named, dyadic_named, valid_named}
use Rattle.promises.proofs.OfBodies.{body_so}
use Rattle.promises.proofs.OfDuals.{dual_so}
use Rattle.promises.proofs.OfFlags.{same_search, changed_so, searched_so}
use Rattle.promises.proofs.OfProducts.{same_outcome, product_so}
use Rattle.promises.proofs.OfTexts.{read_so, check_so, written_so}
use Rattle.promises.proofs.OfVolumes.{measured_so}
use Rattle.promises.proofs.Refused.{named_tells, closed_refused, result_so, test_so, number_so}

pub boundary_taken : BoundaryTaken
boundary_taken = record {
  tests = (any, any, any, any, any, any, any, any, any, any);
  products = (any, any, any, any);
  texts = (any, any, any);
  flags = (any, any, any);
  bodies = any;
  duals = any;
  volumes = any;
}

-- The whole boundary, a field for each function.
pub boundary : Boundary
unfolding rank_of el_count_of vertex_count_of facet_count_of
boundary = record {
  rank_passes = λ k l a r x p. let d = number_so a.0.now _ in (d.0, d.1, p ∙ sym d.1);
  el_count_passes = λ k l a r x p. let d = number_so a.0.now _ in (d.0, d.1, p ∙ sym d.1);
  vertex_count_passes = λ k l a r x p. let d = number_so a.0.now _ in (d.0, d.1, p ∙ sym d.1);
  facet_count_passes = λ k l a r x p. let d = number_so a.0.now _ in (d.0, d.1, p ∙ sym d.1);
  bounded_passes = λ k l a r x p.
      let d = test_so (bounded_clear limits (lent a)) (named_tells _ _ (bounded_named limits (lent a))) in
      (d.0, d.1, p ∙ sym d.1);
  check_incidences_passes = λ k l a r x p.
      let d = test_so (incidences_clear limits (lent a)) (named_tells _ _ (incidences_named limits (lent a))) in
      (d.0, d.1, p ∙ sym d.1);
  is_dyadic_passes = λ k l a r x p.
      let d = test_so (is_dyadic_clear limits (lent a)) (named_tells _ _ (dyadic_named limits (lent a))) in
      (d.0, d.1, p ∙ sym d.1);
  is_valid_passes = λ k l a r x p.
      let d = test_so (is_valid_clear limits (lent a)) (named_tells _ _ (valid_named limits (lent a))) in
      (d.0, d.1, p ∙ sym d.1);
  closed_passes = λ k l a r x p.
      let d = result_so (closed_clear limits (lent a)) (closed_refused (lent a)) (λ m. m.slices ≡ (gathered a).0)
      (λ e. (record { slices = (gathered a).0; closed = ap (λ t. t.no) e }, refl)) in
      (d.0, (d.2, d.1), p ∙ sym d.2);
  change_passes = λ k l a r x p.
      let d = changed_so (lent a) (flag a) (asked a) in (d.0, d.1, p ∙ sym d.1);
  search_passes = λ k l a r x p.
      let d = searched_so (lent a) (flag a) (asked a) (tables a).0 (tables a).1 in
      (d.0, (d.1, p.1), p.0 ∙ sym d.1);
  one_body_passes = λ k l a r x p.
      let d = body_so (lent a) (body_tables a).0 (body_tables a).1 in (d.0, (d.1, p.1), p.0 ∙ sym d.1);
  dual_passes = λ k l a r x. dual_so (lent a);
  duopyramid_passes = λ k l a r x. product_so false false;
  duoprism_passes = λ k l a r x. product_so true false;
  duotegum_passes = λ k l a r x. product_so false true;
  duocomb_passes = λ k l a r x. product_so true true;
  read_text_passes = λ k l a r x. read_so (lent_text a);
  check_text_passes = λ k l a r x p.
      let d = check_so (lent_text a) in (d.0, d.1, p ∙ ap (λ t. t.no) (sym d.1));
  write_text_passes = λ k l a r x. written_so (lent a);
  class_passes = λ k l a c r b x y p q e. rw (p, q, e);
  sign_passes = λ k l a c r s x y p q e. rw (p, q, e);
  six_volume_passes = λ k l a r x p.
      let d = measured_so (lent a) (flag a) (metres a) (tables a).0 (tables a).1 in
      (d.0, (d.1, p.1), p.0 ∙ sym d.1);
  next_event_passes = λ at count place at' s p. (event_at at count place, (refl, p.1), p.0);
}

pub boundary_back : BoundaryBack
boundary_back = record {
  rank_back = λ k l a r x p. p.2 ∙ p.1;
  el_count_back = λ k l a r x p. p.2 ∙ p.1;
  vertex_count_back = λ k l a r x p. p.2 ∙ p.1;
  facet_count_back = λ k l a r x p. p.2 ∙ p.1;
  bounded_back = λ k l a r x p. p.2 ∙ p.1;
  check_incidences_back = λ k l a r x p. p.2 ∙ p.1;
  is_dyadic_back = λ k l a r x p. p.2 ∙ p.1;
  is_valid_back = λ k l a r x p. p.2 ∙ p.1;
  closed_back = λ k l a r x p. p.2 ∙ p.1.0;
  change_back = λ k l a r x p. p.2 ∙ p.1;
  search_back = λ k l a r x p. (p.2 ∙ p.1.0, p.1.1);
  one_body_back = λ k l a r x p. (p.2 ∙ p.1.0, p.1.1);
  dual_back = λ k l a r x p. rw p.2 p.1;
  duopyramid_back = λ k l a r x p. rw p.2 p.1;
  duoprism_back = λ k l a r x p. rw p.2 p.1;
  duotegum_back = λ k l a r x p. rw p.2 p.1;
  duocomb_back = λ k l a r x p. rw p.2 p.1;
  read_text_back = λ k l a r x p. rw p.2 p.1;
  check_text_back = λ k l a r x p. p.2 ∙ ap (λ t. t.no) p.1;
  write_text_back = λ k l a r x p. rw p.2 p.1;
  six_volume_back = λ k l a r x p. (p.2 ∙ p.1.0, p.1.1);
  next_event_back = λ at count place at' e q. (ap said_of q.0, q.1);
}

-- two answers of one entry are told alike, since the fd_ function has one
pub boundary_once : BoundaryOnce
boundary_once = record {
  one_rank = λ k a b c x y p q. alike (p.2 ∙ p.1) (q.2 ∙ q.1);
  one_el_count = λ k a b c x y p q. alike (p.2 ∙ p.1) (q.2 ∙ q.1);
  one_vertex_count = λ k a b c x y p q. alike (p.2 ∙ p.1) (q.2 ∙ q.1);
  one_facet_count = λ k a b c x y p q. alike (p.2 ∙ p.1) (q.2 ∙ q.1);
  one_fd_class = λ k a b c x y. alike;
  one_bounded = λ k a b c x y p q. alike (p.2 ∙ p.1) (q.2 ∙ q.1);
  one_check_incidences = λ k a b c x y p q. alike (p.2 ∙ p.1) (q.2 ∙ q.1);
  one_is_dyadic = λ k a b c x y p q. alike (p.2 ∙ p.1) (q.2 ∙ q.1);
  one_is_valid = λ k a b c x y p q. alike (p.2 ∙ p.1) (q.2 ∙ q.1);
  one_closed = λ k a b c x y p q. alike (p.2 ∙ p.1.0) (q.2 ∙ q.1.0);
  one_change = λ k a b c x y p q. alike (p.2 ∙ p.1) (q.2 ∙ q.1);
  one_fd_sign = λ k a b c x y. alike;
  one_search = λ k a b c x y p q. same_search (p.2 ∙ p.1.0) p.1.1.0 p.1.1.1 (q.2 ∙ q.1.0) q.1.1.0 q.1.1.1;
  one_one_body = λ k a b c x y p q. same_search (p.2 ∙ p.1.0) p.1.1.0 p.1.1.1 (q.2 ∙ q.1.0) q.1.1.0 q.1.1.1;
  one_dual = λ k a b c x y p q. made_once (rw (← p.2) at p.1) (rw (← q.2) at q.1);
  one_six_volume = λ k a b c x y p q. same_search (p.2 ∙ p.1.0) p.1.1.0 p.1.1.1 (q.2 ∙ q.1.0) q.1.1.0 q.1.1.1;
  one_duopyramid = λ k a b c x y p q. same_outcome false false (rw (← p.2) at p.1) (rw (← q.2) at q.1);
  one_duoprism = λ k a b c x y p q. same_outcome true false (rw (← p.2) at p.1) (rw (← q.2) at q.1);
  one_duotegum = λ k a b c x y p q. same_outcome false true (rw (← p.2) at p.1) (rw (← q.2) at q.1);
  one_duocomb = λ k a b c x y p q. same_outcome true true (rw (← p.2) at p.1) (rw (← q.2) at q.1);
  one_read_text = λ k a b c x y p q. made_once (rw (← p.2) at p.1) (rw (← q.2) at q.1);
  one_check_text = λ k a b c x y p q. alike (p.2 ∙ ap (λ t. t.no) p.1) (q.2 ∙ ap (λ t. t.no) q.1);
  one_write_text = λ k a b c x y p q. text_once (rw (← p.2) at p.1) (rw (← q.2) at q.1);
  one_fd_next_event = λ at count place c d e f p q. (alike p.0 q.0, alike p.1 q.1);
}
