-- 17 and 18 said of elements: where no list holds an index twice, three different elements lie between, or exactly one.
-- Assumes nothing.
use mathlib.Core.Path.{◌≡◌, refl}
use mathlib.Core.Logic.{◌⊎◌, inl, inr}
use mathlib.Core.List.{List, [], ◌∷◌}
use Prim.Native.Nat.{ℕ, ◌≤◌, ◌<◌}
use native.Mathlib.Omega.{arith}
use lib.ListN.{length}
use Rattle.order.specs.Lists.{In, occurs}
use Rattle.order.proofs.Lists.{occurs_append, occurs_cons, occurs_own}
use Rattle.order.proofs.Once.{Once, once_head, once_tail}
use Rattle.listing.specs.declared.Answer.{Answer}
use Rattle.listing.specs.Listing.{Listing, Limits, rank, count}
use Rattle.listing.specs.Shape.{shape_test}
use Rattle.listing.proofs.Broken.{zero_or}
use Rattle.valid_incidence.specs.Incidence.{Incident, incidences_test}
use Rattle.valid_diamond.specs.Dyadic.{walk, LiesBetween, Distinct}
use Rattle.valid_diamond.proofs.DyadicExact.{subs_over, over_between, over_once, met_over}
use Rattle.valid.specs.Bounds.{bounded_test}
use Rattle.valid.specs.Ascent.{ascent_test}
use Rattle.valid.specs.Tests as tests
use Rattle.valid.proofs.AscentExact.{ascent_exact, ascends_distinct}
use Rattle.valid.proofs.TestNumbers.{bounded_numbers, incidence_numbers, ascent_numbers}
use Rattle.promises.specs.Named.{FirstThird, Named, of_shape, of_flags, named_not_bounded, named_no_subs, named_no_sups}
use Rattle.promises.specs.Named.{named_sub_not_back, named_sup_not_back, named_sub_missing, named_sup_missing}
use Rattle.promises.specs.Named.{named_third_between}
use Rattle.promises.specs.Named.{named_lone_between, named_not_ascending, named_several_parts}
use Rattle.promises.specs.Named.{ThreeOf, OneOf, BetweenNamed}
use Rattle.promises.proofs.Firsts.{Tells, tells_or}
use Rattle.promises.proofs.NamedTests.{shape_tells, closed_named}

-- ---- three elements between, and one

three_in : (l : List ℕ) → Once l → 3 ≤ length l → ThreeOf (λ x. In x l)
unfolding In
three_in [] o h = absurd (omega arith)
three_in (a ∷ []) o h = absurd (omega arith)
three_in (a ∷ b ∷ []) o h = absurd (omega arith)
three_in (a ∷ b ∷ c ∷ l) o h = record {
  one = a;
  two = b;
  three = c;
  apart = (
    λ e. once_head a (b ∷ c ∷ l) o (inl e),
    λ e. once_head a (b ∷ c ∷ l) o (inr (inl e)),
    λ e. once_head b (c ∷ l) (once_tail a (b ∷ c ∷ l) o) (inl e),
  );
  each = (inl refl, inr (inl refl), inr (inr (inl refl)));
}

one_in : (l : List ℕ) → length l ≡ 1 → OneOf (λ x. In x l)
unfolding In
one_in [] h = absurd (omega arith)
one_in (a ∷ []) h = record { one = a; first = inl refl; no_second = only }
  where
    only : (w : ℕ) → (w ≡ a) ⊎ ⊥ → w ≡ a
    only w (inl e) = e
    only w (inr m) = absurd m
one_in (a ∷ b ∷ l) h = absurd (omega arith)

third_occurs : {x : ℕ} {l : List ℕ} → FirstThird x l → 3 ≤ occurs x l
third_occurs {x} t =
    rw t.stands (omega (
      arith,
      occurs_append x t.done (x ∷ t.rest),
      occurs_cons x x t.rest,
      occurs_own x,
      t.twice,
    ))

module _ (L : Listing) (I : Incident L) (D : Distinct L) (r i x : ℕ) (k : i < count L r) where
  three_between : 3 ≤ occurs x (walk L r i) → ThreeOf (LiesBetween L r i x)
  three_between h =
      let t = three_in (subs_over L r i x) (over_once L I D r i x k) (omega (arith, met_over L I D r i x k)) in
      let b : (s : ℕ) → In s (subs_over L r i x) → LiesBetween L r i x s = λ s. (over_between L r i x s).0 in
      record {
        one = t.one;
        two = t.two;
        three = t.three;
        apart = t.apart;
        each = (b t.one t.each.0, b t.two t.each.1, b t.three t.each.2);
      }

  one_between : occurs x (walk L r i) ≡ 1 → OneOf (LiesBetween L r i x)
  one_between h =
      let t = one_in (subs_over L r i x) (omega (arith, met_over L I D r i x k)) in
      record {
        one = t.one;
        first = (over_between L r i x t.one).0 t.first;
        no_second = λ w b. t.no_second w ((over_between L r i x w).1 b);
      }

-- another number than these
neither : {L : Listing} {a : Answer} → (a.no < 17) ⊎ (18 < a.no) → BetweenNamed L a
neither (inl h) = record { three = λ e. absurd (omega arith); single = λ e. absurd (omega arith) }
neither (inr h) = record { three = λ e. absurd (omega arith); single = λ e. absurd (omega arith) }

pub between_named : (h : ℕ) (L : Listing) {a : Answer} → Distinct L → Named h L a → BetweenNamed L a
between_named h L D (of_shape n p q) = neither (inl (omega arith))
between_named h L D (of_flags n p q) = neither (inr (omega arith))
between_named h L D (named_not_bounded b) = neither (inl (omega arith))
between_named h L D (named_no_subs r i F p e) = neither (inl (omega arith))
between_named h L D (named_no_sups r i F l p e) = neither (inl (omega arith))
between_named h L D (named_sub_not_back r i x F K p q n) = neither (inl (omega arith))
between_named h L D (named_sup_not_back r i x F l K q n) = neither (inl (omega arith))
between_named h L D (named_sub_missing r i x F K q) = neither (inl (omega arith))
between_named h L D (named_sup_missing r i x F l K q) = neither (inl (omega arith))
between_named h L D (named_third_between r i x I F p q t) = record {
  three = λ e. three_between L I D r i x F.exists (third_occurs t);
  single = λ e. absurd (omega arith);
}
between_named h L D (named_lone_between r i x I F p q a o s) = record {
  three = λ e. absurd (omega arith);
  single = λ e. one_between L I D r i x F.exists o;
}
between_named h L D (named_not_ascending r i s F p a n) = neither (inr (omega arith))
between_named h L D (named_several_parts o) = neither (inr (omega arith))

-- an answer of 0 says nothing of elements between
pub between_tells : {L : Listing} {a : Answer} → Tells (BetweenNamed L) a → BetweenNamed L a
between_tells {L} {a} t = go (zero_or a.no)
  where
    go : (a.no ≡ 0) ⊎ (a.no ≡ 0 → ⊥) → BetweenNamed L a
    go (inl z) = neither (inl (omega arith))
    go (inr s) = t s

-- where closed answers 17 or 18, it has passed the ascent test
module _ (m : Limits) (L : Listing) where
  abbrev Met : Answer → Type 0
  Met a = 17 ≤ a.no → a.no ≤ 18 → Distinct L

  closed_distinct : Tells Met (tests.closed m L)
  unfolding tests.closed
  closed_distinct =
      tells_or Met (shape_test m L) _ (shape_tells Met (λ n p q l k. absurd (omega arith)) m L) (λ _.
      tells_or Met (bounded_test L) _ (λ s l k. absurd (omega (arith, ((bounded_numbers L).numbers s).1))) (λ _.
      tells_or Met (incidences_test L) _ (λ s l k. absurd (omega (arith, ((incidence_numbers L).numbers s).1))) (λ _.
      tells_or Met (ascent_test L) _ (λ s l k. absurd (omega (arith, ((ascent_numbers L).numbers s).0))) (λ z s l k.
      ascends_distinct L ((ascent_exact L).0 z)))))

  pub closed_tells : Tells (BetweenNamed L) (tests.closed m L)
  closed_tells s = record {
    three = λ e.
        (between_named (rank L) L (closed_distinct s (omega arith) (omega arith)) (closed_named m L s)).three e;
    single = λ e.
        (between_named (rank L) L (closed_distinct s (omega arith) (omega arith)) (closed_named m L s)).single e;
  }
