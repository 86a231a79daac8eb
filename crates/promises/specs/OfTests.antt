-- What is promised of the counts, the classes, the shape test and the five tests.
--
-- ClassOf        c is the number of the class of a refusal n: 1 shape, 2 structure, 3 flags, 4 products, 0 none
-- CountRefuses   a count refuses with the number of the first rule that is broken, 0 if none is
-- Counts         the value of a count is n of its arguments where it is answered, and 0 where it is refused
-- Refuses        a test refuses with the number of the first rule that is broken, 0 if none is
-- Names          a test whose refusals are Named: true of what they name, the first such thing
-- Accepts        a test answers 0 exactly if all its numbers are 0
-- TestsTaken     any slices and numbers are taken
-- TestsRefuse    which refusal comes exactly when
-- TestsNamed     what each refusal says
-- TestsAnswer    what the counts are; the tests accept exactly what the book asks
-- TestsOnce      no second answer fits
use Rattle.std.specs.Prelude.{◌≡◌, ◌≢◌, ◌⊎◌, ◌↔◌, List, ℕ, ◌-◌, ◌≤◌, ◌<◌, length, get_or}
use Rattle.listing.specs.declared.Answer.{Answer}
use Rattle.listing.specs.declared.Number.{Number}
use Rattle.listing.specs.Refusals.{band_no}
use Rattle.listing.specs.Answers.{fine}
use Rattle.listing.specs.Told.{told}
use Rattle.listing.specs.Listing.{Listing, Limits, limits, rank}
use Rattle.listing.specs.Shape.{Shaped}
use Rattle.listing.specs.Rules.{Rule, FirstBroken, shape_rules}
use Rattle.listing_shape.specs.Counts.{count_rules}
use Rattle.valid_incidence.specs.Incidence.{Incident}
use Rattle.valid_diamond.specs.Dyadic.{DiamondUpTo, Distinct}
use Rattle.valid.specs.Bounds.{Bounded}
use Rattle.valid.specs.Closed.{Closed}
use Rattle.valid.specs.Rules.{bounded_rules, incident_rules, dyadic_rules, valid_rules, closed_rules}
use Rattle.listing_shape.proofs.class.Reads as class
use Rattle.listing_shape.proofs.band_number.Reads as band_number
use Rattle.listing_shape.proofs.shape.Reads as shape
use Rattle.flumedrac.proofs.fd_rank.Reads as rank_count
use Rattle.flumedrac.proofs.fd_el_count.Reads as el_count
use Rattle.flumedrac.proofs.fd_vertex_count.Reads as vertex_count
use Rattle.flumedrac.proofs.fd_facet_count.Reads as facet_count
use Rattle.flumedrac.proofs.fd_bounded.Reads as bounded
use Rattle.flumedrac.proofs.fd_check_incidences.Reads as check_incidences
use Rattle.flumedrac.proofs.fd_is_dyadic.Reads as is_dyadic
use Rattle.flumedrac.proofs.fd_is_valid.Reads as is_valid
use Rattle.flumedrac.proofs.fd_closed.Reads as closed
use Rattle.promises.specs.Entries.{Takes, Says, OneAnswer, Gathered, Slice, Three, lent}
use Rattle.promises.specs.Named.{Named, BetweenNamed}

pub record ClassOf (n c : ℕ) : Type 0 where
  pub shape : 1 ≤ n → n ≤ 9 → c ≡ 1
  pub structure : 10 ≤ n → n ≤ 19 → c ≡ 2
  pub flags : 20 ≤ n → n ≤ 29 → c ≡ 3
  pub products : 30 ≤ n → n ≤ 39 → c ≡ 4
  pub none : (n ≡ 0) ⊎ (39 < n) → c ≡ 0

module _ {K A X : Type 0} where
  abbrev pub CountRefuses : (K → Slice × A → Number → X → Type 0) → Type 0
  CountRefuses P = Says P (λ a r x. FirstBroken (count_rules a.0.now) r.no)

  abbrev pub Counts : (K → Slice × A → Number → X → Type 0) → (Slice × A → ℕ) → Type 0
  Counts P n = Says P (λ a r x. (r.no ≡ 0 → r.value ≡ n a) × (r.no ≢ 0 → r.value ≡ 0))

  abbrev pub Refuses : (K → Three A → Answer → X → Type 0) → (Limits → Listing → List Rule) → Type 0
  Refuses P rules = Says P (λ a r x. FirstBroken (rules limits (lent a)) r.no)

  abbrev pub Names : (K → Three A → Answer → X → Type 0) → (Listing → ℕ) → Type 0
  Names P h = Says P (λ a r x. r.no ≢ 0 → Named (h (lent a)) (lent a) r)

  abbrev pub Accepts : (K → Three A → Answer → X → Type 0) → Type 0
  Accepts P = Says P (λ a r x. r.no ≡ 0 ↔ r ≡ fine)

pub record TestsTaken : Type 0 where
  -- classes and counts
  pub counts : Takes class.Asked × Takes band_number.Asked × Takes rank_count.Asked × Takes el_count.Asked
      × Takes vertex_count.Asked × Takes facet_count.Asked
  -- the shape test and the five tests
  pub tests : Takes shape.Asked × Takes bounded.Asked × Takes check_incidences.Asked × Takes is_dyadic.Asked
      × Takes is_valid.Asked × Takes closed.Asked

pub record TestsRefuse : Type 0 where
  -- the rank is refused for an empty slice, and for nothing else
  pub rank_refuses : CountRefuses rank_count.Post
  -- so is the number of elements of a rank
  pub el_count_refuses : CountRefuses el_count.Post
  -- so is the number of vertices
  pub vertex_count_refuses : CountRefuses vertex_count.Post
  -- so is the number of facets
  pub facet_count_refuses : CountRefuses facet_count.Post
  -- a refusal's number has its class by bands: 1 to 9, 10 to 19, 20 to 29, 30 to 39, all else none
  pub class_by_bands : Says class.Post (λ a r x. ClassOf a.0 (band_no r))
  -- a class is told by that number
  pub class_by_number : Says band_number.Post (λ a r x. r ≡ band_no a.0)
  -- the shape test refuses in the order 1 to 6
  pub shape_refuses : Refuses (Gathered told shape.Post) shape_rules
  -- bounded refuses as the shape test does, then with 10
  pub bounded_refuses : Refuses bounded.Post bounded_rules
  -- check_incidences refuses as the shape test does, then with 11 to 16
  pub incidences_refuse : Refuses check_incidences.Post incident_rules
  -- is_dyadic refuses as check_incidences does, then with 17 and 18 below the top
  pub dyadic_refuses : Refuses is_dyadic.Post dyadic_rules
  -- is_valid refuses as bounded does, then with 11 to 16, then with 17 and 18 below the top
  pub valid_refuses : Refuses is_valid.Post valid_rules
  -- closed refuses as bounded does, then with 11 to 16, then with 19, then with 17 and 18 up to the top
  pub closed_refuses : Refuses closed.Post closed_rules
  -- a test that accepts answers nothing but 0s
  pub accepted_fine : Accepts (Gathered told shape.Post) × Accepts bounded.Post × Accepts check_incidences.Post
      × Accepts is_dyadic.Post × Accepts is_valid.Post × Accepts closed.Post

pub record TestsNamed : Type 0 where
  -- the shape test: what it refuses with carries nothing
  pub shape_names : Names (Gathered told shape.Post) (λ L. 0)
  -- bounded: what it refuses with is true of the listing
  pub bounded_names : Names bounded.Post (λ L. 0)
  -- so with check_incidences
  pub incidences_name : Names check_incidences.Post (λ L. 0)
  -- so with is_dyadic, which asks for the diamond below the top
  pub dyadic_names : Names is_dyadic.Post (λ L. rank L - 1)
  -- so with is_valid, which does too
  pub valid_names : Names is_valid.Post (λ L. rank L - 1)
  -- so with closed, which asks for it up to the top
  pub closed_names : Names closed.Post (λ L. rank L)
  -- where no list holds an index twice, occurrences are elements: 17 and 18 of is_dyadic
  pub dyadic_between : Says is_dyadic.Post (λ a r x. Distinct (lent a) → BetweenNamed (lent a) r)
  -- and of is_valid
  pub valid_between : Says is_valid.Post (λ a r x. Distinct (lent a) → BetweenNamed (lent a) r)
  -- and of closed, which has then seen to that
  pub closed_between : Says closed.Post (λ a r x. BetweenNamed (lent a) r)

pub record TestsAnswer : Type 0 where
  -- the rank is one less than the number of ranks
  pub rank_counts : Counts rank_count.Post (λ a. length a.0.now - 1)
  -- the elements of a rank, 0 for a rank that is not there
  pub el_count_counts : Counts el_count.Post (λ a. get_or a.0.now a.1.0 0)
  -- the vertices, which are the elements of rank 1
  pub vertex_count_counts : Counts vertex_count.Post (λ a. get_or a.0.now 1 0)
  -- the facets, which are the elements of the rank below the top
  pub facet_count_counts : Says facet_count.Post (λ a r x. r.no ≡ 0 → 2 ≤ length a.0.now
      → r.value ≡ get_or a.0.now (length a.0.now - 2) 0)
  -- the nullitope, which has one rank, has none, and 0 stands where there are no ranks
  pub nullitope_has_no_facets : Says facet_count.Post (λ a r x. length a.0.now ≤ 1 → r.value ≡ 0)
  -- bounded accepts what is laid out well and has one element at rank 0, and one at the top
  pub bounded_by_the_book : Says bounded.Post (λ a r x. r.no ≡ 0 ↔ (Shaped limits (lent a) × Bounded (lent a)))
  -- check_incidences: subs above rank 0, sups below the top, and each one listed exists and lists the element back
  pub incident_by_the_book : Says check_incidences.Post
      (λ a r x. r.no ≡ 0 ↔ (Shaped limits (lent a) × Incident (lent a)))
  -- is_dyadic, of lists without repeats: between two elements two ranks apart, below the top, lie two things or none
  pub dyadic_by_the_book : Says is_dyadic.Post (λ a r x. Distinct (lent a)
      → r.no ≡ 0 ↔ (Shaped limits (lent a) × Incident (lent a) × DiamondUpTo (lent a) (rank (lent a) - 1)))
  -- is_valid: the three of them
  pub valid_by_the_book : Says is_valid.Post (λ a r x. Distinct (lent a) → r.no ≡ 0
      ↔ (Shaped limits (lent a) × Bounded (lent a) × Incident (lent a) × DiamondUpTo (lent a) (rank (lent a) - 1)))
  -- closed: bounded, incident, all lists ascending, and the diamond up to the maximal element
  pub closed_by_the_book : Says closed.Post (λ a r x. r.no ≡ 0 ↔ Closed limits (lent a))

pub record TestsOnce : Type 0 where
  pub one_class : OneAnswer class.Post
  pub one_band_number : OneAnswer band_number.Post
  pub one_rank : OneAnswer rank_count.Post
  pub one_el_count : OneAnswer el_count.Post
  pub one_vertex_count : OneAnswer vertex_count.Post
  pub one_facet_count : OneAnswer facet_count.Post
  pub one_shape : OneAnswer (Gathered told shape.Post)
  pub one_bounded : OneAnswer bounded.Post
  pub one_check_incidences : OneAnswer check_incidences.Post
  pub one_is_dyadic : OneAnswer is_dyadic.Post
  pub one_is_valid : OneAnswer is_valid.Post
  pub one_closed : OneAnswer closed.Post
