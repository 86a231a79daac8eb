-- What is promised of the entries, while the other families speak of the functions for C: what the contract of an fd_
-- function admits, that of its entry admits too, for the same arguments gathered into structs and with the same answer
-- as a result, and the other way. So all that is promised of the fd_ function holds of its entry, as what that answers
-- is told. Three of them cross as numbers: the class, the sign, the next event. The last is said of `SaidStep` and
-- `Stepped`, of which the two contracts consist: they are lent a record, a form of which the prover makes no reading
-- (proofs/Cursor.antt).
--
-- BoundaryTaken   any slices and numbers are taken
-- Boundary        each fd_ function answers and writes as its entry does
-- BoundaryBack    and each entry as its fd_ function does
-- BoundaryOnce    no second answer fits
use Rattle.std.specs.Prelude.{◌≡◌, ℕ, Option}
use Rattle.listing.specs.Refusals.{band_no}
use Rattle.listing.specs.Told.{told, told_number, told_built}
use Rattle.search_events.specs.declared.Event.{Event}
use Rattle.search_events.specs.declared.Said.{Said}
use Rattle.flag.specs.Orientations.{of_byte}
use Rattle.flag.specs.Changed.{told_changed}
use Rattle.search.specs.SearchedBy.{told_searched}
use Rattle.text.specs.WrittenTexts.{told_written}
use Rattle.search_events.specs.Events.{said_of, Stepped, SaidStep}
use Rattle.listing_shape.proofs.class.Reads as class
use Rattle.listing_shape.proofs.rank.Reads as rank
use Rattle.listing_shape.proofs.el_count.Reads as el_count
use Rattle.listing_shape.proofs.vertex_count.Reads as vertex_count
use Rattle.listing_shape.proofs.facet_count.Reads as facet_count
use Rattle.valid.proofs.bounded.Reads as bounded
use Rattle.valid.proofs.check_incidences.Reads as check_incidences
use Rattle.valid.proofs.is_dyadic.Reads as is_dyadic
use Rattle.valid.proofs.is_valid.Reads as is_valid
use Rattle.valid.proofs.closed.Reads as closed
use Rattle.flag.proofs.change.Reads as change
use Rattle.flag.proofs.Orientation.sign.Reads as sign
use Rattle.search.proofs.search.Reads as search
use Rattle.body.proofs.one_body.Reads as one_body
use Rattle.dual.proofs.dual.Reads as dual
use Rattle.volume.specs.Volumes.{told_volume}
use Rattle.volume.proofs.six_volume.Reads as six_volume
use Rattle.product.proofs.duopyramid.Reads as duopyramid
use Rattle.product.proofs.duoprism.Reads as duoprism
use Rattle.product.proofs.duotegum.Reads as duotegum
use Rattle.product.proofs.duocomb.Reads as duocomb
use Rattle.text.proofs.read_text.Reads as read_text
use Rattle.text.proofs.check_text.Reads as check_text
use Rattle.text.proofs.write_text.Reads as write_text
use Rattle.flumedrac.proofs.fd_rank.Reads as fd_rank
use Rattle.flumedrac.proofs.fd_el_count.Reads as fd_el_count
use Rattle.flumedrac.proofs.fd_vertex_count.Reads as fd_vertex_count
use Rattle.flumedrac.proofs.fd_facet_count.Reads as fd_facet_count
use Rattle.flumedrac.proofs.fd_class.Reads as fd_class
use Rattle.flumedrac.proofs.fd_bounded.Reads as fd_bounded
use Rattle.flumedrac.proofs.fd_check_incidences.Reads as fd_check_incidences
use Rattle.flumedrac.proofs.fd_is_dyadic.Reads as fd_is_dyadic
use Rattle.flumedrac.proofs.fd_is_valid.Reads as fd_is_valid
use Rattle.flumedrac.proofs.fd_closed.Reads as fd_closed
use Rattle.flumedrac.proofs.fd_change.Reads as fd_change
use Rattle.flumedrac.proofs.fd_sign.Reads as fd_sign
use Rattle.flumedrac.proofs.fd_search.Reads as fd_search
use Rattle.flumedrac.proofs.fd_one_body.Reads as fd_one_body
use Rattle.flumedrac.proofs.fd_dual.Reads as fd_dual
use Rattle.flumedrac.proofs.fd_six_volume.Reads as fd_six_volume
use Rattle.flumedrac.proofs.fd_duopyramid.Reads as fd_duopyramid
use Rattle.flumedrac.proofs.fd_duoprism.Reads as fd_duoprism
use Rattle.flumedrac.proofs.fd_duotegum.Reads as fd_duotegum
use Rattle.flumedrac.proofs.fd_duocomb.Reads as fd_duocomb
use Rattle.flumedrac.proofs.fd_read_text.Reads as fd_read_text
use Rattle.flumedrac.proofs.fd_check_text.Reads as fd_check_text
use Rattle.flumedrac.proofs.fd_write_text.Reads as fd_write_text
use Rattle.promises.specs.Entries.{Takes, SaysOfTwo, PassesOn, Told, Gathered, GatheredTwo}
use Rattle.promises.specs.Entries.{OneAnswer, OneOutcome}
use Rattle.promises.specs.Entries.{outputs, turned_into, tables, body_tables, read_into, written_into}

pub record BoundaryTaken : Type 0 where
  -- counts, classes and tests
  pub tests : Takes rank.Asked × Takes el_count.Asked × Takes vertex_count.Asked × Takes facet_count.Asked
      × Takes fd_class.Asked × Takes bounded.Asked × Takes check_incidences.Asked × Takes is_dyadic.Asked
      × Takes is_valid.Asked × Takes closed.Asked
  -- products
  pub products : Takes duopyramid.Asked × Takes duoprism.Asked × Takes duotegum.Asked × Takes duocomb.Asked
  -- texts
  pub texts : Takes read_text.Asked × Takes check_text.Asked × Takes write_text.Asked
  -- flags; of next_event and fd_next_event it stands in proofs/Cursor.antt
  pub flags : Takes change.Asked × Takes fd_sign.Asked × Takes search.Asked
  -- the test for one body
  pub bodies : Takes one_body.Asked
  -- duals
  pub duals : Takes dual.Asked
  -- volumes
  pub volumes : Takes six_volume.Asked

pub record Boundary : Type 0 where
  pub rank_passes : PassesOn fd_rank.Post (Told told_number rank.Post)
  pub el_count_passes : PassesOn fd_el_count.Post (Told told_number el_count.Post)
  pub vertex_count_passes : PassesOn fd_vertex_count.Post (Told told_number vertex_count.Post)
  pub facet_count_passes : PassesOn fd_facet_count.Post (Told told_number facet_count.Post)
  pub bounded_passes : PassesOn fd_bounded.Post (Gathered told bounded.Post)
  pub check_incidences_passes : PassesOn fd_check_incidences.Post (Gathered told check_incidences.Post)
  pub is_dyadic_passes : PassesOn fd_is_dyadic.Post (Gathered told is_dyadic.Post)
  pub is_valid_passes : PassesOn fd_is_valid.Post (Gathered told is_valid.Post)
  pub closed_passes : PassesOn fd_closed.Post (Gathered told closed.Post)
  pub change_passes : PassesOn fd_change.Post (Gathered told_changed change.Post)
  pub search_passes : PassesOn fd_search.Post (Gathered told_searched search.Post)
  pub one_body_passes : PassesOn fd_one_body.Post (Gathered told_searched one_body.Post)
  pub dual_passes : PassesOn fd_dual.Post (Gathered told_built dual.Post)
  pub duopyramid_passes : PassesOn fd_duopyramid.Post (GatheredTwo told_built duopyramid.Post)
  pub duoprism_passes : PassesOn fd_duoprism.Post (GatheredTwo told_built duoprism.Post)
  pub duotegum_passes : PassesOn fd_duotegum.Post (GatheredTwo told_built duotegum.Post)
  pub duocomb_passes : PassesOn fd_duocomb.Post (GatheredTwo told_built duocomb.Post)
  pub read_text_passes : PassesOn fd_read_text.Post (Told told_built read_text.Post)
  pub check_text_passes : PassesOn fd_check_text.Post (Told (λ d. (told d).no) check_text.Post)
  pub write_text_passes : PassesOn fd_write_text.Post (Gathered told_written write_text.Post)
  -- the number of the class
  pub class_passes : SaysOfTwo fd_class.Post class.Post (λ a r x c b y. a.0 ≡ c.0 → r ≡ band_no b)
  -- the sign of the orientation that the byte stands for
  pub sign_passes : SaysOfTwo fd_sign.Post sign.Post (λ a r x c s y. of_byte a.0 ≡ c.0 → r ≡ s)
  pub six_volume_passes : PassesOn fd_six_volume.Post (Gathered told_volume six_volume.Post)
  -- the next event, in numbers
  pub next_event_passes : (at count place at' : ℕ) (s : Said) → SaidStep at count place at' s
      → (e : Option Event) × Stepped at count place at' e × (s ≡ said_of e)

pub record BoundaryBack : Type 0 where
  pub rank_back : PassesOn (Told told_number rank.Post) fd_rank.Post
  pub el_count_back : PassesOn (Told told_number el_count.Post) fd_el_count.Post
  pub vertex_count_back : PassesOn (Told told_number vertex_count.Post) fd_vertex_count.Post
  pub facet_count_back : PassesOn (Told told_number facet_count.Post) fd_facet_count.Post
  pub bounded_back : PassesOn (Gathered told bounded.Post) fd_bounded.Post
  pub check_incidences_back : PassesOn (Gathered told check_incidences.Post) fd_check_incidences.Post
  pub is_dyadic_back : PassesOn (Gathered told is_dyadic.Post) fd_is_dyadic.Post
  pub is_valid_back : PassesOn (Gathered told is_valid.Post) fd_is_valid.Post
  pub closed_back : PassesOn (Gathered told closed.Post) fd_closed.Post
  pub change_back : PassesOn (Gathered told_changed change.Post) fd_change.Post
  pub search_back : PassesOn (Gathered told_searched search.Post) fd_search.Post
  pub one_body_back : PassesOn (Gathered told_searched one_body.Post) fd_one_body.Post
  pub dual_back : PassesOn (Gathered told_built dual.Post) fd_dual.Post
  pub duopyramid_back : PassesOn (GatheredTwo told_built duopyramid.Post) fd_duopyramid.Post
  pub duoprism_back : PassesOn (GatheredTwo told_built duoprism.Post) fd_duoprism.Post
  pub duotegum_back : PassesOn (GatheredTwo told_built duotegum.Post) fd_duotegum.Post
  pub duocomb_back : PassesOn (GatheredTwo told_built duocomb.Post) fd_duocomb.Post
  pub read_text_back : PassesOn (Told told_built read_text.Post) fd_read_text.Post
  pub check_text_back : PassesOn (Told (λ d. (told d).no) check_text.Post) fd_check_text.Post
  pub write_text_back : PassesOn (Gathered told_written write_text.Post) fd_write_text.Post
  -- the class and the sign are said of both in Boundary
  pub six_volume_back : PassesOn (Gathered told_volume six_volume.Post) fd_six_volume.Post
  -- the next event, in numbers
  pub next_event_back : (at count place at' : ℕ) (e : Option Event) → Stepped at count place at' e
      → SaidStep at count place at' (said_of e)

pub record BoundaryOnce : Type 0 where
  pub one_rank : OneAnswer (Told told_number rank.Post)
  pub one_el_count : OneAnswer (Told told_number el_count.Post)
  pub one_vertex_count : OneAnswer (Told told_number vertex_count.Post)
  pub one_facet_count : OneAnswer (Told told_number facet_count.Post)
  pub one_fd_class : OneAnswer fd_class.Post
  pub one_bounded : OneAnswer (Gathered told bounded.Post)
  pub one_check_incidences : OneAnswer (Gathered told check_incidences.Post)
  pub one_is_dyadic : OneAnswer (Gathered told is_dyadic.Post)
  pub one_is_valid : OneAnswer (Gathered told is_valid.Post)
  pub one_closed : OneAnswer (Gathered told closed.Post)
  pub one_change : OneAnswer (Gathered told_changed change.Post)
  pub one_fd_sign : OneAnswer fd_sign.Post
  pub one_search : OneOutcome (Gathered told_searched search.Post) tables
  pub one_one_body : OneOutcome (Gathered told_searched one_body.Post) body_tables
  pub one_dual : OneOutcome (Gathered told_built dual.Post) turned_into
  pub one_six_volume : OneOutcome (Gathered told_volume six_volume.Post) tables
  pub one_duopyramid : OneOutcome (GatheredTwo told_built duopyramid.Post) outputs
  pub one_duoprism : OneOutcome (GatheredTwo told_built duoprism.Post) outputs
  pub one_duotegum : OneOutcome (GatheredTwo told_built duotegum.Post) outputs
  pub one_duocomb : OneOutcome (GatheredTwo told_built duocomb.Post) outputs
  pub one_read_text : OneOutcome (Told told_built read_text.Post) read_into
  pub one_check_text : OneAnswer (Told (λ d. (told d).no) check_text.Post)
  pub one_write_text : OneOutcome (Gathered told_written write_text.Post) written_into
  -- the event cursor, by what its contract cites
  pub one_fd_next_event : (at count place c d : ℕ) (e f : Said) → SaidStep at count place c e
      → SaidStep at count place d f → (e ≡ f) × (c ≡ d)
