-- What is promised of the dual.
--
-- turned_by     the dual that a call has written
-- built_by      the product that a call has written
-- BothSides     five calls: p builds a product of A and B, d turns it over; a and b turn A and B over, and q builds a
--               product of the two duals; all are answered
-- Turns         whenever both sides are answered, the dual of the product that p builds is, renumbered, the product
--               that q builds, as TurnedOver says; p builds by min and max, q by max and min
-- DualsTaken    any slices are taken
-- DualsRefuse   which refusal comes exactly when, what it carries, and that nothing is then written
-- DualsAnswer   when a dual is written, and what it is
-- DualsKeep     what a dual keeps, said of the slices that were written, up to the lengths answered; and the duals of
--               products
-- DualsOnce     no second answer fits
use Rattle.std.specs.Prelude.{◌≡◌, ◌≢◌, ◌↔◌, Bool, true, false, length}
use Rattle.listing.specs.declared.Built.{Built}
use Rattle.listing.specs.Answers.{plain}
use Rattle.listing.specs.Listing.{Listing, limits}
use Rattle.listing.specs.Shape.{Shaped}
use Rattle.listing.specs.Rules.{FirstBroken}
use Rattle.listing_outputs.specs.Output.{Fits, prefix, Untouched, Wrote}
use Rattle.valid.specs.Closed.{Closed}
use Rattle.body_theory.specs.Pieces.{OneBody}
use Rattle.dual_theory.specs.Dual.{Dual, dual_of}
use Rattle.dual_theory.specs.TurnedOver.{TurnedOver}
use Rattle.dual.specs.Rules.{dual_rules}
use Rattle.flumedrac.proofs.fd_closed.Reads as closed
use Rattle.flumedrac.proofs.fd_dual.Reads as dual
use Rattle.flumedrac.proofs.fd_duopyramid.Reads as duopyramid
use Rattle.flumedrac.proofs.fd_duoprism.Reads as duoprism
use Rattle.flumedrac.proofs.fd_duotegum.Reads as duotegum
use Rattle.flumedrac.proofs.fd_duocomb.Reads as duocomb
use Rattle.promises.specs.Entries.{Takes, Says, SaysOfTwo, Call, OneOutcome, Three, ThreeWritten, lent, right, outputs}
use Rattle.promises.specs.Entries.{turned_into}

abbrev pub turned_by : Call dual.Post → Listing
turned_by c = prefix (turned_into c.exit) c.answer

module _ {K A X : Type 0} {P : K → A → Built → Three (Three (ThreeWritten X)) → Type 0} where
  abbrev pub built_by : Call P → Listing
  built_by c = prefix (outputs c.exit) c.answer

module _ {K L A C X Y : Type 0}
    {P : K → Three (Three (ThreeWritten A)) → Built → Three (Three (ThreeWritten X)) → Type 0}
    {Q : L → Three (Three (ThreeWritten C)) → Built → Three (Three (ThreeWritten Y)) → Type 0} where
  pub record BothSides (p : Call P) (d a b : Call dual.Post) (q : Call Q) : Type 0 where
    pub built : p.answer.answer.no ≡ 0
    pub of_built : lent d.args ≡ built_by p
    pub built_turned : d.answer.answer.no ≡ 0
    pub of_left : lent a.args ≡ lent p.args
    pub left_turned : a.answer.answer.no ≡ 0
    pub of_right : lent b.args ≡ right p.args
    pub right_turned : b.answer.answer.no ≡ 0
    pub of_turned : (lent q.args ≡ turned_by a) × (right q.args ≡ turned_by b)
    pub turned_built : q.answer.answer.no ≡ 0

module _ {K L A C X Y : Type 0} (min max : Bool)
    (P : K → Three (Three (ThreeWritten A)) → Built → Three (Three (ThreeWritten X)) → Type 0)
    (Q : L → Three (Three (ThreeWritten C)) → Built → Three (Three (ThreeWritten Y)) → Type 0) where
  abbrev pub Turns : Type 0
  Turns = (p : Call P) (d a b : Call dual.Post) (q : Call Q) → BothSides p d a b q
      → TurnedOver min max (lent p.args) (right p.args) (turned_by a) (turned_by b) (turned_by d) (built_by q)

pub record DualsTaken : Type 0 where
  pub dual : Takes dual.Asked

pub record DualsRefuse : Type 0 where
  -- it refuses as closed does, then with 36
  pub dual_refuses : Says dual.Post (λ a r x. FirstBroken (dual_rules limits (lent a)
      (length (turned_into a).counts) (length (turned_into a).ends) (length (turned_into a).inc)) r.answer.no)
  -- where closed refuses, it answers what closed does, with all fields
  pub dual_as_closed : SaysOfTwo dual.Post closed.Post
      (λ a r x c s y. lent c ≡ lent a → s.no ≢ 0 → r.answer ≡ s)
  -- else its refusal carries nothing
  pub dual_plain : Says dual.Post (λ a r x. Closed limits (lent a) → r.answer ≡ plain r.answer.no)
  -- at a refusal no number of the three slices has changed, and the lengths answered are 0
  pub dual_untouched : Says dual.Post (λ a r x. r.answer.no ≢ 0 → Untouched (turned_into a) (turned_into x) r)

pub record DualsAnswer : Type 0 where
  -- it answers 0 exactly if the listing is closed, and would itself fit into the three slices
  pub dual_exactly : Says dual.Post (λ a r x. r.answer.no ≡ 0 ↔ (Closed limits (lent a) × Fits (lent a)
      (length (turned_into a).counts) (length (turned_into a).ends) (length (turned_into a).inc)))
  -- it then has written the dual, whose lengths it answers; past them nothing is changed
  pub dual_wrote : Says dual.Post
      (λ a r x. r.answer.no ≡ 0 → Wrote (dual_of (lent a)) (turned_into a) (turned_into x) r)
  -- which is the dual as elements have it: each is of the opposite rank, with its index, its subs and sups changed over
  pub dual_turns : Says dual.Post (λ a r x. r.answer.no ≡ 0 → Dual (lent a) (prefix (turned_into x) r))
  -- no other shaped listing is it
  pub dual_only : (L D E : Listing) → Shaped limits D → Shaped limits E → Dual L D → Dual L E → D ≡ E

pub record DualsKeep : Type 0 where
  -- the dual of a closed listing is closed
  pub dual_closed : Says dual.Post (λ a r x. r.answer.no ≡ 0 → Closed limits (prefix (turned_into x) r))
  -- that of one body is one body
  pub dual_one_body : Says dual.Post
      (λ a r x. r.answer.no ≡ 0 → OneBody limits (lent a) → OneBody limits (prefix (turned_into x) r))
  -- the dual of a dual is the listing itself, number by number; it is answered where there is room
  pub dual_back : SaysOfTwo dual.Post dual.Post (λ a r x c s y. r.answer.no ≡ 0
      → lent c ≡ prefix (turned_into x) r → Fits (lent a)
      (length (turned_into c).counts) (length (turned_into c).ends) (length (turned_into c).inc)
      → (s.answer.no ≡ 0) × (prefix (turned_into y) s ≡ lent a))
  -- the dual of a duopyramid is the duopyramid of the duals
  pub duopyramid_turns : Turns false false duopyramid.Post duopyramid.Post
  -- that of a duoprism is the duotegum of the duals
  pub duoprism_turns : Turns true false duoprism.Post duotegum.Post
  -- that of a duotegum is the duoprism of the duals
  pub duotegum_turns : Turns false true duotegum.Post duoprism.Post
  -- that of a duocomb is the duocomb of the duals
  pub duocomb_turns : Turns true true duocomb.Post duocomb.Post

pub record DualsOnce : Type 0 where
  pub one_dual : OneOutcome dual.Post turned_into
