-- The insurer's two questions, each answered by theorems that can be read alone.
-- Assumes nothing.
use mathlib.Core.Path.{◌≡◌, sym, ap, ◌∙◌}
use mathlib.Core.Logic.{◌≢◌, ◌↔◌}
use mathlib.Core.Bool.{Bool, true, false}
use mathlib.Core.List.{map}
use Prim.Native.Nat.{ℕ}
use native.Mathlib.Omega.{arith}
use lib.ListN.{length, get_or}
use Rattle.listing.specs.declared.Answer.{Answer}
use Rattle.listing.specs.declared.Built.{Built}
use Rattle.listing.specs.Refusals.{lone_between}
use Rattle.listing.specs.Answers.{refusal, fine}
use Rattle.listing.specs.Listing.{Listing, Limits, limits, rank}
use Rattle.listing.specs.Cells.{dyad, triangle}
use Rattle.listing_outputs.specs.Output.{prefix}
use Rattle.valid_diamond.specs.Dyadic.{DiamondAt}
use Rattle.valid.specs.Ascent.{Ascends}
use Rattle.valid.specs.Tests.{is_valid, closed}
use Rattle.valid.specs.Closed.{Closed}
use Rattle.valid.proofs.ClosedExact.{closed_exact, closed_is_valid_and}
use Rattle.product_closure.specs.Result.{result_of, HighEnough}
use Rattle.product.specs.Outcome.{product_test, Outcome}
use Rattle.body_theory.specs.Pieces.{OnePiece, OneBody}
use Rattle.body_theory.specs.InAll.{ManyFlags}
use Rattle.body_theory.specs.High.{HighForOne}
use Rattle.body.proofs.Verdict.{body_exact}
use Rattle.dual_theory.specs.Dual.{Dual, dual_of}
use Rattle.dual_theory.specs.TurnedOver.{TurnedOver}
use Rattle.dual_theory.proofs.Duals.{dual_is}
use Rattle.dual_theory.proofs.DualShaped.{dual_shaped}
use Rattle.dual_theory.proofs.DualProducts.{product_turned_over}
use Rattle.dual.specs.Duals.{DualMade}
use Rattle.promises.specs.Starred.{other_square, two_triangles, leaking_box, turned_square, Trial, answered, tried}
use Rattle.promises.specs.Starred.Trial.{tested, combined, refused, read_as, unread, changed, bodied, wrote_as}
use Rattle.promises.specs.Starred.Trial.{unwritten, turned_as, unturned}
use Rattle.promises.proofs.Produced.{outcome_kept}
use Rattle.promises.proofs.OfDuals.{now_closed}
use Rattle.promises.proofs.Starred.{starred}

-- ---- (a) What rule let the cell through?

-- what a row of the table shows: what is answered, the listing that it is about or that is made, and what is_valid and
-- the last test say
record Shown : Type 0 where
  answer : Answer
  made : Listing
  valid : Answer
  last : Answer

abbrev shown : Trial → Shown
shown (tested L v c) = record { answer = v; made = L; valid = v; last = c }
shown (combined min max A B a R v c) = record { answer = a; made = R; valid = v; last = c }
shown (refused min max A B a) = record { answer = a; made = A; valid = a; last = a }
shown (read_as t a L c) = record { answer = a; made = L; valid = a; last = c }
shown (unread t a) = record { answer = a; made = leaking_box; valid = a; last = a }
shown (changed L f r c) = record { answer = c.answer; made = L; valid = c.answer; last = c.answer }
shown (bodied L n a) = record { answer = a; made = L; valid = a; last = a }
shown (wrote_as L n a t) = record { answer = a; made = L; valid = a; last = a }
shown (unwritten L n a) = record { answer = a; made = L; valid = a; last = a }
shown (turned_as L a D) = record { answer = a; made = D; valid = a; last = a }
shown (unturned L n a) = record { answer = a; made = L; valid = a; last = a }

-- row k of the table, with the answers that computing gives and with those that stand in it
row : (k : ℕ) → get_or (map answered tried) k (tested leaking_box fine fine)
    ≡ get_or tried k (tested leaking_box fine fine)
row k = ap (λ rows. get_or rows k (tested leaking_box fine fine)) starred

-- The cell: is_valid accepts it, and closed says of edge 0 that only one face lies between it and the cell.
pub let_through : (is_valid limits leaking_box ≡ fine) × (closed limits leaking_box ≡ refusal lone_between 2 0 4 0)
unfolding answered
let_through = (ap (λ t. (shown t).valid) (row 43), ap (λ t. (shown t).last) (row 43))

-- The rule that separates the two tests: of a listing that is_valid accepts, with ascending lists, closed asks one
-- thing more, the diamond at the maximal element.
pub separating_rule : (m : Limits) (L : Listing) → (is_valid m L).no ≡ 0 → Ascends L
    → (closed m L).no ≡ 0 ↔ DiamondAt L (rank L)
separating_rule m L v a = (
  λ c. ((closed_is_valid_and m L).0 c).2,
  λ d. (closed_is_valid_and m L).1 (v, a, d),
)

-- ---- (b) Does the rule survive when cells are built from smaller shapes?

-- Yes. Of two factors that the closed test accepts, high enough, whatever one of the four products has written, where
-- it answered, the closed test accepts too. All four contracts are Outcome at their two flags.
pub rule_survives : (min max : Bool) {A B old new : Listing} {r : Built} → Outcome limits min max A B old new r
    → r.answer.no ≡ 0 → (closed limits A).no ≡ 0 → (closed limits B).no ≡ 0
    → HighEnough min max (rank A) (rank B) → (closed limits (prefix new r)).no ≡ 0
rule_survives min max {A} {B} o z a b h =
    (closed_exact limits _).1
    ((outcome_kept min max o z).closed ((closed_exact limits A).0 a) ((closed_exact limits B).0 b) h)

-- And a product of two bodies, high enough for it, is one body: closed, and in one piece.
pub body_survives : (min max : Bool) {A B old new : Listing} {r : Built} → Outcome limits min max A B old new r
    → r.answer.no ≡ 0 → OneBody limits A → OneBody limits B → HighForOne min max (rank A) (rank B)
    → OneBody limits (prefix new r)
body_survives min max o z = (outcome_kept min max o z).one_body

-- That the duocomb needs 3 there: the dyad and the triangle are bodies, and their duocomb, which is answered with just
-- the room that it takes, is closed and no body.
pub three_needed : let P = result_of true true dyad triangle in
    OneBody limits dyad × OneBody limits triangle × Closed limits two_triangles × (¬ OnePiece two_triangles)
    × (P ≡ two_triangles)
    × (product_test limits true true dyad triangle (length P.counts) (length P.ends) (length P.inc) ≡ fine)
unfolding answered
three_needed = (
  ((body_exact dyad 2).accepts.0 (ap (λ t. (shown t).answer.no) (row 38))).0,
  ((body_exact triangle 6).accepts.0 (ap (λ t. (shown t).answer.no) (row 39))).0,
  parts.0,
  parts.2,
  ap (λ t. (shown t).made) (row 16),
  ap (λ t. (shown t).answer) (row 16),
)
  where
    parts : Closed limits two_triangles × (¬ ManyFlags 13 two_triangles) × (¬ OnePiece two_triangles)
    parts = (body_exact two_triangles 12).parts.0 (ap (λ t. (shown t).answer.no) (row 41))

-- ---- And on the dual mesh?

-- Yes. Of a listing that the closed test accepts, whatever `dual` has written, where it answered, the closed test
-- accepts too.
pub rule_survives_turned : (L : Listing) {old new : Listing} {r : Built} → DualMade limits L old new r
    → r.answer.no ≡ 0 → (closed limits (prefix new r)).no ≡ 0
rule_survives_turned L d z = (closed_exact limits _).1 (now_closed L d z)

-- The dual of a duoprism is the duotegum of the duals only after renumbering: of two dyads, their own duals, the two
-- are not the same slices.
pub turned_square_lem : let R = result_of true false dyad dyad in
    let Q = result_of false true dyad dyad in
    (dual_of R ≢ Q) × TurnedOver true false dyad dyad dyad dyad (dual_of R) Q
unfolding answered
turned_square_lem = (
  λ e. omega (arith, ap (λ (L : Listing). get_or L.inc 6 0) (sym turned_is ∙ e ∙ tegum_is)),
  product_turned_over true false own own dyad_closed dyad_closed (dual_is built) built_closed
      (dual_shaped built built_closed.shaped),
)
  where
    built : Listing
    built = result_of true false dyad dyad

    turned_is : dual_of built ≡ turned_square
    turned_is = ap (λ t. dual_of (shown t).made) (row 10) ∙ ap (λ t. (shown t).made) (row 53)

    tegum_is : result_of false true dyad dyad ≡ other_square
    tegum_is = ap (λ t. (shown t).made) (row 14)

    own : Dual dyad dyad
    own = rw (ap (λ t. (shown t).made) (row 51)) at (dual_is dyad)

    dyad_closed : Closed limits dyad
    dyad_closed = (closed_exact limits dyad).0 (ap (λ t. (shown t).last.no) (row 2))

    built_closed : Closed limits built
    built_closed = (closed_exact limits built).0 (ap (λ t. (shown t).last.no) (row 10))
