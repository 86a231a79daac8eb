-- Answers, and the first refusal in an order.
--
-- refusal     the answer with a number and four fields
-- plain       the answer with a number alone
-- fine        the answer of no refusal
-- if_zero     one thing where a number is 0, else another
-- _orElse_    the first answer where it refuses, else the second
-- on          a refusal where a test says so
-- first_in    the first refusal along a list
-- first_for   the first refusal along k numbers from i on
-- first_of    the first refusal along the numbers from i up to, not including, n
use Rattle.std.specs.Prelude.{Bool, cond, List, [], ◌∷◌, ℕ, zero, suc, ◌-◌}
use Rattle.listing.specs.declared.Answer.{Answer}

abbrev pub refusal : ℕ → ℕ → ℕ → ℕ → ℕ → Answer
refusal n a b c d = record { no = n; a = a; b = b; c = c; d = d }

abbrev pub plain : ℕ → Answer
plain n = refusal n 0 0 0 0

abbrev pub fine : Answer
fine = plain 0

abbrev pub if_zero : {A : Type 0} → ℕ → A → A → A
if_zero zero x y = x
if_zero (suc n) x y = y

unfoldable pub ◌or_else◌ : Answer → Answer → Answer
x or_else y = if_zero x.no y x

infixr 20 ◌or_else◌
abbrev pub on : Bool → Answer → Answer
on t x = cond t x fine

unfoldable pub first_in : (ℕ → Answer) → List ℕ → Answer
first_in f [] = fine
first_in f (x ∷ xs) = f x or_else first_in f xs

unfoldable pub first_for : (ℕ → Answer) → ℕ → ℕ → Answer
first_for f i zero = fine
first_for f i (suc k) = f i or_else first_for f (suc i) k

unfoldable pub first_of : (ℕ → Answer) → ℕ → ℕ → Answer
unfolding first_for
first_of f i n = first_for f i (n - i)
