-- Two that are equal to a third are equal; and what asks nothing takes anything.
-- Assumes nothing.
use mathlib.Core.Path.{◌≡◌, sym, ◌∙◌}

pub alike : {B : Type 0} {b c d : B} → b ≡ d → c ≡ d → b ≡ c
alike p q = p ∙ sym q

-- a contract without a `requires` asks nothing
pub any : {K A : Type 0} (k : K) (a : A) → Unit {0}
any k a = tt
