-- A reading that stops: what `?` returns is the text's own refusal.
-- Assumes nothing.
use mathlib.Core.Path.{◌≡◌}
use Rattle.std.proofs.Common.{Result}
use Rattle.std.specs.Result.{IfErr, IsErrAnd}
use Rattle.std.proofs.lemmas.Result.{err_from_is_err_and}
use Rattle.listing.specs.declared.Answer.{Answer}
use Rattle.listing.specs.declared.Refusal.{Refusal}
use Rattle.listing.specs.Told.{answer_of}

pub stops_so : {A : Type 0} {T : Answer} (r : Result A Refusal) (d : Refusal) → IsErrAnd r (λ x. x ≡ d)
    → answer_of d ≡ T → IfErr r (λ why. answer_of why ≡ T)
stops_so r d h e = let p = err_from_is_err_and r h in rw (p.1, p.2) e
