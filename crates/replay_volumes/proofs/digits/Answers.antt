-- `digits`. The two comparisons are what cutting a float to a whole number asks for. Assumes nothing.
use Rattle.std.proofs.Common.{T, sym, subst}
use lib.Ieee.{of_bits, neg}
use Rattle.replay_volumes.proofs.digits.Goals as goal

pub truncating_f64_to_u64-n-requires : goal.truncating_f64_to_u64-n-requires
unfolding of_bits neg
truncating_f64_to_u64-n-requires g c =
    record {
      lower_bound = subst T (sym c.if-x.true) tt;
      upper_bound = subst T (sym c.if-x-2.true) tt;
    }
