-- Arrays of one number, and rows of a table.
--
-- repeated  a number repeated n times is a list of length n
-- placed    a number of a slice times a number of ranks is small
-- Assumes nothing.
use Rattle.std.proofs.Common.{◌≡◌, ℕ, ◌*◌, ◌<◌, ◌≤◌, length, replicate, sym, mul-le-mul, arith}
use lib.ListN.{length-replicate}
use Rattle.listing.specs.Listing.{width, limits}

pub repeated : (n a : ℕ) → n ≡ length (replicate n a)
repeated n a = sym (length-replicate n a)

pub placed : (i w : ℕ) → i < width → w ≤ limits.ranks → i * w ≤ width * limits.ranks
placed i w h k =
    let e : i ≤ width = omega arith in
    mul-le-mul e k
