-- What stands at a place of bytes. A place is the number of bytes before it.
use Rattle.std.specs.Prelude.{◌≡◌, ℕ, ◌+◌, ◌<◌, List, ◌++◌, length, drop, slice_index}

-- each of the numbers is a byte
abbrev pub AreBytes : List ℕ → Type 0
AreBytes bytes = (i : ℕ) → slice_index bytes i < 256

-- the bytes have the spelled ones at a place, and next is the place behind them
pub record StandsAt (spelled bytes : List ℕ) (at next : ℕ) : Type 0 where
  pub parts : drop at bytes ≡ spelled ++ drop next bytes
  pub behind : next ≡ at + length spelled
