-- Which of two claims of one epoch wins, and the word that orders claims so.
use Rattle.std.specs.Prelude.{ℕ, ◌+◌, ◌-◌, ◌*◌, ◌^◌, ◌<◌, Bool, ◌&&◌, ◌||◌, ◌==◌, nat_lt}
use Rattle.geo_base.specs.declared.claim.Claim.{Claim}

-- a's start is later; or the starts are equal and a's commit number is smaller; or these are equal and a's region is smaller
unfoldable pub beats : Claim → Claim → Bool
beats a b =
    nat_lt b.start a.start
    || ((a.start == b.start) && (nat_lt a.csn b.csn
    || ((a.csn == b.csn) && nat_lt a.region b.region)))

-- the claim as one number, which is greater for the claim that wins
unfoldable pub word_of : Claim → ℕ
word_of c = (c.start + 1) * 2 ^ 32 + (2 ^ 24 - 1 - c.csn) * 2 ^ 8 + (255 - c.region)

-- a claim that a word can hold
pub record IsClaim (c : Claim) : Type 0 where
  pub start : c.start < 2 ^ 32 - 1
  pub csn : c.csn < 2 ^ 24
  pub region : c.region < 2 ^ 8
