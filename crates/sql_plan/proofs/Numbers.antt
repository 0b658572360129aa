-- The numbers of one table, or of two.
use Rattle.std.proofs.Common.{◌≡◌, ℕ, ◌≤◌, List, [], ◌∷◌, length, get_or, refl, arith}
use Rattle.geo_schema.specs.Schemas.{Tables}
use Rattle.row_source.specs.Handing.{IsPlanFor}
use Rattle.row_source.specs.declared.plan.Plan.{Plan}

pub one_number : (numbers : List ℕ) → length numbers ≡ 1 → get_or numbers 0 0 ∷ [] ≡ numbers
one_number [] one = absurd (omega arith)
one_number (a ∷ []) one = refl
one_number (a ∷ b ∷ more) one = absurd (omega arith)

pub two_numbers : (numbers : List ℕ) → length numbers ≡ 2 → get_or numbers 0 0 ∷ get_or numbers 1 0 ∷ [] ≡ numbers
two_numbers [] two = absurd (omega arith)
two_numbers (a ∷ []) two = absurd (omega arith)
two_numbers (a ∷ b ∷ []) two = refl
two_numbers (a ∷ b ∷ c ∷ more) two = absurd (omega arith)

-- a plan fits one table or two
pub has_tables : (tables : Tables) (numbers : List ℕ) (plan : Plan) → IsPlanFor tables numbers plan → (1 ≤ length numbers) × (length numbers ≤ 2)
has_tables tables [] plan h = absurd h
has_tables tables (a ∷ []) plan h = (omega arith, omega arith)
has_tables tables (a ∷ b ∷ []) plan h = (omega arith, omega arith)
has_tables tables (a ∷ b ∷ c ∷ more) plan h = absurd h
