-- A row is kept exactly where every test is true.
use Rattle.std.proofs.Common.{◌≡◌, Bool, true, false, if◌then◌else◌, List, [], ◌∷◌, Result, Ok, Err, ◌↔◌, refl, ap, ◌∙◌}
use Rattle.std.specs.List.{All}
use Rattle.std.proofs.lemmas.List.Elements.{All-nil, All-cons, All-head, All-tail}
use Rattle.geo_base.specs.Results.{◌>>=◌}
use Rattle.geo_base.specs.declared.cell.Cell.{Cell}
use Rattle.geo_base.specs.declared.cell.Cell.TheVariants.{Null, Int, Text, Truth}
use Rattle.sql_expr.specs.declared.expr.Expr.{Expr}
use Rattle.sql_expr.specs.declared.fault.EvalFault.{EvalFault}
use Rattle.sql_expr.specs.Conditions.{is_true, kept}
use Rattle.sql_expr.specs.Values.{ValueOrFault, value_of}

abbrev Kept : Type 0
Kept = Result Bool EvalFault

-- a value, and then the rest where it is true
abbrev then_rest : ValueOrFault → Kept → Kept
then_rest v rest = v >>= λ c. if is_true c then rest else Ok false

dropped : {P : Type 0} → (let r : Kept = Ok false in r ≡ Ok true) → P
dropped h = cc

passed : (v : ValueOrFault) (rest : Kept) → then_rest v rest ≡ Ok true → (v ≡ Ok (Truth true)) × (rest ≡ Ok true)
passed (Err e) rest h = cc
passed (Ok Null) rest h = dropped h
passed (Ok (Int x)) rest h = dropped h
passed (Ok (Text x)) rest h = dropped h
passed (Ok (Truth true)) rest h = (refl, h)
passed (Ok (Truth false)) rest h = dropped h

module _ (row : List Cell) where
  abbrev IsPassed : Expr → Type 0
  IsPassed test = value_of row test ≡ Ok (Truth true)

  all_passed : (tests : List Expr) → kept row tests ≡ Ok true → All IsPassed tests
  all_passed [] h = All-nil IsPassed
  all_passed (test ∷ tests) h =
      let p = passed (value_of row test) (kept row tests) h in
      All-cons IsPassed test tests p.0 (all_passed tests p.1)

  all_kept : (tests : List Expr) → All IsPassed tests → kept row tests ≡ Ok true
  all_kept [] ps = refl
  all_kept (test ∷ tests) ps =
      ap (λ (v : ValueOrFault). then_rest v (kept row tests)) (All-head IsPassed test tests ps) ∙ all_kept tests (All-tail IsPassed test tests ps)

  pub kept_all : (tests : List Expr) → (kept row tests ≡ Ok true) ↔ All IsPassed tests
  kept_all tests = (all_passed tests, all_kept tests)
