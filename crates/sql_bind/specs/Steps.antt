-- Steps that refuse, and steps that are done for each item of a list.
use Rattle.std.specs.Prelude.{Bool, if◌then◌else◌, List, [], ◌∷◌, ◌++◌, Result, Ok, Err}
use Rattle.geo_base.specs.Results.{◌>>=◌}

-- the step behind a test that went well; a fault is passed on
infixl 10 ◌>>◌
abbrev pub ◌>>◌ : {A B E : Type 0} → Result A E → Result B E → Result B E
(Ok x) >> b = b
(Err e) >> b = Err e

-- what a step gives, in another form; a fault is passed on
infixl 10 ◌<$>◌
abbrev pub ◌<$>◌ : {A B E : Type 0} → (A → B) → Result A E → Result B E
f <$> step = step >>= λ x. Ok (f x)

-- the fault, where the test holds
abbrev pub refused_if : {E : Type 0} → Bool → E → Result (Unit {0}) E
refused_if test fault = if test then Err fault else Ok tt

-- the fault, where the test doesn't hold
abbrev pub refused_unless : {E : Type 0} → Bool → E → Result (Unit {0}) E
refused_unless test fault = if test then Ok tt else Err fault

-- each item from left to right, behind what the earlier ones gave
abbrev pub each_behind : {A B E : Type 0} → (List B → A → Result B E) → List B → List A → Result (List B) E
each_behind step done [] = Ok done
each_behind step done (item ∷ items) = do
  next ← step done item
  each_behind step (done ++ next ∷ []) items

-- each item from left to right
abbrev pub each : {A B E : Type 0} → (A → Result B E) → List A → Result (List B) E
each step items = each_behind (λ _. step) [] items
