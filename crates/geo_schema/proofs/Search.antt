-- One step of the search through places, and of a list of the first ones.
use Rattle.std.proofs.Common.{◌≡◌, ℕ, zero, suc, ◌+◌, ◌-◌, ◌<◌, ◌≤◌, Bool, true, false, List, [], ◌∷◌, ◌++◌, Some, None, not, length, take, get_or, refl, sym, ap, ◌∙◌, arith}
use Rattle.std.specs.List.{range_with_len}
use Rattle.std.proofs.lemmas.List.{get_or_default, length-take}
use Rattle.geo_schema.specs.declared.limits.TheConstants.{MAX_UNIQUES}
use Rattle.geo_schema.specs.declared.table.TableDef.{TableDef}
use Rattle.geo_schema.specs.declared.unique.UniqueDef.{UniqueDef}
use Rattle.geo_schema.specs.Uniques.{no_unique}
use Rattle.geo_schema.specs.inner.Uniques.{is_unique, is_bad_unique, first_place}
use Rattle.geo_schema.specs.laws.Uniques.{unique_tells}

module _ (test : ℕ → Bool) (at count : ℕ) where
  one_left : at < count → count - at ≡ suc (count - (at + 1))
  one_left within = omega arith

  -- the place passes
  pub found_here : at < count → test at ≡ true → first_place test at (count - at) ≡ Some at
  found_here within passes = rw (one_left within) (rw passes refl)

  -- the place doesn't pass, and the search goes on behind it
  pub goes_on : at < count → test at ≡ false → first_place test at (count - at) ≡ first_place test (at + 1) (count - (at + 1))
  goes_on within fails = rw (one_left within) (rw fails refl)

  -- no place is left
  pub none_left : count ≤ at → first_place test at (count - at) ≡ None
  none_left past = let none : count - at ≡ 0 = omega arith in rw none refl

-- a unique that was looked at breaks a rule exactly where the test fails
module _ (tables : List TableDef) (uniques : List UniqueDef) (place : ℕ) (unique : UniqueDef) (answer : Bool) (within : place < length uniques) where
  seen : unique ≡ get_or uniques place unique → answer ≡ is_unique tables (take place uniques) unique → is_bad_unique tables uniques place ≡ not answer
  seen here e =
      let there : unique ≡ get_or uniques place no_unique = here ∙ get_or_default uniques place unique no_unique within in
      ap not (ap (is_unique tables (take place uniques)) (sym there) ∙ sym e)

  pub seen_bad : unique ≡ get_or uniques place unique → answer ≡ is_unique tables (take place uniques) unique → answer ≡ false → is_bad_unique tables uniques place ≡ true
  seen_bad here e bad = seen here e ∙ ap not bad

  pub seen_good : unique ≡ get_or uniques place unique → answer ≡ is_unique tables (take place uniques) unique → answer ≡ true → is_bad_unique tables uniques place ≡ false
  seen_good here e good = seen here e ∙ ap not good

  -- so there are fewer before it than the limit
  pub few_here : answer ≡ is_unique tables (take place uniques) unique → answer ≡ true → place + 1 ≤ MAX_UNIQUES
  few_here e good =
      let few : length (take place uniques) < MAX_UNIQUES = ((unique_tells tables (take place uniques) unique).0 (sym e ∙ good)).few in
      let count = length-take place uniques in
      omega arith

more : (at count next : ℕ) → at + count ≡ next → range_with_len at (suc count) ≡ range_with_len at count ++ next ∷ []
more at zero next e = let here : at ≡ next = omega arith in ap (λ (n : ℕ). n ∷ []) here
more at (suc count) next e = ap (λ (l : List ℕ). at ∷ l) (more (at + 1) count next (omega arith))

-- the first places and the next one
pub one_more : (places : List ℕ) (count : ℕ) → places ≡ range_with_len 0 count → places ++ count ∷ [] ≡ range_with_len 0 (count + 1)
one_more places count is =
    let next : count + 1 ≡ suc count = omega arith in
    rw (next, is) (sym (more 0 count count (omega arith)))
