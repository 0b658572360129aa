-- Laws: the tests of the rules of uniques pass exactly where the rules are kept, and the first unique that breaks one is found.
use Rattle.std.proofs.Common.{◌≡◌, ◌≢◌, ℕ, ◌+◌, ◌<◌, Bool, true, false, ◌&&◌, not, nat_lt, Some, None, List, length, take, arith}
use Rattle.std.specs.Bool.{Decides}
use Rattle.std.specs.List.{list_all}
use Rattle.std.proofs.lemmas.Bool.{both_ways, not-false, not_from_true, not_from_false, false_from_ne_true}
use Rattle.std.proofs.lemmas.Bool.Decides.{Decides-not}
use Rattle.geo_base.specs.Order.{text_eq}
use Rattle.geo_base.specs.laws.Orders.{text_eq_decides}
use Rattle.geo_schema.specs.declared.index.IndexDef.{IndexDef}
use Rattle.geo_schema.specs.declared.limits.TheConstants.{MAX_UNIQUES, MAX_UNIQUE_COLUMNS}
use Rattle.geo_schema.specs.declared.table.TableDef.{TableDef}
use Rattle.geo_schema.specs.declared.unique.UniqueDef.{UniqueDef}
use Rattle.geo_schema.specs.Schemas.{Tables, IsUniqueAt, IsFirstBadUnique}
use Rattle.geo_schema.specs.Tables.{table_in}
use Rattle.geo_schema.specs.Uniques.{IsNotOf, IsFree, HasColumns, IsUnique, unique_in}
use Rattle.geo_schema.specs.inner.Tables.{is_name, are_places}
use Rattle.geo_schema.specs.inner.Uniques.{is_not_of, is_free, has_columns, is_unique, is_bad_unique, first_bad_unique}
use Rattle.geo_schema.specs.laws.Places.{none_from, from_none, found_from, from_found}
use Rattle.geo_schema.specs.laws.Rules.{both, said, below, each, name_tells, places_tell}

-- ---- the rules of uniques

unlike : (a b : List ℕ) → Decides (not (text_eq a b)) (a ≢ b)
unlike a b = Decides-not (text_eq a b) (text_eq_decides a b)

not_of_tells : (name : List ℕ) (table : TableDef) → Decides (is_not_of name table) (IsNotOf name table)
unfolding is_not_of
not_of_tells name table =
    let indexes : Bool = list_all (λ (index : IndexDef). not (text_eq index.name name)) table.indexes in
    said (is_not_of name table) (λ p. record { itself = p.0; indexes = p.1 }) (λ r. (r.itself, r.indexes))
    (both (not (text_eq table.name name)) indexes (unlike table.name name)
    (each (λ (index : IndexDef). not (text_eq index.name name)) (λ index. index.name ≢ name) (λ index. unlike index.name name) table.indexes))

free_tells : (tables : List TableDef) (uniques : List UniqueDef) (name : List ℕ) → Decides (is_free tables uniques name) (IsFree tables uniques name)
unfolding is_free
free_tells tables uniques name =
    let others : Bool = list_all (λ (unique : UniqueDef). not (text_eq unique.name name)) uniques in
    said (is_free tables uniques name) (λ p. record { of_tables = p.0; of_uniques = p.1 }) (λ r. (r.of_tables, r.of_uniques))
    (both (list_all (is_not_of name) tables) others (each (is_not_of name) (IsNotOf name) (not_of_tells name) tables)
    (each (λ (unique : UniqueDef). not (text_eq unique.name name)) (λ unique. unique.name ≢ name) (λ unique. unlike unique.name name) uniques))

columns_tell : (tables : List TableDef) (unique : UniqueDef) → Decides (has_columns tables unique) (HasColumns tables unique)
unfolding has_columns
columns_tell tables unique =
    let count : ℕ = length (table_in tables unique.table).columns in
    said (has_columns tables unique) (λ p. record { table = p.0; columns = p.1 }) (λ r. (r.table, r.columns))
    (both (nat_lt unique.table (length tables)) (are_places MAX_UNIQUE_COLUMNS count unique.columns) (below unique.table (length tables)) (places_tell MAX_UNIQUE_COLUMNS count unique.columns))

pub unique_tells : (tables : List TableDef) (before : List UniqueDef) (unique : UniqueDef) → Decides (is_unique tables before unique) (IsUnique tables before unique)
unfolding is_unique
unique_tells tables before unique =
    let free : Bool = is_free tables before unique.name in
    let columns : Bool = has_columns tables unique in
    said (is_unique tables before unique) (λ p. record { few = p.0; name = p.1.0; free = p.1.1.0; columns = p.1.1.1 }) (λ r. (r.few, (r.name, (r.free, r.columns))))
    (both (nat_lt (length before) MAX_UNIQUES) (is_name unique.name && (free && columns)) (below (length before) MAX_UNIQUES)
    (both (is_name unique.name) (free && columns) (name_tells unique.name)
    (both free columns (free_tells tables before unique.name) (columns_tell tables unique))))

-- ---- the search for the first that breaks a rule

module _ (tables : Tables) where
  abbrev is_bad : ℕ → Bool
  is_bad = is_bad_unique tables.shown tables.uniques

  abbrev is_good : ℕ → Bool
  is_good place = is_unique tables.shown (take place tables.uniques) (unique_in tables.uniques place)

  tells_at : (place : ℕ) → Decides (is_good place) (IsUniqueAt tables place)
  tells_at place = unique_tells tables.shown (take place tables.uniques) (unique_in tables.uniques place)

  good_kept : (place : ℕ) → is_bad place ≡ false → IsUniqueAt tables place
  good_kept place h = (tells_at place).0 (not-false (is_good place) h)

  kept_good : (place : ℕ) → IsUniqueAt tables place → is_bad place ≡ false
  kept_good place rules = not_from_true (is_good place) ((tells_at place).1 rules)

  bad_broken : (place : ℕ) → is_bad place ≡ true → ¬ IsUniqueAt tables place
  bad_broken place h rules = both_ways (is_bad place) (kept_good place rules) h

  broken_bad : (place : ℕ) → ¬ IsUniqueAt tables place → is_bad place ≡ true
  broken_bad place broken = not_from_false (is_good place) (false_from_ne_true (is_good place) (λ h. broken ((tells_at place).0 h)))

  pub all_unique : first_bad_unique tables.shown tables.uniques ≡ None → (place : ℕ) → place < length tables.uniques → IsUniqueAt tables place
  all_unique none place within = good_kept place (none_from is_bad 0 (length tables.uniques) place none (omega arith) (omega arith))

  pub none_bad_unique : ((place : ℕ) → place < length tables.uniques → IsUniqueAt tables place) → first_bad_unique tables.shown tables.uniques ≡ None
  none_bad_unique good = from_none is_bad 0 (length tables.uniques) (λ k low high. kept_good k (good k (omega arith)))

  pub first_bad_unique_is : (place : ℕ) → first_bad_unique tables.shown tables.uniques ≡ Some place → IsFirstBadUnique tables place
  first_bad_unique_is place h =
      let found = found_from is_bad 0 (length tables.uniques) place h in
      let high : place < 0 + length tables.uniques = found.1 in
      record {
        within = omega arith;
        bad = bad_broken place found.2;
        first = λ k lt. good_kept k (found.3 k (omega arith) lt);
      }

  pub is_first_bad_unique : (place : ℕ) → IsFirstBadUnique tables place → first_bad_unique tables.shown tables.uniques ≡ Some place
  is_first_bad_unique place r =
      let within : place < length tables.uniques = r.within in
      from_found is_bad 0 (length tables.uniques) place (omega arith) (omega arith) (broken_bad place r.bad) (λ k low lt. kept_good k (r.first k lt))
