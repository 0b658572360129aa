-- Inner: how the fault of tables and uniques is found. Inner words and proofs of crates above cite it.
use Rattle.std.specs.Prelude.{nat_le, if◌then◌else◌, Option, Some, length, position}
use Rattle.std.specs.Option.{option_map, option_or}
use Rattle.geo_base.specs.declared.limits.TheConstants.{MAX_TABLES}
use Rattle.geo_schema.specs.declared.fault.SchemaFault.{SchemaFault}
use Rattle.geo_schema.specs.declared.fault.SchemaFault.TheVariants as fault
use Rattle.geo_schema.specs.Schemas.{Tables}
use Rattle.geo_schema.specs.Tables.{same_table}
use Rattle.geo_schema.specs.inner.Repeats.{first_repeat}
use Rattle.geo_schema.specs.inner.Tables.{is_bad_table}
use Rattle.geo_schema.specs.inner.Uniques.{first_bad_unique}

-- too many tables; else the first that breaks a rule; else the first whose name an earlier one has; else the first
-- unique that breaks a rule
unfoldable pub schema_fault : Tables → Option SchemaFault
schema_fault tables =
    if nat_le (length tables.shown) MAX_TABLES
    then option_or (option_map fault.BadTable (position is_bad_table tables.shown))
    (option_or (option_map (λ table. fault.Twice table.name) (first_repeat same_table tables.shown)) (option_map fault.BadUnique (first_bad_unique tables.shown tables.uniques)))
    else Some fault.TooManyTables
