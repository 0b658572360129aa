-- Which word each keyword is.
use Rattle.std.specs.Prelude.{◌≡◌, ℕ, true, List, codes}
use Rattle.std.specs.Str.{str_eq_ignore_ascii_case}
use Rattle.sql_lex.specs.declared.keyword.Keyword.{Keyword}
use Rattle.sql_lex.specs.declared.keyword.Keyword.TheVariants.{KSelect, KInsert, KInto, KValues, KUpdate, KSet, KDelete, KFrom, KWhere, KJoin, KOn, KGroup, KBy, KOrder, KAsc, KDesc, KLimit, KAs, KBegin, KOf, KEpoch, KCommit, KRollback, KExplain, KAnd, KOr, KNot, KIs, KNull, KTrue, KFalse, KCount, KSum, KMin, KMax, KInt, KText, KBool, KKey, KFor, KUnique}

-- the word of a keyword, in capitals
abbrev pub capitals : Keyword → List ℕ
capitals KSelect = codes "SELECT"
capitals KInsert = codes "INSERT"
capitals KInto = codes "INTO"
capitals KValues = codes "VALUES"
capitals KUpdate = codes "UPDATE"
capitals KSet = codes "SET"
capitals KDelete = codes "DELETE"
capitals KFrom = codes "FROM"
capitals KWhere = codes "WHERE"
capitals KJoin = codes "JOIN"
capitals KOn = codes "ON"
capitals KGroup = codes "GROUP"
capitals KBy = codes "BY"
capitals KOrder = codes "ORDER"
capitals KAsc = codes "ASC"
capitals KDesc = codes "DESC"
capitals KLimit = codes "LIMIT"
capitals KAs = codes "AS"
capitals KBegin = codes "BEGIN"
capitals KOf = codes "OF"
capitals KEpoch = codes "EPOCH"
capitals KCommit = codes "COMMIT"
capitals KRollback = codes "ROLLBACK"
capitals KExplain = codes "EXPLAIN"
capitals KAnd = codes "AND"
capitals KOr = codes "OR"
capitals KNot = codes "NOT"
capitals KIs = codes "IS"
capitals KNull = codes "NULL"
capitals KTrue = codes "TRUE"
capitals KFalse = codes "FALSE"
capitals KCount = codes "COUNT"
capitals KSum = codes "SUM"
capitals KMin = codes "MIN"
capitals KMax = codes "MAX"
capitals KInt = codes "INT"
capitals KText = codes "TEXT"
capitals KBool = codes "BOOL"
capitals KKey = codes "KEY"
capitals KFor = codes "FOR"
capitals KUnique = codes "UNIQUE"

-- the word is this keyword, in any mix of case
abbrev pub IsKeyword : Keyword → List ℕ → Type 0
IsKeyword keyword word = str_eq_ignore_ascii_case (capitals keyword) word ≡ true
