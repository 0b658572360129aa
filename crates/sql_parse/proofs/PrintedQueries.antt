-- The canonical text of a query spells its canonical form.
use Rattle.std.proofs.Common.{◌≡◌, ℕ, Bool, true, false, List, [], ◌∷◌, ◌++◌, map, Option, Some, None, option_map, unwrap_or, refl, ap, subst, arith, codes, if◌then◌else◌}
use Rattle.std.specs.List.{flat_map}
use Rattle.std.specs.Fmt.{decimal}
use Rattle.sql_ast.specs.declared.ast.ColRef.{ColRef}
use Rattle.sql_ast.specs.declared.select.TableRef.{TableRef}
use Rattle.geo_base.specs.Texts.{commas}
use Rattle.sql_ast.specs.Printing.{list_clause, column_text, expression_text, alias_text, aggregate_text, value_text, item_text, items_text, table_text, join_text, filter_text, order_text, limit_text, select_text}
use Rattle.sql_lex.specs.declared.keyword.Keyword.{Keyword}
use Rattle.sql_lex.specs.declared.keyword.Keyword.TheVariants.{KSelect, KFrom, KWhere, KJoin, KOn, KGroup, KBy, KOrder, KDesc, KLimit, KAs, KCount, KSum, KMin, KMax}
use Rattle.sql_lex.specs.declared.symbol.Symbol.TheVariants as symbol
use Rattle.sql_lex.specs.Keywords.{capitals}
use Rattle.sql_parse.specs.Trees.{Outside, Mark, kinds, Tree, marks, value}
use Rattle.sql_parse.specs.Forms.{word, sign, number_marks, column_marks, maybe, Several, listed, several_marks, alias_marks, table_marks, ValueForm, Plain, CountAll, Count, Sum, Min, Max, aggregate_marks, value_marks, value_of, ItemForm, item_marks, item_of, ItemsForm, Star, Listed, items_marks, items_of, JoinForm, join_marks, join_of, filter_marks, listed_if, OrderForm, direction_marks, ordered_marks, ordered_of, SelectForm, query_marks, select_of}
use Rattle.sql_parse.proofs.PrintedPieces.{Prints, PrintsAlone, opens_by, opens_blank, MayOpen, nothing_opens, blank_opens, loose, behind, behind_alone, after, both, nothing, spaced, indented, indented_alone, lone}
use Rattle.sql_parse.proofs.PrintedWords.{keyword, number}
use Rattle.sql_parse.proofs.PrintedTrees.{canonical}
use Rattle.sql_parse.proofs.PrintedExpressions.{AreSpelled, front_of, rest_of, name_by, number_fits, closed, opening, column_prints, expression_prints}
use Rattle.sql_parse.proofs.PrintedForms.{several, canonical_value, canonical_item, canonical_items, canonical_join, direction_by, canonical_order, canonical_select}

-- ---- words

-- a word at the front, and the blank behind it
pub leading : (k : Keyword) → PrintsAlone (word k) (capitals k ++ 32 ∷ [])
leading k = spaced (keyword Outside k)

-- a word between blanks
pub between : (k : Keyword) → PrintsAlone (word k) (32 ∷ (capitals k ++ 32 ∷ []))
between k = indented_alone (leading k)

pub open_list : PrintsAlone (sign symbol.Open) (codes "(")
open_list = opening Outside

comma : PrintsAlone (sign symbol.Comma) (codes ", ")
comma = spaced (loose (lone Outside symbol.Comma (λ next h. h)))

-- ---- lists

module _ {T S : Type 0} (written : T → List Mark) (out : T → T) (of : T → S) (text : S → List ℕ) (each : (x : T) → AreSpelled (kinds (written x)) → Prints (written (out x)) (text (of x))) where
  others_open : (xs : List T) → MayOpen (flat_map (λ other. codes ", " ++ text other) (map of xs))
  others_open [] = nothing_opens
  others_open (x ∷ xs) = record { apart = λ rest apart. record { low = omega arith; no_quote = omega arith } }

  others_print : (xs : List T) → AreSpelled (kinds (flat_map (λ other. sign symbol.Comma ++ written other) xs))
      → Prints (flat_map (λ other. sign symbol.Comma ++ written other) (map out xs)) (flat_map (λ other. codes ", " ++ text other) (map of xs))
  others_print [] all = nothing
  others_print (x ∷ xs) all =
      let more : List Mark = flat_map (λ other. sign symbol.Comma ++ written other) xs in
      behind (after comma (each x (front_of (written x) more all.1))) (others_open xs) (others_print xs (rest_of (written x) more all.1))

  pub commas_print : (s : Several T) → AreSpelled (kinds (several_marks written s)) → Prints (several_marks written (several out s)) (commas text (map of (listed s)))
  commas_print s all =
      let more : List Mark = flat_map (λ other. sign symbol.Comma ++ written other) s.others in
      behind (each s.first (front_of (written s.first) more all)) (others_open s.others) (others_print s.others (rest_of (written s.first) more all))

map_nothing : {T : Type 0} (xs : List T) → map (λ x. x) xs ≡ xs
map_nothing [] = refl
map_nothing (x ∷ xs) = ap (λ l. x ∷ l) (map_nothing xs)

-- the same where nothing is changed
pub plain_commas : {T : Type 0} (written : T → List Mark) (text : T → List ℕ) → ((x : T) → AreSpelled (kinds (written x)) → Prints (written x) (text x)) → (s : Several T)
    → AreSpelled (kinds (several_marks written s)) → Prints (several_marks written s) (commas text (listed s))
plain_commas written text each s all =
    let others : map (λ x. x) s.others ≡ s.others = map_nothing s.others in
    subst (λ l. Prints (several_marks written (record { first = s.first; others = l })) (commas text (s.first ∷ l))) others
    (commas_print written (λ x. x) (λ x. x) text each s all)

-- ---- tables

alias_opens : (alias : Option (List ℕ)) → MayOpen (alias_text alias)
alias_opens None = nothing_opens
alias_opens (Some name) = blank_opens (codes "AS " ++ name)

alias_prints : (alias : Option (List ℕ)) → AreSpelled (kinds (alias_marks alias)) → Prints (alias_marks alias) (alias_text alias)
alias_prints None all = nothing
alias_prints (Some name) all = after (between KAs) (name_by Outside name all.1.0)

table_prints : (table : TableRef) → AreSpelled (kinds (table_marks table)) → Prints (table_marks table) (table_text table)
table_prints table all = behind (name_by Outside table.name all.0) (alias_opens table.alias) (alias_prints table.alias all.1)

-- ---- items

aggregate_prints : (k : Keyword) (e : Tree) → AreSpelled (kinds (aggregate_marks k (marks e))) → Prints (aggregate_marks k (marks (canonical e))) (aggregate_text (capitals k) (value e))
aggregate_prints k e all =
    closed Outside (after (behind_alone (keyword Outside k) (opens_by 40 [] (omega arith) (omega arith)) open_list) (expression_prints e (front_of (marks e) (sign symbol.Close) all.1.1)))

count_all : Prints (value_marks CountAll) (codes "COUNT(*)")
count_all =
    closed Outside (after (behind_alone (keyword Outside KCount) (opens_by 40 [] (omega arith) (omega arith)) open_list) (loose (lone Outside symbol.Star (λ next h. h))))

value_prints : (v : ValueForm) → AreSpelled (kinds (value_marks v)) → Prints (value_marks (canonical_value v)) (value_text (value_of v))
value_prints (Plain e) all = expression_prints e all
value_prints CountAll all = count_all
value_prints (Count e) all = aggregate_prints KCount e all
value_prints (Sum e) all = aggregate_prints KSum e all
value_prints (Min e) all = aggregate_prints KMin e all
value_prints (Max e) all = aggregate_prints KMax e all

item_prints : (item : ItemForm) → AreSpelled (kinds (item_marks item)) → Prints (item_marks (canonical_item item)) (item_text (item_of item))
item_prints item all =
    behind (value_prints item.value (front_of (value_marks item.value) (alias_marks item.alias) all)) (alias_opens item.alias)
    (alias_prints item.alias (rest_of (value_marks item.value) (alias_marks item.alias) all))

items_print : (items : ItemsForm) → AreSpelled (kinds (items_marks items)) → Prints (items_marks (canonical_items items)) (items_text (items_of items))
items_print Star all = loose (lone Outside symbol.Star (λ next h. h))
items_print (Listed items) all = commas_print item_marks canonical_item item_of item_text item_prints items all

-- ---- clauses

join_opens : (join : Option JoinForm) → MayOpen (join_text (option_map join_of join))
join_opens None = nothing_opens
join_opens (Some join) = blank_opens (codes "JOIN " ++ table_text join.table ++ codes " ON " ++ expression_text (value join.on))

join_prints : (join : Option JoinForm) → AreSpelled (kinds (maybe join_marks join)) → Prints (maybe join_marks (option_map canonical_join join)) (join_text (option_map join_of join))
join_prints None all = nothing
join_prints (Some join) all =
    let table : List Mark = table_marks join.table in
    after (behind_alone (after (between KJoin) (table_prints join.table (front_of table (word KOn) (front_of (table ++ word KOn) (marks join.on) all.1)))) (opens_blank (codes "ON ")) (between KOn))
    (expression_prints join.on (rest_of (table ++ word KOn) (marks join.on) all.1))

pub filter_opens : (filter : Option Tree) → MayOpen (filter_text (option_map value filter))
filter_opens None = nothing_opens
filter_opens (Some e) = blank_opens (codes "WHERE " ++ expression_text (value e))

pub filter_prints : (filter : Option Tree) → AreSpelled (kinds (filter_marks filter)) → Prints (filter_marks (option_map canonical filter)) (filter_text (option_map value filter))
filter_prints None all = nothing
filter_prints (Some e) all = after (between KWhere) (expression_prints e all.1)

abbrev group_marks : Option (Several ColRef) → List Mark
group_marks group = maybe (λ columns. word KGroup ++ word KBy ++ several_marks column_marks columns) group

group_opens : (group : Option (Several ColRef)) → MayOpen (list_clause (codes " GROUP BY ") column_text (listed_if group))
group_opens None = nothing_opens
group_opens (Some s) = blank_opens (codes "GROUP BY " ++ commas column_text (listed s))

group_prints : (group : Option (Several ColRef)) → AreSpelled (kinds (group_marks group)) → Prints (group_marks group) (list_clause (codes " GROUP BY ") column_text (listed_if group))
group_prints None all = nothing
group_prints (Some s) all = after (both (between KGroup) (leading KBy)) (plain_commas column_marks column_text (column_prints Outside) s all.1.1)

direction_prints : (d : Bool) → Prints (maybe direction_marks (direction_by d)) (if d then codes " DESC" else [])
direction_prints true = indented (keyword Outside KDesc)
direction_prints false = nothing

direction_opens : (d : Bool) → MayOpen (if d then codes " DESC" else [])
direction_opens true = blank_opens (codes "DESC")
direction_opens false = nothing_opens

ordered_prints : (order : OrderForm) → AreSpelled (kinds (ordered_marks order)) → Prints (ordered_marks (canonical_order order)) (order_text (ordered_of order))
ordered_prints order all =
    let descending : Bool = unwrap_or order.direction false in
    behind (column_prints Outside order.column (front_of (column_marks order.column) (maybe direction_marks order.direction) all)) (direction_opens descending) (direction_prints descending)

abbrev order_marks : Option (Several OrderForm) → List Mark
order_marks order = maybe (λ columns. word KOrder ++ word KBy ++ several_marks ordered_marks columns) order

order_opens : (order : Option (Several OrderForm)) → MayOpen (list_clause (codes " ORDER BY ") order_text (map ordered_of (listed_if order)))
order_opens None = nothing_opens
order_opens (Some s) = blank_opens (codes "ORDER BY " ++ commas order_text (map ordered_of (listed s)))

order_prints : (order : Option (Several OrderForm)) → AreSpelled (kinds (order_marks order))
    → Prints (order_marks (option_map (several canonical_order) order)) (list_clause (codes " ORDER BY ") order_text (map ordered_of (listed_if order)))
order_prints None all = nothing
order_prints (Some s) all = after (both (between KOrder) (leading KBy)) (commas_print ordered_marks canonical_order ordered_of order_text ordered_prints s all.1.1)

limit_opens : (limit : Option ℕ) → MayOpen (limit_text limit)
limit_opens None = nothing_opens
limit_opens (Some n) = blank_opens (codes "LIMIT " ++ decimal n)

abbrev limit_marks : Option ℕ → List Mark
limit_marks limit = maybe (λ n. word KLimit ++ number_marks n) limit

limit_prints : (limit : Option ℕ) → AreSpelled (kinds (limit_marks limit)) → Prints (limit_marks limit) (limit_text limit)
limit_prints None all = nothing
limit_prints (Some n) all = after (between KLimit) (number Outside n (number_fits n all.1.0))

-- ---- queries

pub select_prints : (s : SelectForm) → AreSpelled (kinds (query_marks s)) → Prints (word KSelect ++ query_marks (canonical_select s)) (select_text (select_of s))
unfolding select_text
select_prints s all =
    let items : List Mark = items_marks s.items ++ word KFrom in
    let table : List Mark = items ++ table_marks s.left in
    let join : List Mark = table ++ maybe join_marks s.right in
    let filter : List Mark = join ++ filter_marks s.filter in
    let group : List Mark = filter ++ group_marks s.group in
    let order : List Mark = group ++ order_marks s.order in
    let to_order : AreSpelled (kinds order) = front_of order (limit_marks s.limit) all in
    let to_group : AreSpelled (kinds group) = front_of group (order_marks s.order) to_order in
    let to_filter : AreSpelled (kinds filter) = front_of filter (group_marks s.group) to_group in
    let to_join : AreSpelled (kinds join) = front_of join (filter_marks s.filter) to_filter in
    let to_table : AreSpelled (kinds table) = front_of table (maybe join_marks s.right) to_join in
    let to_from : AreSpelled (kinds items) = front_of items (table_marks s.left) to_table in
    behind (behind (behind (behind (behind (after
    (behind_alone (after (leading KSelect) (items_print s.items (front_of (items_marks s.items) (word KFrom) to_from))) (opens_blank (codes "FROM ")) (between KFrom))
    (table_prints s.left (rest_of items (table_marks s.left) to_table)))
    (join_opens s.right) (join_prints s.right (rest_of table (maybe join_marks s.right) to_join)))
    (filter_opens s.filter) (filter_prints s.filter (rest_of join (filter_marks s.filter) to_filter)))
    (group_opens s.group) (group_prints s.group (rest_of filter (group_marks s.group) to_group)))
    (order_opens s.order) (order_prints s.order (rest_of group (order_marks s.order) to_order)))
    (limit_opens s.limit) (limit_prints s.limit (rest_of order (limit_marks s.limit) all))
