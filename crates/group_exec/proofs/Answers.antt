-- What calls answer, put together.
use Rattle.std.proofs.Common.{◌≡◌, ◌≤◌, Bool, true, false, ltb, nat_eq, List, [], ◌∷◌, Option, Some, None, ℕ, length, map, Result, Ok, Err, refl, sym, ap, subst, ◌∙◌, arith}
use Rattle.std.specs.Cmp.{IsStrictWeakOrder}
use Rattle.std.specs.List.Sorted.{IsSortedBy, IsStableBy}
use Rattle.std.specs.Result.{OnOk}
use Rattle.std.proofs.lemmas.Bool.Decides.{Decides-eqb, Decides-ltb}
use Rattle.std.proofs.lemmas.List.{length-map, take-map}
use Rattle.std.proofs.lemmas.List.Sorted.{ranks_by}
use Rattle.geo_base.specs.Results.{Gives, ◌>>=◌}
use Rattle.geo_base.specs.declared.cell.Cell.{Cell}
use Rattle.row_source.specs.declared.fault.ExecFault.{ExecFault}
use Rattle.row_source.specs.declared.fault.ExecFault.TheVariants as fault
use Rattle.sql_bind.specs.declared.bound.Sort.{Sort}
use Rattle.group_exec.specs.Results.{LineOfRow, cut, ordered, within_limit}
use Rattle.group_exec.specs.declared.limits.TheConstants.{MAX_LINES}
use Rattle.group_exec.specs.declared.made.Made.{Made}
use Rattle.group_exec.specs.inner.Made.{seen_line}
use Rattle.group_exec.specs.laws.Orders.{by_all_total}
use Rattle.group_exec.specs.laws.Sorting.{is_seen_less, sorted_in_order, unordered}

pub seen_weak : (sorts : List Sort) → IsStrictWeakOrder (is_seen_less sorts seen_line)
seen_weak sorts = ranks_by (by_all_total sorts) seen_line

cells_alone : (lines : List Made) → map (λ l. l.line) (map seen_line lines) ≡ map (λ m. m.cells) lines
cells_alone [] = refl
cells_alone (m ∷ lines) = ap (λ (rest : List (List Cell)). m.cells ∷ rest) (cells_alone lines)

-- without ORDER BY the lines are in order
pub without_order : (sorts : List Sort) (lines : List LineOfRow) → nat_eq (length sorts) 0 ≡ true → lines ≡ ordered sorts lines
without_order [] lines is = sym (unordered lines)
without_order (sort ∷ sorts) lines is = let none : length (sort ∷ sorts) ≡ 0 = (Decides-eqb (length (sort ∷ sorts)) 0).0 is in absurd (omega arith)

-- what a stable sort leaves is in order
pub when_sorted : {T E : Type 0} (sorts : List Sort) (before after : List Made) (r : Result T E) (P : Type 0) → OnOk r P →
    (P → IsSortedBy (is_seen_less sorts seen_line) after) → IsStableBy (is_seen_less sorts seen_line) before after → OnOk r (map seen_line after ≡ ordered sorts (map seen_line before))
when_sorted sorts before after (Ok x) P p sorted stable = sorted_in_order sorts seen_line before after (sorted p) stable
when_sorted sorts before after (Err e) P p sorted stable = tt

-- few enough lines are the answer
pub few_lines : (lines : List Made) (found : List (List Cell)) → length lines ≤ MAX_LINES → found ≡ map (λ m. m.cells) lines → within_limit (map seen_line lines) ≡ Ok found
few_lines lines found few is = by (ltb MAX_LINES (length (map seen_line lines))) refl
  where
    by : (b : Bool) → ltb MAX_LINES (length (map seen_line lines)) ≡ b → within_limit (map seen_line lines) ≡ Ok found
    by true h =
        let many = (Decides-ltb MAX_LINES (length (map seen_line lines))).0 h in
        let long = length-map lines seen_line in
        absurd (omega (arith, many, long, few))
    by false h =
        rw h (ap (λ (cells : List (List Cell)). let r : Result (List (List Cell)) ExecFault = Ok cells in r) (cells_alone lines ∙ sym is))

first_lines : (limit : Option ℕ) (lines : List Made) → map seen_line (cut limit lines) ≡ cut limit (map seen_line lines)
first_lines None lines = refl
first_lines (Some limit) lines = sym (take-map seen_line limit lines)

-- lines that are made, put in order and cut
pub lines_answered : (meant : Result (List LineOfRow) ExecFault) (sorts : List Sort) (limit : Option ℕ) (found sorted left : List Made) (r : Result (List (List Cell)) ExecFault) →
    meant ≡ Ok (map seen_line found) → map seen_line sorted ≡ ordered sorts (map seen_line found) → left ≡ cut limit sorted →
    Gives fault.NoMemory (λ l. l) r (within_limit (map seen_line left)) →
    Gives fault.NoMemory (λ l. l) r (meant >>= λ lines. within_limit (cut limit (ordered sorts lines)))
lines_answered meant sorts limit found sorted left r made order cutted h =
    let e : within_limit (map seen_line left) ≡ (meant >>= λ lines. within_limit (cut limit (ordered sorts lines))) =
    ap (λ (lines : List Made). within_limit (map seen_line lines)) cutted
    ∙ ap within_limit (first_lines limit sorted)
    ∙ ap (λ (lines : List LineOfRow). within_limit (cut limit lines)) order
    ∙ ap (λ (m : Result (List LineOfRow) ExecFault). m >>= λ lines. within_limit (cut limit (ordered sorts lines))) (sym made) in
    subst (λ (m : Result (List (List Cell)) ExecFault). Gives fault.NoMemory (λ l. l) r m) e h
