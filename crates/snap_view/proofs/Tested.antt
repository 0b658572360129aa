-- Entries that pass a test: they rise as all do, and a look-up finds among them what it finds among all, if that passes.
use Rattle.std.proofs.Common.{◌≡◌, Bool, true, false, cond, Option, None, Some, List, [], ◌∷◌, map, refl, sym, ap, ◌∙◌, subst}
use Rattle.std.specs.List.{AllByRecursion, filter}
use Rattle.std.specs.List.Sorted.{IsStrictlySortedBy}
use Rattle.std.specs.Map.{keys_of, lookup}
use Rattle.std.specs.BTreeMap.{is_at}
use Rattle.std.specs.Option.{option_and_then, option_map}
use Rattle.std.specs.Ordering.{is_eq}
use Rattle.std.specs.declared.cmp.Ordering.{Ordering}
use Rattle.std.specs.declared.cmp.Ordering.TheVariants.{Less, Equal, Greater}
use Rattle.geo_base.specs.declared.row_id.RowId.{RowId}
use Rattle.geo_base.specs.Order.{row_cmp}
use Rattle.geo_base.specs.laws.Orders.{row_cmp_total, same_row}
use Rattle.write_set.specs.Sets.{Rises}

-- what is held of a row, where it passes
abbrev pub passing : {X : Type 0} → (X → Bool) → Option X → Option X
passing test held = option_and_then (λ x. cond (test x) (Some x) None) held

-- what is found of the row
abbrev pub found : {X : Type 0} → RowId → List (RowId × X) → Option X
found row entries = lookup (is_at (row_cmp row)) entries

module _ {X : Type 0} (test : RowId × X → Bool) where
  below_passing : (P : RowId → Type 0) (entries : List (RowId × X)) → AllByRecursion P (keys_of entries) → AllByRecursion P (keys_of (filter test entries))
  below_passing P [] all = tt
  below_passing P (e ∷ es) all = by (test e) (below_passing P es all.1)
    where
      by : (b : Bool) → AllByRecursion P (keys_of (filter test es)) → AllByRecursion P (keys_of (cond b (e ∷ filter test es) (filter test es)))
      by true rest = (all.0, rest)
      by false rest = rest

  pub rises_passing : (entries : List (RowId × X)) → Rises entries → Rises (filter test entries)
  unfolding IsStrictlySortedBy
  rises_passing [] rises = tt
  rises_passing (e ∷ es) rises = by (test e) (rises_passing es rises.1)
    where
      by : (b : Bool) → Rises (filter test es) → Rises (cond b (e ∷ filter test es) (filter test es))
      by true rest = (below_passing (λ y. row_cmp e.0 y ≡ Less) es rises.0, rest)
      by false rest = rest

  none_behind : (e : RowId × X) (es : List (RowId × X)) (row : RowId) → row_cmp row e.0 ≡ Equal → AllByRecursion (λ y. row_cmp e.0 y ≡ Less) (keys_of es) →
      found row es ≡ None
  none_behind e [] row same all = refl
  none_behind e (f ∷ es) row same all =
      ap (λ o. cond (is_eq o) (Some f.1) (found row es)) (row_cmp_total.congr row e.0 f.0 same ∙ all.0) ∙ none_behind e es row same all.1

  pub found_passing : (entries : List (RowId × X)) (row : RowId) → Rises entries → found row (filter test entries) ≡ passing (λ x. test (row, x)) (found row entries)
  unfolding IsStrictlySortedBy
  found_passing [] row rises = refl
  found_passing (e ∷ es) row rises = by (row_cmp row e.0) (test e) refl refl (found_passing es row rises.1)
    where
      here : (b : Bool) → row_cmp row e.0 ≡ Equal → test e ≡ b → test (row, e.1) ≡ b
      here b is pass = ap (λ r. test (r, e.1)) (same_row row e.0 is) ∙ pass

      by : (o : Ordering) (b : Bool) → row_cmp row e.0 ≡ o → test e ≡ b → found row (filter test es) ≡ passing (λ x. test (row, x)) (found row es) →
          found row (cond b (e ∷ filter test es) (filter test es)) ≡ passing (λ x. test (row, x)) (cond (is_eq o) (Some e.1) (found row es))
      by Equal true is pass rest =
          ap (λ o. cond (is_eq o) (Some e.1) (found row (filter test es))) is ∙ sym (ap (λ b. cond b (Some e.1) None) (here true is pass))
      by Equal false is pass rest =
          rest ∙ (ap (passing (λ x. test (row, x))) (none_behind e es row is rises.0) ∙ sym (ap (λ b. cond b (Some e.1) None) (here false is pass)))
      by Less true is pass rest = ap (λ o. cond (is_eq o) (Some e.1) (found row (filter test es))) is ∙ rest
      by Less false is pass rest = rest
      by Greater true is pass rest = ap (λ o. cond (is_eq o) (Some e.1) (found row (filter test es))) is ∙ rest
      by Greater false is pass rest = rest

module _ {X Y : Type 0} (f : X → Y) where
  abbrev pub mapped : List (RowId × X) → List (RowId × Y)
  mapped entries = map (λ e. (e.0, f e.1)) entries

  same_keys : (entries : List (RowId × X)) → keys_of (mapped entries) ≡ keys_of entries
  same_keys [] = refl
  same_keys (e ∷ es) = ap (λ l. e.0 ∷ l) (same_keys es)

  pub rises_mapped : (entries : List (RowId × X)) → Rises entries → Rises (mapped entries)
  rises_mapped entries rises = subst (IsStrictlySortedBy row_cmp) (sym (same_keys entries)) rises

  pub found_mapped : (entries : List (RowId × X)) (row : RowId) → found row (mapped entries) ≡ option_map f (found row entries)
  found_mapped [] row = refl
  found_mapped (e ∷ es) row = by (is_at (row_cmp row) e.0) (found_mapped es row)
    where
      by : (b : Bool) → found row (mapped es) ≡ option_map f (found row es) → cond b (Some (f e.1)) (found row (mapped es)) ≡ option_map f (cond b (Some e.1) (found row es))
      by true rest = refl
      by false rest = rest
