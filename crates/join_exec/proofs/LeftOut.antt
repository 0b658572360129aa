-- Rows and pairs that are left out and that the tests drop change nothing.
use Rattle.std.proofs.Common.{◌≡◌, Bool, true, false, if◌then◌else◌, Ok, List, [], ◌∷◌, ◌++◌, map, refl, sym, ap, ◌∙◌}
use Rattle.std.specs.List.{Contains, filter, flat_map}
use Rattle.std.proofs.lemmas.Bool.{both_ways}
use Rattle.std.proofs.lemmas.List.Elements.{Contains-append_left, Contains-append_right, Contains-push}
use Rattle.geo_base.specs.Results.{◌>>=◌}
use Rattle.geo_base.specs.declared.row_image.RowImage.{RowImage}
use Rattle.join_exec.proofs.Kept.{Answer, appended, same_again}
use Rattle.row_source.specs.Matches.{in_statement, kept_of, pair_cells}
use Rattle.row_source.specs.Sources.{Entry, images}
use Rattle.row_source.specs.declared.pair.Pair.{Pair}
use Rattle.sql_expr.specs.Conditions.{kept}
use Rattle.sql_expr.specs.declared.expr.Expr.{Expr}
use Rattle.write_set.specs.Overlay.{Table}

head : (a : Entry) (rows : Table) → Contains (a ∷ rows) a
head a rows = Contains-append_left (a ∷ []) rows a (Contains-push [] a)

behind : (a : Entry) (rows : Table) (b : Entry) → Contains rows b → Contains (a ∷ rows) b
behind a rows b there = Contains-append_right (a ∷ []) rows b there

-- what passes p passes q too
abbrev pub IsWithin : (p q : Entry → Bool) → Table → Type 0
IsWithin p q rows = (a : Entry) → Contains rows a → p a ≡ true → q a ≡ true

-- ---- rows, each seen as a pair

module _ (tests : List Expr) (see : RowImage → Pair) (p q : Entry → Bool) where
  -- the tests drop what passes q and not p
  abbrev pub DropsOthers : Table → Type 0
  DropsOthers rows = (a : Entry) → Contains rows a → q a ≡ true → p a ≡ false → kept (pair_cells (see a.1)) tests ≡ Ok false

  abbrev in_front : RowImage → Answer → Answer
  in_front row rest = in_statement (kept (pair_cells (see row)) tests) >>= λ passes. rest >>= λ more. Ok (if passes then see row ∷ more else more)

  pub same_kept : (rows : Table) → IsWithin p q rows → DropsOthers rows →
      kept_of pair_cells tests (map see (images (filter p rows))) ≡ kept_of pair_cells tests (map see (images (filter q rows)))
  same_kept [] within drops = refl
  same_kept (a ∷ rows) within drops =
      by (p a) refl (q a) refl (same_kept rows (λ b there. within b (behind a rows b there)) (λ b there. drops b (behind a rows b there)))
    where
      by : (b : Bool) → p a ≡ b → (c : Bool) → q a ≡ c →
          kept_of pair_cells tests (map see (images (filter p rows))) ≡ kept_of pair_cells tests (map see (images (filter q rows))) →
          kept_of pair_cells tests (map see (images (filter p (a ∷ rows)))) ≡ kept_of pair_cells tests (map see (images (filter q (a ∷ rows))))
      by true is true has rest = rw (is, has) (ap (in_front a.1) rest)
      by true is false has rest = absurd (both_ways (q a) has (within a (head a rows) is))
      by false is true has rest =
          let out : kept (pair_cells (see a.1)) tests ≡ Ok false = drops a (head a rows) has is in
          rw (is, has, out) (rest ∙ sym (same_again (kept_of pair_cells tests (map see (images (filter q rows))))))
      by false is false has rest = rw (is, has) rest

-- where all are dropped, nothing is kept
module _ (tests : List Expr) (see : RowImage → Pair) (q : Entry → Bool) where
  pub none_kept : (rows : Table) → ((a : Entry) → Contains rows a → q a ≡ true → kept (pair_cells (see a.1)) tests ≡ Ok false) →
      kept_of pair_cells tests (map see (images (filter q rows))) ≡ Ok []
  none_kept [] drops = refl
  none_kept (a ∷ rows) drops = by (q a) refl (none_kept rows (λ b there. drops b (behind a rows b there)))
    where
      by : (b : Bool) → q a ≡ b → kept_of pair_cells tests (map see (images (filter q rows))) ≡ Ok [] →
          kept_of pair_cells tests (map see (images (filter q (a ∷ rows)))) ≡ Ok []
      by true is rest =
          let out : kept (pair_cells (see a.1)) tests ≡ Ok false = drops a (head a rows) is in
          rw (is, out, rest) refl
      by false is rest = rw is rest

-- ---- pairs of rows

-- what is kept of pairs in front, and behind them
abbrev with_rest : Answer → Answer → Answer
with_rest front rest = front >>= λ some. rest >>= λ more. Ok (some ++ more)

module _ (tests : List Expr) (found all : RowImage → List Pair) (p q : Entry → Bool) where
  pub same_pairs : (rows : Table) → IsWithin p q rows →
      ((a : Entry) → Contains rows a → p a ≡ true → kept_of pair_cells tests (found a.1) ≡ kept_of pair_cells tests (all a.1)) →
      ((a : Entry) → Contains rows a → q a ≡ true → p a ≡ false → kept_of pair_cells tests (all a.1) ≡ Ok []) →
      kept_of pair_cells tests (flat_map found (images (filter p rows))) ≡ kept_of pair_cells tests (flat_map all (images (filter q rows)))
  same_pairs [] within same none = refl
  same_pairs (a ∷ rows) within same none =
      by (p a) refl (q a) refl (same_pairs rows (λ b there. within b (behind a rows b there)) (λ b there. same b (behind a rows b there)) (λ b there. none b (behind a rows b there)))
    where
      by : (b : Bool) → p a ≡ b → (c : Bool) → q a ≡ c →
          kept_of pair_cells tests (flat_map found (images (filter p rows))) ≡ kept_of pair_cells tests (flat_map all (images (filter q rows))) →
          kept_of pair_cells tests (flat_map found (images (filter p (a ∷ rows)))) ≡ kept_of pair_cells tests (flat_map all (images (filter q (a ∷ rows))))
      by true is true has rest =
          rw (is, has)
          (appended tests (found a.1) (flat_map found (images (filter p rows)))
          ∙ ap (λ (front : Answer). with_rest front (kept_of pair_cells tests (flat_map found (images (filter p rows))))) (same a (head a rows) is)
          ∙ ap (with_rest (kept_of pair_cells tests (all a.1))) rest
          ∙ sym (appended tests (all a.1) (flat_map all (images (filter q rows)))))
      by true is false has rest = absurd (both_ways (q a) has (within a (head a rows) is))
      by false is true has rest =
          rw (is, has)
          (rest
          ∙ sym (same_again (kept_of pair_cells tests (flat_map all (images (filter q rows)))))
          ∙ ap (λ (front : Answer). with_rest front (kept_of pair_cells tests (flat_map all (images (filter q rows))))) (sym (none a (head a rows) has is))
          ∙ sym (appended tests (all a.1) (flat_map all (images (filter q rows)))))
      by false is false has rest = rw (is, has) rest
