-- What is wrong with lines that have to declare is what is read of them.
use Rattle.std.proofs.Common.{◌≡◌, ◌≢◌, ℕ, ◌<◌, ◌==◌, Bool, true, false, cond, List, [], ◌∷◌, ◌++◌, length, Option, Some, None, Ok, Err, refl, sym, ap, ◌∙◌, subst, arith, inl, inr, ◌⊎◌, not}
use Rattle.std.specs.Prelude.{codes, is_none, IsUtf8}
use Rattle.std.specs.List.{list_all}
use Rattle.std.specs.Option.{ok_or}
use Rattle.std.specs.Str.{bytes_eq, is_utf8}
use Rattle.std.proofs.lemmas.Bool.{and_parts, eqb-true, eqb-false, not-true}
use Rattle.std.proofs.lemmas.List.{append_assoc}
use Rattle.std.proofs.lemmas.Slice.Eq.{bytes_eq-Decides}
use Rattle.std.proofs.lemmas.Str.{IsUtf8-from_is_utf8, is_utf8-from_IsUtf8}
use Rattle.geo_base.specs.laws.Results.{failed}
use Rattle.geo_schema.specs.declared.table.TableDef.{TableDef}
use Rattle.geo_schema.specs.Schemas.{shown_only}
use Rattle.geo_schema.specs.inner.Schemas.{schema_fault}
use Rattle.geo_script.specs.declared.fault.ScriptKind.{ScriptKind}
use Rattle.geo_script.specs.declared.fault.ScriptKind.TheVariants.{NotUtf8, BadTable, BadIndex, BadLine}
use Rattle.geo_script.specs.inner.EventLines.{OfLine}
use Rattle.geo_script.specs.Words.{IsWord, is_word}
use Rattle.schema_text.specs.inner.Texts.{declared_table, index_of}
use Rattle.geo_script.specs.inner.TableLines.{with_table, filled, first_word, index_parts, with_index, by_word, declared_by, table_line}
use Rattle.geo_script.specs.Tables.{add_index}
use Rattle.geo_script.specs.inner.Words.{cut}
use Rattle.geo_script.specs.Wrongs.{Begins, HasEmptyWord, CanStand, IsWrongDeclaration}
use Rattle.geo_script.proofs.Cuts.{Lacks, cut_at, cut_nowhere, cut_parts, word_lacks}
use Rattle.geo_script.proofs.Declarations.{word_read, head_line_is, head_line_read}
use Rattle.geo_script.proofs.Failures.{or_err, if_err, when_err, unless_err, no_both}
use Rattle.schema_text.specs.laws.Inversions.{unless_ok}
use Rattle.geo_script.proofs.WrongHeads.{other_text, no_text, other_bytes, bytes_differ}

-- ---- empty words

abbrev IsEmptyFirst : List ℕ → Type 0
IsEmptyFirst text = (text ≡ []) ⊎ ((rest : List ℕ) × (text ≡ 32 ∷ rest))

empty_list : (xs : List ℕ) → (length xs == 0) ≡ true → xs ≡ []
empty_list [] is = refl
empty_list (x ∷ xs) is = absurd (omega (arith, eqb-true (length (x ∷ xs)) 0 is))

filled_bad : (text : List ℕ) (found : Option (List ℕ × List ℕ)) (kind : ScriptKind) → cut 32 text ≡ found → filled text found ≡ Err kind →
    (BadIndex ≡ kind) ⊎ ((BadLine ≡ kind) × IsEmptyFirst text)
filled_bad text None kind is read =
    elim (unless_err (length text == 0) _ BadLine kind read) [
      | inl empty ↦ inr (empty.1, inl (empty_list text empty.0))
      | inr other ↦ inl (cc (other.1))
    ]
filled_bad text (Some parts) kind is read =
    elim (unless_err (length parts.0 == 0) _ BadLine kind read) [
      | inl empty ↦ inr (empty.1, inr (parts.1, (cut_parts 32 text parts is).whole ∙ ap (λ w. w ++ 32 ∷ parts.1) (empty_list parts.0 empty.0)))
      | inr other ↦ cc (other.1)
    ]

first_bad_word : (text : List ℕ) (kind : ScriptKind) → first_word text ≡ Err kind → (BadIndex ≡ kind) ⊎ ((BadLine ≡ kind) × IsEmptyFirst text)
unfolding first_word
first_bad_word text kind is = filled_bad text (cut 32 text) kind refl is

empty_first : (text : List ℕ) → IsEmptyFirst text → first_word text ≡ Err BadLine
unfolding first_word
empty_first text (inl is) = rw is refl
empty_first text (inr (rest, is)) = rw is (rw (cut_at 32 [] rest refl) refl)

-- a word, and what stands behind the space after it
record HasFirst (text front rest : List ℕ) : Type 0 where
  whole : text ≡ front ++ 32 ∷ rest
  word : IsWord front

some_word : (word : List ℕ) → (length word == 0) ≡ false → Lacks 32 word → IsWord word
unfolding is_word
some_word word some lacks = rw (some, lacks) refl

word_some : (word : List ℕ) → IsWord word → 0 < length word
unfolding is_word
word_some word is =
    let none : length word ≡ 0 → ⊥ = eqb-false (length word) 0 (not-true (length word == 0) (and_parts (not (length word == 0)) (list_all (λ b. not (b == 32)) word) is).0) in
    omega (arith, none)

filled_good : (text : List ℕ) (found : Option (List ℕ × List ℕ)) (parts : List ℕ × List ℕ) → cut 32 text ≡ found → filled text found ≡ Ok parts → HasFirst text parts.0 parts.1
filled_good text None parts is read = absurd (by (length text == 0) read)
  where
    by : (b : Bool) → cond b (Err BadLine) (Err BadIndex) ≡ Ok parts → ⊥
    by true found = cc
    by false found = cc
filled_good text (Some found) parts is read =
    let kept = unless_ok (length found.0 == 0) found parts BadLine read in
    let at = cut_parts 32 text found is in
    subst (λ (p : List ℕ × List ℕ). HasFirst text p.0 p.1) kept.1 record { whole = at.whole; word = some_word found.0 kept.0 at.first }

first_good : (text : List ℕ) (parts : List ℕ × List ℕ) → first_word text ≡ Ok parts → HasFirst text parts.0 parts.1
unfolding first_word
first_good text parts is = filled_good text (cut 32 text) parts refl is

-- ---- index lines

empty_name : (text : List ℕ) → IsEmptyFirst text → HasEmptyWord (codes "index " ++ text)
empty_name text (inl is) = (codes "index", inl refl, inl (ap (λ t. codes "index " ++ t) is))
empty_name text (inr (rest, is)) = (codes "index", inl refl, inr (rest, ap (λ t. codes "index " ++ t) is))

empty_on : (text name rest : List ℕ) → HasFirst text name rest → IsEmptyFirst rest → HasEmptyWord (codes "index " ++ text)
empty_on text name rest first (inl is) =
    (codes "index " ++ name, inr (name, first.word, refl), inl (ap (λ t. codes "index " ++ t) (first.whole ∙ ap (λ r. name ++ 32 ∷ r) is)))
empty_on text name rest first (inr (more, is)) = (
  codes "index " ++ name,
  inr (name, first.word, refl),
  inr (
    more,
    ap (λ t. codes "index " ++ t)
        (first.whole ∙ (ap (λ r. name ++ 32 ∷ r) is ∙ sym (append_assoc name (32 ∷ []) (32 ∷ more)))),
  ),
)

parts_bad : (text : List ℕ) (kind : ScriptKind) → index_parts text ≡ Err kind → (BadIndex ≡ kind) ⊎ ((BadLine ≡ kind) × HasEmptyWord (codes "index " ++ text))
unfolding index_parts
parts_bad text kind is =
    elim (failed (first_word text) _ kind is) [
      | inl bad ↦ elim (first_bad_word text kind bad) [ inl e ↦ inl e | inr empty ↦ inr (empty.0, empty_name text empty.1) ]
      | inr first ↦
          elim (failed (first_word first.0.1) _ kind first.2) [
            | inl bad ↦
                elim (first_bad_word first.0.1 kind bad) [
                  | inl e ↦ inl e
                  | inr empty ↦ inr (empty.0, empty_on text first.0.0 first.0.1 (first_good text first.0 first.1) empty.1)
                ]
            | inr second ↦ inl (if_err (bytes_eq second.0.0 (codes "on")) (first.0.0, second.0.1) BadIndex kind second.2).1
          ]
    ]

index_bad : (tables : List TableDef) (text : List ℕ) (kind : ScriptKind) → with_index tables text ≡ Err kind →
    (BadIndex ≡ kind) ⊎ ((BadLine ≡ kind) × HasEmptyWord (codes "index " ++ text))
unfolding with_index
index_bad tables text kind is =
    elim (failed (index_parts text) _ kind is) [
      | inl bad ↦ parts_bad text kind bad
      | inr parts ↦
          elim (failed (ok_or (index_of tables parts.0.0 parts.0.1) BadIndex) _ kind parts.2) [
            | inl none ↦ inl (or_err (index_of tables parts.0.0 parts.0.1) BadIndex kind none).1
            | inr found ↦
                let all : List TableDef = add_index tables found.0.0 found.0.1 in
                inl (if_err (is_none (schema_fault (shown_only all))) all BadIndex kind found.2).1
          ]
    ]

-- a line whose index's name or `on` is empty
record IsEmptyAt (line : List ℕ) : Type 0 where
  text : List ℕ
  whole : line ≡ codes "index " ++ text
  bad : index_parts text ≡ Err BadLine

first_empty : (text : List ℕ) → IsEmptyFirst text → index_parts text ≡ Err BadLine
unfolding index_parts
first_empty text empty = rw (empty_first text empty) refl

second_empty : (name rest : List ℕ) → IsWord name → IsEmptyFirst rest → index_parts (name ++ 32 ∷ rest) ≡ Err BadLine
unfolding index_parts
second_empty name rest word empty = rw (word_read name rest (word_some name word) (word_lacks name word)) (rw (empty_first rest empty) refl)

empty_at : (line : List ℕ) → HasEmptyWord line → IsEmptyAt line
empty_at line (front, inl is, inl whole) =
    record { text = []; whole = whole ∙ ap (λ f. f ++ codes " ") is; bad = first_empty [] (inl refl) }
empty_at line (front, inl is, inr (rest, whole)) =
    record { text = 32 ∷ rest; whole = whole ∙ ap (λ f. (f ++ codes " ") ++ (codes " " ++ rest)) is; bad = first_empty (32 ∷ rest) (inr (rest, refl)) }
empty_at line (front, inr (name, word, is), inl whole) =
    record { text = name ++ 32 ∷ []; whole = whole ∙ ap (λ f. f ++ codes " ") is; bad = second_empty name [] word (inl refl) }
empty_at line (front, inr (name, word, is), inr (rest, whole)) =
    record {
      text = name ++ 32 ∷ 32 ∷ rest;
      whole = whole ∙ (ap (λ f. (f ++ codes " ") ++ (codes " " ++ rest)) is ∙ ap (λ t. codes "index " ++ t) (append_assoc name (32 ∷ []) (32 ∷ rest)));
      bad = second_empty name (32 ∷ rest) word (inr (rest, refl));
    }

empty_stops : (tables : List TableDef) (line : List ℕ) → HasEmptyWord line → declared_by tables line ≡ Err BadLine
unfolding declared_by with_index
empty_stops tables line empty =
    let at = empty_at line empty in
    rw at.whole (rw (cut_at 32 (codes "index") at.text refl) (rw at.bad refl))

-- ---- the first word of a line

abbrev heading : List ℕ → Option (List ℕ × List ℕ) → List ℕ
heading line None = line
heading line (Some parts) = parts.0

begins_heading : (word line : List ℕ) → Lacks 32 word → Begins word line → heading line (cut 32 line) ≡ word
begins_heading word line lacks (inl whole) = rw (whole, cut_nowhere 32 word lacks) refl
begins_heading word line lacks (inr (rest, whole)) = rw whole (rw (cut_at 32 word rest lacks) refl)

heading_begins : (word line : List ℕ) (found : Option (List ℕ × List ℕ)) → cut 32 line ≡ found → heading line found ≡ word → Begins word line
heading_begins word line None is same = inl same
heading_begins word line (Some parts) is same = inr (parts.1, (cut_parts 32 line parts is).whole ∙ ap (λ w. w ++ 32 ∷ parts.1) same)

-- ---- lines by their first word

table_bad : (tables : List TableDef) (text : List ℕ) (kind : ScriptKind) → with_table tables text ≡ Err kind → BadTable ≡ kind
unfolding with_table
table_bad tables text kind is =
    elim (failed (ok_or (declared_table text) BadTable) _ kind is) [
      | inl none ↦ (or_err (declared_table text) BadTable kind none).1
      | inr found ↦
          let all : List TableDef = tables ++ found.0 ∷ [] in
          (if_err (is_none (schema_fault (shown_only all))) all BadTable kind found.2).1
    ]

-- what the line's first word lets be wrong with it
abbrev FailsBy : List ℕ → List ℕ → ScriptKind → Type 0
FailsBy word line kind =
    ((word ≡ codes "table") × (BadTable ≡ kind))
    ⊎ (((word ≡ codes "index") × ((BadIndex ≡ kind) ⊎ ((BadLine ≡ kind) × HasEmptyWord line)))
    ⊎ ((word ≢ codes "table") × (word ≢ codes "index") × (BadLine ≡ kind)))

chosen : (word : List ℕ) (table index : OfLine (List TableDef)) (kind : ScriptKind) →
    cond (bytes_eq word (codes "table")) table (cond (bytes_eq word (codes "index")) index (Err BadLine)) ≡ Err kind →
    ((word ≡ codes "table") × (table ≡ Err kind))
    ⊎ (((word ≡ codes "index") × (index ≡ Err kind)) ⊎ ((word ≢ codes "table") × (word ≢ codes "index") × (BadLine ≡ kind)))
chosen word table index kind is = by (bytes_eq word (codes "table")) refl is
  where
    other : (b : Bool) → bytes_eq word (codes "index") ≡ b → bytes_eq word (codes "table") ≡ false → cond b index (Err BadLine) ≡ Err kind →
        ((word ≡ codes "table") × (table ≡ Err kind))
        ⊎ (((word ≡ codes "index") × (index ≡ Err kind)) ⊎ ((word ≢ codes "table") × (word ≢ codes "index") × (BadLine ≡ kind)))
    other true same no_table found = inr (inl ((bytes_eq-Decides word (codes "index")).0 same, found))
    other false differ no_table found = inr (inr (bytes_differ word (codes "table") no_table, bytes_differ word (codes "index") differ, cc))

    by : (b : Bool) → bytes_eq word (codes "table") ≡ b → cond b table (cond (bytes_eq word (codes "index")) index (Err BadLine)) ≡ Err kind →
        ((word ≡ codes "table") × (table ≡ Err kind))
        ⊎ (((word ≡ codes "index") × (index ≡ Err kind)) ⊎ ((word ≢ codes "table") × (word ≢ codes "index") × (BadLine ≡ kind)))
    by true same found = inl ((bytes_eq-Decides word (codes "table")).0 same, found)
    by false no_table found = other (bytes_eq word (codes "index")) refl no_table found

by_word_bad : (tables : List TableDef) (line : List ℕ) (found : Option (List ℕ × List ℕ)) (kind : ScriptKind) → cut 32 line ≡ found → by_word tables line found ≡ Err kind →
    FailsBy (heading line found) line kind
by_word_bad tables line None kind is read =
    elim (chosen line (Err BadTable) (Err BadIndex) kind read) [
      | inl table ↦ inl (table.0, cc (table.1))
      | inr (inl index) ↦ inr (inl (index.0, inl (cc (index.1))))
      | inr (inr none) ↦ inr (inr none)
    ]
by_word_bad tables line (Some parts) kind is read =
    elim (chosen parts.0 (with_table tables parts.1) (with_index tables parts.1) kind read) [
      | inl table ↦ inl (table.0, table_bad tables parts.1 kind table.1)
      | inr (inl index) ↦
          let whole : line ≡ codes "index " ++ parts.1 = (cut_parts 32 line parts is).whole ∙ ap (λ w. w ++ 32 ∷ parts.1) index.0 in
          inr (inl (index.0, subst (λ l. (BadIndex ≡ kind) ⊎ ((BadLine ≡ kind) × HasEmptyWord l)) (sym whole) (index_bad tables parts.1 kind index.1)))
      | inr (inr none) ↦ inr (inr none)
    ]

text_bad : (tables : List TableDef) (line : List ℕ) (kind : ScriptKind) → declared_by tables line ≡ Err kind → FailsBy (heading line (cut 32 line)) line kind
unfolding declared_by
text_bad tables line kind is = by_word_bad tables line (cut 32 line) kind refl is

-- ---- whole lines

can_stand : (tables : List TableDef) (line : List ℕ) (more : List TableDef) → table_line tables line ≡ Ok more → CanStand tables line
can_stand tables line more is = let here = head_line_is tables line more is in (more, here.declares, here.schema)

cannot : (tables : List TableDef) (line : List ℕ) (kind : ScriptKind) → table_line tables line ≡ Err kind → is_utf8 line ≡ true → CanStand tables line → ⊥
cannot tables line kind is text (more, declares, schema) =
    no_both (table_line tables line) more kind (head_line_read tables line more record { utf8 = text; declares = declares; schema = schema }) is

pub declaration_wrong : (tables : List TableDef) (line : List ℕ) (kind : ScriptKind) → table_line tables line ≡ Err kind → IsWrongDeclaration tables line kind
unfolding table_line
declaration_wrong tables line kind is =
    elim (when_err (is_utf8 line) _ NotUtf8 kind is) [
      | inl other' ↦ subst (IsWrongDeclaration tables line) other'.1 (no_text line other'.0)
      | inr text ↦ by (IsUtf8-from_is_utf8 line text.0) text.1 (cannot tables line kind is text.0) (text_bad tables line kind text.1)
    ]
  where
    begins : (word : List ℕ) → heading line (cut 32 line) ≡ word → Begins word line
    begins word same = heading_begins word line (cut 32 line) refl same

    not_empty : declared_by tables line ≡ Err kind → BadIndex ≡ kind → HasEmptyWord line → ⊥
    not_empty found e empty = cc (empty_stops tables line empty)

    by : IsUtf8 line → declared_by tables line ≡ Err kind → (CanStand tables line → ⊥) → FailsBy (heading line (cut 32 line)) line kind → IsWrongDeclaration tables line kind
    by text found none (inl table) = subst (IsWrongDeclaration tables line) table.1 (text, begins (codes "table") table.0, none)
    by text found none (inr (inl (same, inl e))) = subst (IsWrongDeclaration tables line) e (text, begins (codes "index") same, not_empty found e, none)
    by text found none (inr (inl (same, inr (e, empty)))) = subst (IsWrongDeclaration tables line) e (text, inr empty)
    by text found none (inr (inr (no_table, no_index, e))) =
        subst (IsWrongDeclaration tables line) e
        (text, inl (λ b. no_table (begins_heading (codes "table") line refl b), λ b. no_index (begins_heading (codes "index") line refl b)))

apart : codes "table" ≡ codes "index" → ⊥
apart = bytes_differ (codes "table") (codes "index") refl

neither : (tables : List TableDef) (line : List ℕ) → heading line (cut 32 line) ≢ codes "table" → heading line (cut 32 line) ≢ codes "index" → declared_by tables line ≡ Err BadLine
unfolding declared_by
neither tables line no_table no_index = by (cut 32 line) no_table no_index
  where
    by : (found : Option (List ℕ × List ℕ)) → heading line found ≢ codes "table" → heading line found ≢ codes "index" → by_word tables line found ≡ Err BadLine
    by None table index = rw (other_bytes line (codes "table") table, other_bytes line (codes "index") index) refl
    by (Some parts) table index = rw (other_bytes parts.0 (codes "table") table, other_bytes parts.0 (codes "index") index) refl

pub declaration_stops : (tables : List TableDef) (line : List ℕ) (kind : ScriptKind) → IsWrongDeclaration tables line kind → table_line tables line ≡ Err kind
unfolding table_line
declaration_stops tables line NotUtf8 wrong = rw (other_text line wrong) refl
declaration_stops tables line BadLine (text, inr empty) = rw (is_utf8-from_IsUtf8 line text) (empty_stops tables line empty)
declaration_stops tables line BadLine (text, inl (no_table, no_index)) =
    rw (is_utf8-from_IsUtf8 line text)
    (neither tables line (λ same. no_table (heading_begins (codes "table") line (cut 32 line) refl same))
    (λ same. no_index (heading_begins (codes "index") line (cut 32 line) refl same)))
declaration_stops tables line BadTable (text, begins, none) = by (table_line tables line) refl
  where
    fails : (kind : ScriptKind) → FailsBy (heading line (cut 32 line)) line kind → heading line (cut 32 line) ≡ codes "table" → BadTable ≡ kind
    fails kind (inl table) is = table.1
    fails kind (inr (inl index)) is = absurd (apart (sym is ∙ index.0))
    fails kind (inr (inr other)) is = absurd (other.0 is)

    by : (r : OfLine (List TableDef)) → table_line tables line ≡ r → r ≡ Err BadTable
    by (Ok more) read = absurd (none (can_stand tables line more read))
    by (Err kind) read =
        let found : declared_by tables line ≡ Err kind = rw (is_utf8-from_IsUtf8 line text) at read in
        ap Err (sym (fails kind (text_bad tables line kind found) (begins_heading (codes "table") line refl begins)))
declaration_stops tables line BadIndex (text, begins, full, none) = by (table_line tables line) refl
  where
    fails : (kind : ScriptKind) → FailsBy (heading line (cut 32 line)) line kind → heading line (cut 32 line) ≡ codes "index" → BadIndex ≡ kind
    fails kind (inl table) is = absurd (apart (sym table.0 ∙ is))
    fails kind (inr (inl (same, inl e))) is = e
    fails kind (inr (inl (same, inr (e, empty)))) is = absurd (full empty)
    fails kind (inr (inr other)) is = absurd (other.1 is)

    by : (r : OfLine (List TableDef)) → table_line tables line ≡ r → r ≡ Err BadIndex
    by (Ok more) read = absurd (none (can_stand tables line more read))
    by (Err kind) read =
        let found : declared_by tables line ≡ Err kind = rw (is_utf8-from_IsUtf8 line text) at read in
        ap Err (sym (fails kind (text_bad tables line kind found) (begins_heading (codes "index") line refl begins)))
declaration_stops tables line _ wrong = absurd wrong
