-- What is wrong with lines 1 and 2 is what is read of them.
use Rattle.std.proofs.Common.{◌≡◌, ◌≢◌, ℕ, ◌&&◌, false, List, ◌∷◌, ◌++◌, Ok, Err, refl, sym, ap, ◌∙◌, subst, arith, inl, inr}
use Rattle.std.specs.Prelude.{codes, IsUtf8}
use Rattle.std.specs.Option.{ok_or}
use Rattle.std.specs.Str.{bytes_eq, is_utf8}
use Rattle.std.proofs.lemmas.Bool.{and_parts, false_from_ne_true, false≢true}
use Rattle.std.proofs.lemmas.Slice.Eq.{bytes_eq-Decides}
use Rattle.std.proofs.lemmas.Str.{IsUtf8-from_is_utf8, is_utf8-from_IsUtf8}
use Rattle.geo_base.specs.declared.limits.TheConstants.{MAX_REGIONS}
use Rattle.geo_base.specs.laws.Results.{bind_ok, failed}
use Rattle.geo_script.specs.declared.fault.ScriptKind.{ScriptKind}
use Rattle.geo_script.specs.declared.fault.ScriptKind.TheVariants.{NotUtf8, BadHeader, BadNumber}
use Rattle.geo_script.specs.declared.script.Form.{Form}
use Rattle.geo_script.specs.inner.EventLines.{OfLine, number_or_bad}
use Rattle.geo_script.specs.Spelling.{title}
use Rattle.geo_script.specs.inner.Scripts.{title_line, regions_word, regions_line}
use Rattle.geo_base.specs.Results.{◌>>=◌}
use Rattle.geo_script.specs.inner.Words.{cut, number_within}
use Rattle.geo_script.specs.Words.{is_word}
use Rattle.geo_script.specs.Wrongs.{IsWrongTitle, HasCount, CountsRegions, IsWrongCount}
use Rattle.geo_script.proofs.Cuts.{cut_at, cut_parts}
use Rattle.geo_script.proofs.PlayLines.{number_is}
use Rattle.geo_script.proofs.Failures.{or_err, if_err, when_err, no_both}
use Rattle.schema_text.specs.laws.Inversions.{or_ok, if_ok}
use Rattle.geo_script.proofs.ScriptLines.{regions_read}

pub other_text : (line : List ℕ) → (IsUtf8 line → ⊥) → is_utf8 line ≡ false
other_text line none = false_from_ne_true (is_utf8 line) (λ is. none (IsUtf8-from_is_utf8 line is))

pub no_text : (line : List ℕ) → is_utf8 line ≡ false → IsUtf8 line → ⊥
no_text line other text = false≢true (sym other ∙ is_utf8-from_IsUtf8 line text)

pub other_bytes : (a b : List ℕ) → a ≢ b → bytes_eq a b ≡ false
other_bytes a b differ = false_from_ne_true (bytes_eq a b) (λ is. differ ((bytes_eq-Decides a b).0 is))

pub bytes_differ : (a b : List ℕ) → bytes_eq a b ≡ false → a ≢ b
bytes_differ a b other same = false≢true (sym other ∙ (bytes_eq-Decides a b).1 same)

-- ---- line 1

pub title_wrong : (form : Form) (line : List ℕ) (kind : ScriptKind) → title_line form line ≡ Err kind → IsWrongTitle form line kind
unfolding title_line
title_wrong form line kind is =
    elim (when_err (is_utf8 line) _ NotUtf8 kind is) [
      | inl other' ↦ subst (IsWrongTitle form line) other'.1 (no_text line other'.0)
      | inr text ↦
          let other = if_err (bytes_eq line (title form)) tt BadHeader kind text.1 in
          subst (IsWrongTitle form line) other.1 (IsUtf8-from_is_utf8 line text.0, bytes_differ line (title form) other.0)
    ]

pub title_stops : (form : Form) (line : List ℕ) (kind : ScriptKind) → IsWrongTitle form line kind → title_line form line ≡ Err kind
unfolding title_line
title_stops form line NotUtf8 wrong = rw (other_text line wrong) refl
title_stops form line BadHeader wrong = rw (is_utf8-from_IsUtf8 line wrong.0, other_bytes line (title form) wrong.1) refl
title_stops form line _ wrong = absurd wrong

-- ---- line 2

count_word : (line : List ℕ) → (count : HasCount line) → regions_word line ≡ Ok (count.0)
unfolding regions_word
count_word line count = rw (count.2) (rw (cut_at 32 (codes "regions") count.0 refl) (rw (count.1) refl))

word_counted : (line word : List ℕ) → regions_word line ≡ Ok word → HasCount line
unfolding regions_word
word_counted line word is =
    let parts = bind_ok (ok_or (cut 32 line) BadHeader) _ word is in
    let found = cut_parts 32 line parts.0 (or_ok (cut 32 line) BadHeader parts.0 parts.1) in
    let kept = if_ok (bytes_eq parts.0.0 (codes "regions") && is_word parts.0.1) parts.0.1 word BadHeader parts.2 in
    let tests = and_parts (bytes_eq parts.0.0 (codes "regions")) (is_word parts.0.1) kept.0 in
    let same : parts.0.0 ≡ codes "regions" = (bytes_eq-Decides parts.0.0 (codes "regions")).0 tests.0 in
    (parts.0.1, tests.1, found.whole ∙ ap (λ w. w ++ 32 ∷ parts.0.1) same)

word_bad : (line : List ℕ) (kind : ScriptKind) → regions_word line ≡ Err kind → BadHeader ≡ kind
unfolding regions_word
word_bad line kind is =
    elim (failed (ok_or (cut 32 line) BadHeader) _ kind is) [
      | inl none ↦ (or_err (cut 32 line) BadHeader kind none).1
      | inr found ↦ (if_err (bytes_eq found.0.0 (codes "regions") && is_word found.0.1) found.0.1 BadHeader kind found.2).1
    ]

counts_read : (line : List ℕ) → (counts : CountsRegions line) → regions_line line ≡ Ok (counts.0)
counts_read line counts = ap regions_line counts.3 ∙ regions_read counts.0 record { some = counts.1; few = counts.2 }

counted_bad : (line : List ℕ) (kind : ScriptKind) → regions_line line ≡ Err kind → CountsRegions line → ⊥
counted_bad line kind is counts = no_both (regions_line line) counts.0 kind (counts_read line counts) is

pub count_wrong : (line : List ℕ) (kind : ScriptKind) → regions_line line ≡ Err kind → IsWrongCount line kind
unfolding regions_line
count_wrong line kind is =
    elim (when_err (is_utf8 line) _ NotUtf8 kind is) [
      | inl other' ↦ subst (IsWrongCount line) other'.1 (no_text line other'.0)
      | inr text ↦
          elim (failed (regions_word line) _ kind text.1) [
            | inl none ↦
                subst (IsWrongCount line) (word_bad line kind none)
                (IsUtf8-from_is_utf8 line text.0, λ (count : HasCount line). no_both (regions_word line) count.0 kind (count_word line count) none)
            | inr found ↦
                subst (IsWrongCount line) (or_err (number_within 1 MAX_REGIONS found.0) BadNumber kind found.2).1
                (IsUtf8-from_is_utf8 line text.0, word_counted line found.0 found.1, counted_bad line kind is)
          ]
    ]

pub count_stops : (line : List ℕ) (kind : ScriptKind) → IsWrongCount line kind → regions_line line ≡ Err kind
unfolding regions_line
count_stops line NotUtf8 wrong = rw (other_text line wrong) refl
count_stops line BadHeader wrong = rw (is_utf8-from_IsUtf8 line wrong.0) (by (regions_word line) refl)
  where
    by : (r : OfLine (List ℕ)) → regions_word line ≡ r → (r >>= number_or_bad 1 MAX_REGIONS) ≡ Err BadHeader
    by (Ok word) read = absurd (wrong.1 (word_counted line word read))
    by (Err kind) read = ap Err (sym (word_bad line kind read))
count_stops line BadNumber (text, count, none) = rw (is_utf8-from_IsUtf8 line text) (rw (count_word line count) (by (number_or_bad 1 MAX_REGIONS count.0) refl))
  where
    by : (r : OfLine ℕ) → number_or_bad 1 MAX_REGIONS count.0 ≡ r → r ≡ Err BadNumber
    by (Ok n) read =
        let is = number_is 1 MAX_REGIONS count.0 n (omega arith) read in
        absurd (none (n, is.low, is.high, count.2 ∙ ap (λ w. codes "regions " ++ w) is.spelled))
    by (Err kind) read = ap Err (sym (or_err (number_within 1 MAX_REGIONS count.0) BadNumber kind read).1)
count_stops line _ wrong = absurd wrong
