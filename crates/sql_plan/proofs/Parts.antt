-- The parts of a key, made one after another, and the links that are looked through for them.
use Rattle.std.proofs.Common.{map, ◌≡◌, ℕ, ◌+◌, ◌<◌, Bool, true, false, cond, nat_eq, Option, Some, None, List, [], ◌∷◌, ◌++◌, length, get_or, drop, refl, sym, ap, ◌∙◌}
use Rattle.std.specs.List.{find}
use Rattle.std.specs.Option.{option_and_then, option_map}
use Rattle.std.proofs.Math.Seq.{drop-length}
use Rattle.std.proofs.lemmas.List.{append_assoc, append-nil, drop_more}
use Rattle.row_source.specs.declared.plan.KeyPart.{KeyPart}
use Rattle.sql_plan.specs.Plans.{linked_column, part_of, parts_of}
use Rattle.sql_plan.specs.Tests as tests
use Rattle.sql_plan.specs.declared.links.Link.{Link}
use Rattle.sql_plan.specs.inner.Borrowed.{seen_link}

-- ---- the first link of a column

seen_by : (b : Bool) (l : Link) (r : Option Link) (s : Option tests.Link) → option_map (λ k. k.left) r ≡ option_map (λ k. k.left) s →
    option_map (λ k. k.left) (cond b (Some l) r) ≡ option_map (λ k. k.left) (cond b (Some (seen_link l)) s)
seen_by true l r s h = refl
seen_by false l r s h = h

pub linked_seen : (ls : List Link) (column : ℕ) → option_map (λ l. l.left) (find (λ l. nat_eq l.right column) ls) ≡ linked_column (map seen_link ls) column
linked_seen [] column = refl
linked_seen (l ∷ ls) column = seen_by (nat_eq l.right column) l (find (λ l. nat_eq l.right column) ls) (find (λ l. nat_eq l.right column) (map seen_link ls)) (linked_seen ls column)

-- ---- the parts

-- the parts so far, and those of the columns that are left
abbrev behind : List KeyPart → Option (List KeyPart) → Option (List KeyPart)
behind parts rest = option_map (λ more. parts ++ more) rest

moved : (parts : List KeyPart) (p : KeyPart) (rest : Option (List KeyPart)) → behind parts (option_map (λ ps. p ∷ ps) rest) ≡ behind (parts ++ p ∷ []) rest
moved parts p None = refl
moved parts p (Some ps) = ap Some (sym (append_assoc parts (p ∷ []) ps))

unmoved : (rest : Option (List KeyPart)) → rest ≡ behind [] rest
unmoved None = refl
unmoved (Some ps) = refl

module _ (ts : List tests.ColumnTest) (ls : List tests.Link) (columns : List ℕ) where
  pub parts_begin : parts_of ts ls columns ≡ option_map (λ more. [] ++ more) (parts_of ts ls (drop 0 columns))
  parts_begin = unmoved (parts_of ts ls columns)

  next_is : (i : ℕ) (d : ℕ) (parts : List KeyPart) (o : Option KeyPart) → i < length columns → o ≡ part_of ts ls (get_or columns i d) →
      parts_of ts ls columns ≡ behind parts (parts_of ts ls (drop i columns)) →
      parts_of ts ls columns ≡ behind parts (option_and_then (λ p. option_map (λ ps. p ∷ ps) (parts_of ts ls (drop (i + 1) columns))) o)
  next_is i d parts o within is so_far =
      so_far
      ∙ (ap (λ left. behind parts (parts_of ts ls left)) (drop_more columns i d within)
      ∙ ap (λ p. behind parts (option_and_then (λ q. option_map (λ ps. q ∷ ps) (parts_of ts ls (drop (i + 1) columns))) p)) (sym is))

  pub one_more_part : (i : ℕ) (d : ℕ) (parts : List KeyPart) (p : KeyPart) → i < length columns → Some p ≡ part_of ts ls (get_or columns i d) →
      parts_of ts ls columns ≡ option_map (λ more. parts ++ more) (parts_of ts ls (drop i columns)) →
      parts_of ts ls columns ≡ option_map (λ more. (parts ++ p ∷ []) ++ more) (parts_of ts ls (drop (i + 1) columns))
  one_more_part i d parts p within is so_far = next_is i d parts (Some p) within is so_far ∙ moved parts p (parts_of ts ls (drop (i + 1) columns))

  pub part_missing : (i : ℕ) (d : ℕ) (parts : List KeyPart) → i < length columns → None ≡ part_of ts ls (get_or columns i d) →
      parts_of ts ls columns ≡ option_map (λ more. parts ++ more) (parts_of ts ls (drop i columns)) → None ≡ parts_of ts ls columns
  part_missing i d parts within is so_far = sym (next_is i d parts None within is so_far)

  pub parts_end : (i : ℕ) (parts : List KeyPart) → i ≡ length columns →
      parts_of ts ls columns ≡ option_map (λ more. parts ++ more) (parts_of ts ls (drop i columns)) → Some parts ≡ parts_of ts ls columns
  parts_end i parts all so_far =
      sym (so_far
      ∙ (ap (λ (n : ℕ). behind parts (parts_of ts ls (drop n columns))) all
      ∙ (ap (λ left. behind parts (parts_of ts ls left)) (drop-length columns)
      ∙ ap Some (append-nil parts))))
