-- Lists in parentheses, and names alone.
use Rattle.std.proofs.Common.{◌≡◌, ℕ, true, List, [], ◌∷◌, ◌++◌, Some, refl, ap, ◌∙◌}
use Rattle.std.specs.List.{slice_split}
use Rattle.schema_text.specs.declared.mark.Mark.{Mark}
use Rattle.schema_text.specs.declared.mark.Mark.TheVariants as mark
use Rattle.schema_text.specs.inner.Marks.{is_comma, is_close}
use Rattle.schema_text.specs.inner.Texts.{before_close, listed, name_of}
use Rattle.schema_text.specs.laws.Closing.{closing}
use Rattle.schema_text.specs.laws.Inversions.{map_some, if_some, some_same}
use Rattle.schema_text.specs.laws.MarkLists.{IsCommaFree}

close_is : (m : Mark) → is_close m ≡ true → m ≡ mark.Close
close_is mark.Close is = refl
close_is _ is = cc

closes : (marks inner : List Mark) → before_close marks ≡ Some inner → marks ≡ inner ++ mark.Close ∷ []
closes [] inner is = cc
closes (last ∷ []) inner is =
    let found = if_some (is_close last) [] inner is in
    ap (λ m. m ∷ []) (close_is last found.0) ∙ ap (λ ms. ms ++ mark.Close ∷ []) found.1
closes (first ∷ next ∷ marks) inner is =
    let found = map_some (λ before. first ∷ before) (before_close (next ∷ marks)) inner is in
    ap (λ ms. first ∷ ms) (closes (next ∷ marks) found.0 found.1) ∙ ap (λ ms. ms ++ mark.Close ∷ []) found.2

-- the marks are a list in parentheses, whose items stand between commas
pub record IsListed (marks : List Mark) (parts : List (List Mark)) : Type 0 where
  pub inner : List Mark
  pub whole : marks ≡ mark.Open ∷ (inner ++ mark.Close ∷ [])
  pub cut : slice_split is_comma inner ≡ parts

pub listed_is : (marks : List Mark) (parts : List (List Mark)) → listed marks ≡ Some parts → IsListed marks parts
unfolding listed
listed_is (mark.Open ∷ marks) parts is =
    let found = map_some (slice_split is_comma) (before_close marks) parts is in
    record { inner = found.0; whole = ap (λ ms. mark.Open ∷ ms) (closes marks found.0 found.1); cut = found.2 }
listed_is _ parts is = cc

pub listed_read : (inner : List Mark) → listed (mark.Open ∷ (inner ++ mark.Close ∷ [])) ≡ Some (slice_split is_comma inner)
unfolding listed
listed_read inner = rw (closing inner mark.Close) refl

pub name_is : (marks : List Mark) (name : List ℕ) → name_of marks ≡ Some name → marks ≡ mark.Name name ∷ []
unfolding name_of
name_is (mark.Name name ∷ []) found is = ap (λ n. mark.Name n ∷ []) (some_same is)
name_is _ found is = cc

pub name_read : (marks : List Mark) (name : List ℕ) → marks ≡ mark.Name name ∷ [] → name_of marks ≡ Some name
unfolding name_of
name_read marks name is = rw is refl

pub name_free : (name : List ℕ) (marks : List Mark) → marks ≡ mark.Name name ∷ [] → IsCommaFree marks
name_free name marks is = rw is refl
