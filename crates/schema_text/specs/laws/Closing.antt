-- Marks before the one that closes a list.
use Rattle.std.proofs.Common.{◌≡◌, Bool, true, false, cond, List, [], ◌∷◌, ◌++◌, Some, None, refl, ap, ◌∙◌}
use Rattle.std.specs.Option.{option_map}
use Rattle.schema_text.specs.declared.mark.Mark.{Mark}
use Rattle.schema_text.specs.inner.Marks.{is_close}
use Rattle.schema_text.specs.inner.Texts.{before_close}

onto : (first : Mark) (b : Bool) (marks : List Mark) →
    option_map (λ before. first ∷ before) (cond b (Some marks) None) ≡ cond b (Some (first ∷ marks)) None
onto first true marks = refl
onto first false marks = refl

pub closing : (before : List Mark) (last : Mark) → before_close (before ++ last ∷ []) ≡ cond (is_close last) (Some before) None
closing [] last = refl
closing (first ∷ []) last = onto first (is_close last) []
closing (first ∷ next ∷ more) last =
    ap (option_map (λ before. first ∷ before)) (closing (next ∷ more) last) ∙ onto first (is_close last) (next ∷ more)
