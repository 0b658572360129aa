-- What is added to a text by calls that are passed on.
use Rattle.std.proofs.Common.{◌≡◌, ℕ, List, [], ◌∷◌, ◌++◌, ap, ◌∙◌, append_assoc, subst}
use Rattle.std.specs.Prelude.{Result, OnOk}

-- a call adds the text of a value that equals another
pub adds : {A E X : Type 0} (result : Result A E) (now out : List ℕ) (text : X → List ℕ) (x y : X) → x ≡ y →
    OnOk result (now ≡ out ++ text x) → OnOk result (now ≡ out ++ text y)
adds result now out text x y same h = subst (λ z. OnOk result (now ≡ out ++ text z)) same h

-- a call adds a text behind one that was added before
pub adds_behind : {A E : Type 0} (result : Result A E) (now middle out first text whole : List ℕ) → middle ≡ out ++ first → first ++ text ≡ whole →
    OnOk result (now ≡ middle ++ text) → OnOk result (now ≡ out ++ whole)
adds_behind result now middle out first text whole before parts h =
    subst (λ all. OnOk result (now ≡ all)) (ap (λ all. all ++ text) before ∙ append_assoc out first text ∙ ap (λ all. out ++ all) parts) h

-- words behind a blank, and then more
pub after_blank : (front words rest : List ℕ) → front ++ (32 ∷ words ++ rest) ≡ ((front ++ 32 ∷ []) ++ words) ++ rest
after_blank front words rest = simp append_assoc

-- a text behind one that was added before
pub behind : (out one two a b : List ℕ) → one ≡ out ++ a → two ≡ one ++ b → two ≡ out ++ (a ++ b)
behind out one two a b p q = q ∙ ap (λ t. t ++ b) p ∙ append_assoc out a b

-- the pieces of the line of an epoch that is published
pub published_line : (region words epoch commits count aborts others : List ℕ) →
    (region ++ (32 ∷ words ++ epoch)) ++ (((commits ++ count) ++ aborts) ++ others) ≡ ((((((region ++ 32 ∷ []) ++ words) ++ epoch) ++ commits) ++ count) ++ aborts) ++ others
published_line region words epoch commits count aborts others = simp append_assoc

-- the pieces of the first line of a reply
pub said_line : (out one two three four five region session text : List ℕ) → one ≡ out ++ region → two ≡ one ++ 46 ∷ session → three ≡ two ++ 32 ∷ [] →
    four ≡ three ++ text → five ≡ four ++ 10 ∷ [] → five ≡ out ++ (((((region ++ 46 ∷ []) ++ session) ++ 32 ∷ []) ++ text) ++ 10 ∷ [])
said_line out one two three four five region session text a b c d e = rw (e, d, c, b, a) (simp append_assoc)
