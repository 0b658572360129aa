-- Laws: what reading gives tells what stands in the input and which fault it has, in both directions, and so does what a call answers that gives what reading gives.
use Rattle.std.proofs.Common.{◌≡◌, Result, Ok, Err, refl, sym, ◌∙◌, ◌⊎◌, inl, inr}
use Rattle.std.specs.Prelude.{IfOk, IfErr}
use Rattle.geo_base.specs.Results.{Gives, Matches, Reads, Refuses, OneAnswer}
use Rattle.geo_base.specs.laws.Results.{ok_is, fault_is, not_done}

-- What is read stands there, what stands there is read, and a fault is given exactly where the input has it; what is found and what causes a fault is known of a sound input
pub record Tells {A E : Type 0} (Sound : Type 0) (meant : Result A E) (Stands : A → Type 0) (IsFault : E → Type 0) : Type 0 where
  pub found : Sound → (x : A) → meant ≡ Ok x → Stands x
  pub only : (x : A) → Stands x → meant ≡ Ok x
  pub cause : Sound → (e : E) → meant ≡ Err e → IsFault e
  pub refused : (e : E) → IsFault e → meant ≡ Err e

-- where reading gives one thing or one fault, the input has just that
pub one_answer : {A E : Type 0} (Sound : Type 0) (r : Result A E) (P : A → Type 0) (F : E → Type 0) → Tells Sound r P F → Sound → OneAnswer P F
one_answer {A} {E} Sound r P F t sound = record {
  some = by r refl;
  one = λ x y p q. ok_is x y (sym (t.only x p) ∙ t.only y q);
  one_fault = λ e f p q. fault_is {A = A} e f (sym (t.refused e p) ∙ t.refused f q);
  not_both = λ x e p q. not_done x e (sym (t.only x p) ∙ t.refused e q);
}
  where
    by : (q : Result A E) → r ≡ q → ((x : A) × P x) ⊎ ((e : E) × F e)
    by (Ok x) e = inl (x, t.found sound x e)
    by (Err d) e = inr (d, t.cause sound d e)

module _ {X Y E : Type 0} (no_memory : E) (view : X → Y) (Sound : Type 0) (meant : Result Y E) (P : Y → Type 0) (F : E → Type 0) (t : Tells Sound meant P F) (sound : Sound) where
  -- what is answered stands there
  pub answer_found : (r : Result X E) → Gives no_memory view r meant → IfOk r (λ x. P (view x))
  answer_found (Ok x) exact = t.found sound (view x) exact
  answer_found (Err e) exact = tt

  -- a fault that is answered is had by the input, unless there was no memory
  pub answer_faulty : (r : Result X E) → Gives no_memory view r meant → IfErr r (λ e. (e ≡ no_memory) ⊎ F e)
  answer_faulty (Ok x) exact = tt
  answer_faulty (Err e) exact = elim exact [ inl c ↦ inl c | inr c ↦ inr (t.cause sound e c) ]

  -- what stands there is answered, unless there was no memory
  pub answer_only : (r : Result X E) → Gives no_memory view r meant → Reads no_memory view r P
  answer_only (Ok x) exact = λ y p. ok_is (view x) y (sym exact ∙ t.only y p)
  answer_only (Err e) exact = λ y p. elim exact [ inl c ↦ c | inr c ↦ not_done y e (sym (t.only y p) ∙ c) ]

  -- a fault that the input has is answered, unless there was no memory
  pub answer_refused : (r : Result X E) → Gives no_memory view r meant → Refuses no_memory r F
  answer_refused (Ok x) exact = λ e p. not_done (view x) e (sym exact ∙ t.refused e p)
  answer_refused (Err f) exact = λ e p. elim exact [ inl c ↦ inl c | inr c ↦ inr (fault_is {A = Y} f e (sym c ∙ t.refused e p)) ]

  -- a call that answers so gives what reading gives
  pub answer_gives : (r : Result X E) → IfOk r (λ x. P (view x)) → IfErr r (λ e. (e ≡ no_memory) ⊎ F e) → Gives no_memory view r meant
  answer_gives (Ok x) found faulty = t.only (view x) found
  answer_gives (Err e) found faulty = elim faulty [ inl c ↦ inl c | inr c ↦ inr (t.refused e c) ]

-- what is answered without need of memory is what is meant
pub given : {X Y E : Type 0} (no_memory : E) (view : X → Y) (meant : Result Y E) (r : Result X E) → Matches view r meant → Gives no_memory view r meant
given no_memory view meant (Ok x) exact = exact
given no_memory view meant (Err e) exact = inr exact
