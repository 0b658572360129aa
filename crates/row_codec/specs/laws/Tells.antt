-- Laws: reading that is put together from parts tells what stands in the bytes and which fault they have, where its parts do.
use Rattle.std.proofs.Common.{◌≡◌, ℕ, Bool, true, false, cond, Result, Ok, Err, refl, sym, ap, subst, ◌∙◌, ◌⊎◌, inl, inr}
use Rattle.geo_base.specs.Results.{◌>>=◌}
use Rattle.geo_base.specs.laws.Answers.{Tells}
use Rattle.geo_base.specs.laws.Results.{done, lost, ok_is, fault_is, not_done, bind_ok, failed}
use Rattle.row_codec.specs.Parts.{FirstOrLater, Keeps, Breaks}

module _ {E : Type 0} (Sound : Type 0) where
  -- the same, in other words
  pub tells_as : {A : Type 0} {meant : Result A E} (P Q : A → Type 0) (F G : E → Type 0) → Tells Sound meant P F →
      (Sound → (x : A) → P x → Q x) → ((x : A) → Q x → P x) → (Sound → (e : E) → F e → G e) → ((e : E) → G e → F e) → Tells Sound meant Q G
  tells_as P Q F G t to back to_fault back_fault = record {
    found = λ sound x e. to sound x (t.found sound x e);
    only = λ x q. t.only x (back x q);
    cause = λ sound f e. to_fault sound f (t.cause sound f e);
    refused = λ f g. t.refused f (back_fault f g);
  }

  -- what is read is there at once
  pub tells_done : {A : Type 0} (x : A) → Tells {E = E} Sound (done x) (λ y. x ≡ y) (λ _. ⊥)
  tells_done x = record { found = λ sound y e. ok_is x y e; only = λ y e. ap done e; cause = λ sound f e. not_done x f e; refused = λ f h. absurd h }

  -- one part, and another behind it
  pub tells_then : {A B : Type 0} (r : Result A E) (f : A → Result B E) (P : A → Type 0) (F : E → Type 0) (Q : A → B → Type 0) (G : A → E → Type 0) → Tells Sound r P F →
      ((x : A) → P x → Tells Sound (f x) (Q x) (G x)) → Tells Sound (r >>= f) (λ y. (x : A) × P x × Q x y) (λ e. FirstOrLater (F e) P (λ x. G x e))
  tells_then {A} {B} r f P F Q G t later = record {
    found = λ sound y e. let b = bind_ok r f y e in let p = t.found sound b.0 b.1 in (b.0, p, (later b.0 p).found sound y b.2);
    only = λ y s. joined s.0 (t.only s.0 s.1) ∙ (later s.0 s.1).only y s.2;
    cause = λ sound d e. elim (failed r f d e) [ inl c ↦ inl (t.cause sound d c) | inr c ↦ let p = t.found sound c.0 c.1 in inr (c.0, p, (later c.0 p).cause sound d c.2) ];
    refused = λ d h. elim h [ inl c ↦ ap (λ (q : Result A E). q >>= f) (t.refused d c) | inr c ↦ joined c.0 (t.only c.0 c.1) ∙ (later c.0 c.1).refused d c.2 ];
  }
    where
      joined : (x : A) → r ≡ Ok x → (r >>= f) ≡ f x
      joined x e = ap (λ (q : Result A E). q >>= f) e

  -- a test that holds where the rule is kept
  pub tells_kept : {A : Type 0} (b : Bool) (Rule : Type 0) (fault : E) (r : Result A E) (P : A → Type 0) (F : E → Type 0) → (b ≡ true → Rule) → (b ≡ false → ¬ Rule) → Tells Sound r P F →
      Tells Sound (cond b r (Err fault)) (λ x. Rule × P x) (λ e. ((¬ Rule) × (e ≡ fault)) ⊎ (Rule × F e))
  tells_kept true Rule fault r P F holds breaks t = record {
    found = λ sound x e. (holds refl, t.found sound x e);
    only = λ x s. t.only x s.1;
    cause = λ sound d e. inr (holds refl, t.cause sound d e);
    refused = λ d h. elim h [ inl c ↦ absurd (c.0 (holds refl)) | inr c ↦ t.refused d c.1 ];
  }
  tells_kept {A} false Rule fault r P F holds breaks t = record {
    found = λ sound x e. not_done x fault (sym e);
    only = λ x s. absurd (breaks refl s.0);
    cause = λ sound d e. inl (breaks refl, sym (fault_is {A = A} fault d e));
    refused = λ d h. elim h [ inl c ↦ ap lost (sym c.1) | inr c ↦ absurd (breaks refl c.0) ];
  }

  -- a test that holds where the rule is broken
  pub tells_broken : {A : Type 0} (b : Bool) (Rule : Type 0) (fault : E) (r : Result A E) (P : A → Type 0) (F : E → Type 0) → (b ≡ true → ¬ Rule) → (b ≡ false → Rule) → Tells Sound r P F →
      Tells Sound (cond b (Err fault) r) (λ x. Rule × P x) (λ e. ((¬ Rule) × (e ≡ fault)) ⊎ (Rule × F e))
  tells_broken false Rule fault r P F breaks holds t = tells_kept true Rule fault r P F (λ _. holds refl) (λ e. absurd cc) t
  tells_broken true Rule fault r P F breaks holds t = tells_kept false Rule fault r P F (λ e. absurd cc) (λ _. breaks refl) t

  -- a part that is tested once it is read
  pub tells_rule : {A : Type 0} (r : Result (A × ℕ) E) (f : A × ℕ → Result (A × ℕ) E) (P : A × ℕ → Type 0) (F : E → Type 0) (Rule : A → Type 0) (fault : E) → Tells Sound r P F →
      ((x : A × ℕ) → Tells Sound (f x) (λ y. Rule x.0 × (x ≡ y)) (λ e. ((¬ (Rule x.0)) × (e ≡ fault)) ⊎ (Rule x.0 × ⊥))) → Tells Sound (r >>= f) (Keeps P Rule) (Breaks F P Rule fault)
  tells_rule {A} r f P F Rule fault t tested =
      tells_as (λ y. (x : A × ℕ) × P x × (Rule x.0 × (x ≡ y))) (Keeps P Rule) (λ e. FirstOrLater (F e) P (λ x. ((¬ (Rule x.0)) × (e ≡ fault)) ⊎ (Rule x.0 × ⊥))) (Breaks F P Rule fault)
      (tells_then r f P F (λ x y. Rule x.0 × (x ≡ y)) (λ x e. ((¬ (Rule x.0)) × (e ≡ fault)) ⊎ (Rule x.0 × ⊥)) t (λ x p. tested x))
      (λ sound y s. subst (Keeps P Rule) s.2.1 (s.1, s.2.0)) (λ y s. (y, s.0, (s.1, refl)))
      (λ sound e h. elim h [ inl c ↦ inl c | inr c ↦ elim c.2 [ inl d ↦ inr (c.0, c.1, d) | inr d ↦ absurd d.1 ] ])
      (λ e h. elim h [ inl c ↦ inl c | inr c ↦ inr (c.0, c.1, inl c.2) ])
