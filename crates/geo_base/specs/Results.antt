-- Steps of which each may fail, and what a call answers that does such steps.
use Rattle.std.specs.Prelude.{◌≡◌, ◌⊎◌, ℕ, Result, Ok, Err}

-- what was read, and the place behind it
abbrev pub Read : Type 0 → Type 0 → Type 0
Read E A = Result (A × ℕ) E

-- the step behind one that went well; a fault is passed on
infixl 10 ◌>>=◌
abbrev pub ◌>>=◌ : {A B E : Type 0} → Result A E → (A → Result B E) → Result B E
(Ok x) >>= f = f x
(Err e) >>= f = Err e

-- The error is the fault that is meant, or says that there was no memory.
abbrev pub Fails : {E Y : Type 0} → E → E → Result Y E → Type 0
Fails no_memory e meant = (e ≡ no_memory) ⊎ (meant ≡ Err e)

-- What was answered, seen by view, is what is meant, unless there was no memory, which the error `no_memory` says.
abbrev pub Gives : {X Y E : Type 0} → E → (X → Y) → Result X E → Result Y E → Type 0
Gives no_memory view (Ok x) meant = meant ≡ Ok (view x)
Gives no_memory view (Err e) meant = Fails no_memory e meant

-- What was answered, seen by view, is what is meant.
abbrev pub Matches : {X Y E : Type 0} → (X → Y) → Result X E → Result Y E → Type 0
Matches view (Ok x) meant = meant ≡ Ok (view x)
Matches view (Err e) meant = meant ≡ Err e

-- What stands in the input is answered, unless there was no memory, which the error `no_memory` says.
abbrev pub Reads : {X Y E : Type 0} → E → (X → Y) → Result X E → (Y → Type 0) → Type 0
Reads {X} {Y} no_memory view (Ok x) Stands = (y : Y) → Stands y → view x ≡ y
Reads {X} {Y} no_memory view (Err e) Stands = (y : Y) → Stands y → e ≡ no_memory

-- A fault that the input has is answered, unless there was no memory.
abbrev pub Refuses : {X E : Type 0} → E → Result X E → (E → Type 0) → Type 0
Refuses {X} {E} no_memory (Ok x) IsFault = (f : E) → ¬ (IsFault f)
Refuses {X} {E} no_memory (Err e) IsFault = (f : E) → IsFault f → (e ≡ no_memory) ⊎ (e ≡ f)

-- One thing stands in the input, or it has one fault, and not both.
pub record OneAnswer {A E : Type 0} (Stands : A → Type 0) (IsFault : E → Type 0) : Type 0 where
  pub some : ((x : A) × Stands x) ⊎ ((e : E) × IsFault e)
  pub one : (x y : A) → Stands x → Stands y → x ≡ y
  pub one_fault : (e f : E) → IsFault e → IsFault f → e ≡ f
  pub not_both : (x : A) (e : E) → Stands x → IsFault e → ⊥
