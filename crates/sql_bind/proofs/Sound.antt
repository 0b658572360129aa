-- Bound statements are sound.
use Rattle.std.proofs.Common.{◌≡◌, Result, Ok, Err, subst}
use Rattle.std.specs.Prelude.{IfOk}
use Rattle.geo_base.specs.Results.{Gives, ◌>>=◌}
use Rattle.geo_base.specs.laws.Results.{ok_is, bind_ok}
use Rattle.geo_schema.specs.Schemas.{Tables}
use Rattle.sql_ast.specs.declared.statement.Statement.{Statement}
use Rattle.sql_ast.specs.declared.statement.Statement.TheVariants as statement
use Rattle.sql_bind.specs.declared.bound.Bound.{Bound}
use Rattle.sql_bind.specs.declared.bound.Bound.TheVariants as bound
use Rattle.sql_bind.specs.declared.fault.BindFault.{BindFault}
use Rattle.sql_bind.specs.Deletes.{delete_of}
use Rattle.sql_bind.specs.Inserts.{insert_of}
use Rattle.sql_bind.specs.Selects.{select_of, lock_of}
use Rattle.sql_bind.specs.Sound.{IsSound}
use Rattle.sql_bind.specs.Statements.{bound_of}
use Rattle.sql_bind.specs.Updates.{update_of}
use Rattle.sql_bind.proofs.Queries.{query_bound, lock_bound}
use Rattle.sql_bind.proofs.Writes.{insert_sound, update_sound, delete_sound}

-- a step, and then a variant of what it gives
made : {A : Type 0} (tables : Tables) (r : Result A BindFault) (make : A → Bound) (b : Bound) → ((x : A) → r ≡ Ok x → IsSound tables (make x)) → (r >>= λ x. Ok (make x)) ≡ Ok b → IsSound tables b
made tables r make b sound h =
    let p = bind_ok r (λ x. Ok (make x)) b h in
    subst (IsSound tables) (ok_is (make p.0) b p.2) (sound p.0 p.1)

pub is_sound : (tables : Tables) (statement : Statement) (b : Bound) → bound_of tables statement ≡ Ok b → IsSound tables b
is_sound tables (statement.Select select) b h = made tables (select_of tables select) bound.Select b (λ x e. (query_bound tables select x e).sound) h
is_sound tables (statement.SelectForUpdate select) b h = made tables (lock_of tables select) bound.Lock b (lock_bound tables select) h
is_sound tables (statement.Insert insert) b h = made tables (insert_of tables insert) bound.Insert b (insert_sound tables insert) h
is_sound tables (statement.Update update) b h = made tables (update_of tables update) bound.Update b (update_sound tables update) h
is_sound tables (statement.Delete delete) b h = made tables (delete_of tables delete) bound.Delete b (delete_sound tables delete) h
is_sound tables statement.Begin b h = absurd cc
is_sound tables (statement.BeginAsOf epoch) b h = absurd cc
is_sound tables statement.Commit b h = absurd cc
is_sound tables statement.Rollback b h = absurd cc
is_sound tables (statement.Explain select) b h = made tables (select_of tables select) bound.Explain b (λ x e. (query_bound tables select x e).sound) h

-- so is what a call answers that gives the bound statement
pub answer_sound : (tables : Tables) (statement : Statement) (r : Result Bound BindFault) (e : BindFault) → Gives e (λ b. b) r (bound_of tables statement) → IfOk r (λ b. IsSound tables b)
answer_sound tables statement (Ok b) e exact = is_sound tables statement b exact
answer_sound tables statement (Err f) e exact = tt
