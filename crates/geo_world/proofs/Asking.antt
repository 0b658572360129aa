-- What is printed where a region is asked, and where it takes an insert.
use Rattle.std.proofs.Common.{◌≡◌, ℕ, ℤ, ◌<◌, true, false, Some, List, ◌++◌, length, get_or, slice_get, is_some, vec_len, sym, ap, ap₂, ◌∙◌, subst, arith}
use Rattle.std.proofs.lemmas.Bool.{cond-true, cond-false}
use Rattle.std.proofs.lemmas.Option.{slice_get_read, same_Some}
use Rattle.geo_base.specs.declared.limits.TheConstants.{SESSIONS_PER_REGION}
use Rattle.geo_base.specs.declared.numbers.CandId.{CandId}
use Rattle.geo_base.specs.declared.row_id.RowId.{RowId}
use Rattle.write_set.specs.Overlay.{Table, image_in}
use Rattle.write_set.specs.Snapshot.{snap_at}
use Rattle.write_set.specs.laws.Tables.{image_snap}
use Rattle.world_script.specs.declared.event.Statement.{Statement}
use Rattle.world_script.specs.declared.event.Statement.TheVariants.{Insert, Select}
use Rattle.geo_world.specs.declared.world.World.{World as Kept}
use Rattle.geo_world.specs.declared.region.Region.{Region}
use Rattle.geo_world.specs.declared.session.Session.{Session as KeptSession}
use Rattle.geo_world.specs.World.{World, Session, Idle, Pending, region_of, published_epochs, session_of}
use Rattle.geo_world.specs.Step.{Stepped, says, sql, run_statement, submit, show, kv_row, put_candidate, next_ticket}
use Rattle.geo_world.specs.Lines as lines
use Rattle.geo_world.specs.inner.Sessions.{session_at}
use Rattle.geo_world.specs.inner.Regions.{Takes}
use Rattle.geo_world.specs.inner.Standing.{StandsFor, RegionStandsFor, Makes, session_state}
use Rattle.geo_world.proofs.Spared.{submit-takes}
use Rattle.geo_world.proofs.Moves.{taken_world}
use Rattle.geo_world.proofs.Standings.{ChangesOne}
use Rattle.geo_world.proofs.Taking.{taken-world}

-- the region at a place of the program's world
pub region-read : (k : Kept) (number : ℕ) (r : Region) → number < vec_len k.regions → r ≡ get_or k.regions.items number r →
    slice_get k.regions.items number ≡ Some r
region-read k number r h e = slice_get_read k.regions.items (vec_len k.regions) number r k.regions.ok.0 h e

-- the region there stands for that of the world
pub region-stands : (w : World) (k : Kept) (number : ℕ) (r : Region) → StandsFor w k → number < vec_len k.regions →
    r ≡ get_or k.regions.items number r → RegionStandsFor w number r
region-stands w k number r s h e = s.regions number r (region-read k number r h e)

-- the world stays, and says a line
pub says-makes : (w : World) (k : Kept) (text before after : List ℕ) (step : Stepped) → StandsFor w k → step ≡ says w text →
    after ≡ before ++ text → Makes step before after k
says-makes w k text before after step s is lines = subst (λ (t : Stepped). Makes t before after k) (sym is) (record { lines = lines; world = s })

pub show-makes : (w : World) (k : Kept) (number epoch : ℕ) (r : Region) (before after : List ℕ) → StandsFor w k → RegionStandsFor w number r →
    epoch ≡ r.plain.epoch → after ≡ before ++ lines.shown number epoch r.plain.rows → Makes (show w number) before after k
show-makes w k number epoch r before after s here is printed = record {
  lines = printed ∙ ap₂ (λ (e : ℕ) (rows : Table). before ++ lines.shown number e rows) (is ∙ here.published) here.merged.table;
  world = s;
}

pub select-makes : (w : World) (k : Kept) (number session : ℕ) (r : Region) (before after : List ℕ) → StandsFor w k → RegionStandsFor w number r →
    after ≡ before ++ lines.answer number session r.plain.rows → Makes (run_statement w number session Select) before after k
select-makes w k number session r before after s here printed = record {
  lines = printed ∙ ap (λ (rows : Table). before ++ lines.answer number session rows) here.merged.table;
  world = s;
}

few_within : (session n : ℕ) → session < SESSIONS_PER_REGION → n ≡ SESSIONS_PER_REGION → session < n
few_within session n h e = omega arith

-- the region keeps the session
pub session-within : (session : ℕ) (r : Region) (w : World) (number : ℕ) → RegionStandsFor w number r → session < SESSIONS_PER_REGION → session < vec_len r.sessions
session-within session r w number here few = few_within session (vec_len r.sessions) few here.numbers

-- a session that waits, and one that is idle
pub session-is : (w : World) (number session : ℕ) (r : Region) (s : KeptSession) → RegionStandsFor w number r → session < SESSIONS_PER_REGION →
    s ≡ session_at r.sessions.items session → session_of w number session ≡ session_state s
session-is w number session r s here few is = sym (here.sessions session few) ∙ ap session_state (sym is)

pub waits-makes : (w : World) (k : Kept) (number session : ℕ) (statement : Statement) (ticket : CandId) (before after : List ℕ) → StandsFor w k →
    session_of w number session ≡ Pending ticket → after ≡ before ++ lines.session_waits number session ticket →
    Makes (sql w number session statement (session_of w number session)) before after k
waits-makes w k number session statement ticket before after s is printed =
    says-makes w k (lines.session_waits number session ticket) before after (sql w number session statement (session_of w number session)) s
    (ap (sql w number session statement) is) printed

-- the row of an insert is there, or not, as the merge tells
pub row-is : (w : World) (number : ℕ) (r : Region) (row : RowId) → RegionStandsFor w number r →
    is_some (snap_at (published_epochs w number) row) ≡ is_some (image_in r.plain.rows row)
row-is w number r row here =
    ap is_some (sym (image_snap (published_epochs w number) row) ∙ ap (λ (rows : Table). image_in rows row) (sym here.merged.table))

pub duplicate-makes : (w : World) (k : Kept) (number session : ℕ) (key value : ℤ) (r : Region) (row : RowId) (before after : List ℕ) → StandsFor w k →
    RegionStandsFor w number r → row ≡ kv_row key → is_some (image_in r.plain.rows row) ≡ true →
    after ≡ before ++ lines.duplicate number session row → Makes (run_statement w number session (Insert key value)) before after k
duplicate-makes w k number session key value r row before after s here is there printed =
    says-makes w k (lines.duplicate number session (kv_row key)) before after (run_statement w number session (Insert key value)) s
    (cond-true (is_some (snap_at (published_epochs w number) (kv_row key))) (says w (lines.duplicate number session (kv_row key)))
    (submit w number session (put_candidate (region_of w number).published key value))
    (row-is w number r (kv_row key) here ∙ subst (λ (name : RowId). is_some (image_in r.plain.rows name) ≡ true) is there))
    (printed ∙ ap (λ (name : RowId). before ++ lines.duplicate number session name) is)

-- the step of an insert whose row isn't there
insert_takes : (w : World) (number session : ℕ) (key value : ℤ) (k : Kept) → StandsFor w k → number < length w.regions → session < SESSIONS_PER_REGION →
    session_of w number session ≡ Idle → is_some (snap_at (published_epochs w number) (kv_row key)) ≡ false →
    run_statement w number session (Insert key value)
    ≡ record { world = taken_world w number session key value; lines = lines.changed_one number session (next_ticket w number) }
insert_takes w number session key value k s h few idle absent =
    cond-false (is_some (snap_at (published_epochs w number) (kv_row key))) (says w (lines.duplicate number session (kv_row key)))
    (submit w number session (put_candidate (region_of w number).published key value)) absent
    ∙ submit-takes w number session key value s.sound h few idle

pub insert-makes : (w : World) (k n : Kept) (number session start : ℕ) (key value : ℤ) (ticket : CandId) (row : RowId) (old new : Region) (before after : List ℕ) →
    StandsFor w k → number < vec_len k.regions → session < SESSIONS_PER_REGION → session_of w number session ≡ Idle →
    slice_get k.regions.items number ≡ Some old → row ≡ kv_row key → is_some (image_in old.plain.rows row) ≡ false →
    start ≡ old.plain.epoch → Takes number session (put_candidate start key value) ticket old new →
    ChangesOne number new k n → n.packets.items ≡ k.packets.items →
    after ≡ before ++ lines.changed_one number session ticket → Makes (run_statement w number session (Insert key value)) before after n
insert-makes w k n number session start key value ticket row old new before after s h few idle at is absent starts t changes packets printed =
    subst (λ (step : Stepped). Makes step before after n)
    (sym (insert_takes w number session key value k s within few idle
    (row-is w number old (kv_row key) here ∙ subst (λ (name : RowId). is_some (image_in old.plain.rows name) ≡ false) is absent)))
    (record {
      lines = printed ∙ ap (λ (id : CandId). before ++ lines.changed_one number session id) both.0;
      world = both.1;
    })
  where
    within : number < length w.regions
    within = subst (λ (m : ℕ). number < m) s.count h

    here : RegionStandsFor w number old
    here = s.regions number old at

    both : (ticket ≡ next_ticket w number) × StandsFor (taken_world w number session key value) n
    both = taken-world w k n number session key value ticket old new s within few idle at
        (subst (λ (e : ℕ). Takes number session (put_candidate e key value) ticket old new) (starts ∙ here.published) t) changes packets

-- an idle session's statement is run
pub runs-makes : (w : World) (k : Kept) (number session : ℕ) (statement : Statement) (before after : List ℕ) →
    session_of w number session ≡ Idle → Makes (run_statement w number session statement) before after k →
    Makes (sql w number session statement (session_of w number session)) before after k
runs-makes w k number session statement before after idle m =
    subst (λ (s : Session). Makes (sql w number session statement s) before after k) (sym idle) m

-- two reads of one place are one region
pub read-same : (k : Kept) (number : ℕ) (r s : Region) → number < vec_len k.regions → r ≡ get_or k.regions.items number r →
    s ≡ get_or k.regions.items number s → r ≡ s
read-same k number r s h a b = same_Some r s (sym (region-read k number r h a) ∙ region-read k number s h b)
