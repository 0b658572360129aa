-- The session that is read is the one at its place.
use Rattle.std.proofs.Common.{Option, unwrap_or, vec_len, sym, ap}
use Rattle.std.proofs.lemmas.Option.{slice_get_read}
use Rattle.geo_world.specs.declared.session.Session.{Session}
use Rattle.geo_world.specs.declared.session.Session.TheVariants.{Idle}
use Rattle.geo_world.proofs.sessions.session_state.Goals as goal

pub returns : goal.returns
returns c = ap (λ (o : Option Session). unwrap_or o Idle)
    (sym (slice_get_read c.args.sessions.now.items (vec_len c.args.sessions.now) c.args.session c.index.result.now c.args.sessions.now.ok.0 c.requires c.index.ensures))
