-- Events that are read one after another.
use Rattle.std.proofs.Common.{◌≡◌, List, [], Ok, Err, refl}
use Rattle.geo_script.specs.declared.script.EventAt.{EventAt}
use Rattle.geo_script.specs.inner.Scripts.{Checked, behind}

-- where nothing was read, all is what the lines are
pub behind_none : (read : List EventAt) (more : Checked (List EventAt)) → read ≡ [] → behind read more ≡ more
behind_none read (Ok events) none = rw none refl
behind_none read (Err fault) none = refl
