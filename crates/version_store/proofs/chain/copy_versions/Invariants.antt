use Rattle.std.proofs.Common.{◌≡◌, ◌++◌, take}
use Rattle.version_store.proofs.chain.copy_versions.Given as goal

-- the versions so far are copied
abbrev pub invariant-loop-version : goal.invariant-loop-version
invariant-loop-version l = l.copies.items ≡ l.initial.copies.items ++ take l.version-index l.versions
