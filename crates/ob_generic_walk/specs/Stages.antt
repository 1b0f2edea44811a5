-- The instances one after another, as a walk over them meets them (this project's own).
use Rattle.std.specs.Prelude.{ℕ, zero, suc, List, [], take}
use Rattle.ob_resolve_spec.specs.Declarations.{Program}
use Rattle.ob_generic_spec.specs.Instances.{needed_by}
use Rattle.ob_generic_spec.specs.declared.instance.Instance.{Instance}

-- the first instances, where each of them was gone over
abbrev pub stage : Program → ℕ → List Instance
stage program zero = []
stage program (suc n) = take (suc n) (needed_by program (stage program n))
