-- Which objects are locked, and which have a transaction in progress (this project's own).
use Rattle.std.specs.Prelude.{ℕ, List, ◌∷◌, if◌then◌else◌}
use Rattle.ob_heap_spec.specs.Marks.{is_among}

-- the numbers of the objects that are locked, and of those that have a transaction in progress, the newest first
pub record Guarded : Type 0 where
  pub locked : List ℕ
  pub progress : List ℕ

-- an object is locked, unless it is already
abbrev pub with_lock : ℕ → Guarded → Guarded
with_lock n g = if is_among n g.locked then g else record g { locked = n ∷ g.locked }

-- a transaction of an object begins, unless one of it is in progress already
abbrev pub with_entry : ℕ → Guarded → Guarded
with_entry n g = if is_among n g.progress then g else record g { progress = n ∷ g.progress }
