-- The trial of a program: a session over a blank store, on the lines of the trial of a length (this project's own).
use Rattle.std.specs.Prelude.{ℕ, List, [], Some}
use Rattle.ob_client.specs.Trials.{trial_lines}
use Rattle.ob_io.specs.LinesOfText.{lines_of}
use Rattle.ob_store_spec.specs.Stores.{StoreProgram, StoreState, IsStoreOf}
use Rattle.ob_code.specs.declared.image.Image.{Image}
use Rattle.ob_serve.specs.Items.{Service, by_source, items_of}
use Rattle.ob_serve.specs.Session.{state_after}
use Rattle.ob_serve.specs.declared.limits.Limits.{Limits}
use Rattle.ob_run.specs.Counting.{AreCountsOf}
use Rattle.ob_run.specs.declared.counts.Counts.{Counts}

-- the lines of the trial of a length
abbrev pub lines_of_trial : ℕ → List (List ℕ)
lines_of_trial length = lines_of (trial_lines length)

-- how its lines are served: by the source meaning of a program, with these limits, over a store in areas of a size
abbrev pub service : StoreProgram → Image → Limits → ℕ → Service
service program code limits area = by_source program code limits (Some area)

-- The numbers are those of the trial of a length: of the items of its lines, on the store that a blank disk represents, and of what that
-- store holds after the last of them.
pub record IsTrial (program : StoreProgram) (code : Image) (limits : Limits) (area length : ℕ) (counts : Counts) : Type 0 where
  pub start : StoreState
  pub begins : IsStoreOf program area [] start
  pub counted : AreCountsOf (items_of (service program code limits area) start (lines_of_trial length))
      (state_after start (items_of (service program code limits area) start (lines_of_trial length))) counts
