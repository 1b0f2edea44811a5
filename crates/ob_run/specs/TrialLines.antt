-- What is written of a trial (this project's own).
use Rattle.std.specs.Prelude.{ℕ, ◌≡◌, List, ◌++◌, codes, decimal}
use Rattle.ob_base.specs.Limits.{area_bytes}
use Rattle.ob_front.specs.Programs.{IsProgram}
use Rattle.ob_silica.specs.Terms.{SilicaBody}
use Rattle.ob_table.specs.Tables.{ClassTable}
use Rattle.ob_run.specs.Trials.{IsTrial}
use Rattle.ob_run.specs.declared.counts.Counts.{Counts}
use Rattle.ob_emit_spec.specs.EmittedImages.{image_of}
use Rattle.ob_serve.specs.declared.limits.Limits.{Limits}
use Rattle.ob_words.specs.Settings.{fuel, lanes, slice, default}
use Rattle.ob_run.specs.Sessions.{program_with}

-- a number behind its word, on a line
abbrev pub count_line : List ℕ → ℕ → List ℕ
count_line word count = word ++ codes " " ++ decimal count ++ codes "\n"

-- the six numbers
abbrev pub trial_text : Counts → List ℕ
trial_text counts =
    count_line (codes "lines") counts.lines ++ count_line (codes "ok") counts.ok ++ count_line (codes "aborted") counts.aborted
    ++ count_line (codes "refused") counts.refused ++ count_line (codes "objects") counts.objects ++ count_line (codes "handles") counts.handles

-- the limits that no option changes
abbrev pub default_limits : Limits
default_limits = record { fuel = default fuel; lanes = default lanes; slice = default slice }

-- The text is a program, and the bytes are the numbers of a trial of this length: with the default limits, over a store in two areas as large
-- as those on a disk.
pub record TellsTrial (text : List ℕ) (length : ℕ) (bytes : List ℕ) : Type 0 where
  pub table : ClassTable
  pub bodies : List SilicaBody
  pub program : IsProgram text table bodies
  pub counts : Counts
  pub held : IsTrial (program_with table bodies) (image_of table bodies) default_limits area_bytes length counts
  pub told : bytes ≡ trial_text counts
