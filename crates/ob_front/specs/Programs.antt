-- What all stages find in a text: a program whose bodies are lowered and checked, or its first fault.
use Rattle.std.specs.Prelude.{ℕ, ◌≤◌, List, All}
use Rattle.ob_base.specs.Limits.{most_weight}
use Rattle.ob_base.specs.declared.fault.ProgramFault.{ProgramFault}
use Rattle.ob_table.specs.Tables.{ClassTable}
use Rattle.ob_silica.specs.Terms.{SilicaBody}
use Rattle.ob_flow_spec.specs.Deriving.{Derives}
use Rattle.ob_emit_spec.specs.Weights.{weight, IsTooHeavy}
use Rattle.ob_front.specs.Lowered.{AreLoweredTo, LacksSlots}
use Rattle.ob_front.specs.Checked.{FailsPremise}
use Rattle.ob_front.specs.Stages.{HasTable, HasTableFault}

-- the text has a class table, and these are the terms of its bodies
pub record HasTerms (text : List ℕ) (table : ClassTable) (bodies : List SilicaBody) : Type 0 where
  pub has : HasTable text table
  pub lowered : AreLoweredTo table table.bodies bodies

-- The first fault of a text whose bodies have no terms: that of a text without a class table; or, where it has one, that of
-- the first body that needs too many slots.
pub data HasTermsFault (text : List ℕ) (fault : ProgramFault) : Type 0 where
  at_table : HasTableFault text fault → HasTermsFault text fault
  at_slot : (table : ClassTable) → HasTable text table → LacksSlots table fault → HasTermsFault text fault

-- the text has a class table and terms, each of which derives by the permission rules
pub record IsChecked (text : List ℕ) (table : ClassTable) (bodies : List SilicaBody) : Type 0 where
  pub terms : HasTerms text table bodies
  pub derive : All (Derives table) bodies

-- the text is this program: its class table, and the terms of its bodies, which derive and don't weigh more than they may
pub record IsProgram (text : List ℕ) (table : ClassTable) (bodies : List SilicaBody) : Type 0 where
  pub checked : IsChecked text table bodies
  pub light : weight table bodies ≤ most_weight

-- the text is a program: no stage finds a fault in it
pub record IsAccepted (text : List ℕ) : Type 0 where
  pub table : ClassTable
  pub bodies : List SilicaBody
  pub is : IsProgram text table bodies

-- The first fault of a text that isn't accepted, stage by stage: that of a text whose bodies have no terms; or, where they
-- have, the first premise of the permission rules that fails, body by body; or, where all derive, that they weigh too much.
pub data HasTextFault (text : List ℕ) (fault : ProgramFault) : Type 0 where
  at_terms : HasTermsFault text fault → HasTextFault text fault
  at_premise : (table : ClassTable) (bodies : List SilicaBody) → HasTerms text table bodies
      → FailsPremise table bodies fault → HasTextFault text fault
  at_weight : (table : ClassTable) (bodies : List SilicaBody) → IsChecked text table bodies
      → IsTooHeavy table bodies fault → HasTextFault text fault
