-- Each line is answered before more is read: what each status says of the lines that were taken (this project's own).
use Rattle.std.specs.Prelude.{ℕ, ◌≡◌, ◌⊎◌, List, Option, Some}
use Rattle.ob_table.specs.Tables.{ClassTable}
use Rattle.ob_silica.specs.Terms.{SilicaBody}
use Rattle.ob_front.specs.Programs.{IsProgram}
use Rattle.ob_io.specs.LinesOfText.{lines_of, whole_lines}
use Rattle.ob_io.specs.Told.{TakesFrom, Gives, GivesFront}
use Rattle.ob_store_spec.specs.Stores.{StoreState}
use Rattle.ob_serve.specs.Served.{IsToldAs}
use Rattle.ob_serve.specs.Session.{items_from, replies}
use Rattle.ob_words.specs.Asked.{Asked}
use Rattle.ob_run.specs.Commands.{file_of, text_in}
use Rattle.ob_outside.specs.Outside.{OutsideView}
use Rattle.ob_run.specs.Sessions.{program_with, BeginsAt, source_items}
use Rattle.ob_outside.specs.declared.exit.Exit.{Exit}
use Rattle.ob_outside.specs.declared.exit.Exit.TheVariants.{Done, Refused, Usage, ReadFault, WriteFault, DiskFault, StoreRefused, FileFault, Memory, Long}

-- The words ask for a session, the text of P is this program, and on this store its session begins.
pub record BeginsSession (words : Option Asked) (before : OutsideView) : Type 0 where
  pub asked : Asked
  pub is : words ≡ Some asked
  pub text : List ℕ
  pub told : IsToldAs (text_in before.files (file_of asked.command)) text
  pub table : ClassTable
  pub bodies : List SilicaBody
  pub program : IsProgram text table bodies
  pub start : StoreState
  pub begins : BeginsAt asked.command (program_with table bodies) before.disk start

-- the replies to lines, by the source meaning of a program, from a store on; a blank line has none
abbrev pub replies_to : Asked → ClassTable → List SilicaBody → StoreState → List (List ℕ) → List ℕ
replies_to asked table bodies start lines = replies (items_from (source_items asked table bodies) start lines)

-- Bytes of the input were taken, and the output got exactly the replies to their lines.
pub record AnswersLines (lines_in : List ℕ → List (List ℕ)) (words : Option Asked) (before after : OutsideView) : Type 0 where
  pub of : BeginsSession words before
  pub taken : List ℕ
  pub took : TakesFrom before.input after.input taken
  pub written : Gives before.output.written after.output.written (replies_to of.asked of.table of.bodies of.start (lines_in taken))

-- The output got a prefix of the replies to the lines of the input.
pub record AnswersSome (words : Option Asked) (before after : OutsideView) : Type 0 where
  pub of : BeginsSession words before
  pub input : List ℕ
  pub all : IsToldAs before.input.left input
  pub written : GivesFront before.output.written after.output.written (replies_to of.asked of.table of.bodies of.start (lines_of input))

-- no byte of the input was taken
abbrev pub TakesNothing : OutsideView → OutsideView → Type 0
TakesNothing before after = after.input ≡ before.input

-- Where a run ends by its input, each line that was taken whole has its replies written. That is so of every source, also of one whose next read
-- fails: up to this read the run over it is the same, and there it ends, in ReadFault. So before each read of the input each line that was
-- taken whole has its replies written, and a client may wait for them before it sends its next line.
abbrev pub AnswersWhatItTook : Option Asked → OutsideView → OutsideView → Exit → Type 0
-- The input was read to its end, and each line has its replies. `check`, `audit` and `trial` take nothing.
AnswersWhatItTook words before after Done = TakesNothing before after ⊎ AnswersLines lines_of words before after
-- Each line that was taken whole has its replies.
AnswersWhatItTook words before after ReadFault = AnswersLines whole_lines words before after
AnswersWhatItTook words before after Long = AnswersLines whole_lines words before after
-- Here less holds: a line that was taken may lack its replies, or a part of them. No reply comes before those to an earlier line.
AnswersWhatItTook words before after WriteFault = TakesNothing before after ⊎ AnswersSome words before after
AnswersWhatItTook words before after DiskFault = TakesNothing before after ⊎ AnswersSome words before after
AnswersWhatItTook words before after Memory = TakesNothing before after ⊎ AnswersSome words before after
-- These come before any line is taken.
AnswersWhatItTook words before after Refused = TakesNothing before after
AnswersWhatItTook words before after Usage = TakesNothing before after
AnswersWhatItTook words before after StoreRefused = TakesNothing before after
AnswersWhatItTook words before after FileFault = TakesNothing before after
