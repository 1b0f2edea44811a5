-- What a run promises.
use Rattle.std.specs.Prelude.{Option}
use Rattle.ob_words.specs.Asked.{Asked}
use Rattle.ob_run.specs.Answering.{AnswersWhatItTook}
use Rattle.ob_run.specs.Attaching.{UsesDisk, KeepsUnlessAsked, store_asked}
use Rattle.ob_run.specs.FileAsks.{AsksFor}
use Rattle.ob_outside.specs.Faults.{EndsAtFault, NamesFault}
use Rattle.ob_outside.specs.Outside.{OutsideView}
use Rattle.ob_run.specs.Reasons.{HasReason}
use Rattle.ob_run.specs.Statuses.{MeetsStatus}
use Rattle.ob_outside.specs.declared.exit.Exit.{Exit}

-- A run of these words ended so.
pub record IsRun (words : Option Asked) (before after : OutsideView) (exit : Exit) : Type 0 where
  -- what the status says of all that was read, written and stored, a crash at any moment counted in
  pub status : MeetsStatus words before after exit
  -- nothing is refused without reason
  pub reason : HasReason words before after exit
  -- each line is answered before more of the input is read
  pub answers : AnswersWhatItTook words before after exit
  -- P is asked once at most, for `most_read` bytes, and no other file is
  pub asks : AsksFor words before.files.asks after.files.asks
  -- by `serve P STORE` and `audit P STORE` the disk of the name STORE is taken, once at most, before any other call of it, and what follows
  -- its first 128 MiB stays; by all other words no call of the disk is made
  pub disk : UsesDisk (store_asked words) before.disk after.disk
  -- only by `serve P STORE` a byte of the disk changes, a crash at any moment counted in: an audit writes nothing, however it ends
  pub kept : KeepsUnlessAsked words before.disk after.disk
  -- the run ends at the first fault
  pub faults : EndsAtFault before after exit
  -- and a status that names a fault comes only where its count rose
  pub named : NamesFault exit before after
