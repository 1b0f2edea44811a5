use Rattle.ob_outside.specs.Outside.{told}
use Rattle.ob_outside.specs.declared.exit.Exit.TheVariants.{Usage}
use Rattle.ob_outside.proofs.ProfileLemmas.{keeps_untouched}
use Rattle.ob_words.specs.FurtherView.{further_view}
use Rattle.obsidian.specs.Dispatch.{profile_of}
use Rattle.obsidian.proofs.dispatch.do_further.Goals as goal

-- ---- a word whose command isn't built: nothing is touched

pub returns-in-Upgrade-clause-keeps : goal.returns-in-Upgrade-clause-keeps
returns-in-Upgrade-clause-keeps g c = keeps_untouched (profile_of (further_view c.args.further))
    (told g.F.Files.view g.S.Source.view g.K.Sink.view g.D.Disk.view c.args.outside.now) Usage tt

pub returns-in-Ship-clause-keeps : goal.returns-in-Ship-clause-keeps
returns-in-Ship-clause-keeps g c = keeps_untouched (profile_of (further_view c.args.further))
    (told g.F.Files.view g.S.Source.view g.K.Sink.view g.D.Disk.view c.args.outside.now) Usage tt

pub returns-in-Follow-clause-keeps : goal.returns-in-Follow-clause-keeps
returns-in-Follow-clause-keeps g c = keeps_untouched (profile_of (further_view c.args.further))
    (told g.F.Files.view g.S.Source.view g.K.Sink.view g.D.Disk.view c.args.outside.now) Usage tt

pub returns-in-Build-clause-keeps : goal.returns-in-Build-clause-keeps
returns-in-Build-clause-keeps g c = keeps_untouched (profile_of (further_view c.args.further))
    (told g.F.Files.view g.S.Source.view g.K.Sink.view g.D.Disk.view c.args.outside.now) Usage tt

pub returns-in-Exec-clause-keeps : goal.returns-in-Exec-clause-keeps
returns-in-Exec-clause-keeps g c = keeps_untouched (profile_of (further_view c.args.further))
    (told g.F.Files.view g.S.Source.view g.K.Sink.view g.D.Disk.view c.args.outside.now) Usage tt

pub returns-in-ExecStored-clause-keeps : goal.returns-in-ExecStored-clause-keeps
returns-in-ExecStored-clause-keeps g c = keeps_untouched (profile_of (further_view c.args.further))
    (told g.F.Files.view g.S.Source.view g.K.Sink.view g.D.Disk.view c.args.outside.now) Usage tt

pub returns-in-Plan-clause-keeps : goal.returns-in-Plan-clause-keeps
returns-in-Plan-clause-keeps g c = keeps_untouched (profile_of (further_view c.args.further))
    (told g.F.Files.view g.S.Source.view g.K.Sink.view g.D.Disk.view c.args.outside.now) Usage tt
