use Rattle.ob_emit_laws.specs.Names.{without_names}
use Rattle.ob_store_table_laws.proofs.Unnamed.{differences_unnamed, all_unnamed, changes_unnamed}
use Rattle.ob_store_table_laws.proofs.Failing.{failing_unnamed, first_unnamed}
use Rattle.ob_store_table_laws.proofs.Following.{content_follows, store_follows, saying_follows, leading_follows, area_follows, refusal_follows}
use Rattle.ob_store_table_laws.proofs.Whole.{named, unnamed, payloads_unnamed, settled_unnamed}
use Rattle.std.proofs.Common.{ap}
use Rattle.ob_store_table_laws.proofs.laws.stores_ignore_names.Goals as goal

pub returns-clause-contents : goal.returns-clause-contents
returns-clause-contents c table content =
    (content_follows (without_names table) table (named table) content, content_follows table (without_names table) (unnamed table) content)

pub returns-clause-rest : goal.returns-clause-rest
returns-clause-rest c table content =
    (store_follows (without_names table) table (named table) content, store_follows table (without_names table) (unnamed table) content)

pub returns-clause-failing : goal.returns-clause-failing
returns-clause-failing c table content n = ap (λ ways. ways n) (failing_unnamed table content)

pub returns-clause-first_failing : goal.returns-clause-first_failing
returns-clause-first_failing c = first_unnamed

pub returns-clause-payloads : goal.returns-clause-payloads
returns-clause-payloads c = payloads_unnamed

pub returns-clause-differences : goal.returns-clause-differences
returns-clause-differences c = differences_unnamed

pub returns-clause-wholes : goal.returns-clause-wholes
returns-clause-wholes c = all_unnamed

pub returns-clause-changes : goal.returns-clause-changes
returns-clause-changes c = changes_unnamed

pub returns-clause-saying : goal.returns-clause-saying
returns-clause-saying c table content changes bytes = (
  saying_follows (without_names table) table (named table) content changes bytes,
  saying_follows table (without_names table) (unnamed table) content changes bytes,
)

pub returns-clause-leading : goal.returns-clause-leading
returns-clause-leading c table content payloads end = (
  leading_follows (without_names table) table (named table) content payloads end,
  leading_follows table (without_names table) (unnamed table) content payloads end,
)

pub returns-clause-stores : goal.returns-clause-stores
returns-clause-stores c table image size bytes s = (
  area_follows (without_names table) table (named table) image size bytes s,
  area_follows table (without_names table) (unnamed table) image size bytes s,
)

pub returns-clause-refusals : goal.returns-clause-refusals
returns-clause-refusals c table image size bytes r = (
  refusal_follows (without_names table) table (named table) (unnamed table) image size bytes r,
  refusal_follows table (without_names table) (unnamed table) (named table) image size bytes r,
)

pub returns-clause-settling : goal.returns-clause-settling
returns-clause-settling c = settled_unnamed
