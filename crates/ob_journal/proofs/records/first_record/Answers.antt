use Rattle.std.proofs.Common.{sym, ◌∙◌}
use Rattle.ob_format_spec.proofs.Failing.{nothing_left, something_left}
use Rattle.ob_journal.proofs.Walks.{no_records, none_there, first_there, rest_shorter}
use Rattle.ob_journal.proofs.records.first_record.Goals as goal

pub returns-then-is_empty-clause-first : goal.returns-then-is_empty-clause-first
returns-then-is_empty-clause-first c = λ payloads r. no_records c.args.records.now (nothing_left c.args.records.now (sym c.is_empty.ensures ∙ c.if-is_empty.true)) payloads r

pub returns-in_default-clause-first : goal.returns-in_default-clause-first
returns-in_default-clause-first c = λ payloads r.
    none_there c.args.records.now c.behind.result.now c.behind.ensures (something_left c.args.records.now (sym c.is_empty.ensures ∙ c.if-is_empty.false)) (λ payload rest is. c.in_default.ensures (payload, rest, is)) payloads r

pub returns-clause-first : goal.returns-clause-first
returns-clause-first c = λ payloads r.
    first_there c.args.records.now c.behind.result.now c.in-Some.payload.now c.in-Some.rest.now c.behind.ensures (something_left c.args.records.now (sym c.is_empty.ensures ∙ c.if-is_empty.false)) c.in-Some.ensures payloads r

pub returns-clause-shorter : goal.returns-clause-shorter
returns-clause-shorter c =
    rest_shorter c.args.records.now c.behind.result.now c.in-Some.payload.now c.in-Some.rest.now c.behind.ensures (something_left c.args.records.now (sym c.is_empty.ensures ∙ c.if-is_empty.false)) c.in-Some.ensures
