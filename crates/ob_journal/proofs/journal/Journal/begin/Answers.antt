use Rattle.std.proofs.Common.{◌∙◌, ◌+◌, length, ap, arith}
use Rattle.std.proofs.lemmas.Int.{ints}
use Rattle.ob_disk_spec.proofs.Behind.{behind_none}
use Rattle.ob_journal.proofs.Opens.{begun_length}
use Rattle.ob_journal.proofs.journal.Journal.begin.Goals as goal

pub returns-then-count-area-clause-behind : goal.returns-then-count-area-clause-behind
returns-then-count-area-clause-behind g c = behind_none c.args.area (g.D.Disk.view c.args.disk.now)

pub returns-then-count-area-clause-only : goal.returns-then-count-area-clause-only
returns-then-count-area-clause-only g c = behind_none (18 + length c.args.image.now) (g.D.Disk.view c.args.disk.now)

pub returns-in_default-clause-behind : goal.returns-in_default-clause-behind
returns-in_default-clause-behind g c = behind_none c.args.area (g.D.Disk.view c.args.disk.now)

pub returns-in_default-clause-only : goal.returns-in_default-clause-only
returns-in_default-clause-only g c = behind_none (18 + length c.args.image.now) (g.D.Disk.view c.args.disk.now)

pub returns-in_default-header_of-clause-behind : goal.returns-in_default-header_of-clause-behind
returns-in_default-header_of-clause-behind g c = behind_none c.args.area (g.D.Disk.view c.args.disk.now)

pub returns-in_default-header_of-clause-only : goal.returns-in_default-header_of-clause-only
returns-in_default-header_of-clause-only g c = behind_none (18 + length c.args.image.now) (g.D.Disk.view c.args.disk.now)

pub returns-in_default-open_first-clause-behind : goal.returns-in_default-open_first-clause-behind
returns-in_default-open_first-clause-behind g c =
    let long = begun_length c.args.image.now _ (c.as_slice.ensures.value ∙ c.in-Ok-header_of.ensures) in c.open_first.ensures.behind c.args.area (omega (arith, long))

pub returns-in_default-open_first-clause-only : goal.returns-in_default-open_first-clause-only
returns-in_default-open_first-clause-only g c =
    let long = begun_length c.args.image.now _ (c.as_slice.ensures.value ∙ c.in-Ok-header_of.ensures) in c.open_first.ensures.behind (18 + length c.args.image.now) (omega (arith, long))

pub returns-in_default-open_first-clause-crash : goal.returns-in_default-open_first-clause-crash
returns-in_default-open_first-clause-crash g c = λ fresh.
    let is = c.as_slice.ensures.value ∙ c.in-Ok-header_of.ensures in
    let long = begun_length c.args.image.now _ is in c.open_first.ensures.crash c.args.image.now (record { small = omega arith; within = omega (arith, long); is = is }) fresh

pub invariant_of-result : goal.invariant_of-result
invariant_of-result g c = record {
  small = c.requires.small;
  within = omega arith;
  pictured = omega (arith, ap length c.in-Ok.ensures);
  counted = omega (arith, ints);
}

pub returns-clause-crash : goal.returns-clause-crash
returns-clause-crash g c = λ fresh.
    let is = c.as_slice.ensures.value ∙ c.in-Ok-header_of.ensures in
    let long = begun_length c.args.image.now _ is in c.open_first.ensures.crash c.args.image.now (record { small = omega arith; within = omega (arith, long); is = is }) fresh

pub returns-clause-behind : goal.returns-clause-behind
returns-clause-behind g c =
    let long = begun_length c.args.image.now _ (c.as_slice.ensures.value ∙ c.in-Ok-header_of.ensures) in c.open_first.ensures.behind c.args.area (omega (arith, long))

pub returns-clause-only : goal.returns-clause-only
returns-clause-only g c =
    let long = begun_length c.args.image.now _ (c.as_slice.ensures.value ∙ c.in-Ok-header_of.ensures) in c.open_first.ensures.behind (18 + length c.args.image.now) (omega (arith, long))
