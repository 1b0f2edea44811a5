use Rattle.std.proofs.Common.{inl, ◌+◌, ◌∙◌, ◌≡◌, sym, ap, true≢false, Result, Ok, Err, true, false, OnOk, OnErr}
use Rattle.std.specs.Prelude.{is_err}
use Rattle.ob_disk_spec.proofs.Behind.{behind_none}
use Rattle.ob_disk_spec.proofs.Untouched.{untouched_none}
use Rattle.ob_store.specs.Stores.{state_of}
use Rattle.ob_store.proofs.Same.{same_stands}
use Rattle.ob_serve.proofs.Committed.{quiet_crash, some_leads, crash_leaves, ready_again}
use Rattle.ob_serve.proofs.committing.keep.Goals as goal

pub returns-then-is_err-2-clause-crash : goal.returns-then-is_err-2-clause-crash
returns-then-is_err-2-clause-crash g c = λ program after leads rests stands.
    let some = some_leads program after c.args.store.now c.args.prepared c.in-Some.prepared c.in-Some.is leads in
    let prepared = c.reserve.ensures.prepared program some.ready.is_prepared in
    let ready = ready_again program after c.args.store.now c.reserve.new.self c.in-Some.prepared some c.reserve.ensures.state c.reserve.ensures.area c.reserve.ensures.content prepared in
    crash_leaves program after c.args.store.now c.reserve.new.self c.in-Some.prepared some c.reserve.ensures.state c.reserve.ensures.area c.reserve.ensures.content prepared
    (g.D.Disk.view c.args.disk.now) (g.D.Disk.view c.commit.new.disk) (λ none. c.commit.ensures.nothing (inl none))
    (λ size area. c.commit.ensures.crash program size ready area (same_stands program c.args.store.now c.reserve.new.self (g.D.Disk.view c.args.disk.now) c.reserve.ensures.same (c.reserve.ensures.owners program stands.owners) stands))

pub returns-clause-crash : goal.returns-clause-crash
returns-clause-crash g c = λ program after leads rests stands.
    let some = some_leads program after c.args.store.now c.args.prepared c.in-Some.prepared c.in-Some.is leads in
    let prepared = c.reserve.ensures.prepared program some.ready.is_prepared in
    let ready = ready_again program after c.args.store.now c.reserve.new.self c.in-Some.prepared some c.reserve.ensures.state c.reserve.ensures.area c.reserve.ensures.content prepared in
    crash_leaves program after c.args.store.now c.reserve.new.self c.in-Some.prepared some c.reserve.ensures.state c.reserve.ensures.area c.reserve.ensures.content prepared
    (g.D.Disk.view c.args.disk.now) (g.D.Disk.view c.commit.new.disk) (λ none. c.commit.ensures.nothing (inl none))
    (λ size area. c.commit.ensures.crash program size ready area (same_stands program c.args.store.now c.reserve.new.self (g.D.Disk.view c.args.disk.now) c.reserve.ensures.same (c.reserve.ensures.owners program stands.owners) stands))

-- where nothing was done
pub returns-in_default-clause-crash : goal.returns-in_default-clause-crash
returns-in_default-clause-crash g c = λ program after leads rests stands. quiet_crash program after c.args.store.now (g.D.Disk.view c.args.disk.now) stands rests

pub returns-then-is_err-clause-crash : goal.returns-then-is_err-clause-crash
returns-then-is_err-clause-crash g c = λ program after leads rests stands. quiet_crash program after c.args.store.now (g.D.Disk.view c.args.disk.now) stands rests

-- ---- the calls of the disk

pub returns-in_default-clause-untouched : goal.returns-in_default-clause-untouched
returns-in_default-clause-untouched g c = λ none. untouched_none (g.D.Disk.view c.args.disk.now)

pub returns-in_default-clause-behind : goal.returns-in_default-clause-behind
returns-in_default-clause-behind g c = λ size is. behind_none (size + size) (g.D.Disk.view c.args.disk.now)

pub returns-then-is_err-clause-untouched : goal.returns-then-is_err-clause-untouched
returns-then-is_err-clause-untouched g c = λ none. untouched_none (g.D.Disk.view c.args.disk.now)

pub returns-then-is_err-clause-memory : goal.returns-then-is_err-clause-memory
returns-then-is_err-clause-memory g c = λ is. untouched_none (g.D.Disk.view c.args.disk.now)

pub returns-then-is_err-clause-behind : goal.returns-then-is_err-clause-behind
returns-then-is_err-clause-behind g c = λ size is. behind_none (size + size) (g.D.Disk.view c.args.disk.now)

pub returns-then-is_err-2-clause-untouched : goal.returns-then-is_err-2-clause-untouched
returns-then-is_err-2-clause-untouched g c = λ none. c.commit.ensures.nothing (inl (c.reserve.ensures.area ∙ none))

pub returns-then-is_err-2-clause-behind : goal.returns-then-is_err-2-clause-behind
returns-then-is_err-2-clause-behind g c = λ size is. c.commit.ensures.behind size (c.reserve.ensures.area ∙ is)

pub returns-clause-untouched : goal.returns-clause-untouched
returns-clause-untouched g c = λ none. c.commit.ensures.nothing (inl (c.reserve.ensures.area ∙ none))

pub returns-clause-behind : goal.returns-clause-behind
returns-clause-behind g c = λ size is. c.commit.ensures.behind size (c.reserve.ensures.area ∙ is)

-- what stands then

-- what holds on Ok holds where there is no error
at_ok : {T E P : Type 0} (r : Result T E) → is_err r ≡ false → OnOk r P → P
at_ok (Ok x) is holds = holds
at_ok (Err e) is holds = absurd (true≢false is)

pub returns-clause-stands : goal.returns-clause-stands
returns-clause-stands g c = λ program after leads stands.
    let some = some_leads program after c.args.store.now c.args.prepared c.in-Some.prepared c.in-Some.is leads in
    let prepared = c.reserve.ensures.prepared program some.ready.is_prepared in
    let ready = ready_again program after c.args.store.now c.reserve.new.self c.in-Some.prepared some c.reserve.ensures.state c.reserve.ensures.area c.reserve.ensures.content prepared in
    let same = same_stands program c.args.store.now c.reserve.new.self (g.D.Disk.view c.args.disk.now) c.reserve.ensures.same (c.reserve.ensures.owners program stands.owners) stands in
    at_ok c.commit.result (sym c.is_err-2.ensures.value ∙ c.if-is_err-2.false) c.commit.ensures.stands program ready same

-- what is left at an error

-- what holds on Err holds where there is an error
at_err : {T E P : Type 0} (r : Result T E) → is_err r ≡ true → OnErr r P → P
at_err (Ok x) is holds = absurd (true≢false (sym is))
at_err (Err e) is holds = holds

pub returns-then-is_err-clause-err : goal.returns-then-is_err-clause-err
returns-then-is_err-clause-err g c = c.reserve.ensures.state

pub returns-then-is_err-2-clause-err : goal.returns-then-is_err-2-clause-err
returns-then-is_err-2-clause-err g c =
    ap state_of (at_err c.commit.result (sym c.is_err-2.ensures.value ∙ c.if-is_err-2.true) c.commit.ensures.err) ∙ c.reserve.ensures.state
