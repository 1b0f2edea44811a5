use Rattle.std.proofs.Common.{ℕ, List, sym, subst}
use Rattle.ob_disk_spec.specs.Durable.{During}
use Rattle.ob_journal.specs.Journals.{Holds}
use Rattle.ob_store.specs.Writing.{IsRecordOf, IsRecordFor, payloads_with, IsWritten, StandsWithOrWithout}
use Rattle.ob_store.specs.declared.writing.BuiltChange.{BuiltChange}
use Rattle.ob_store.proofs.Built.{behind_both}
use Rattle.ob_store.proofs.writing.write_change.Goals as goal

pub append-requires : goal.append-requires
append-requires g c = let P : BuiltChange → Type 0 = λ r. IsRecordFor c.args.journal.now r in subst P c.in-Append.is c.requires

pub returns-in_ok-append-in-Append-clause-written : goal.returns-in_ok-append-in-Append-clause-written
returns-in_ok-append-in-Append-clause-written g c =
    let P : BuiltChange → Type 0 = λ r. (payload : List ℕ) → IsRecordOf c.args.journal.now payload r → IsWritten c.args.journal.now payload r c.append.new.self in
    subst P (sym c.in-Append.is) c.in_ok-append-in-Append.ensures.appended

pub returns-in_ok-append-in-Append-clause-whole : goal.returns-in_ok-append-in-Append-clause-whole
returns-in_ok-append-in-Append-clause-whole g c =
    let P : BuiltChange → Type 0 = λ r. (payloads : List (List ℕ)) (payload : List ℕ) → IsRecordOf c.args.journal.now payload r → Holds c.args.journal.now payloads (g.D.Disk.view c.args.disk.now)
    → Holds c.append.new.self (payloads_with payloads payload r) (g.D.Disk.view c.append.new.disk) in
    subst P (sym c.in-Append.is) c.in_ok-append-in-Append.ensures.whole

pub returns-in_ok-append-in-Append-clause-crash : goal.returns-in_ok-append-in-Append-clause-crash
returns-in_ok-append-in-Append-clause-crash g c =
    let P : BuiltChange → Type 0 = λ r. (payloads : List (List ℕ)) (payload : List ℕ) → IsRecordOf c.args.journal.now payload r → Holds c.args.journal.now payloads (g.D.Disk.view c.args.disk.now)
    → During (g.D.Disk.view c.args.disk.now) (g.D.Disk.view c.append.new.disk) (StandsWithOrWithout c.args.journal.now payloads payload r) in
    subst P (sym c.in-Append.is) c.append.ensures.crash

pub returns-in_err-append-in-Append-clause-crash : goal.returns-in_err-append-in-Append-clause-crash
returns-in_err-append-in-Append-clause-crash g c =
    let P : BuiltChange → Type 0 = λ r. (payloads : List (List ℕ)) (payload : List ℕ) → IsRecordOf c.args.journal.now payload r → Holds c.args.journal.now payloads (g.D.Disk.view c.args.disk.now)
    → During (g.D.Disk.view c.args.disk.now) (g.D.Disk.view c.append.new.disk) (StandsWithOrWithout c.args.journal.now payloads payload r) in
    subst P (sym c.in-Append.is) c.append.ensures.crash

pub returns-in_ok-append-in-Append-clause-behind : goal.returns-in_ok-append-in-Append-clause-behind
returns-in_ok-append-in-Append-clause-behind g c = behind_both c.args.journal.now (g.D.Disk.view c.args.disk.now) (g.D.Disk.view c.append.new.disk) c.append.ensures.behind

pub returns-in_err-append-in-Append-clause-behind : goal.returns-in_err-append-in-Append-clause-behind
returns-in_err-append-in-Append-clause-behind g c = behind_both c.args.journal.now (g.D.Disk.view c.args.disk.now) (g.D.Disk.view c.append.new.disk) c.append.ensures.behind

pub move_to-requires : goal.move_to-requires
move_to-requires g c = let P : BuiltChange → Type 0 = λ r. IsRecordFor c.args.journal.now r in subst P c.in-Move.is c.requires

pub returns-in_ok-move_to-in-Move-clause-written : goal.returns-in_ok-move_to-in-Move-clause-written
returns-in_ok-move_to-in-Move-clause-written g c =
    let P : BuiltChange → Type 0 = λ r. (payload : List ℕ) → IsRecordOf c.args.journal.now payload r → IsWritten c.args.journal.now payload r c.move_to.new.self in
    subst P (sym c.in-Move.is) c.in_ok-move_to-in-Move.ensures.moved

pub returns-in_ok-move_to-in-Move-clause-whole : goal.returns-in_ok-move_to-in-Move-clause-whole
returns-in_ok-move_to-in-Move-clause-whole g c =
    let P : BuiltChange → Type 0 = λ r. (payloads : List (List ℕ)) (payload : List ℕ) → IsRecordOf c.args.journal.now payload r → Holds c.args.journal.now payloads (g.D.Disk.view c.args.disk.now)
    → Holds c.move_to.new.self (payloads_with payloads payload r) (g.D.Disk.view c.move_to.new.disk) in
    subst P (sym c.in-Move.is) c.in_ok-move_to-in-Move.ensures.whole

pub returns-in_ok-move_to-in-Move-clause-crash : goal.returns-in_ok-move_to-in-Move-clause-crash
returns-in_ok-move_to-in-Move-clause-crash g c =
    let P : BuiltChange → Type 0 = λ r. (payloads : List (List ℕ)) (payload : List ℕ) → IsRecordOf c.args.journal.now payload r → Holds c.args.journal.now payloads (g.D.Disk.view c.args.disk.now)
    → During (g.D.Disk.view c.args.disk.now) (g.D.Disk.view c.move_to.new.disk) (StandsWithOrWithout c.args.journal.now payloads payload r) in
    subst P (sym c.in-Move.is) c.move_to.ensures.crash

pub returns-in_err-move_to-in-Move-clause-crash : goal.returns-in_err-move_to-in-Move-clause-crash
returns-in_err-move_to-in-Move-clause-crash g c =
    let P : BuiltChange → Type 0 = λ r. (payloads : List (List ℕ)) (payload : List ℕ) → IsRecordOf c.args.journal.now payload r → Holds c.args.journal.now payloads (g.D.Disk.view c.args.disk.now)
    → During (g.D.Disk.view c.args.disk.now) (g.D.Disk.view c.move_to.new.disk) (StandsWithOrWithout c.args.journal.now payloads payload r) in
    subst P (sym c.in-Move.is) c.move_to.ensures.crash
