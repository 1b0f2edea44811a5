use Rattle.std.proofs.Common.{◌∙◌, ◌+◌, ℕ, List, length, ap, arith}
use Rattle.ob_journal_spec.proofs.Bytes.{next_more}
use Rattle.ob_journal.specs.Journals.{journaled, place_of, end_offset}
use Rattle.ob_journal.proofs.Appends.{appends, record_length}
use Rattle.ob_journal.proofs.Moves.{appended_there}
use Rattle.ob_journal.proofs.journal.Journal.append.Goals as goal

pub returns-in_default-clause-crash : goal.returns-in_default-clause-crash
returns-in_default-clause-crash g c = λ payloads payload is holds.
    let s = c.args.self.now in
    let j = journaled s payloads in
    c.put_record.ensures.crash s.area (place_of s) j s.other_closed payload
    (appends s.area (place_of s) j payload _ c.start.result s.gate c.start.ensures.start holds.gate s.small is.within (c.as_slice.ensures.value ∙ is.is))
    (record { whole = holds.whole; other = holds.other })

pub returns-clause-crash : goal.returns-clause-crash
returns-clause-crash g c = λ payloads payload is holds.
    let s = c.args.self.now in
    let j = journaled s payloads in
    c.put_record.ensures.crash s.area (place_of s) j s.other_closed payload
    (appends s.area (place_of s) j payload _ c.start.result s.gate c.start.ensures.start holds.gate s.small is.within (c.as_slice.ensures.value ∙ is.is))
    (record { whole = holds.whole; other = holds.other })

pub returns-clause-whole : goal.returns-clause-whole
returns-clause-whole g c = λ payloads payload is holds.
    let s = c.args.self.now in
    let j = journaled s payloads in
    let held = c.in-Ok.ensures.held s.area (place_of s) j s.other_closed payload
    (appends s.area (place_of s) j payload _ c.start.result s.gate c.start.ensures.start holds.gate s.small is.within (c.as_slice.ensures.value ∙ is.is))
    (record { whole = holds.whole; other = holds.other }) in
    record { whole = held.whole; gate = omega (arith, holds.gate, next_more j payload, record_length payload _ is.is); other = held.other }

pub returns-clause-written : goal.returns-clause-written
returns-clause-written g c =
    let s = c.args.self.now in
    appended_there _ _ _ _ _ _ (ap (λ (n : ℕ). n + s.gate) c.start.ensures.start) c.as_slice.ensures.value c.in-Ok.ensures.written

pub returns-in_default-clause-behind : goal.returns-in_default-clause-behind
returns-in_default-clause-behind g c =
    let s = c.args.self.now in
    let is = c.requires.1 in
    c.put_record.ensures.behind (end_offset s) (omega (arith, record_length c.requires.0 _ is.is, is.within, c.start.ensures.start, ap (λ (l : List ℕ). length l) c.as_slice.ensures.value))

pub returns-clause-behind : goal.returns-clause-behind
returns-clause-behind g c =
    let s = c.args.self.now in
    let is = c.requires.1 in
    c.put_record.ensures.behind (end_offset s) (omega (arith, record_length c.requires.0 _ is.is, is.within, c.start.ensures.start, ap (λ (l : List ℕ). length l) c.as_slice.ensures.value))
