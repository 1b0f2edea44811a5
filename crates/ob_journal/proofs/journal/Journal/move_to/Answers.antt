use Rattle.std.proofs.Common.{◌∙◌, ◌+◌, List, ℕ, length, ap, arith}
use Rattle.std.specs.Prelude.{pos, ◌+ℤ◌}
use Rattle.ob_journal.specs.Journals.{journaled, place_of}
use Rattle.ob_journal.proofs.Moves.{area_length, move_opening, move_opens, move_ready, move_held, held_there, over_there, other_start_is, next_read, held_serial}
use Rattle.ob_journal.proofs.journal.Journal.move_to.Goals as goal

pub returns-in_default-clause-crash : goal.returns-in_default-clause-crash
returns-in_default-clause-crash g c = λ payloads payload is holds.
    let s = c.args.self.now in
    let j = journaled s payloads in
    c.put_area.ensures.crash (move_opening s.area (place_of s) j payload)
    (move_opens s.area (place_of s) j payload _ c.start-start.result (other_start_is s.area (place_of s) _ _ c.other-place.ensures c.start-start.ensures.start) s.small is.serial s.counted (omega (arith, is.within)) (c.as_slice.ensures.value ∙ is.is))
    (move_ready s.area (place_of s) j payload s.other_closed _ (record { whole = holds.whole; other = holds.other }))

pub returns-clause-crash : goal.returns-clause-crash
returns-clause-crash g c = λ payloads payload is holds.
    let s = c.args.self.now in
    let j = journaled s payloads in
    c.put_area.ensures.crash (move_opening s.area (place_of s) j payload)
    (move_opens s.area (place_of s) j payload _ c.start-start.result (other_start_is s.area (place_of s) _ _ c.other-place.ensures c.start-start.ensures.start) s.small is.serial s.counted (omega (arith, is.within)) (c.as_slice.ensures.value ∙ is.is))
    (move_ready s.area (place_of s) j payload s.other_closed _ (record { whole = holds.whole; other = holds.other }))

pub returns-clause-whole : goal.returns-clause-whole
returns-clause-whole g c = λ payloads payload is holds.
    let s = c.args.self.now in
    let j = journaled s payloads in
    let now = c.in-Ok.ensures.opened (move_opening s.area (place_of s) j payload)
    (move_opens s.area (place_of s) j payload _ c.start-start.result (other_start_is s.area (place_of s) _ _ c.other-place.ensures c.start-start.ensures.start) s.small is.serial s.counted (omega (arith, is.within)) (c.as_slice.ensures.value ∙ is.is))
    (move_ready s.area (place_of s) j payload s.other_closed _ (record { whole = holds.whole; other = holds.other })) in
    let held = held_serial s.area _ j payload _ _ _ (next_read s.serial is.serial s.counted) (held_there s.area _ _ _ _ _ c.other-place.ensures (move_held s.area (place_of s) j payload _ now)) in
    record { whole = held.whole; gate = omega (arith, c.len.ensures, area_length (s.serial +ℤ pos 1) s.image.items payload c.args.built.bytes.items is.is); other = held.other }

pub returns-clause-written : goal.returns-clause-written
returns-clause-written g c =
    let s = c.args.self.now in
    over_there s.other_closed _ _ _ _ _ _ (other_start_is s.area (place_of s) _ _ c.other-place.ensures c.start-start.ensures.start) c.as_slice.ensures.value c.in-Ok.ensures.written

pub returns-in_default-clause-behind : goal.returns-in_default-clause-behind
returns-in_default-clause-behind g c =
    let s = c.args.self.now in
    let is = c.requires.1 in
    c.put_area.ensures.behind (s.area + s.area)
    (omega (arith, area_length (s.serial +ℤ pos 1) s.image.items c.requires.0 c.args.built.bytes.items is.is, is.within, c.start-start.ensures.within, ap (λ (l : List ℕ). length l) c.as_slice.ensures.value))

pub returns-clause-behind : goal.returns-clause-behind
returns-clause-behind g c =
    let s = c.args.self.now in
    let is = c.requires.1 in
    c.put_area.ensures.behind (s.area + s.area)
    (omega (arith, area_length (s.serial +ℤ pos 1) s.image.items c.requires.0 c.args.built.bytes.items is.is, is.within, c.start-start.ensures.within, ap (λ (l : List ℕ). length l) c.as_slice.ensures.value))
