use Rattle.std.proofs.Common.{◌≡◌, ◌∙◌, ℕ, length, refl, sym, subst, arith}
use Rattle.std.proofs.Math.Facts.{to_z-of_z}
use Rattle.ob_journal_spec.specs.Areas.{IsDamaged}
use Rattle.ob_journal.specs.Moments.{LooksBeside}
use Rattle.ob_journal.specs.Places.{place_in}
use Rattle.ob_journal.proofs.Finds.{start_within, current_read, current_damaged, current_headed, serial_fits, has_payloads, not_headed, is_damaged, seen_throughout, read_whole}
use Rattle.ob_journal.proofs.journal.Journal.current.Goals as goal

pub read_area-requires-clause-within : goal.read_area-requires-clause-within
read_area-requires-clause-within g c = λ c' reads.
    let within = start_within c.args.area (place_in c.args.place) c.args.other_closed c' (c.requires.current c' reads) in omega (arith, within, c.start-start.ensures.start)

pub returns-in-Ok-survey_area-clause-found : goal.returns-in-Ok-survey_area-clause-found
returns-in-Ok-survey_area-clause-found g c = λ c' reads.
    let there = c.in-Ok-survey_area.ensures in
    let read = c.in-Ok-survey_area.read in
    let counted : c.len.result ≡ length read.image.items = omega arith in (
      there.payloads,
      has_payloads read c.new-recorded.result c.as_slice.result.now c.in-Ok.bytes.items c.len.result there counted c.as_slice.ensures.value c.new-recorded.ensures,
      current_read c.args.area c.start-start.result (place_in c.args.place) c.start-start.ensures.start c.args.other_closed c.as_slice.result.now c' (c.as_slice.ensures.value ∙ c.in-Ok.ensures.bytes c' reads) (c.requires.current c' reads) read _ there (to_z-of_z (serial_fits read c.as_slice.result.now there)),
    )

pub returns-in-Ok-survey_area-clause-whole : goal.returns-in-Ok-survey_area-clause-whole
returns-in-Ok-survey_area-clause-whole g c =
    let there = c.in-Ok-survey_area.ensures in
    let read = c.in-Ok-survey_area.read in
    let counted : c.len.result ≡ length read.image.items = omega arith in
    let old = g.D.Disk.view c.args.disk.now in
    let new = g.D.Disk.view c.read_area.new.disk in
    record {
      payloads = there.payloads;
      has = has_payloads read c.new-recorded.result c.as_slice.result.now c.in-Ok.bytes.items c.len.result there counted c.as_slice.ensures.value c.new-recorded.ensures;
      holds = record {
        whole = read_whole old new c.requires.settled c.read_area.ensures.quiet c.in-Ok.ensures.same c.args.area c.start-start.result (place_in c.args.place) c.args.other_closed c.start-start.ensures.start c.requires.current
            c.as_slice.result.now (λ c' reads. c.as_slice.ensures.value ∙ c.in-Ok.ensures.bytes c' reads) read _ there (to_z-of_z (serial_fits read c.as_slice.result.now there));
        gate = there.gate;
        other = seen_throughout old new (LooksBeside c.args.area (place_in c.args.place) c.args.other_closed) c.requires.settled c.read_area.ensures.quiet c.in-Ok.ensures.same (λ c' reads. (c.requires.current c' reads).other);
      };
      area = refl;
    }

pub returns-in-Err-NotStore-clause-found : goal.returns-in-Err-NotStore-clause-found
returns-in-Err-NotStore-clause-found g c = λ c' reads.
    absurd (not_headed _ c.as_slice.result.now c.in-Err-NotStore.field-0-is c.in-Err-NotStore.ensures
    (current_headed c.args.area c.start-start.result (place_in c.args.place) c.start-start.ensures.start c.args.other_closed c.as_slice.result.now c' (c.as_slice.ensures.value ∙ c.in-Ok.ensures.bytes c' reads) (c.requires.current c' reads)))

pub returns-in-Err-Damaged-clause-found : goal.returns-in-Err-Damaged-clause-found
returns-in-Err-Damaged-clause-found g c = λ c' reads.
    let said = is_damaged _ c.in-Err-Damaged.offset c.as_slice.result.now c.in-Err-Damaged.field-0-is c.in-Err-Damaged.ensures in
    current_damaged c.args.area c.start-start.result (place_in c.args.place) c.start-start.ensures.start c.args.other_closed c.as_slice.result.now c' (c.as_slice.ensures.value ∙ c.in-Ok.ensures.bytes c' reads) (c.requires.current c' reads) _
    (subst (λ (n : ℕ). IsDamaged n c.as_slice.result.now) (sym c.in-Err-Damaged.offset-is) said)
