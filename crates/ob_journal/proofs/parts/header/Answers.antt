use Rattle.std.proofs.Common.{ℤ, sym, subst}
use Rattle.std.proofs.Math.Facts.{to_z-of_z}
use Rattle.ob_journal_spec.specs.Areas.{HasHeader}
use Rattle.ob_journal.proofs.Headers.{no_serial, no_image, header_there}
use Rattle.ob_journal.proofs.parts.header.Goals as goal

pub returns-in_default-serial : goal.returns-in_default-serial
returns-in_default-serial c = let m = c.in-Some.ensures in no_serial c.args.bytes.now c.in-Some.rest.now m.0 m.1 c.in_default-serial.ensures

pub returns-in_default-record_behind : goal.returns-in_default-record_behind
returns-in_default-record_behind c =
    let m = c.in-Some.ensures in
    no_image c.args.bytes.now c.in-Some.rest.now m.0 m.1 _ c.in-Some-serial.rest.now c.in-Some-serial.ensures c.in_default-record_behind.ensures

pub returns : goal.returns
returns c =
    let m = c.in-Some.ensures in
    let r = c.in-Some-record_behind.ensures in
    let z = c.in-Some-serial.number in
    let image = c.in-Some-record_behind.image.now in
    subst (λ (x : ℤ). HasHeader x image c.args.bytes.now) (sym (to_z-of_z c.in-Some-serial.ensures.fits)) (header_there c.args.bytes.now c.in-Some.rest.now m.0 m.1 z c.in-Some-serial.rest.now c.in-Some-serial.ensures image r.0 r.1)
