use Rattle.std.proofs.Common.{map, refl}
use Rattle.ob_silica.specs.TermsView.{silica_body_of}
use Rattle.ob_emit.proofs.ImagesLemmas.{image_is_made, made_within, made_fits}
use Rattle.ob_emit.proofs.emission.emit.Goals as goal

pub returns-clause-image : goal.returns-clause-image
returns-clause-image c =
    image_is_made c.args.table.now (map silica_body_of c.args.bodies.now) c.in_ok-emit_image.field-0 c.requires
    c.in_ok-emit_image.ensures

pub returns-clause-bytes : goal.returns-clause-bytes
returns-clause-bytes c =
    made_within c.args.table.now (map silica_body_of c.args.bodies.now) c.in_ok-emit_image.field-0 c.requires
    c.in_ok-emit_image.ensures

pub returns-clause-fits : goal.returns-clause-fits
returns-clause-fits c =
    made_fits c.args.table.now (map silica_body_of c.args.bodies.now) c.in_ok-emit_image.field-0 c.requires
    c.in_ok-emit_image.ensures (c.if-not-is_light.ensures.lines refl) (c.if-not-is_light.ensures.light refl)
