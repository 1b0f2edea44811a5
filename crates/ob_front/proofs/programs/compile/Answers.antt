use Rattle.std.proofs.lemmas.Result.{err_from_is_err_and}
use Rattle.ob_front.proofs.CompiledLaws.{slice_in_order, slice_program, slice_too_heavy, slice_image, slice_fits, slice_verified, slice_sound_code, checked_texts_are_compiled, compiled_is_sound}
use Rattle.ob_front.proofs.programs.compile.Goals as goal

pub emit-requires : goal.emit-requires
emit-requires c = slice_in_order _ _ _ _ c.in_ok-program.ensures.checked c.as_slice.ensures

pub by_proof-code-requires : goal.by_proof-code-requires
by_proof-code-requires c = slice_verified _ _ _ _ c.in_ok-program.ensures.checked c.as_slice.ensures _ c.in_ok-image.ensures.image

pub returns-in_err-image-clause-fault : goal.returns-in_err-image-clause-fault
returns-in_err-image-clause-fault c =
    let failed = err_from_is_err_and c.from_residual-in_err-image.result c.from_residual-in_err-image.ensures.1 in
    rw (failed.1, failed.2) (slice_too_heavy _ _ _ _ c.in_ok-program.ensures.checked c.as_slice.ensures _ c.in_err-image.ensures.fault)

pub returns-clause-program : goal.returns-clause-program
returns-clause-program c = slice_program _ _ _ _ c.in_ok-program.ensures.checked c.as_slice.ensures c.in_ok-image.ensures.light

pub returns-clause-compiled : goal.returns-clause-compiled
returns-clause-compiled c = checked_texts_are_compiled _ _ _ c.in_ok-program.ensures.checked

pub returns-clause-sound : goal.returns-clause-sound
returns-clause-sound c = compiled_is_sound _ _ (checked_texts_are_compiled _ _ _ c.in_ok-program.ensures.checked)

pub returns-clause-code : goal.returns-clause-code
returns-clause-code c = rw c.by_proof-code.ensures (slice_image _ _ _ _ c.in_ok-program.ensures.checked c.as_slice.ensures _ c.in_ok-image.ensures.image)

pub returns-clause-sound_code : goal.returns-clause-sound_code
returns-clause-sound_code c = rw c.by_proof-code.ensures (slice_sound_code _ _ _ _ c.in_ok-program.ensures.checked c.as_slice.ensures _ c.in_ok-image.ensures.image)

pub returns-clause-fits : goal.returns-clause-fits
returns-clause-fits c = rw c.by_proof-code.ensures (slice_fits _ _ _ _ c.in_ok-program.ensures.checked c.as_slice.ensures _ c.in_ok-image.ensures.fits)
