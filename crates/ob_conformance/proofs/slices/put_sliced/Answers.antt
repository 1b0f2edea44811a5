use Rattle.std.proofs.Common.{[], ◌∷◌, sym, subst}
use Rattle.ob_heap.specs.Contents.{content_of}
use Rattle.ob_machine_meaning.specs.Meanings.{machine_invocation}
use Rattle.ob_wire.specs.Meanings.{request_of}
use Rattle.ob_wire.specs.declared.request.Request.{Request}
use Rattle.ob_exec.specs.Pausing.{IsRunOn}
use Rattle.ob_conformance.proofs.slices.put_sliced.Goals as goal

pub start-requires-clause-right : goal.start-requires-clause-right
start-requires-clause-right g c = c.requires.right c.in-Ok-One.request (rw c.in-Ok-One.field-0-is at c.in-Ok-One.ensures.asked)

pub put_end-requires : goal.put_end-requires
put_end-requires g c =
    let start = c.in-Ok.ensures in
    let right = c.requires.right c.in-Ok-One.request (rw c.in-Ok-One.field-0-is at c.in-Ok-One.ensures.asked) in (
      c.args.fuel,
      0 ∷ [],
      subst (λ (q : Request). IsRunOn c.args.code.now c.args.fuel c.args.content.now (0 ∷ []) q c.in-Ok.started.state) (sym start.request)
          (record { stands = start.stands; limits = right }),
    )
