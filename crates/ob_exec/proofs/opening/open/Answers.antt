use Rattle.std.proofs.Common.{[], ◌∷◌, sym, subst, arith}
use Rattle.std.specs.Prelude.{IfOk}
use Rattle.ob_code.specs.declared.image.Image.{Image}
use Rattle.ob_code_laws.proofs.Leading.{leads_ahead}
use Rattle.ob_heap.specs.Contents.{content_of}
use Rattle.ob_invocation_spec.specs.Requests.{Request, disown_request, give_request, see_request, owner_request}
use Rattle.ob_machine_meaning.specs.Meanings.{machine_invocation}
use Rattle.ob_request_run_laws.specs.Runs.{opened}
use Rattle.ob_request_run_laws.specs.Slices.{slice}
use Rattle.ob_request_run_laws.proofs.Enough.{whole_slices_end}
use Rattle.ob_request_run_laws.proofs.Whole.{slices_come_to}
use Rattle.ob_wire.specs.Meanings.{operation_of}
use Rattle.ob_wire.specs.declared.request.Op.{Op}
use Rattle.ob_exec_handles.specs.Coming.{ComesTo}
use Rattle.ob_exec_handles.specs.Spending.{SpendsSo}
use Rattle.ob_exec.specs.Pausing.{SliceLeads}
use Rattle.ob_exec.proofs.opening.open.Goals as goal

pub returns-in-Disown : goal.returns-in-Disown
returns-in-Disown g c =
    let image = c.args.code.now in
    let base = c.args.content.now in
    let content = content_of base in
    let q : Request = record { who = c.args.who.now; operation = disown_request c.in-Disown.on } in
    subst (λ (op : Op). IfOk c.at_once.result (λ end. SliceLeads image base
    (slice image c.args.fuel content c.args.units (opened (record { who = c.args.who.now; operation = operation_of op }))) end c.args.stage.now)) (sym c.in-Disown.is)
    (c.at_once.ensures image base (slice image c.args.fuel content c.args.units (opened q)) c.args.stage.now (machine_invocation image content q c.args.fuel)
    (slices_come_to image c.args.fuel content q (c.args.units ∷ []) (leads_ahead image c.image-image.ensures.verified))
    (whole_slices_end image c.args.fuel content q c.args.fuel (omega arith))
    c.answer_disown.ensures.comes c.answer_disown.ensures.spent)

pub returns-in-Give : goal.returns-in-Give
returns-in-Give g c =
    let image = c.args.code.now in
    let base = c.args.content.now in
    let content = content_of base in
    let q : Request = record { who = c.args.who.now; operation = give_request (record { on = c.in-Give.on; to = c.in-Give.to; into = c.in-Give.into; mode = c.in-Give.mode }) } in
    subst (λ (op : Op). IfOk c.at_once-in-Give.result (λ end. SliceLeads image base
    (slice image c.args.fuel content c.args.units (opened (record { who = c.args.who.now; operation = operation_of op }))) end c.args.stage.now)) (sym c.in-Give.is)
    (c.at_once-in-Give.ensures image base (slice image c.args.fuel content c.args.units (opened q)) c.args.stage.now (machine_invocation image content q c.args.fuel)
    (slices_come_to image c.args.fuel content q (c.args.units ∷ []) (leads_ahead image c.image-image.ensures.verified))
    (whole_slices_end image c.args.fuel content q c.args.fuel (omega arith))
    c.answer_give.ensures.comes c.answer_give.ensures.spent)

pub returns-in-See : goal.returns-in-See
returns-in-See g c =
    let image = c.args.code.now in
    let base = c.args.content.now in
    let content = content_of base in
    let q : Request = record { who = c.args.who.now; operation = see_request c.in-See.on } in
    subst (λ (op : Op). IfOk c.at_once-in-See.result (λ end. SliceLeads image base
    (slice image c.args.fuel content c.args.units (opened (record { who = c.args.who.now; operation = operation_of op }))) end c.args.stage.now)) (sym c.in-See.is)
    (c.at_once-in-See.ensures image base (slice image c.args.fuel content c.args.units (opened q)) c.args.stage.now (machine_invocation image content q c.args.fuel)
    (slices_come_to image c.args.fuel content q (c.args.units ∷ []) (leads_ahead image c.image-image.ensures.verified))
    (whole_slices_end image c.args.fuel content q c.args.fuel (omega arith))
    (subst (λ (x : Image). IfOk c.answer_see.result (λ a. ComesTo (machine_invocation x content q c.args.fuel) base a.answer a.delta)) c.image-image.ensures.image
    c.answer_see.ensures.comes)
    (subst (λ (x : Image). IfOk c.answer_see.result (λ a. SpendsSo (machine_invocation x content q c.args.fuel) a.spent)) c.image-image.ensures.image
    c.answer_see.ensures.spent))

pub returns-in-Owner : goal.returns-in-Owner
returns-in-Owner g c =
    let image = c.args.code.now in
    let base = c.args.content.now in
    let content = content_of base in
    let q : Request = record { who = c.args.who.now; operation = owner_request c.in-Owner.on } in
    subst (λ (op : Op). IfOk c.at_once-in-Owner.result (λ end. SliceLeads image base
    (slice image c.args.fuel content c.args.units (opened (record { who = c.args.who.now; operation = operation_of op }))) end c.args.stage.now)) (sym c.in-Owner.is)
    (c.at_once-in-Owner.ensures image base (slice image c.args.fuel content c.args.units (opened q)) c.args.stage.now (machine_invocation image content q c.args.fuel)
    (slices_come_to image c.args.fuel content q (c.args.units ∷ []) (leads_ahead image c.image-image.ensures.verified))
    (whole_slices_end image c.args.fuel content q c.args.fuel (omega arith))
    (subst (λ (x : Image). IfOk c.answer_owner.result (λ a. ComesTo (machine_invocation x content q c.args.fuel) base a.answer a.delta)) c.image-image.ensures.image
    c.answer_owner.ensures.comes)
    (subst (λ (x : Image). IfOk c.answer_owner.result (λ a. SpendsSo (machine_invocation x content q c.args.fuel) a.spent)) c.image-image.ensures.image
    c.answer_owner.ensures.spent))
