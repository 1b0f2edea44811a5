use Rattle.std.proofs.Common.{Some, refl, sym, subst}
use Rattle.std.proofs.lemmas.Result.{IfOk-weaker}
use Rattle.ob_code.specs.declared.image.Image.{Image}
use Rattle.ob_code_table.specs.ImageTables.{table_of_image}
use Rattle.ob_rest_spec.specs.AtRest.{IsStoreAtRest}
use Rattle.ob_store_laws.specs.Recorded.{content_with}
use Rattle.ob_store.specs.Stores.{program_of, kept_of, HasImage}
use Rattle.ob_serve.proofs.Readied.{comes_to_rest, ready_item, lacking_item, prepared_by, room_by, is_of_delta, lacks_for_delta, both_ok}
use Rattle.ob_serve.proofs.answering.ready_reply.Goals as goal

pub prepare-requires-clause-image : goal.prepare-requires-clause-image
prepare-requires-clause-image c = subst (λ (i : Image). HasImage (program_of i) c.args.store.now) (sym c.image.ensures.image) c.requires.image

pub prepare-requires-clause-after : goal.prepare-requires-clause-after
prepare-requires-clause-after c =
    subst (λ (i : Image). IsStoreAtRest (table_of_image i) (content_with (kept_of c.args.store.now) c.args.delta)) (sym c.image.ensures.image)
    (comes_to_rest (table_of_image c.args.code.now) c.requires.comes.0 (kept_of c.args.store.now) c.args.reply.answer c.args.delta c.requires.comes.1 c.requires.comes.2)

pub returns-in-Ok-clause-gives : goal.returns-in-Ok-clause-gives
returns-in-Ok-clause-gives c = λ id i same comes rests.
    let prepared = prepared_by c.args.code.now c.image.result.now c.args.store.now c.args.delta c.prepare.result c.in-Ok.prepared c.image.ensures.image c.in-Ok.is c.prepare.ensures in
    ready_item c.args.code.now c.args.store.now id i c.args.reply c.args.delta (record { reply = c.in_ok-reply-in-Ok.reply; prepared = Some c.in-Ok.prepared }) c.in-Ok.prepared
    c.requires.storable c.requires.at_rest rests same comes prepared.0 prepared.1 c.in_ok-reply-in-Ok.ensures refl

pub returns-in-Ok-clause-delta : goal.returns-in-Ok-clause-delta
returns-in-Ok-clause-delta c =
    let prepared = prepared_by c.args.code.now c.image.result.now c.args.store.now c.args.delta c.prepare.result c.in-Ok.prepared c.image.ensures.image c.in-Ok.is c.prepare.ensures in
    is_of_delta c.args.code.now c.args.store.now c.args.delta (record { reply = c.in_ok-reply-in-Ok.reply; prepared = Some c.in-Ok.prepared }) c.in-Ok.prepared prepared.0 prepared.1 refl

pub returns-in-Err-Room-clause-gives : goal.returns-in-Err-Room-clause-gives
returns-in-Err-Room-clause-gives c = λ id i same comes rests.
    let lacks = room_by c.args.code.now c.image.result.now c.args.store.now c.args.delta c.prepare.result c.in-Err-Room.need c.in-Err-Room.size c.in-Err-Room.field-0 c.image.ensures.image c.in-Err-Room.is c.in-Err-Room.field-0-is c.prepare.ensures in
    IfOk-weaker c.lack_room.result _ _
    (λ ready e. lacking_item c.args.code.now c.args.store.now id i c.args.reply.answer c.args.delta ready c.in-Err-Room.need c.in-Err-Room.size comes lacks e.0 e.1)
    (both_ok c.lack_room.result _ _ (c.lack_room.ensures.reply id same) c.lack_room.ensures.nothing)

pub returns-in-Err-Room-clause-delta : goal.returns-in-Err-Room-clause-delta
returns-in-Err-Room-clause-delta c =
    let lacks = room_by c.args.code.now c.image.result.now c.args.store.now c.args.delta c.prepare.result c.in-Err-Room.need c.in-Err-Room.size c.in-Err-Room.field-0 c.image.ensures.image c.in-Err-Room.is c.in-Err-Room.field-0-is c.prepare.ensures in
    IfOk-weaker c.lack_room.result _ _
    (λ ready e. lacks_for_delta c.args.code.now c.args.store.now c.args.delta c.in-Err-Room.need c.in-Err-Room.size ready lacks e) c.lack_room.ensures.nothing
