use Rattle.std.proofs.Common.{◌∙◌, sym, ap, subst, Ok, Option, option_map}
use Rattle.ob_disk_spec.proofs.Moments.{during_to}
use Rattle.ob_heap.specs.Contents.{content_of}
use Rattle.ob_heap.specs.Deltas.{with_handles}
use Rattle.ob_heap.specs.Differences.{with_objects}
use Rattle.ob_heap_spec.specs.Contents.{Content}
use Rattle.ob_journal.specs.Journals.{area_size}
use Rattle.ob_journal.specs.declared.journal.Journal.{Journal}
use Rattle.ob_owners.specs.Indexes.{IsIndexOf}
use Rattle.ob_store_laws.specs.Recorded.{content_with}
use Rattle.ob_store_laws.proofs.Whole.{all_leads}
use Rattle.ob_store.specs.Stores.{IsKeptIn}
use Rattle.ob_store.specs.declared.store.Store.{Store}
use Rattle.ob_store.proofs.Same.{same_by}
use Rattle.ob_store.proofs.Recording.{said_after}
use Rattle.ob_store.proofs.Standing.{state_by, behind_areas}
use Rattle.ob_store.proofs.Committing.{payload_in, record_in, payloads_of, held, kept_after, settles, leaves, no_record, area_written}
use Rattle.ob_store.proofs.store.Store.commit.Goals as goal

pub returns-clause-content : goal.returns-clause-content
returns-clause-content g c =
    let s = c.args.self.now.content in
    let d = c.args.prepared.delta in
    same_by (with_objects s.objects d.objects) _ (with_handles s.handles d.handles) _ c.apply.ensures.objects c.apply.ensures.handles

pub returns-clause-settled : goal.returns-clause-settled
returns-clause-settled g c = λ program is.
    let s = c.args.self.now in
    let p = c.args.prepared in
    let before = content_of s.content in
    let after = content_with s.content p.delta in
    settles program before after s.journal c.write_in.new.journal p.built is.image is.says
    (c.in-Ok.ensures.written (payload_in program before after p.built) (record_in program before after s.journal p.built is.says))
    ∙ ap (λ (x : Content). Ok (state_by x c.write_in.new.journal)) (sym (returns-clause-content g c))

pub returns-clause-area : goal.returns-clause-area
returns-clause-area g c =
    let built = c.requires.built in area_written c.args.self.now.journal _ built.0 c.args.prepared.built (c.in-Ok.ensures.written built.0 built.1)

pub returns-clause-stands : goal.returns-clause-stands
returns-clause-stands g c = λ program ready stands.
    let s = c.args.self.now in
    let p = c.args.prepared in
    let before = content_of s.content in
    let after = content_with s.content p.delta in
    let says = ready.is_prepared.says in
    let payload = payload_in program before after p.built in
    let there = record_in program before after s.journal p.built says in
    let said = said_after program.table s.content p.delta ready.storable ready.before ready.after in
    let all = all_leads program.table after ready.storable ready.after in
    let next = kept_after program before after said all s.journal c.write_in.new.journal p.built (g.D.Disk.view c.args.disk.now) (g.D.Disk.view c.write_in.new.disk) says
    (c.in-Ok.ensures.written payload there) (λ payloads holds. c.in-Ok.ensures.whole payloads payload there holds) stands.kept in
    record {
      owners = subst (λ (x : Content). IsIndexOf program.table x c.apply-2.new.self) (sym (returns-clause-content g c))
          (c.apply-2.ensures program.table s.content p.delta c.requires.delta c.requires.room.owners ready.before.is_content ready.after.is_content stands.owners);
      kept = subst (λ (x : Content). IsKeptIn program x c.write_in.new.journal (g.D.Disk.view c.write_in.new.disk)) (sym (returns-clause-content g c)) next;
    }

pub returns-clause-crash : goal.returns-clause-crash
returns-clause-crash g c = λ program size ready area stands.
    let s = c.args.self.now in
    let p = c.args.prepared in
    let before = content_of s.content in
    let after = content_with s.content p.delta in
    let says = ready.is_prepared.says in
    let said = said_after program.table s.content p.delta ready.storable ready.before ready.after in
    let all = all_leads program.table after ready.storable ready.after in
    during_to _ _ _ _
    (c.write_in.ensures.crash (payloads_of program before s.journal _ stands.kept) (payload_in program before after p.built) (record_in program before after s.journal p.built says) (held program before s.journal _ stands.kept))
    (leaves program before after said all ready.before.at_rest ready.after.at_rest s.journal p.built size _ stands.kept says area)

pub returns-in_default-clause-crash : goal.returns-in_default-clause-crash
returns-in_default-clause-crash g c = λ program size ready area stands.
    let s = c.args.self.now in
    let p = c.args.prepared in
    let before = content_of s.content in
    let after = content_with s.content p.delta in
    let says = ready.is_prepared.says in
    let said = said_after program.table s.content p.delta ready.storable ready.before ready.after in
    let all = all_leads program.table after ready.storable ready.after in
    during_to _ _ _ _
    (c.write_in.ensures.crash (payloads_of program before s.journal _ stands.kept) (payload_in program before after p.built) (record_in program before after s.journal p.built says) (held program before s.journal _ stands.kept))
    (leaves program before after said all ready.before.at_rest ready.after.at_rest s.journal p.built size _ stands.kept says area)

pub returns-in_default-clause-area : goal.returns-in_default-clause-area
returns-in_default-clause-area g c = ap (option_map area_size) c.in_default.ensures.err

pub returns-in_default-clause-err : goal.returns-in_default-clause-err
returns-in_default-clause-err g c =
    let s = c.args.self.now in
    ap (λ (j : Option Journal). let store : Store = record { content = s.content; owners = s.owners; journal = j } in store) c.in_default.ensures.err

pub returns-clause-nothing : goal.returns-clause-nothing
returns-clause-nothing g c = λ nothing. c.write_in.ensures.none (no_record c.args.self.now.journal c.args.prepared.built c.requires.built nothing)

pub returns-in_default-clause-nothing : goal.returns-in_default-clause-nothing
returns-in_default-clause-nothing g c = λ nothing. c.write_in.ensures.none (no_record c.args.self.now.journal c.args.prepared.built c.requires.built nothing)

pub returns-clause-behind : goal.returns-clause-behind
returns-clause-behind g c = λ size area. behind_areas c.args.self.now.journal _ _ size c.write_in.ensures.behind area

pub returns-in_default-clause-behind : goal.returns-in_default-clause-behind
returns-in_default-clause-behind g c = λ size area. behind_areas c.args.self.now.journal _ _ size c.write_in.ensures.behind area
