-- How a call of an object enters its body.
use Rattle.std.proofs.Common.{◌≡◌, ℕ, true, false, [], Some, refl, ap, ◌∙◌}
use Rattle.std.specs.Prelude.{if◌then◌else◌}
use Rattle.ob_base.specs.declared.id.ContractId.{ContractId}
use Rattle.ob_base.specs.declared.id.TxId.{TxId}
use Rattle.ob_perm.specs.Permissions.{is_shared}
use Rattle.ob_perm.specs.Masks.{permission_of}
use Rattle.ob_table.specs.Tables.{contract_at, signature_at}
use Rattle.ob_table.specs.declared.contract.Contract.{Contract}
use Rattle.ob_table.specs.declared.contract.Signature.{Signature}
use Rattle.ob_heap_spec.specs.Objects.{Object}
use Rattle.ob_heap_spec.specs.Contents.{object_at}
use Rattle.ob_heap_spec.specs.Worlds.{World, read_object, by_reentry}
use Rattle.ob_heap_spec.specs.Marks.{is_in_progress, enter}
use Rattle.ob_heap_spec.specs.Dispatch.{answering}
use Rattle.ob_silica.specs.Terms.{SilicaTerms}
use Rattle.ob_silica_places.specs.Known.{at}
use Rattle.ob_silica_places.specs.Parameters.{all_parameters}
use Rattle.ob_silica_steps.specs.Configurations.{SilicaProgram, terms_at, SilicaFrame, by_receiver, by_this, runs, Configuration, goes, abort_step, stuck}
use Rattle.ob_silica_steps.specs.Here.{if_there}
use Rattle.ob_silica_steps.specs.Entering.{are_within, Entered, enters, this_cell, entered_on, begins_on, calls_object, calls_this}

-- the configuration in which terms begin
abbrev pub entered_into : Entered → SilicaFrame → SilicaTerms → World → Configuration
entered_into e f terms w = record { frame = f; control = runs terms []; stack = e.stack; notes = e.notes; world = w }

pub call_enters : (program : SilicaProgram) (e : Entered) (contract : ContractId) (tx : TxId) (asked : Signature)
    (n : ℕ)
    (o : Object) (own : Contract) (t : TxId) (s : Signature) (terms : SilicaTerms)
    → is_in_progress (read_object e.world n) n ≡ false → object_at (read_object e.world n).objects n ≡ Some o
    → contract_at program.table o.contract ≡ Some own → answering contract tx asked o.contract own ≡ Some t
    → signature_at own t ≡ Some s
    → are_within program.table (read_object e.world n).objects (at e.slots 0 (Some (this_cell o.contract s.entry n))) 0
    (all_parameters o.contract s) ≡ true
    → terms_at program o.contract t ≡ Some terms
    → calls_object program e contract tx asked n ≡ goes (entered_into e (record {
      slots = at e.slots 0 (Some (this_cell o.contract s.entry n));
      contract = o.contract;
      tx = t;
      how = by_receiver;
      share_entered = is_shared (permission_of s.entry);
    }) terms (enter n (read_object e.world n)))
call_enters program e contract tx asked n o own t s terms idle there ec ea es within et =
    let w = read_object e.world n in
    ap (λ b. if b then abort_step (by_reentry n) w
    else if_there (object_at w.objects n) (λ o.
    if_there (contract_at program.table o.contract) (λ own.
    if_there (answering contract tx asked o.contract own) (λ t.
    if_there (signature_at own t) (λ s. begins_on program (record e { world = w }) n o t s))))) idle
    ∙ ap (λ z. if_there z (λ o.
    if_there (contract_at program.table o.contract) (λ own.
    if_there (answering contract tx asked o.contract own) (λ t.
    if_there (signature_at own t) (λ s. begins_on program (record e { world = w }) n o t s))))) there
    ∙ ap (λ z. if_there z (λ own.
    if_there (answering contract tx asked o.contract own) (λ t.
    if_there (signature_at own t) (λ s. begins_on program (record e { world = w }) n o t s)))) ec
    ∙ ap (λ z. if_there z (λ t.
    if_there (signature_at own t) (λ s. begins_on program (record e { world = w }) n o t s))) ea
    ∙ ap (λ z. if_there z (λ s. begins_on program (record e { world = w }) n o t s)) es
    ∙ ap (λ b. if b then enters program (record
    (entered_on (record e { world = w }) n o s) { world = enter n w }) o.contract t
    by_receiver (is_shared (permission_of s.entry)) else stuck) within
    ∙ ap (λ z. if_there z (λ (terms : SilicaTerms). goes (entered_into e (record {
      slots = at e.slots 0 (Some (this_cell o.contract s.entry n));
      contract = o.contract;
      tx = t;
      how = by_receiver;
      share_entered = is_shared (permission_of s.entry);
    }) terms (enter n w)))) et

pub call_aborts : (program : SilicaProgram) (e : Entered) (contract : ContractId) (tx : TxId) (asked : Signature)
    (n : ℕ)
    → is_in_progress (read_object e.world n) n ≡ true
    → calls_object program e contract tx asked n ≡ abort_step (by_reentry n) (read_object e.world n)
call_aborts program e contract tx asked n busy = rw busy refl

pub call_this_enters : (program : SilicaProgram) (e : Entered) (caller : SilicaFrame) (tx : TxId) (s : Signature)
    (terms : SilicaTerms)
    → are_within program.table e.world.objects e.slots 0 (all_parameters caller.contract s) ≡ true
    → terms_at program caller.contract tx ≡ Some terms
    → calls_this program e caller tx s ≡ goes (entered_into e (record {
      slots = e.slots;
      contract = caller.contract;
      tx = tx;
      how = by_this;
      share_entered = caller.share_entered;
    }) terms e.world)
call_this_enters program e caller tx s terms within et =
    ap (λ b. if b then enters program e caller.contract tx by_this caller.share_entered else stuck) within
    ∙ ap (λ z. if_there z (λ (terms : SilicaTerms). goes (entered_into e (record {
      slots = e.slots;
      contract = caller.contract;
      tx = tx;
      how = by_this;
      share_entered = caller.share_entered;
    }) terms e.world))) et
