-- The marks of emitted contracts and bodies say what the table says.
use Rattle.std.proofs.Common.{◌≡◌, ◌+◌, Bool, true, false, List, Option, Some, None, refl, ap, ◌∙◌}
use Rattle.std.specs.Prelude.{not, ◌&&◌}
use Rattle.ob_base.specs.declared.id.ContractId.{ContractId}
use Rattle.ob_base.specs.declared.id.TxId.{TxId}
use Rattle.ob_perm.specs.Masks.{permission_of}
use Rattle.ob_perm.specs.Permissions.{is_shared}
use Rattle.ob_table.specs.Tables.{ClassTable}
use Rattle.ob_table.specs.declared.contract.Contract.{Contract}
use Rattle.ob_table.specs.declared.contract.Signature.{Signature}
use Rattle.ob_table_spec.specs.WellFormed.{is_constructor as constructs}
use Rattle.ob_silica.specs.Terms.{SilicaBody}
use Rattle.ob_code.specs.Code.{is_marked, is_interface, is_private, is_constructor, is_shared_at_entry}
use Rattle.ob_emit_spec.specs.EmittedImages.{mark_if, emitted_body, emitted_contract}

-- Three marks are told apart.

pub first_mark : (a b c : Bool) → is_marked 0 (mark_if 1 a + mark_if 2 b + mark_if 4 c) ≡ a
first_mark true true true = refl
first_mark true true false = refl
first_mark true false true = refl
first_mark true false false = refl
first_mark false true true = refl
first_mark false true false = refl
first_mark false false true = refl
first_mark false false false = refl

pub second_mark : (a b c : Bool) → is_marked 1 (mark_if 1 a + mark_if 2 b + mark_if 4 c) ≡ b
second_mark true true true = refl
second_mark true true false = refl
second_mark true false true = refl
second_mark true false false = refl
second_mark false true true = refl
second_mark false true false = refl
second_mark false false true = refl
second_mark false false false = refl

pub third_mark : (a b c : Bool) → is_marked 2 (mark_if 1 a + mark_if 2 b + mark_if 4 c) ≡ c
third_mark true true true = refl
third_mark true true false = refl
third_mark true false true = refl
third_mark true false false = refl
third_mark false true true = refl
third_mark false true false = refl
third_mark false false true = refl
third_mark false false false = refl

-- Contracts and bodies.

pub interface_marked : (table : ClassTable) (bodies : List SilicaBody) (id : ContractId) (own : Contract)
    → is_interface (emitted_contract table bodies id own) ≡ own.interface
interface_marked table bodies id own = third_mark own.asset own.main own.interface

-- whether a body's entry is marked as Shared
abbrev shares_entry : ClassTable → ContractId → TxId → Signature → Bool
shares_entry table id tx s = not (constructs table id tx.0) && is_shared (permission_of s.entry)

pub private_marked : (table : ClassTable) (id : ContractId) (own : Contract) (tx : TxId) (s : Signature)
    (body : Option SilicaBody)
    → is_private (emitted_body table id own tx s body) ≡ s.private
private_marked table id own tx s None = first_mark s.private (constructs table id tx.0) (shares_entry table id tx s)
private_marked table id own tx s (Some body) = first_mark s.private (constructs table id tx.0) (shares_entry table id tx s)

pub constructor_marked : (table : ClassTable) (id : ContractId) (own : Contract) (tx : TxId) (s : Signature)
    (body : Option SilicaBody)
    → is_constructor (emitted_body table id own tx s body) ≡ constructs table id tx.0
constructor_marked table id own tx s None = second_mark s.private (constructs table id tx.0) (shares_entry table id tx s)
constructor_marked table id own tx s (Some body) = second_mark s.private (constructs table id tx.0) (shares_entry table id tx s)

shared_marked : (table : ClassTable) (id : ContractId) (own : Contract) (tx : TxId) (s : Signature) (body : Option SilicaBody)
    → is_shared_at_entry (emitted_body table id own tx s body) ≡ shares_entry table id tx s
shared_marked table id own tx s None = third_mark s.private (constructs table id tx.0) (shares_entry table id tx s)
shared_marked table id own tx s (Some body) = third_mark s.private (constructs table id tx.0) (shares_entry table id tx s)

pub share_entry_marked : (table : ClassTable) (id : ContractId) (own : Contract) (tx : TxId) (s : Signature)
    (body : Option SilicaBody)
    → constructs table id tx.0 ≡ false → is_shared_at_entry (emitted_body table id own tx s body)
    ≡ is_shared (permission_of s.entry)
share_entry_marked table id own tx s body e =
    shared_marked table id own tx s body ∙ ap (λ b. not b && is_shared (permission_of s.entry)) e
