-- What an object runs for a transaction that its contract or its interface declares (Coblenz et al., TOPLAS 42(3),
-- 2020, "Interfaces"; the statements are this project's own).
use Rattle.std.specs.Prelude.{◌≡◌, ◌≢◌, false, map, Some}
use Rattle.ob_base.specs.declared.id.ContractId.{ContractId}
use Rattle.ob_base.specs.declared.id.TxId.{TxId}
use Rattle.ob_perm.specs.Masks.{permission_of}
use Rattle.ob_table.specs.Tables.{ClassTable, signature_at}
use Rattle.ob_table.specs.declared.contract.Contract.{Contract}
use Rattle.ob_table.specs.declared.contract.Signature.{Signature}
use Rattle.ob_table.specs.declared.seen.Kind.TheVariants.{Reference}
use Rattle.ob_table_spec.specs.Conditions.{IsTransaction, asked_of}
use Rattle.ob_heap_spec.specs.Dispatch.{answering}
use Rattle.ob_silica_places.specs.Converting.{converted}

-- A transaction of contract e answers one that contract or interface d declares: it has the same parameters but for
-- their names, and the same result; `this` is held as d says, said for e; and it is private only if the other is.
pub record Answers (table : ClassTable) (d e : ContractId) (asked s : Signature) : Type 0 where
  pub params : map asked_of s.params ≡ map asked_of asked.params
  pub result : s.result ≡ asked.result
  pub entry : permission_of s.entry ≡ converted table (Reference d) (Reference e) (permission_of asked.entry)
  pub exit : permission_of s.exit ≡ converted table (Reference d) (Reference e) (permission_of asked.exit)
  pub public : asked.private ≡ false → s.private ≡ false

-- An object of this contract has an answer to a transaction that is declared: one of its own transactions, and not its
-- constructor.
pub record HasAnswer (table : ClassTable) (d e : ContractId) (own : Contract) (tx : TxId) (asked : Signature)
    : Type 0 where
  pub number : TxId
  pub signature : Signature
  pub found : answering d tx asked e own ≡ Some number
  pub there : signature_at own number ≡ Some signature
  pub no_constructor : number.0 ≢ 0
  pub transaction : IsTransaction table own signature
  pub answers : Answers table d e asked signature
