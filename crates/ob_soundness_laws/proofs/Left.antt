-- What the slots of parameters have where the run of a request has ended.
use Rattle.std.proofs.Common.{◌≡◌, ℕ, zero, suc, ◌+◌, ◌<◌, List, [], length, Option, Some, None, refl, sym, ap, subst, ◌∙◌, arith, true≢false}
use Rattle.std.specs.Prelude.{slice_get}
use Rattle.std.proofs.lemmas.Option.{same_Some}
use Rattle.ob_base.specs.declared.permission.Perm.{Perm}
use Rattle.ob_perm.specs.Permissions.{owns}
use Rattle.ob_perm.specs.Masks.{permission_of}
use Rattle.ob_table.specs.Tables.{ClassTable, contract_at, signature_at}
use Rattle.ob_table.specs.declared.contract.Contract.{Contract}
use Rattle.ob_table.specs.declared.contract.Param.{Param}
use Rattle.ob_table.specs.declared.contract.Signature.{Signature}
use Rattle.ob_table_spec.specs.Conditions.{IsClassTable}
use Rattle.ob_heap_spec.specs.Values.{Value, reference}
use Rattle.ob_heap_spec.specs.Contents.{Content}
use Rattle.ob_silica_places.specs.Places.{slot, this}
use Rattle.ob_silica_steps.specs.Cells.{Cell, value_in}
use Rattle.ob_silica_steps.specs.Configurations.{by_receiver, by_new, Waiting, Configuration}
use Rattle.ob_coherent_spec.specs.Counting.{in_cell}
use Rattle.ob_coherent_spec.specs.Standing.{NeedsOwner}
use Rattle.ob_flow_laws.specs.Laws.{MeetsExit}
use Rattle.ob_coherent_spec.specs.Saying.{SaysOf}
use Rattle.ob_coherent_spec.specs.Remaining.{body_of}
use Rattle.ob_coherent_spec.specs.Coherent.{outermost, BeganSo, IsLeaving, LeavesWith}
use Rattle.ob_soundness_laws.proofs.returns.Leaving.{meets_with, owns_none}
use Rattle.ob_invocation_spec.specs.Entries.{HandleUse, Entry, values_of}
use Rattle.ob_soundness_laws.specs.Requests.{beginning_on, beginning_of, entry_lock}
use Rattle.ob_soundness_laws.proofs.Bodies.{EntersBody}
use Rattle.ob_soundness_laws.proofs.Settling.{leaves_now}

-- A slot has this value, and what it leaves meets an exit.
pub record HasLeft (table : ClassTable) (c : Configuration) (j : ℕ) (v : Value) (exit : Perm) : Type 0 where
  pub cell : Cell
  pub set : c.frame.slots j ≡ Some cell
  pub value : cell.value ≡ v
  pub leaves : LeavesWith (NeedsOwner table c.world.objects) (permission_of exit) cell

module _ (table : ClassTable) (made : IsClassTable table) (content : Content) (e : Entry) (body : EntersBody table e)
    (c : Configuration) (k : IsLeaving table (entry_lock e.receiver) (beginning_of content e) c) (outer : k.outer ≡ [])
    (alone : c.stack ≡ []) where
  pub began : BeganSo table (beginning_of content e) c.frame
  began = subst (λ (hs : List Waiting). BeganSo table (beginning_of content e) (outermost c.frame hs)) alone k.whole.began

  beginning_contract : (beginning_of content e).contract ≡ e.contract
  beginning_contract = go e.receiver
    where
      go : (r : Option HandleUse) → (beginning_on e r (values_of content e)).contract ≡ e.contract
      go None = refl
      go (Some u) = refl

  beginning_tx : (beginning_of content e).tx ≡ e.tx
  beginning_tx = go e.receiver
    where
      go : (r : Option HandleUse) → (beginning_on e r (values_of content e)).tx ≡ e.tx
      go None = refl
      go (Some u) = refl

  -- the frame's signature is that of what was entered
  pub same_signature : k.whole.parts.signature ≡ e.signature
  same_signature =
      let own : k.whole.parts.own ≡ body.own = same_Some k.whole.parts.own body.own
      (sym k.whole.frame.own ∙ ap (contract_at table) (began.contract ∙ beginning_contract) ∙ body.is_own) in
      same_Some k.whole.parts.signature e.signature
      (sym k.whole.frame.signature ∙ ap (signature_at k.whole.parts.own) (began.tx ∙ beginning_tx)
      ∙ ap (λ (d : Contract). signature_at d e.tx) own ∙ body.signature)

  found_cell : (x : Option Cell) (v : Value) → value_in x ≡ Some v → (y : Cell) × (x ≡ Some y) × (y.value ≡ v)
  found_cell None v is = absurd cc
  found_cell (Some y) v is = (y, refl, same_Some y.value v is)

  -- the values are in their slots
  value_at : (j : ℕ) (v : Value) → slice_get (values_of content e) j ≡ Some v → value_in (c.frame.slots (suc j)) ≡ Some v
  value_at j v is = go e.receiver refl
    where
      go : (r : Option HandleUse) → e.receiver ≡ r → value_in (c.frame.slots (suc j)) ≡ Some v
      go None at = ap (λ i. value_in (c.frame.slots i)) (let z : suc j ≡ 1 + j = omega arith in z)
          ∙ (subst (λ (r : Option HandleUse). BeganSo table (beginning_on e r (values_of content e)) c.frame) at began).values j v is
      go (Some u) at = ap (λ i. value_in (c.frame.slots i)) (let z : suc j ≡ 0 + suc j = omega arith in z)
          ∙ (subst (λ (r : Option HandleUse). BeganSo table (beginning_on e r (values_of content e)) c.frame) at began).values (suc j) v is

  -- an argument's slot meets the exit of its parameter
  pub argument_left : (j : ℕ) (p : Param) (v : Value) → slice_get e.signature.params j ≡ Some p
      → slice_get (values_of content e) j ≡ Some v → HasLeft table c (suc j) v p.exit
  argument_left j p v at is =
      let x = found_cell (c.frame.slots (suc j)) v (value_at j v is) in
      let place : j + 1 ≡ suc j = omega arith in
      record {
        cell = x.0;
        set = x.1;
        value = x.2;
        leaves = meets_with (body_of table c.frame k.whole.parts) made c.world.objects k.context (slot (suc j)) (permission_of p.exit) x.0
            (subst (λ i. MeetsExit (body_of table c.frame k.whole.parts) k.context (slot i) (permission_of p.exit)) place
            ((leaves_now table made (entry_lock e.receiver) (beginning_of content e) c k outer alone).params j p
            (ap (λ (s : Signature). slice_get s.params j) same_signature ∙ at)))
            (k.whole.slots (suc j) x.0 x.1)
            (subst (SaysOf (NeedsOwner table c.world.objects) (k.context (slot (suc j)))) x.1 (k.says.slots (suc j) refl));
      }

  -- and so does that of the receiver
  pub receiver_left : (u : HandleUse) → e.receiver ≡ Some u → u.exit ≡ e.signature.exit
      → HasLeft table c 0 (reference u.handle.object) u.exit
  receiver_left u at exit =
      let b = subst (λ (r : Option HandleUse). BeganSo table (beginning_on e r (values_of content e)) c.frame) at began in
      let x = found_cell (c.frame.slots 0) (reference u.handle.object) (b.values 0 (reference u.handle.object) refl) in
      record {
        cell = x.0;
        set = x.1;
        value = x.2;
        leaves = meets_with (body_of table c.frame k.whole.parts) made c.world.objects k.context this (permission_of u.exit) x.0
            (subst (λ (p : Perm). MeetsExit (body_of table c.frame k.whole.parts) k.context this (permission_of p))
            (ap (λ (s : Signature). s.exit) same_signature ∙ sym exit)
            ((leaves_now table made (entry_lock e.receiver) (beginning_of content e) c k outer alone).itself
            (λ new. (let z : by_receiver ≡ by_new = sym b.how ∙ new in cc))))
            (k.whole.slots 0 x.0 x.1)
            (subst (SaysOf (NeedsOwner table c.world.objects) (k.context this)) x.1 (k.says.slots 0 refl));
      }

  -- where there is no receiver, `this` is given, and its slot owns no object that must have an owner
  pub made_left : e.receiver ≡ None → (n : ℕ) → NeedsOwner table c.world.objects n → in_cell owns n (c.frame.slots 0) ≡ 0
  made_left at n needs =
      let b = subst (λ (r : Option HandleUse). BeganSo table (beginning_on e r (values_of content e)) c.frame) at began in
      let l = leaves_now table made (entry_lock e.receiver) (beginning_of content e) c k outer alone in
      zero_of (in_cell owns n (c.frame.slots 0)) (λ some. absurd (true≢false (sym ((k.says.slots 0 refl).owner n needs some) ∙ l.given b.how)))
    where
      zero_of : (m : ℕ) → (0 < m → ⊥) → m ≡ 0
      zero_of zero none = refl
      zero_of (suc m) none = absurd (none (omega arith))

  -- slots past the parameters own no such object
  pub others_left : (j : ℕ) → length e.signature.params < j → (n : ℕ) → NeedsOwner table c.world.objects n
      → in_cell owns n (c.frame.slots j) ≡ 0
  others_left j past n needs = owns_none table made c.world.objects (k.context (slot j)) (c.frame.slots j) (λ z at. k.whole.slots j z at)
      ((leaves_now table made (entry_lock e.receiver) (beginning_of content e) c k outer alone).others j
      (let z = ap (λ (s : Signature). length s.params) same_signature in omega (arith, z, past)))
      (k.says.slots j refl) n needs
