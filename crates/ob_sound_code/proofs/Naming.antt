-- Code that is sound with the class table from which its image is made is so with the one that the image gives, which lacks names alone.
use Rattle.std.proofs.Common.{◌≡◌, ℕ, List, Option, Some, None, refl, sym, ap, ◌∙◌, subst}
use Rattle.std.specs.Prelude.{option_map}
use Rattle.ob_table.specs.Tables.{ClassTable}
use Rattle.ob_heap_spec.specs.Contents.{Content}
use Rattle.ob_rest_spec.specs.AtRest.{IsStoreAtRest}
use Rattle.ob_invocation_spec.specs.Replies.{Invocation, invoked, goes_wrong}
use Rattle.ob_invocation_spec.specs.Checks.{Check, refusal_of}
use Rattle.ob_invocation_spec.specs.Entries.{Entry}
use Rattle.ob_invocation_spec.specs.Entering.{first_outside_use}
use Rattle.ob_invocation_laws.specs.Laws.{KeepsStoreAtRest}
use Rattle.ob_soundness_laws.specs.Requests.{IsEntered, by_request_new, by_request_call}
use Rattle.ob_code.specs.declared.image.Image.{Image}
use Rattle.ob_machine_steps.specs.Entries.{started}
use Rattle.ob_machine_meaning.specs.Meanings.{machine_invocation, entry_of_request}
use Rattle.ob_machine_laws.specs.Laws.{IsSoundRun}
use Rattle.ob_emit_laws.specs.Names.{without_names}
use Rattle.ob_emit_laws.proofs.Entries.{entry_without_names, entry_new_unnamed, entry_call_unnamed, new_checks_unnamed, call_checks_unnamed}
use Rattle.ob_emit_laws.proofs.Invoking.{outside_unnamed}
use Rattle.ob_store_table_laws.proofs.Following.{store_follows}
use Rattle.ob_store_table_laws.proofs.Whole.{named, unnamed}
use Rattle.ob_sound_code.specs.SoundCode.{IsSoundBy}

-- what is made of a thing is made of one that there is
record IsMadeOf {A B : Type 0} (made : A → B) (o : Option A) (b : B) : Type 0 where
  of : A
  is : o ≡ Some of
  by : b ≡ made of

made_of : {A B : Type 0} (made : A → B) (o : Option A) (b : B) → option_map made o ≡ Some b → IsMadeOf made o b
made_of made None b e = absurd cc
made_of made (Some a) b e = record { of = a; is = refl; by = cc }

module _ (table : ClassTable) (content : Content) where
  -- what is entered without names is what is entered with them
  record IsNamed (e : Entry) : Type 0 where
    with : Entry
    entered : IsEntered table content with
    same : e ≡ entry_without_names with

  none_outside : (e named : Entry) → e ≡ entry_without_names named → first_outside_use (without_names table) content e ≡ None
      → first_outside_use table content named ≡ None
  none_outside e named same within =
      sym (outside_unnamed table content named) ∙ sym (ap (first_outside_use (without_names table) content) same) ∙ within

  is_named : (e : Entry) → IsEntered (without_names table) content e → IsNamed e
  is_named e (by_request_new who r labels is passed within) =
      let m = made_of entry_without_names _ e (sym (entry_new_unnamed table who r) ∙ is) in
      record {
        with = m.of;
        entered = by_request_new who r labels m.is
            (sym (ap (λ (cs : List Check). refusal_of cs) (new_checks_unnamed table content who r)) ∙ passed)
            (none_outside e m.of m.by within);
        same = m.by;
      }
  is_named e (by_request_call who r labels is passed within) =
      let m = made_of entry_without_names _ e (sym (entry_call_unnamed table content who r) ∙ is) in
      record {
        with = m.of;
        entered = by_request_call who r labels m.is
            (sym (ap (λ (cs : List Check). refusal_of cs) (call_checks_unnamed table content who r)) ∙ passed)
            (none_outside e m.of m.by within);
        same = m.by;
      }

-- at rest with names and without
with_names : (table : ClassTable) (content : Content) → IsStoreAtRest (without_names table) content → IsStoreAtRest table content
with_names table content rests = store_follows (without_names table) table (named table) content rests

keeps_without : (table : ClassTable) (i : Invocation) → KeepsStoreAtRest table i → KeepsStoreAtRest (without_names table) i
keeps_without table (invoked i) rests = store_follows table (without_names table) (unnamed table) i.content rests
keeps_without table goes_wrong rests = absurd rests

-- sound code is so without names
pub sound_without_names : (table : ClassTable) (image : Image) → IsSoundBy table image → IsSoundBy (without_names table) image
sound_without_names table image sound = record {
  runs = λ content fuel e rests entered.
      let n = is_named table content e entered in
      subst (λ (x : Entry). IsSoundRun image (started image (entry_of_request content x) content.objects fuel)) (sym n.same)
      (sound.runs content fuel n.with (with_names table content rests) n.entered);
  rests = λ content request fuel rests labels.
      keeps_without table (machine_invocation image content request fuel)
      (sound.rests content request fuel (with_names table content rests) labels);
}
