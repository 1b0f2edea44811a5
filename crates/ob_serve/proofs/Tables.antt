-- A store is the same by the class table of a program and by that of its code.
use Rattle.std.proofs.lemmas.List.{length-map}
use Rattle.std.proofs.lemmas.List.Elements.{All-map}
use Rattle.std.proofs.Common.{◌≡◌, ◌≤◌, ◌^◌, ℕ, List, length, map, Option, All, sym, ◌∙◌, ap, subst, arith}
use Rattle.ob_table.specs.Tables.{ClassTable}
use Rattle.ob_code.specs.Images.{image}
use Rattle.ob_code.specs.declared.image.Image.{Image}
use Rattle.ob_heap_spec.specs.Contents.{Content}
use Rattle.ob_rest_spec.specs.AtRest.{IsStoreAtRest}
use Rattle.ob_code_table.specs.ImageTables.{table_of_image}
use Rattle.ob_silica_steps.specs.Configurations.{SilicaProgram}
use Rattle.ob_emit_laws.proofs.Tables.{tables_agree}
use Rattle.ob_emit_laws.specs.Names.{contract_without_names, without_names}
use Rattle.ob_store_laws.specs.Recorded.{IsStorable}
use Rattle.ob_store_spec.specs.Settling.{settled}
use Rattle.ob_store_spec.specs.Stores.{StoreState, StoreRefusal, IsStoreOf, IsRefused}
use Rattle.ob_store.specs.Stores.{program_of}
use Rattle.ob_store_table_laws.proofs.Following.{store_follows, area_follows, refusal_follows}
use Rattle.ob_store_table_laws.proofs.Whole.{named, unnamed, settled_unnamed}
use Rattle.ob_serve.specs.Kept.{IsSoundFor}
use Rattle.ob_serve.specs.Standing.{source_program}

-- the class table of code lacks names alone
table_of : (program : SilicaProgram) (code : Image) → IsSoundFor program code → table_of_image code ≡ without_names program.table
table_of program code sound = ap table_of_image sound.emitted ∙ tables_agree program.table program.bodies sound.table

module _ (program : SilicaProgram) (code : Image) (sound : IsSoundFor program code) where
  pub rests_by_source : (content : Content) → IsStoreAtRest (table_of_image code) content → IsStoreAtRest program.table content
  rests_by_source content rests =
      store_follows (without_names program.table) program.table (named program.table) content (subst (λ (t : ClassTable). IsStoreAtRest t content) (table_of program code sound) rests)

  pub rests_by_image : (content : Content) → IsStoreAtRest program.table content → IsStoreAtRest (table_of_image code) content
  rests_by_image content rests =
      subst (λ (t : ClassTable). IsStoreAtRest t content) (sym (table_of program code sound)) (store_follows program.table (without_names program.table) (unnamed program.table) content rests)

  pub settles_alike : (area : Option ℕ) (s : StoreState) (after : Content) → settled (program_of code) area s after ≡ settled (source_program program.table code) area s after
  settles_alike area s after =
      ap (λ (t : ClassTable). settled (source_program t code) area s after) (table_of program code sound) ∙ settled_unnamed program.table (image.bytes code) area s after

  pub stands_by_source : (size : ℕ) (bytes : List ℕ) (s : StoreState) → IsStoreOf (program_of code) size bytes s → IsStoreOf (source_program program.table code) size bytes s
  stands_by_source size bytes s stands =
      area_follows (without_names program.table) program.table (named program.table) (image.bytes code) size bytes s
      (subst (λ (t : ClassTable). IsStoreOf (source_program t code) size bytes s) (table_of program code sound) stands)

  pub refused_by_source : (size : ℕ) (bytes : List ℕ) (r : StoreRefusal) → IsRefused (program_of code) size bytes r → IsRefused (source_program program.table code) size bytes r
  refused_by_source size bytes r refused =
      refusal_follows (without_names program.table) program.table (named program.table) (unnamed program.table) (image.bytes code) size bytes r
      (subst (λ (t : ClassTable). IsRefused (source_program t code) size bytes r) (table_of program code sound) refused)

  -- payloads can distinguish its contracts and states
  pub storable : IsStorable (table_of_image code)
  storable = subst IsStorable (sym (table_of program code sound)) (record {
    contracts = few_contracts;
    states = λ k d lt. few_states k d lt;
  })
    where
      few_contracts : length (without_names program.table).contracts ≤ 2 ^ 32
      few_contracts = omega (arith, length-map program.table.contracts contract_without_names, sound.table.few)

      few_states : All (λ c. length c.states ≤ 255) (without_names program.table).contracts
      few_states = All-map (λ c. length c.states ≤ 255) contract_without_names program.table.contracts (λ k d lt. omega (arith, (sound.table.contracts k d lt).few_states))
