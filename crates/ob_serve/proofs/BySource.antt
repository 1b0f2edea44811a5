-- A session by the code ends as it does by the source meaning.
use Rattle.std.proofs.Common.{◌≡◌, ⊎_elim, inl, inr, ℕ, List, length, Option, Some, None, subst}
use Rattle.ob_code.specs.declared.image.Image.{Image}
use Rattle.ob_disk_spec.proofs.Moments.{weaker, throughout_to}
use Rattle.ob_rest_spec.specs.AtRest.{IsStoreAtRest}
use Rattle.ob_silica_steps.specs.Configurations.{SilicaProgram}
use Rattle.ob_store.specs.Stores.{program_of}
use Rattle.ob_store_spec.specs.Stores.{StoreState}
use Rattle.ob_serve.specs.Session.{SessionItem, requests_in}
use Rattle.ob_serve.specs.Crash.{AfterFirst, AfterSome}
use Rattle.ob_serve.specs.Items.{by_machine, by_source, items_of_line}
use Rattle.ob_serve.specs.Kept.{IsSoundFor}
use Rattle.ob_serve.specs.Served.{IsAnswered, IsGiven, IsStored, Ends}
use Rattle.ob_outside.specs.Devices.{Devices}
use Rattle.ob_serve.specs.Standing.{RepresentsStore, source_program}
use Rattle.ob_serve.specs.declared.limits.Limits.{Limits}
use Rattle.ob_serve.specs.declared.serving.Served.{Served}
use Rattle.ob_serve.proofs.Keeping.{same_items}
use Rattle.ob_serve.proofs.Tables.{stands_by_source}

module _ (program : SilicaProgram) (code : Image) (limits : Limits) (area : Option ℕ) (sound : IsSoundFor program code) where
  -- bytes that represent a store by the class table of the code represent it by that of the program
  stands : (s : StoreState) (c : List ℕ) → (at : Option ℕ) → RepresentsStore (program_of code) at s c → RepresentsStore (source_program program.table code) at s c
  stands s c None is = tt
  stands s c (Some size) is = stands_by_source program code sound size c s is

  module _ (start : StoreState) (xs ys : List (SessionItem StoreState)) (same : xs ≡ ys) where
    after_first : (P : ℕ → Type 0) (c : List ℕ) → AfterFirst (RepresentsStore (program_of code) area) start xs P c → AfterFirst (RepresentsStore (source_program program.table code) area) start ys P c
    after_first P c is = subst (λ (l : List (SessionItem StoreState)). AfterFirst (RepresentsStore (source_program program.table code) area) start l P c) same (is.0, is.1, stands _ c area is.2)

    after_some : (c : List ℕ) → AfterSome (RepresentsStore (program_of code) area) start xs c → AfterSome (RepresentsStore (source_program program.table code) area) start ys c
    after_some c is = subst (λ (l : List (SessionItem StoreState)). AfterSome (RepresentsStore (source_program program.table code) area) start l c) same (is.0, stands _ c area is.1)

  pub ends_by_source : (start : StoreState) (old new : Devices) (served : Served) → IsStoreAtRest program.table start.content
      → Ends (items_of_line (by_machine code limits area)) (RepresentsStore (program_of code) area) start old new served
      → Ends (items_of_line (by_source (source_program program.table code) code limits area)) (RepresentsStore (source_program program.table code) area) start old new served
  ends_by_source start old new served rests ended =
      let same = same_items program code limits area sound start (requests_in ended.lines) rests in
      record {
        lines = ended.lines;
        of_input = ended.of_input;
        k = ended.k;
        answered = subst (λ (items : List (SessionItem StoreState)). IsAnswered served (length items) ended.k) same ended.answered;
        given = ended.given;
        written = ended.written;
        given_is = subst (λ (items : List (SessionItem StoreState)). IsGiven served items ended.k ended.given) same ended.given_is;
        stored = throughout_to new.disk _ _ ended.stored (after_first start _ _ same (IsStored served ended.k));
        since = weaker old.disk new.disk _ _ ended.since (λ c is. ⊎_elim (λ may. inl may) (λ some. inr (after_some start _ _ same c some)) is);
        cause = ended.cause;
      }
