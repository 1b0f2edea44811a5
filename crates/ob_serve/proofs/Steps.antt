-- One item is answered: what was made ready is committed, and its reply written.
use Rattle.std.proofs.Common.{◌≡◌, ◌⊎◌, inl, inr, ⊎_elim, ℕ, List, [], ◌∷◌, Option, None, refl, sym, ◌∙◌, subst, arith}
use Rattle.std.proofs.lemmas.List.{append-nil}
use Rattle.std.specs.Prelude.{◌≢◌}
use Rattle.ob_code.specs.declared.image.Image.{Image}
use Rattle.ob_code_table.specs.ImageTables.{table_of_image}
use Rattle.ob_disk_spec.specs.Calls.{IsUntouched}
use Rattle.ob_disk_spec.specs.Disk.{DiskView, LeavesOnly}
use Rattle.ob_disk_spec.specs.Durable.{Throughout, During}
use Rattle.ob_disk_spec.proofs.Moments.{weaker, throughout_to, throughout_may}
use Rattle.ob_disk_spec.proofs.Untouched.{untouched_during}
use Rattle.ob_io.specs.Told.{Gives, GivesFront}
use Rattle.ob_io.specs.Views.{SinkView}
use Rattle.ob_io.proofs.ToldLemmas.{gives_none}
use Rattle.ob_rest_spec.specs.AtRest.{IsStoreAtRest}
use Rattle.ob_store_spec.specs.Stores.{StoreState}
use Rattle.ob_store.specs.Stores.{program_of, area_of_store, state_of, StandsOn}
use Rattle.ob_store.specs.declared.store.Store.{Store}
use Rattle.ob_serve.specs.Crash.{AfterSome}
use Rattle.ob_serve.specs.Session.{SessionItem, bytes_of}
use Rattle.ob_serve.specs.Serving.{Moment, IsServing, StaysIn, stands_where, Answered, RoseOnce, Stopped}
use Rattle.ob_serve.specs.declared.serving.Served.TheVariants.{WriteFault, DiskFault, Memory}
use Rattle.ob_serve.specs.Standing.{RepresentsStore}
use Rattle.ob_serve.proofs.Committed.{stands_through, quiet_stands}

abbrev pub moment : Store → SinkView → DiskView → Moment
moment store output disk = record { store = store; output = output; disk = disk }

module _ (code : Image) (store : Store) (output : SinkView) (disk : DiskView) (serving : IsServing code (moment store output disk)) where
  here : Throughout disk (stands_where code store (state_of store))
  here = stands_through (program_of code) store disk serving.stands serving.at_rest

  -- memory runs out, and no call of the disk was made
  pub memory_out : (items : List (SessionItem StoreState)) (kept : Store) (after : DiskView) → IsUntouched disk after → StaysIn (area_of_store store) disk after → Stopped code Memory items (moment store output disk) (moment kept output after)
  memory_out items kept after untouched stays =
      let quiet = untouched_during disk after untouched in
      record {
        k = 0;
        answered = omega arith;
        given = [];
        written = gives_none output.written;
        given_is = refl;
        stored = throughout_to after _ _ (quiet_stands disk after _ quiet here) (λ c is. (0, refl, is));
        since = weaker disk after _ _ quiet.since (λ c may. (0, throughout_may disk _ here c may));
        stays = stays;
        sure = λ none same. cc same;
        cause = (refl, untouched.faults);
      }

  module _ (item : SessionItem StoreState) (kept : Store) (after : DiskView)
      (crash : During disk after (λ c. stands_where code store (state_of store) c ⊎ stands_where code store item.after c)) (stays : StaysIn (area_of_store store) disk after) where
    one_since : LeavesOnly disk after (AfterSome (stands_where code store) (state_of store) (item ∷ []))
    one_since = weaker disk after _ _ crash.since (λ c is. ⊎_elim (λ b. (0, b)) (λ a. (1, a)) is)

    -- the disk fails
    pub disk_out : (area_of_store store ≢ None) → RoseOnce disk.faults after.faults → Stopped code DiskFault (item ∷ []) (moment store output disk) (moment kept output after)
    disk_out some rose = record {
      k = 0;
      answered = omega arith;
      given = [];
      written = gives_none output.written;
      given_is = refl;
      stored = throughout_to after _ _ crash.now (λ c is. ⊎_elim (λ b. (0, inl refl, b)) (λ a. (1, inr refl, a)) is);
      since = one_since;
      stays = stays;
      sure = λ none. absurd (some none);
      cause = (refl, rose);
    }

    module _ (area : area_of_store kept ≡ area_of_store store) (state : state_of kept ≡ item.after) (rests : IsStoreAtRest (table_of_image code) item.after.content) (stands : StandsOn (program_of code) kept after)
        (calm : after.faults ≡ disk.faults) where
      now_at_rest : IsServing code (moment kept output after)
      now_at_rest = record { at_rest = subst (λ (s : StoreState). IsStoreAtRest (table_of_image code) s.content) (sym state) rests; stands = stands }

      -- the output fails
      pub write_out : (out : SinkView) → GivesFront output.written out.written (bytes_of item.reply) → RoseOnce output.faults out.faults → Stopped code WriteFault (item ∷ []) (moment store output disk) (moment kept out after)
      write_out out front rose = record {
        k = 0;
        answered = omega arith;
        given = front.0;
        written = front.3;
        given_is = (front.0, front.1, refl, append-nil (bytes_of item.reply) ∙ front.2);
        stored = throughout_to after _ _ (stands_through (program_of code) kept after stands now_at_rest.at_rest)
            (λ c is. (1, refl, subst (λ (s : StoreState). stands_where code store s c) state (subst (λ (a : Option ℕ). RepresentsStore (program_of code) a (state_of kept) c) area is)));
        since = one_since;
        stays = stays;
        sure = λ none same. cc same;
        cause = (rose, calm);
      }

      -- its reply is written
      pub all_done : (out : SinkView) → Gives output.written out.written (bytes_of item.reply) → out.faults ≡ output.faults → Answered code (item ∷ []) (moment store output disk) (moment kept out after)
      all_done out gives quiet = record {
        area = area;
        state = state;
        serving = record { at_rest = now_at_rest.at_rest; stands = stands };
        given = subst (Gives output.written out.written) (sym (append-nil (bytes_of item.reply))) gives;
        since = one_since;
        stays = stays;
        calm_write = quiet;
        calm_disk = calm;
      }
