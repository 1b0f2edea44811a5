-- A turn of a batch, by what its commit comes to.
use Rattle.std.proofs.Common.{◌≡◌, ℕ, suc, ◌-◌, ◌<◌, ◌≤◌, Bool, true, false, List, [], ◌∷◌, ◌++◌, length, map, sym, ◌∙◌, ap, subst, arith}
use Rattle.std.specs.Prelude.{Result, Ok, Err, ⊤}
use Rattle.std.proofs.lemmas.List.{append-nil, length-map}
use Rattle.ob_disk_spec.specs.Disk.{DiskView}
use Rattle.ob_disk_spec.proofs.Untouched.{untouched_none}
use Rattle.ob_heap.specs.declared.delta.Delta.{Delta}
use Rattle.ob_io.specs.Views.{SinkView}
use Rattle.ob_lanes.specs.Standing.{requests_kept}
use Rattle.ob_lanes.specs.declared.batch.BatchRequest.{BatchRequest}
use Rattle.ob_lanes.specs.declared.lanes.Lanes.{Lanes}
use Rattle.ob_serve.specs.Batches.{enough_turns}
use Rattle.ob_wire.specs.Meanings.{request_of}
use Rattle.ob_store_spec.specs.Stores.{StoreState}
use Rattle.ob_store.specs.Stores.{area_of_store, state_of}
use Rattle.ob_store.specs.declared.store.Store.{Store}
use Rattle.ob_wire.specs.declared.reply.Reply.{Reply}
use Rattle.ob_serve.specs.Serving.{Moment, IsServing, Answered, Stopped, Answers}
use Rattle.ob_serve.specs.Session.{SessionItem}
use Rattle.ob_serve.specs.Turning.{BatchOn, asked_in, round_after, items_after, all_items, turns_of, CanBeAnswered, AreAsFar, WaitsWith, GoesOn, IsLast, StopsIn, Turns, Commits}
use Rattle.ob_serve.specs.declared.serving.Served.{Served}
use Rattle.ob_serve.specs.declared.serving.Served.TheVariants.{Memory}
use Rattle.ob_serve.proofs.Progress.{stays_none, answered_none, answered_then, stopped_then}
use Rattle.ob_serve.proofs.Rounds.{rest_items}
use Rattle.ob_serve.proofs.Steps.{moment, memory_out}
use Rattle.ob_serve.proofs.Turning.{item_of, told, next_store}

module _ (b : BatchOn) (can : CanBeAnswered b) (n : ℕ) where
  -- it stops for want of memory, before anything is done
  pub memory_stops : (store : Store) (output : SinkView) (disk : DiskView) → n ≤ turns_of b → IsServing b.code (moment store output disk) → StopsIn b n Memory (moment store output disk) (moment store output disk)
  memory_stops store output disk few serving =
      let rest = rest_items b can n few in
      record {
        items = [];
        rest = rest.0;
        all = rest.1 ∙ ap (λ (is : List (SessionItem StoreState)). is ++ rest.0) (sym (append-nil (items_after b n)));
        stopped = memory_out b.code store output disk serving [] store disk (untouched_none disk) (stays_none (area_of_store store) disk);
      }

  -- what is answered of the item that commits
  pub commits_as : (old new : Moment) (lanes now : Lanes) (reply : Reply) (delta : Delta) (w : WaitsWith b n old.store lanes reply delta) (result : Result ⊤ Served)
      → ((after : Store) → state_of after ≡ (round_after b (suc n)).lanes.store → area_of_store after ≡ b.area → AreAsFar b (suc n) after now)
      → Answers b.code (item_of b can n old.store lanes reply delta w (told b can n old.store lanes reply delta w).request ∷ []) old new result → Commits b n old new now result
  commits_as old new lanes now reply delta w (Ok done) far answers =
      let t = told b can n old.store lanes reply delta w in
      record {
        items = item_of b can n old.store lanes reply delta w t.request ∷ [];
        more = t.more;
        far = far new.store (answers.state ∙ sym (next_store b can n old.store lanes reply delta w t)) (answers.area ∙ w.area);
        answered = answers;
      }
  commits_as old new lanes now reply delta w (Err served) far answers =
      let t = told b can n old.store lanes reply delta w in
      let rest = rest_items b can (suc n) t.few in
      record {
        items = item_of b can n old.store lanes reply delta w t.request ∷ [];
        rest = rest.0;
        all = rest.1 ∙ ap (λ (is : List (SessionItem StoreState)). is ++ rest.0) t.more;
        stopped = answers;
      }

  -- a turn with a commit
  pub turn_done : (old new : Moment) (lanes : Lanes) (result : Result ⊤ Served) (done : ⊤) → result ≡ Ok done → Commits b n old new lanes result → GoesOn b n old new lanes
  turn_done old new lanes result done is commits = subst (Commits b n old new lanes) is commits

  pub turn_stopped : (old new : Moment) (lanes : Lanes) (result : Result ⊤ Served) (served : Served) → result ≡ Err served → Commits b n old new lanes result → StopsIn b n served old new
  turn_stopped old new lanes result served is commits = subst (Commits b n old new lanes) is commits

  -- one without
  pub turn_quiet : (m : Moment) (lanes : Lanes) → IsServing b.code m → items_after b (suc n) ≡ items_after b n → AreAsFar b (suc n) m.store lanes → GoesOn b n m m lanes
  turn_quiet m lanes serving same far = record {
    items = [];
    more = same ∙ sym (append-nil (items_after b n));
    far = far;
    answered = answered_none b.code m serving;
  }

  pub turn_last : (m : Moment) → IsServing b.code m → all_items b ≡ items_after b n → IsLast b n m m
  turn_last m serving all = record { all = all; nothing = answered_none b.code m serving }

  -- what a turn has answered
  pub as_last : (old new : Moment) (lanes : Lanes) (is_last : Bool) → is_last ≡ true → Turns b n old new lanes (Ok is_last) → IsLast b n old new
  as_last old new lanes is_last is turns = subst (λ (x : Bool). Turns b n old new lanes (Ok x)) is turns

  pub as_goes : (old new : Moment) (lanes : Lanes) (is_last : Bool) → is_last ≡ false → Turns b n old new lanes (Ok is_last) → GoesOn b n old new lanes
  as_goes old new lanes is_last is turns = subst (λ (x : Bool). Turns b n old new lanes (Ok x)) is turns

  -- turns one after another
  module _ (start old new : Moment) (was : Answered b.code (items_after b n) start old) where
    pub turns_go : (lanes : Lanes) → GoesOn b n old new lanes → Answered b.code (items_after b (suc n)) start new
    turns_go lanes goes = subst (λ (is : List (SessionItem StoreState)). Answered b.code is start new) (sym goes.more) (answered_then b.code (items_after b n) start old was goes.items new goes.answered)

    pub turns_end : IsLast b n old new → Answered b.code (all_items b) start new
    turns_end last = subst (λ (is : List (SessionItem StoreState)). Answered b.code is start new) (append-nil (items_after b n) ∙ sym last.all) (answered_then b.code (items_after b n) start old was [] new last.nothing)

    pub turns_stop : (served : Served) → StopsIn b n served old new → Stopped b.code served (all_items b) start new
    turns_stop served stop = subst (λ (is : List (SessionItem StoreState)). Stopped b.code served is start new) (sym stop.all) (stopped_then b.code (items_after b n) start old was stop.items stop.rest served new stop.stopped)

-- a turn more is a turn less to come
pub fewer_turns : (b : BatchOn) (n : ℕ) (store : Store) (lanes : Lanes) (entries : ℕ) → AreAsFar b (suc n) store lanes → entries ≡ turns_of b → suc entries - suc n < suc entries - n
fewer_turns b n store lanes entries far same = omega (arith, far.few, same)

-- as many turns are enough as what lanes keep tells
pub entries_enough : (b : BatchOn) (store : Store) (lanes : Lanes) → AreAsFar b 0 store lanes → enough_turns b.code b.limits (length lanes.entries.items) ≡ turns_of b
entries_enough b store lanes far =
    let kept : length (requests_kept lanes) ≡ length lanes.entries.items = length-map lanes.entries.items (λ (e : BatchRequest). e.request) in
    let asked : length (asked_in b) ≡ length b.requests = length-map b.requests request_of in
    ap (enough_turns b.code b.limits) (sym kept ∙ ap length far.requests ∙ sym asked)
