-- A schedule by code is serializable by the source meaning, where the code goes as its source.
use Rattle.std.proofs.Common.{◌≡◌, ℕ, ◌<◌, List, refl, ◌∙◌, ap, subst}
use Rattle.ob_heap_spec.specs.Contents.{Content}
use Rattle.ob_invocation_spec.specs.Replies.{Reply, Invoked, Invocation, invoked, goes_wrong}
use Rattle.ob_invocation_spec.specs.Requests.{Request, HasLabels}
use Rattle.ob_invocation_spec.specs.SourceInvocation.{source_invocation}
use Rattle.ob_silica_steps.specs.Configurations.{SilicaProgram}
use Rattle.ob_code.specs.declared.image.Image.{Image}
use Rattle.ob_lanes_laws.specs.Schedule.{Event, idle}
use Rattle.ob_lanes_laws.specs.Serial.{IsSerializable}
use Rattle.ob_lanes_laws.specs.Turns.{after_turns}
use Rattle.ob_lanes_laws.specs.Measures.{turns_left}
use Rattle.ob_lanes_laws.specs.Requests.{Stores, Answer, answer_by, store_by, IsInvoked, request_rules}
use Rattle.ob_lanes_laws.specs.Laws.{OfEach, IsAtRestIn, IsAnsweredIn, after_request_events}
use Rattle.ob_lanes_laws.proofs.Keeping.{Fits, events_serializable}
use Rattle.ob_lanes_laws.proofs.Ending.{batch_ends}
use Rattle.ob_lanes_laws.proofs.Distance.{request_distances}
use Rattle.ob_lanes_laws.proofs.Requests.{requests_fit}
use Rattle.ob_sound_code.specs.SoundCode.{SameInvocation}
use Rattle.ob_serve.specs.Kept.{IsSoundFor}
use Rattle.ob_serve.proofs.Tables.{rests_by_image, rests_by_source}
use Rattle.ob_service_laws.specs.BySource.{IsInvokedBySource, RestsIn}

-- what goes as the other has come to the same
record IsSame (a : Invocation) (it : Invoked) : Type 0 where
  by : Invoked
  is : a ≡ invoked by
  reply : it.reply ≡ by.reply
  content : it.content ≡ by.content

same_by : (a : Invocation) (it : Invoked) → SameInvocation a (invoked it) → IsSame a it
same_by (invoked i) it same = record { by = i; is = refl; reply = same.reply; content = same.content }
same_by goes_wrong it same = absurd same

module _ {S L : Type 0} (stores : Stores S L) (program : SilicaProgram) (image : Image) (fuel : ℕ) (sound : IsSoundFor program image) where
  by_source : (s : S) (q : Request) (answer : Answer L) (after : S) → IsAtRestIn stores image s → HasLabels q → IsInvoked stores image fuel s q answer after → IsInvokedBySource stores program.table fuel s q answer after
  by_source s q answer after rest labels i =
      let c = stores.content_of s in
      let same = same_by (source_invocation program.table c q fuel) i.comes_to
      (subst (SameInvocation (source_invocation program.table c q fuel)) i.is (sound.sound.source.requests c q fuel (rests_by_source program image sound c rest) labels)) in
      record {
        comes_to = same.by;
        is = same.is;
        answer_is = i.answer_is ∙ ap (λ (r : Reply). answer_by r (stores.settle s i.comes_to.content)) same.reply ∙ ap (λ (x : Content). answer_by same.by.reply (stores.settle s x)) same.content;
        after_is = i.after_is ∙ ap (λ (x : Content). store_by s (stores.settle s x)) same.content;
      }

  fits : Fits (request_rules stores image fuel) (IsAtRestIn stores image) HasLabels (IsInvokedBySource stores program.table fuel)
  fits =
      let f = requests_fit stores image fuel sound.sound.ahead sound.sound.alone.rests in
      record {
        local = f.local;
        alone = λ s q r rest labels ended. by_source s q _ _ rest labels (f.alone s q r rest labels ended);
        fit = f.fit;
      }

  pub goes_as_the_source : (batch : List Request) (s : S) (count : ℕ) (events : List Event) → OfEach HasLabels batch → RestsIn stores program.table s
      → IsSerializable (request_rules stores image fuel) (IsInvokedBySource stores program.table fuel) batch s (after_request_events stores image fuel batch s count events)
      × RestsIn stores program.table (after_request_events stores image fuel batch s count events).store
  goes_as_the_source batch s count events labels rest =
      let k = events_serializable (request_rules stores image fuel) (IsAtRestIn stores image) HasLabels (IsInvokedBySource stores program.table fuel) batch s count events fits labels
      (rests_by_image program image sound (stores.content_of s) rest) in
      (k.0, rests_by_source program image sound _ k.1)

  pub ends_as_the_source : (batch : List Request) (units count : ℕ) (s : S) → OfEach HasLabels batch → RestsIn stores program.table s → 0 < units → 0 < count
      → (turns : ℕ) × IsAnsweredIn (request_rules stores image fuel) (IsInvokedBySource stores program.table fuel) batch units count s turns
      × RestsIn stores program.table (after_turns (request_rules stores image fuel) batch units count s turns).lanes.store
  ends_as_the_source batch units count s labels rest u c =
      let d = request_distances stores image fuel sound.sound.ahead in
      let end = batch_ends (request_rules stores image fuel) (IsAtRestIn stores image) HasLabels (IsInvokedBySource stores program.table fuel) d batch units count s fits labels
      (rests_by_image program image sound (stores.content_of s) rest) u c in
      (turns_left (request_rules stores image fuel) d batch 0 (idle s count), end.0, rests_by_source program image sound _ end.1)
