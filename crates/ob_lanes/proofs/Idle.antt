-- Lanes before a batch.
use Rattle.std.proofs.Common.{◌≡◌, ℕ, zero, suc, ◌<◌, false, List, [], ◌∷◌, ◌++◌, map, length, replicate, Option, Some, None, refl, sym, ap, ◌∙◌, subst, arith}
use Rattle.std.specs.Prelude.{slice_get, option_map, remove}
use Rattle.ob_heap.specs.Contents.{Stored, content_of}
use Rattle.ob_code.specs.declared.image.Image.{Image}
use Rattle.ob_wire.specs.Meanings.{request_of}
use Rattle.ob_wire.specs.declared.request.Request as wire
use Rattle.ob_lanes_laws.specs.Schedule.{idle}
use Rattle.ob_lanes_laws.proofs.Keeping.{none_is_some, some_same, idle_lane}
use Rattle.ob_lanes.specs.Standing.{AreLanes, requests_of, LanesRepresentBatch, waiting}
use Rattle.ob_lanes.specs.declared.batch.Busy.{Busy}
use Rattle.ob_lanes.specs.declared.batch.BatchRequest.{BatchRequest}
use Rattle.ob_lanes.specs.declared.lanes.Lanes.{Lanes}
use Rattle.ob_lanes.proofs.Standing.{get_map}

waiting_requests : (batch : List wire.Request) → map request_of batch ≡ requests_of (map waiting batch)
waiting_requests [] = refl
waiting_requests (q ∷ qs) = ap (λ rs. request_of q ∷ rs) (waiting_requests qs)

waiting_done : (batch : List wire.Request) (n : ℕ) (e : BatchRequest) → slice_get (map waiting batch) n ≡ Some e → false ≡ e.is_done
waiting_done batch n e f = by (slice_get batch n) (sym (get_map waiting batch n) ∙ f)
  where
    by : (o : Option wire.Request) → option_map waiting o ≡ Some e → false ≡ e.is_done
    by None g = absurd (none_is_some g)
    by (Some q) g = ap (λ (x : BatchRequest). x.is_done) (some_same (waiting q) e g)

idle_lanes : (image : Image) (fuel : ℕ) (base : Stored) (entries : List BatchRequest) (count : ℕ) → AreLanes image fuel base entries (replicate count None) (replicate count None)
idle_lanes image fuel base entries zero = tt
idle_lanes image fuel base entries (suc count) = (tt, idle_lanes image fuel base entries count)

idle_length : (count : ℕ) → length (replicate {A = Option Busy} count None) ≡ count
idle_length zero = refl
idle_length (suc count) = ap suc (idle_length count)

-- lanes with a batch of which nothing is under way
pub idle_stands : (image : Image) (fuel : ℕ) (base : Stored) (batch : List wire.Request) (count : ℕ) (l : Lanes) → l.entries.items ≡ map waiting batch → l.lanes.items ≡ replicate count None → l.next ≡ 0 → 0 < count → 0 < l.slice
    → LanesRepresentBatch image fuel (map request_of batch) base l (idle (content_of base) count)
idle_stands image fuel base batch count l entries lanes next some slice = record {
  requests = waiting_requests batch ∙ ap requests_of (sym entries);
  state = record {
    store = refl;
    done = λ n e f. waiting_done batch n e (ap (λ es. slice_get es n) (sym entries) ∙ f);
    each = subst (λ ls. AreLanes image fuel base l.entries.items ls (replicate count None)) (sym lanes) (idle_lanes image fuel base l.entries.items count);
    own = record { unanswered = λ k b e. absurd (idle_lane count k b e); apart = λ j k b d e f same. absurd (idle_lane count j b e) };
  };
  next = subst (λ n. n < length l.lanes.items) (sym next) (subst (λ ls. 0 < length ls) (sym lanes) (subst (λ n. 0 < n) (sym (idle_length count)) some));
  slice = slice;
}

-- The requests of a batch, one by one.

append_assoc : {A : Type 0} (xs : List A) (y : A) (zs : List A) → (xs ++ y ∷ []) ++ zs ≡ xs ++ y ∷ zs
append_assoc [] y zs = refl
append_assoc (x ∷ xs) y zs = ap (λ l. x ∷ l) (append_assoc xs y zs)

-- one more is kept
pub one_kept : (done : List BatchRequest) (rest : List wire.Request) (all : List BatchRequest) (q : wire.Request) → slice_get rest 0 ≡ Some q → done ++ map waiting rest ≡ all → (done ++ waiting q ∷ []) ++ map waiting (remove rest 0) ≡ all
one_kept done [] all q e h = absurd (none_is_some e)
one_kept done (r ∷ rs) all q e h =
    append_assoc done (waiting q) (map waiting rs) ∙ ap (λ x. done ++ waiting x ∷ map waiting rs) (sym (some_same r q e)) ∙ h

pub one_less : (rest : List wire.Request) (q : wire.Request) → slice_get rest 0 ≡ Some q → length (remove rest 0) < length rest
one_less [] q e = absurd (none_is_some e)
one_less (r ∷ rs) q e = omega arith

pub all_kept : (done all : List BatchRequest) (rest : List wire.Request) → rest ≡ [] → done ++ map waiting rest ≡ all → done ≡ all
all_kept done all rest none h = sym (append_none done) ∙ ap (λ (r : List wire.Request). done ++ map waiting r) (sym none) ∙ h
  where
    append_none : (xs : List BatchRequest) → xs ++ [] ≡ xs
    append_none [] = refl
    append_none (x ∷ xs) = ap (λ l. x ∷ l) (append_none xs)

pub some_left : (rest : List wire.Request) → (rest ≡ [] → ⊥) → 0 < length rest
some_left [] h = absurd (h refl)
some_left (r ∷ rs) h = omega arith

-- as they were asked
pub kept_waiting : (batch : List wire.Request) → map (λ (e : BatchRequest). e.request) (map waiting batch) ≡ batch
kept_waiting [] = refl
kept_waiting (q ∷ qs) = ap (λ rs. q ∷ rs) (kept_waiting qs)
