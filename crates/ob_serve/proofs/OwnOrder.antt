-- A batch is answered in its own order in one lane, and where all its requests are of one client.
use Rattle.std.proofs.Common.{◌≡◌, ◌⊎◌, ⊎_elim, ℕ, zero, suc, ◌+◌, ◌<◌, ◌≤◌, Bool, true, false, List, [], ◌∷◌, ◌++◌, length, Some, None, refl, sym, ◌∙◌, ap, subst, arith, true≢false}
use Rattle.std.specs.Prelude.{nat_lt, is_some, slice_get, slice_index_or, IfOk}
use Rattle.std.specs.List.{Contains, range_with_len}
use Rattle.std.proofs.lemmas.Bool.{ltb-true, ltb-false}
use Rattle.std.proofs.lemmas.List.{length-map}
use Rattle.std.proofs.lemmas.List.FromFn.{length-range_with_len}
use Rattle.std.proofs.lemmas.Slice.Eq.{bytes_eq-Decides}
use Rattle.ob_code.specs.declared.image.Image.{Image}
use Rattle.ob_invocation_spec.specs.Requests as asked
use Rattle.ob_lanes_laws.specs.Orders.{AreFirstInOrder}
use Rattle.ob_lanes_laws.specs.Turns.{after_turns}
use Rattle.ob_lanes_laws.proofs.Orders.{first_in_order, client_first, one_lane}
use Rattle.ob_silica_steps.specs.Configurations.{SilicaProgram}
use Rattle.ob_wire.specs.Meanings.{request_of}
use Rattle.ob_serve.specs.Batches.{answered_numbers, IsOrderOf}
use Rattle.ob_serve.specs.Kept.{AreLimits, IsSoundFor}
use Rattle.ob_serve.specs.Orders.{AreOfOneClient, KeepsOrderOfBatches}
use Rattle.ob_serve.specs.Standing.{source_program}
use Rattle.ob_serve.specs.Turning.{BatchOn, batch_on, asked_in, round_after, turns_of, CanBeAnswered}
use Rattle.ob_serve.specs.declared.limits.Limits.{Limits}
use Rattle.ob_serve.proofs.Asking.{HasAllLabels, asked_labels}
use Rattle.ob_serve.proofs.Orders.{batch_order, map_labels}
use Rattle.ob_serve.proofs.Rounds.{rules, means, keeps}
use Rattle.ob_serve.proofs.Tables.{rests_by_image}
use Rattle.ob_serve.proofs.Turning.{can_be_answered}

-- ---- numbers from 0 on

in_range : (a n k d : ℕ) → k < n → slice_index_or (range_with_len a n) k d ≡ a + k
in_range a zero k d lt = absurd (omega (arith, lt))
in_range a (suc n) zero d lt = omega arith
in_range a (suc n) (suc k) d lt = in_range (a + 1) n k d (omega (arith, lt)) ∙ (let e : (a + 1) + k ≡ a + suc k = omega arith in e)

-- the numbers below one don't contain it
not_in : (n : ℕ) → Contains (range_with_len 0 n) n → ⊥
not_in n has =
    let lt : has.0 < n = subst (λ l. has.0 < l) (length-range_with_len 0 n) has.1 in
    let at : 0 + has.0 ≡ n = sym (in_range 0 n has.0 n lt) ∙ has.2 in
    omega (arith, lt, at)

last_one : (a n : ℕ) → range_with_len a (suc n) ≡ range_with_len a n ++ (a + n) ∷ []
last_one a zero = ap (λ m. m ∷ []) (let e : a ≡ a + 0 = omega arith in e)
last_one a (suc n) = ap (λ l. a ∷ l) (last_one (a + 1) n ∙ ap (λ m. range_with_len (a + 1) n ++ m ∷ []) (let e : (a + 1) + n ≡ a + suc n = omega arith in e))

none_is_some : {A : Type 0} {a : A} → None ≡ Some a → ⊥
none_is_some e = true≢false (sym (ap is_some e))

within : {A : Type 0} (xs : List A) (n : ℕ) (x : A) → slice_get xs n ≡ Some x → n < length xs
within [] n x e = absurd (none_is_some e)
within (y ∷ ys) zero x e = omega arith
within (y ∷ ys) (suc n) x e = let l = within ys n x e in omega (arith, l)

-- an order of a batch's requests that counts from 0 on has as many numbers as the batch has requests
few : (batch : List asked.Request) (n : ℕ) → IsOrderOf batch (range_with_len 0 n) → n ≤ length batch
few batch zero h = omega arith
few batch (suc n) h =
    let last = h.each (range_with_len 0 n) [] (0 + n) (last_one 0 n) in
    let lt = within batch (0 + n) last.request last.is_its in omega (arith, lt)

counted : (batch : List asked.Request) (order : List ℕ) (n : ℕ) → IsOrderOf batch order → order ≡ range_with_len 0 n → order ≡ range_with_len 0 (length batch)
counted batch order n h is = is ∙ ap (range_with_len 0) (by (nat_lt n (length batch)) refl)
  where
    own : IsOrderOf batch (range_with_len 0 n)
    own = subst (IsOrderOf batch) is h

    by : (b : Bool) → nat_lt n (length batch) ≡ b → n ≡ length batch
    by true e = absurd (not_in n (own.all n (ltb-true n (length batch) e)))
    by false e = let most = few batch n own in let least = ltb-false n (length batch) e in omega (arith, most, least)

-- ---- the order

module _ (b : BatchOn) (can : CanBeAnswered b) where
  -- in one lane
  lane_order : b.limits.lanes ≡ 1 → AreFirstInOrder (round_after b (turns_of b)).lanes.done
  lane_order one =
      subst (λ count. AreFirstInOrder (after_turns (rules b) (asked_in b) b.limits.slice count b.start (turns_of b)).lanes.done) (sym one)
      (one_lane (rules b) (asked_in b) b.limits.slice b.start (turns_of b))

  -- of one client
  client_order : AreOfOneClient (asked_in b) → AreFirstInOrder (round_after b (turns_of b)).lanes.done
  client_order one =
      let serial = (keeps b can (turns_of b)).serial in
      first_in_order (round_after b (turns_of b)).lanes.done
      (client_first (rules b) (means b) (asked_in b) b.start (λ p q i j. (bytes_eq-Decides p.who q.who).1 (one i.0 j.0 p q i.1 j.1)) (round_after b (turns_of b)).lanes.done serial.serial serial.order)

  own_order : (b.limits.lanes ≡ 1) ⊎ AreOfOneClient (asked_in b) → answered_numbers (round_after b (turns_of b)).lanes.done ≡ range_with_len 0 (length (asked_in b))
  own_order either =
      counted (asked_in b) (answered_numbers (round_after b (turns_of b)).lanes.done) (length (round_after b (turns_of b)).lanes.done) (batch_order b can)
      (⊎_elim (λ one. lane_order one) (λ one. client_order one) either)

pub keeps_order_of_batches : (program : SilicaProgram) (image : Image) (limits : Limits) → IsSoundFor program image → AreLimits limits → KeepsOrderOfBatches (source_program program.table image) image limits
keeps_order_of_batches program image limits sound are = λ area s line batch rests asks either.
    let can = can_be_answered image limits area s batch sound.sound.ahead sound.sound.alone (map_labels batch (subst (λ r. IfOk r HasAllLabels) asks (asked_labels line))) (rests_by_image program image sound s.content rests) are in
    own_order (batch_on image limits area s batch) can either ∙ ap (range_with_len 0) (length-map batch request_of)
