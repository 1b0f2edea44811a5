-- A batch is answered in an order of its requests: each once, and those of a client as they stand in it.
use Rattle.std.proofs.Common.{◌≡◌, ◌⊎◌, inl, inr, ⊎_elim, ℕ, zero, suc, ◌+◌, ◌<◌, Bool, true, false, ◌||◌, List, [], ◌∷◌, ◌++◌, length, map, reverse, Some, refl, sym, ◌∙◌, ap, subst, arith, append_assoc, true≢false}
use Rattle.std.specs.Prelude.{nat_eq, slice_get, slice_index_or, IfOk}
use Rattle.std.specs.List.{Contains}
use Rattle.std.proofs.lemmas.Bool.Decides.{nat_tests}
use Rattle.std.proofs.lemmas.List.{reverse-append, reverse-reverse}
use Rattle.std.proofs.lemmas.List.Elements.{Contains-push, Contains-append_left}
use Rattle.std.proofs.lemmas.Option.{slice_get-map}
use Rattle.std.proofs.lemmas.Slice.Eq.{bytes_eq-Decides}
use Rattle.ob_code.specs.declared.image.Image.{Image}
use Rattle.ob_invocation_spec.specs.Requests as asked
use Rattle.ob_invocation_spec.specs.Requests.{HasLabels}
use Rattle.ob_lanes_laws.specs.Laws.{OfEach}
use Rattle.ob_lanes_laws.proofs.Keeping.{both_true}
use Rattle.ob_lanes_laws.specs.Schedule.{is_done}
use Rattle.ob_lanes_laws.specs.Serial.{AreSerial, AreInOrder, AreEarlierDone}
use Rattle.ob_lanes_laws.specs.Turns.{are_done_from}
use Rattle.ob_silica_steps.specs.Configurations.{SilicaProgram}
use Rattle.ob_wire.specs.Meanings.{request_of}
use Rattle.ob_wire.specs.declared.request.Incoming.TheVariants.{Batch}
use Rattle.ob_wire.specs.declared.request.Request.{Request}
use Rattle.ob_serve.specs.Batches.{answered_numbers, IsOrderOf}
use Rattle.ob_serve.specs.Kept.{AreLimits, IsSoundFor, KeepsOrders}
use Rattle.ob_serve.specs.Standing.{source_program}
use Rattle.ob_serve.specs.Turning.{BatchOn, batch_on, asked_in, round_after, turns_of, CanBeAnswered}
use Rattle.ob_serve.specs.declared.limits.Limits.{Limits}
use Rattle.ob_serve.proofs.Asking.{HasAllLabels, asked_labels}
use Rattle.ob_serve.proofs.Rounds.{DoneHere, rules, means, found_of, keeps, all_in_the_end}
use Rattle.ob_serve.proofs.Tables.{rests_by_image}

-- ---- numbers in a list

abbrev In : ℕ → List ℕ → Type 0
In n [] = ⊥
In n (x ∷ xs) = (n ≡ x) ⊎ In n xs

reverse_one : (x : ℕ) (xs : List ℕ) → reverse (x ∷ xs) ≡ reverse xs ++ x ∷ []
reverse_one x xs = reverse-append (x ∷ []) xs

in_contains : (n : ℕ) (xs : List ℕ) → In n xs → Contains (reverse xs) n
in_contains n [] i = absurd i
in_contains n (x ∷ xs) (inl e) = subst (λ ys. Contains ys n) (sym (reverse_one x xs)) (subst (λ y. Contains (reverse xs ++ y ∷ []) n) e (Contains-push (reverse xs) n))
in_contains n (x ∷ xs) (inr i) = subst (λ ys. Contains ys n) (sym (reverse_one x xs)) (Contains-append_left (reverse xs) (x ∷ []) n (in_contains n xs i))

in_front : (n : ℕ) (xs ys : List ℕ) → In n xs → In n (xs ++ ys)
in_front n [] ys i = absurd i
in_front n (x ∷ xs) ys (inl e) = inl e
in_front n (x ∷ xs) ys (inr i) = inr (in_front n xs ys i)

in_last : (n : ℕ) (xs : List ℕ) → In n (xs ++ n ∷ [])
in_last n [] = inl refl
in_last n (x ∷ xs) = inr (in_last n xs)

in_reverse : (n : ℕ) (xs : List ℕ) → In n xs → In n (reverse xs)
in_reverse n [] i = absurd i
in_reverse n (x ∷ xs) (inl e) = subst (In n) (sym (reverse_one x xs)) (subst (λ y. In n (reverse xs ++ y ∷ [])) e (in_last n (reverse xs)))
in_reverse n (x ∷ xs) (inr i) = subst (In n) (sym (reverse_one x xs)) (in_front n (reverse xs) (x ∷ []) (in_reverse n xs i))

contains_in : (n : ℕ) (xs : List ℕ) (k : ℕ) → k < length xs → slice_index_or xs k n ≡ n → In n xs
contains_in n [] k lt is = absurd (omega (arith, lt))
contains_in n (x ∷ xs) zero lt is = inl (sym is)
contains_in n (x ∷ xs) (suc k) lt is = inr (contains_in n xs k (omega (arith, lt)) is)

-- ---- what is answered

numbers : List DoneHere → List ℕ
numbers ds = map (λ (d : DoneHere). d.number) ds

same_number : (n m : ℕ) → nat_eq n m ≡ true → n ≡ m
same_number n m is = grind (arith, nat_tests)

itself : (n m : ℕ) → n ≡ m → nat_eq n m ≡ true
itself n m is = grind (arith, nat_tests)

or_cases : (a b : Bool) → (a || b) ≡ true → (a ≡ true) ⊎ (b ≡ true)
or_cases true b is = inl refl
or_cases false b is = inr is

or_left : (a b : Bool) → a ≡ true → (a || b) ≡ true
or_left a b is = rw is refl

or_right : (a b : Bool) → b ≡ true → (a || b) ≡ true
or_right true b is = refl
or_right false b is = is

done_in : (n : ℕ) (ds : List DoneHere) → is_done n ds ≡ true → In n (map (λ (d : DoneHere). d.number) ds)
done_in n [] is = absurd (true≢false (sym is))
done_in n (d ∷ ds) is = ⊎_elim (λ a. inl (same_number n d.number a)) (λ b. inr (done_in n ds b)) (or_cases (nat_eq n d.number) (is_done n ds) is)

in_done : (n : ℕ) (ds : List DoneHere) → In n (map (λ (d : DoneHere). d.number) ds) → is_done n ds ≡ true
in_done n [] i = absurd i
in_done n (d ∷ ds) (inl e) = or_left (nat_eq n d.number) (is_done n ds) (itself n d.number e)
in_done n (d ∷ ds) (inr i) = or_right (nat_eq n d.number) (is_done n ds) (in_done n ds i)

done_at : (n i : ℕ) (qs : List asked.Request) (ds : List DoneHere) → are_done_from n qs ds ≡ true → i < length qs → is_done (n + i) ds ≡ true
done_at n i [] ds is lt = absurd (omega (arith, lt))
done_at n zero (q ∷ qs) ds is lt = ap (λ m. is_done m ds) (let same : n + 0 ≡ n = omega arith in same) ∙ (both_true (is_done n ds) (are_done_from (suc n) qs ds) is).0
done_at n (suc i) (q ∷ qs) ds is lt =
    ap (λ m. is_done m ds) (let same : n + suc i ≡ suc n + i = omega arith in same) ∙ done_at (suc n) i qs ds (both_true (is_done n ds) (are_done_from (suc n) qs ds) is).1 (omega (arith, lt))

module _ (b : BatchOn) (can : CanBeAnswered b) where
  -- what was done before a place of the order
  record Before (n : ℕ) (ys : List ℕ) : Type 0 where
    done : List DoneHere
    are : map (λ (d : DoneHere). d.number) done ≡ ys
    request : asked.Request
    is_its : slice_get (asked_in b) n ≡ Some request
    once : is_done n done ≡ false
    earlier : AreEarlierDone (rules b) (asked_in b) n done

  cut : (ds : List DoneHere) (xs : List ℕ) (n : ℕ) (ys : List ℕ) → map (λ (d : DoneHere). d.number) ds ≡ xs ++ n ∷ ys → AreInOrder (rules b) (asked_in b) ds → AreSerial (means b) (asked_in b) b.start ds → Before n ys
  cut [] [] n ys is order serial = absurd cc
  cut [] (x ∷ xs) n ys is order serial = absurd cc
  cut (d ∷ ds) [] n ys is order serial =
      let number : d.number ≡ n = cc in
      let rest : map (λ (d : DoneHere). d.number) ds ≡ ys = cc in
      record {
        done = ds;
        are = rest;
        request = serial.0.request;
        is_its = ap (slice_get (asked_in b)) (sym number) ∙ serial.0.is_its;
        once = ap (λ m. is_done m ds) (sym number) ∙ order.0;
        earlier = subst (λ m. AreEarlierDone (rules b) (asked_in b) m ds) number order.1;
      }
  cut (d ∷ ds) (x ∷ xs) n ys is order serial =
      let rest : map (λ (d : DoneHere). d.number) ds ≡ xs ++ n ∷ ys = cc in
      cut ds xs n ys rest order.2 serial.1

  abbrev ds : List DoneHere
  ds = (round_after b (turns_of b)).lanes.done

  turned_round : (before after : List ℕ) (n : ℕ) → reverse (before ++ n ∷ after) ≡ reverse after ++ n ∷ reverse before
  turned_round before after n =
      reverse-append before (n ∷ after) ∙ ap (λ l. l ++ reverse before) (reverse_one n after) ∙ append_assoc (reverse after) (n ∷ []) (reverse before)

  pub batch_order : IsOrderOf (asked_in b) (answered_numbers (round_after b (turns_of b)).lanes.done)
  batch_order = record {
    all = λ n lt. in_contains n (map (λ (d : DoneHere). d.number) ds) (done_in n ds (ap (λ m. is_done m ds) (let same : n ≡ 0 + n = omega arith in same) ∙ done_at 0 n (asked_in b) ds (all_in_the_end b can) lt));
    each = λ before after n is.
        let serial = (keeps b can (turns_of b)).serial in
        let all : map (λ (d : DoneHere). d.number) ds ≡ reverse after ++ n ∷ reverse before =
        sym (reverse-reverse (map (λ (d : DoneHere). d.number) ds)) ∙ ap reverse is ∙ turned_round before after n in
        let first = cut ds (reverse after) n (reverse before) all serial.order serial.serial in
        record {
          request = first.request;
          is_its = first.is_its;
          once = λ has. true≢false (sym (in_done n first.done (subst (In n) (sym first.are) (in_reverse n before (contains_in n before has.0 has.1 has.2)))) ∙ first.once);
          earlier = λ k q lt at same.
              subst (λ l. Contains l k) (reverse-reverse before)
              (in_contains k (reverse before) (subst (In k) first.are (done_in k first.done
              (first.earlier k q first.request lt at first.is_its ((bytes_eq-Decides q.who first.request.who).1 same)))));
        };
  }

-- the names in a batch's requests are labels
pub map_labels : (batch : List Request) → HasAllLabels (Batch batch) → OfEach HasLabels (map request_of batch)
map_labels batch labels = λ n q is.
    let found = found_of (slice_get batch n) q (sym (slice_get-map request_of batch n) ∙ is) in
    subst HasLabels found.2 (labels n found.0 found.1)

-- each batch is answered in an order of its requests
pub keeps_orders : (program : SilicaProgram) (image : Image) (limits : Limits) → IsSoundFor program image → AreLimits limits → KeepsOrders (source_program program.table image) image limits
keeps_orders program image limits sound are = λ area s line batch rests asks.
    batch_order (batch_on image limits area s batch) (record {
      ahead = sound.sound.ahead;
      sound = sound.sound.alone;
      labels = map_labels batch (subst (λ r. IfOk r HasAllLabels) asks (asked_labels line));
      at_rest = rests_by_image program image sound s.content rests;
      lanes = are.lanes;
      slice = are.slice;
    })
