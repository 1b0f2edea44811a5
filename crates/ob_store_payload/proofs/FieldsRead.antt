-- The values of an object's available fields, as they are read one after another.
use Rattle.std.proofs.Common.{◌≡◌, ◌∙◌, map, ℕ, suc, ◌<◌, ◌≤◌, ◌+◌, ◌-◌, Bool, true, false, cond, List, [], ◌∷◌, ◌++◌, length, take, drop, get_or, Option, Some, None, Ok, Err, refl, sym, ap, subst, append-nil, add-one, arith, ltb-true, ltb-false}
use Rattle.std.specs.Prelude.{nat_eq, nat_lt, slice_get, filter, is_some, option_to_list, if◌then◌else◌}
use Rattle.std.specs.Borrow.{Bor}
use Rattle.std.specs.Option.{option_map_or}
use Rattle.std.proofs.lemmas.List.{drop_more, drop_all, take_all, length-map, length-take-le, get_or-map}
use Rattle.std.proofs.lemmas.Option.{slice_get_past, slice_get-get_or}
use Rattle.ob_base.specs.declared.id.FieldId.{FieldId}
use Rattle.ob_base.specs.declared.id.StateId.{StateId}
use Rattle.ob_table.specs.declared.contract.Field.{Field}
use Rattle.ob_format_spec.specs.Formats.{Parsed, done}
use Rattle.ob_format_spec.specs.Combinators.{read_times}
use Rattle.ob_format.specs.Answering.{Halts}
use Rattle.ob_format.specs.declared.halt.Halt.{Halt}
use Rattle.ob_format.specs.declared.halt.Halt.TheVariants as halt
use Rattle.ob_format.proofs.Loops.{prefixed, prefixed_none, times_step}
use Rattle.ob_heap.specs.Plain.{value_of, fields_of}
use Rattle.ob_heap.specs.declared.value.Value.{Value}
use Rattle.ob_heap.proofs.PlainLemmas.{fields-with_value}
use Rattle.ob_heap_spec.specs.Values.{Value as PlainValue, Numbered, put}
use Rattle.ob_heap_spec.specs.Objects.{is_available}
use Rattle.ob_store_spec.specs.Payloads.{value}
use Rattle.ob_store_spec.specs.Between.{values_from}
use Rattle.ob_store_payload.specs.Answering.{AnswersField}
use Rattle.ob_store_payload.proofs.ValueLemmas.{value_of_field, values_step}

-- values beside these fields don't count
values_beside : (k : ℕ) (fs : List Field) (state : Option StateId) (a b : Numbered PlainValue) → ((j : ℕ) → j < k + length fs → a j ≡ b j)
    → values_from k fs state a ≡ values_from k fs state b
values_beside k [] state a b same = refl
values_beside k (f ∷ fs) state a b same =
    ap (λ v. if is_available state f then option_to_list v ++ values_from (suc k) fs state a else values_from (suc k) fs state a) (same k (omega arith))
    ∙ ap (λ l. if is_available state f then option_to_list (b k) ++ l else l) (values_beside (suc k) fs state a b (λ j less. same j (omega (arith, less))))

other : (j k : ℕ) → j < k → nat_eq j k ≡ false
other j k h = grind arith

later : (j k : ℕ) → k < j → nat_eq j k ≡ false
later j k h = grind arith

itself : (k : ℕ) → nat_eq k k ≡ true
itself k = grind arith

-- an element of a list, as a function maps it
pub map_at : {A B : Type 0} (g : A → B) (xs : List A) (i : ℕ) (x : A) → i < length xs → x ≡ get_or xs i x
    → (i < length (map g xs)) × ((slice_get (map g xs) i ≡ Some (g x)) × (get_or (map g xs) i (g x) ≡ g x))
map_at g xs i x less is =
    let many = length-map xs g in
    let long : i < length (map g xs) = omega (arith, many, less) in
    let at : get_or (map g xs) i (g x) ≡ g x = get_or-map g xs i x (g x) less ∙ ap g (sym is) in
    (long, (slice_get-get_or (map g xs) i (g x) long ∙ ap Some at, at))

module _ (fs : List Field) (state : Option StateId) where
  -- how many of the fields from a place on are available
  abbrev pub left : ℕ → ℕ
  left i = length (filter (is_available state) (drop i fs))

  -- whether there is a field of this number that is available
  abbrev pub has : ℕ → Bool
  has k = option_map_or (is_available state) (slice_get fs k) false

  -- the values of the fields up to a place were read, and there are no others
  pub record AreRead (i : ℕ) (es : List (FieldId × Value)) (rest : List ℕ) (whole : Parsed (List PlainValue)) : Type 0 where
    pub reads : prefixed (values_from 0 (take i fs) state (fields_of es)) (read_times value.read (left i) rest) ≡ whole
    pub none : (k : ℕ) → i ≤ k → fields_of es k ≡ None
    pub has : (k : ℕ) → k < i → is_some (fields_of es k) ≡ has k

  pub nothing_read : (es : List (FieldId × Value)) (bytes : List ℕ) → es ≡ [] → AreRead 0 es bytes (read_times value.read (left 0) bytes)
  nothing_read es bytes is =
      subst (λ l. AreRead 0 l bytes (read_times value.read (left 0) bytes)) (sym is) (record { reads = prefixed_none (read_times value.read (left 0) bytes); none = λ k le. refl; has = λ k low. absurd (omega (arith, low)) })

  module _ (i : ℕ) (f : Field) (less : i < length fs) (at : slice_get fs i ≡ Some f) (is : get_or fs i f ≡ f) (whole : Parsed (List PlainValue)) where
    here : drop i fs ≡ f ∷ drop (i + 1) fs
    here = drop_more fs i f less ∙ ap (λ g. g ∷ drop (i + 1) fs) is

    more : (values : Numbered PlainValue) → values_from 0 (take (i + 1) fs) state values ≡ values_from 0 (take i fs) state values ++ value_of_field (Some f) state values i
    more values =
        ap (λ n. values_from 0 (take n fs) state values) (add-one i) ∙ values_step 0 i i fs state values less (omega arith)
        ∙ ap (λ g. values_from 0 (take i fs) state values ++ value_of_field g state values i) at

    up_to : (P : ℕ → Type 0) (k : ℕ) → (k < i → P k) → P i → k < i + 1 → P k
    up_to P k below here low = by (nat_lt k i) refl
      where
        by : (b : Bool) → nat_lt k i ≡ b → P k
        by true e = below (ltb-true k i e)
        by false e = let high = ltb-false k i e in subst P (omega (arith, low, high)) here

    count : (b : Bool) → is_available state f ≡ b → left i ≡ cond b (suc (left (i + 1))) (left (i + 1))
    count b e = ap (λ l. length (filter (is_available state) l)) here ∙ by b e
      where
        by : (b : Bool) → is_available state f ≡ b → length (cond (is_available state f) (f ∷ filter (is_available state) (drop (i + 1) fs)) (filter (is_available state) (drop (i + 1) fs)))
            ≡ cond b (suc (left (i + 1))) (left (i + 1))
        by true e = ap (λ c. length (cond c (f ∷ filter (is_available state) (drop (i + 1) fs)) (filter (is_available state) (drop (i + 1) fs)))) e
        by false e = ap (λ c. length (cond c (f ∷ filter (is_available state) (drop (i + 1) fs)) (filter (is_available state) (drop (i + 1) fs)))) e

    pub field_read : (b : Bool) → is_available state f ≡ b → (old new : List (FieldId × Value)) (bytes : List ℕ) (rest : Bor (List ℕ)) → AreRead i old bytes whole
        → AnswersField b i old new bytes (Ok rest) → AreRead (i + 1) new rest.now whole
    field_read false e old new bytes rest are (same, kept) = record {
      reads =
          ap (λ l. prefixed (values_from 0 (take (i + 1) fs) state (fields_of l)) (read_times value.read (left (i + 1)) rest.now)) kept
          ∙ ap (λ l. prefixed l (read_times value.read (left (i + 1)) rest.now))
          (more (fields_of old) ∙ ap (λ c. values_from 0 (take i fs) state (fields_of old) ++ option_to_list (if c then fields_of old i else None)) e ∙ append-nil (values_from 0 (take i fs) state (fields_of old)))
          ∙ ap (λ n. prefixed (values_from 0 (take i fs) state (fields_of old)) (read_times value.read n rest.now)) (sym (count false e))
          ∙ ap (λ l. prefixed (values_from 0 (take i fs) state (fields_of old)) (read_times value.read (left i) l)) same ∙ are.reads;
      none = λ k le. ap (λ l. fields_of l k) kept ∙ are.none k (omega (arith, le));
      has = λ k low. up_to (λ j. is_some (fields_of new j) ≡ has j) k (λ below. ap (λ l. is_some (fields_of l k)) kept ∙ are.has k below)
          (ap (λ l. is_some (fields_of l i)) kept ∙ ap is_some (are.none i (omega arith)) ∙ sym e ∙ sym (ap (λ g. option_map_or (is_available state) g false) at)) low;
    }
    field_read true e old new bytes rest are (v, got, kept) =
        let plain : fields_of new ≡ put (fields_of old) i (value_of v) = ap fields_of kept ∙ fields-with_value (record { 0 = i }) v old in
        let short = length-take-le i fs (omega (arith, less)) in
        let before : values_from 0 (take i fs) state (put (fields_of old) i (value_of v)) ≡ values_from 0 (take i fs) state (fields_of old) =
        values_beside 0 (take i fs) state (put (fields_of old) i (value_of v)) (fields_of old) (λ j low. ap (λ c. if c then Some (value_of v) else fields_of old j) (other j i (omega (arith, low, short)))) in
        let last : value_of_field (Some f) state (put (fields_of old) i (value_of v)) i ≡ value_of v ∷ [] =
        ap (λ c. option_to_list (if c then put (fields_of old) i (value_of v) i else None)) e ∙ ap (λ c. option_to_list (if c then Some (value_of v) else fields_of old i)) (itself i) in
        let values : values_from 0 (take (i + 1) fs) state (fields_of new) ≡ values_from 0 (take i fs) state (fields_of old) ++ value_of v ∷ [] =
        ap (λ vs. values_from 0 (take (i + 1) fs) state vs) plain ∙ more (put (fields_of old) i (value_of v))
        ∙ ap (λ l. l ++ value_of_field (Some f) state (put (fields_of old) i (value_of v)) i) before ∙ ap (λ l. values_from 0 (take i fs) state (fields_of old) ++ l) last in
        let n = left (i + 1) in
        let all : suc n - 0 ≡ left i = omega (arith, count true e) in
        let less_one : suc n - (0 + 1) ≡ n = omega arith in
        let was = ap (λ m. prefixed (values_from 0 (take i fs) state (fields_of old)) (read_times value.read m bytes)) all ∙ are.reads in
        record {
          reads =
              ap (λ m. prefixed (values_from 0 (take (i + 1) fs) state (fields_of new)) (read_times value.read m rest.now)) (sym less_one)
              ∙ times_step value.read (suc n) 0 (values_from 0 (take i fs) state (fields_of old)) (values_from 0 (take (i + 1) fs) state (fields_of new)) (value_of v) bytes rest.now whole (omega arith) was got values;
          none = λ k le. ap (λ vs. vs k) plain ∙ ap (λ c. if c then Some (value_of v) else fields_of old k) (later k i (omega (arith, le))) ∙ are.none k (omega (arith, le));
          has = λ k low. up_to (λ j. is_some (fields_of new j) ≡ has j) k
              (λ below. ap (λ vs. is_some (vs k)) plain ∙ ap (λ c. is_some (if c then Some (value_of v) else fields_of old k)) (other k i below) ∙ are.has k below)
              (ap (λ vs. is_some (vs i)) plain ∙ ap (λ c. is_some (if c then Some (value_of v) else fields_of old i)) (itself i) ∙ sym e
              ∙ sym (ap (λ g. option_map_or (is_available state) g false) at)) low;
        }

    halts_at : (e : Halt) (items : List PlainValue) (m : ℕ) (bytes : List ℕ) → Halts e (value.read bytes) → Halts e (prefixed items (read_times value.read (suc m) bytes))
    halts_at (halt.Stop k) items m bytes h = rw h refl
    halts_at halt.Memory items m bytes h = tt

    pub field_halts : (b : Bool) → is_available state f ≡ b → (old new : List (FieldId × Value)) (bytes : List ℕ) → AreRead i old bytes whole → (e : Halt)
        → AnswersField b i old new bytes (Err e) → Halts e whole
    field_halts false is old new bytes are e h = absurd h
    field_halts true is old new bytes are e h =
        subst (Halts e) (ap (λ m. prefixed (values_from 0 (take i fs) state (fields_of old)) (read_times value.read m bytes)) (sym (count true is)) ∙ are.reads)
        (halts_at e (values_from 0 (take i fs) state (fields_of old)) (left (i + 1)) bytes h)

  pub all_read : (i : ℕ) (es : List (FieldId × Value)) (rest : List ℕ) (whole : Parsed (List PlainValue)) → length fs ≤ i → AreRead i es rest whole
      → whole ≡ done (values_from 0 fs state (fields_of es)) rest
  all_read i es rest whole le are =
      let n : left i ≡ 0 = ap (λ l. length (filter (is_available state) l)) (drop_all i fs le) in
      sym are.reads ∙ ap (λ m. prefixed (values_from 0 (take i fs) state (fields_of es)) (read_times value.read m rest)) n
      ∙ ap (λ l. done l rest) (append-nil (values_from 0 (take i fs) state (fields_of es)))
      ∙ ap (λ l. done (values_from 0 l state (fields_of es)) rest) (take_all i fs le)

  -- a field has a value where it is available
  pub all_have : (i : ℕ) (es : List (FieldId × Value)) (rest : List ℕ) (whole : Parsed (List PlainValue)) → length fs ≤ i → AreRead i es rest whole
      → (k : ℕ) → is_some (fields_of es k) ≡ has k
  all_have i es rest whole le are k = by (nat_lt k i) refl
    where
      by : (b : Bool) → nat_lt k i ≡ b → is_some (fields_of es k) ≡ has k
      by true e = are.has k (ltb-true k i e)
      by false e =
          let high = ltb-false k i e in
          ap is_some (are.none k high) ∙ sym (ap (λ g. option_map_or (is_available state) g false) (slice_get_past fs k (omega (arith, le, high))))
