-- How a session goes on, and how it ends.
use Rattle.std.proofs.Common.{◌≡◌, ◌⊎◌, inl, inr, ⊎_elim, ℕ, ◌+◌, ◌<◌, ◌≤◌, Bool, true, false, List, [], ◌∷◌, ◌++◌, length, take, drop, Option, None, Some, refl, sym, ◌∙◌, ap, subst, arith, append_assoc, length-append, take-append-drop}
use Rattle.std.specs.Prelude.{◌≢◌, Result, ⊤}
use Rattle.std.proofs.lemmas.List.{append-nil, take_at, take-take}
use Rattle.ob_base.specs.Limits.{most_taken}
use Rattle.ob_code.specs.declared.image.Image.{Image}
use Rattle.ob_io.specs.Causes.{Rose}
use Rattle.ob_io.specs.Told.{Takes, TakesFrom, TakesAtMost, Gives, IsEnd}
use Rattle.ob_io.specs.LinesOfText.{lines_of, whole_lines, IsSplit}
use Rattle.ob_io.proofs.TextLemmas.{split_none, split_more, split_end, split_part}
use Rattle.ob_io.specs.Views.{SourceView, SinkView}
use Rattle.ob_io.proofs.ToldLemmas.{gives_none, gives_then, takes_none, takes_then, takes_from_none, takes_from_then}
use Rattle.ob_disk_spec.specs.Disk.{DiskView, LeavesOnly}
use Rattle.ob_disk_spec.specs.Durable.{Throughout}
use Rattle.ob_disk_spec.proofs.Behind.{behind_none, behind_then}
use Rattle.ob_disk_spec.proofs.Untouched.{untouched_none, untouched_then}
use Rattle.ob_disk_spec.proofs.Moments.{weaker, then, throughout_to}
use Rattle.ob_store_spec.specs.Stores.{StoreState}
use Rattle.ob_store.specs.Stores.{program_of, area_of_store, state_of}
use Rattle.ob_store.specs.declared.store.Store.{Store}
use Rattle.ob_serve.specs.Session.{SessionItem, items_from, state_after, replies}
use Rattle.ob_serve.specs.Crash.{AfterFirst, AfterSome}
use Rattle.ob_serve.specs.Served.{IsToldAs, ReadsSome, SpeaksOf, IsAnswered, IsGiven, IsStored, IsCause, Ends}
use Rattle.ob_outside.specs.Devices.{Devices}
use Rattle.ob_serve.specs.Items.{by_machine, items_of_line}
use Rattle.ob_serve.specs.declared.limits.Limits.{Limits}
use Rattle.ob_serve.specs.Serving.{Moment, IsServing, items_shown, StaysIn, stands_where, Answered, HasFault, Stopped, Answers}
use Rattle.ob_serve.specs.Standing.{RepresentsStore}
use Rattle.ob_serve.specs.Stops.{LineReader, ReadsLine, ReadsPart, IsStop}
use Rattle.ob_serve.specs.declared.serving.Served.{Served}
use Rattle.ob_serve.specs.declared.serving.Served.TheVariants.{Done, ReadFault, WriteFault, DiskFault, Memory, Long}
use Rattle.ob_serve.proofs.Committed.{stands_through, stands_now}
use Rattle.ob_serve.proofs.Sessions.{replies-append, state_after-append, items_from-append, one_more, take_in, after_front, some_more, some_later, first_in}

-- ---- the input so far

-- what was handed on, and which lines it is
pub record Reading (first pending : Option (List ℕ)) (ended : Bool) (handed : ℕ) : Type 0 where
  pub taken : List ℕ
  pub lines : List (List ℕ)
  pub took : Takes first pending taken
  pub counted : handed ≡ length taken
  pub split : IsSplit ended taken lines

abbrev pub reads_none : (first pending : Option (List ℕ)) (ended : Bool) (handed : ℕ) → pending ≡ first → ended ≡ false → handed ≡ 0 → Reading first pending ended handed
reads_none first pending ended handed same goes_on none = record {
  taken = [];
  lines = [];
  took = rw same (takes_none first);
  counted = none;
  split = rw goes_on split_none;
}

abbrev pub reads_more : (first : Option (List ℕ)) (from now : LineReader) (is_long : Bool) (line : List ℕ) → Reading first from.pending from.ended from.handed → ReadsLine from now is_long line → Reading first now.pending now.ended now.handed
reads_more first from now is_long line was read = record {
  taken = was.taken ++ read.bytes;
  lines = was.lines ++ read.full ∷ [];
  took = takes_then first from.pending now.pending was.taken read.bytes was.took read.took;
  counted = omega (arith, read.counted, was.counted, length-append was.taken read.bytes);
  split = split_more now.ended was.taken read.full read.bytes was.lines (rw read.goes_on at was.split) read.one_line read.is;
}

-- the whole input, and its lines from those that were read on
pub record Reaches (first : Option (List ℕ)) (lines : List (List ℕ)) : Type 0 where
  pub input : List ℕ
  pub is : IsToldAs first input
  pub rest : List (List ℕ)
  pub all : lines_of input ≡ lines ++ rest

reached_by : (first pending : Option (List ℕ)) (taken : List ℕ) (ended : Bool) (lines : List (List ℕ)) → Takes first pending taken → IsSplit ended taken lines → (ended ≡ true → IsEnd pending) → Reaches first lines
reached_by None None taken ended lines took split ends = record { input = taken; is = tt; rest = []; all = split_end ended taken lines split ∙ sym (append-nil lines) }
reached_by None (Some ys) taken ended lines took split ends = absurd took
reached_by (Some xs) None taken ended lines took split ends = absurd took
reached_by (Some xs) (Some ys) taken true lines took split ends = record {
  input = xs;
  is = refl;
  rest = [];
  all = ap lines_of (took ∙ ap (λ (l : List ℕ). taken ++ l) (ends refl) ∙ append-nil taken) ∙ split ∙ sym (append-nil lines);
}
reached_by (Some xs) (Some ys) taken false lines took split ends = record { input = xs; is = refl; rest = lines_of ys; all = ap lines_of took ∙ (split ys).0 }

pub reached : (first pending : Option (List ℕ)) (ended : Bool) (handed : ℕ) (was : Reading first pending ended handed) → (ended ≡ true → IsEnd pending) → Reaches first was.lines
reached first pending ended handed was ends = reached_by first pending was.taken ended was.lines was.took was.split ends

-- so many bytes were taken of the input
abbrev pub HasTaken : SourceView → SourceView → ℕ → Type 0
HasTaken old now count = (bytes : List ℕ) × TakesFrom old now bytes × (count ≡ length bytes)

pub none_taken : (old : SourceView) (count : ℕ) → count ≡ 0 → HasTaken old old count
none_taken old count none = ([], takes_from_none old, none)

pub more_taken : (old mid now : SourceView) (before count : ℕ) → HasTaken old mid before → (bytes : List ℕ) × TakesFrom mid now bytes × (count ≡ before + length bytes) → HasTaken old now count
more_taken old mid now before count was more = (was.0 ++ more.0, takes_from_then old mid now was.0 more.0 was.1 more.1, omega (arith, was.2, more.2, length-append was.0 more.0))

pub few_taken : (old now : SourceView) (count : ℕ) → HasTaken old now count → count ≤ most_taken → TakesAtMost old now most_taken
few_taken old now count has few = (has.0, has.1, omega (arith, has.2, few))

-- as many bytes as were handed on
pub all_taken : (old now : SourceView) (bytes : List ℕ) (count : ℕ) → Takes old.left now.left bytes → HasTaken old now count → count ≡ length bytes → TakesFrom old now bytes
all_taken old now bytes count told has same = record { told = told; counted = omega (arith, has.1.counted, has.2, same) }

-- ---- the items so far

pub stays_none : (area : Option ℕ) (v : DiskView) → StaysIn area v v
stays_none area v = record { untouched = λ none. untouched_none v; behind = λ size is. behind_none (size + size) v; attaches = refl }

pub stays_then : (area : Option ℕ) (old mid new : DiskView) → StaysIn area old mid → StaysIn area mid new → StaysIn area old new
stays_then area old mid new a b = record {
  untouched = λ none. untouched_then old mid new (a.untouched none) (b.untouched none);
  behind = λ size is. behind_then (size + size) old mid new (a.behind size is) (b.behind size is);
  attaches = b.attaches ∙ a.attaches;
}

-- nothing was asked
pub answered_none : (code : Image) (m : Moment) → IsServing code m → Answered code [] m m
answered_none code m serving = record {
  area = refl;
  state = refl;
  serving = serving;
  given = gives_none m.output.written;
  since = record { later = omega arith; each = λ t c le left. inl left };
  stays = stays_none (area_of_store m.store) m.disk;
  calm_write = refl;
  calm_disk = refl;
}

module _ (code : Image) (xs : List (SessionItem StoreState)) (old mid : Moment) (was : Answered code xs old mid) where
  -- what is said of the store in the middle, said from the first one
  moved : (F : (StoreState → List ℕ → Type 0) → StoreState → Type 0) → F (stands_where code mid.store) (state_of mid.store) → F (stands_where code old.store) (state_after (state_of old.store) xs)
  moved F is =
      subst (F (stands_where code old.store)) was.state
      (subst (λ (area : Option ℕ). F (RepresentsStore (program_of code) area) (state_of mid.store)) was.area is)

  stays_on : (new : Moment) → StaysIn (area_of_store mid.store) mid.disk new.disk → StaysIn (area_of_store old.store) old.disk new.disk
  stays_on new stays = stays_then (area_of_store old.store) old.disk mid.disk new.disk was.stays (subst (λ (area : Option ℕ). StaysIn area mid.disk new.disk) was.area stays)

  since_on : (ys rest : List (SessionItem StoreState)) (new : Moment) → LeavesOnly mid.disk new.disk (AfterSome (stands_where code mid.store) (state_of mid.store) ys)
      → LeavesOnly old.disk new.disk (AfterSome (stands_where code old.store) (state_of old.store) ((xs ++ ys) ++ rest))
  since_on ys rest new since =
      let stands = stands_where code old.store in
      let start = state_of old.store in
      then old.disk mid.disk new.disk _
      (weaker old.disk mid.disk _ _ was.since (λ c some. some_more stands start (xs ++ ys) rest c (some_more stands start xs ys c some)))
      (weaker mid.disk new.disk _ _ (moved (λ stand s. LeavesOnly mid.disk new.disk (AfterSome stand s ys)) since)
      (λ c some. some_more stands start (xs ++ ys) rest c (some_later stands start xs ys c some)))

  -- more items are answered
  pub answered_then : (ys : List (SessionItem StoreState)) (new : Moment) → Answered code ys mid new → Answered code (xs ++ ys) old new
  answered_then ys new more = record {
    area = more.area ∙ was.area;
    state = more.state ∙ ap (λ (s : StoreState). state_after s ys) was.state ∙ sym (state_after-append (state_of old.store) xs ys);
    serving = more.serving;
    given = subst (Gives old.output.written new.output.written) (sym (replies-append xs ys)) (gives_then old.output.written mid.output.written new.output.written (replies xs) (replies ys) was.given more.given);
    since = subst (λ (items : List (SessionItem StoreState)). LeavesOnly old.disk new.disk (AfterSome (stands_where code old.store) (state_of old.store) items)) (append-nil (xs ++ ys)) (since_on ys [] new more.since);
    stays = stays_on new more.stays;
    calm_write = more.calm_write ∙ was.calm_write;
    calm_disk = more.calm_disk ∙ was.calm_disk;
  }

  module _ (ys rest : List (SessionItem StoreState)) where
    answered_in : (served : Served) (k : ℕ) (new : Moment) → HasFault served mid new → IsAnswered served (length ys) k → IsAnswered served (length ((xs ++ ys) ++ rest)) (length xs + k)
    answered_in WriteFault k new fault is = omega (arith, is, length-append (xs ++ ys) rest, length-append xs ys)
    answered_in DiskFault k new fault is = omega (arith, is, length-append (xs ++ ys) rest, length-append xs ys)
    answered_in Memory k new fault is = omega (arith, is, length-append (xs ++ ys) rest, length-append xs ys)
    answered_in Done k new fault is = absurd fault
    answered_in ReadFault k new fault is = absurd fault
    answered_in Long k new fault is = absurd fault

    replies_in : (k : ℕ) → k ≤ length ys → replies (take (length xs + k) ((xs ++ ys) ++ rest)) ≡ replies xs ++ replies (take k ys)
    replies_in k within = ap replies (take_in xs ys rest k within) ∙ replies-append xs (take k ys)

    whole_in : (k : ℕ) (given : List ℕ) → k ≤ length ys → given ≡ replies (take k ys) → replies xs ++ given ≡ replies (take (length xs + k) ((xs ++ ys) ++ rest))
    whole_in k given within is = ap (λ (l : List ℕ). replies xs ++ l) is ∙ sym (replies_in k within)

    given_in : (served : Served) (k : ℕ) (given : List ℕ) (new : Moment) → HasFault served mid new → IsAnswered served (length ys) k → IsGiven served ys k given
        → IsGiven served ((xs ++ ys) ++ rest) (length xs + k) (replies xs ++ given)
    given_in WriteFault k given new fault within is =
        let next : (length xs + k) + 1 ≡ length xs + (k + 1) = omega arith in (
          is.0,
          is.1,
          ap (λ (l : List ℕ). replies xs ++ l) is.2 ∙ sym (append_assoc (replies xs) (replies (take k ys)) is.0) ∙ ap (λ (l : List ℕ). l ++ is.0) (sym (replies_in k (omega (arith, within)))),
          ap (λ (n : ℕ). replies (take n ((xs ++ ys) ++ rest))) next ∙ replies_in (k + 1) (omega (arith, within)) ∙ ap (λ (l : List ℕ). replies xs ++ l) is.3 ∙ sym (append_assoc (replies xs) given is.1),
        )
    given_in DiskFault k given new fault within is = whole_in k given (omega (arith, within)) is
    given_in Memory k given new fault within is = whole_in k given within is
    given_in Done k given new fault within is = absurd fault
    given_in ReadFault k given new fault within is = absurd fault
    given_in Long k given new fault within is = absurd fault

    few_stored : (served : Served) (k j : ℕ) (new : Moment) → HasFault served mid new → IsAnswered served (length ys) k → IsStored served k j → j ≤ length ys
    few_stored WriteFault k j new fault within is = omega (arith, within, is)
    few_stored DiskFault k j new fault within is = ⊎_elim (λ e. let same : j ≡ k = e in omega (arith, within, same)) (λ e. let same : j ≡ k + 1 = e in omega (arith, within, same)) is
    few_stored Memory k j new fault within is = omega (arith, within, is)
    few_stored Done k j new fault within is = absurd fault
    few_stored ReadFault k j new fault within is = absurd fault
    few_stored Long k j new fault within is = absurd fault

    stored_later : (served : Served) (k j : ℕ) (new : Moment) → HasFault served mid new → IsStored served k j → IsStored served (length xs + k) (length xs + j)
    stored_later WriteFault k j new fault is = omega (arith, is)
    stored_later DiskFault k j new fault is = ⊎_elim (λ e. let same : j ≡ k = e in inl (omega (arith, same))) (λ e. let same : j ≡ k + 1 = e in inr (omega (arith, same))) is
    stored_later Memory k j new fault is = omega (arith, is)
    stored_later Done k j new fault is = absurd fault
    stored_later ReadFault k j new fault is = absurd fault
    stored_later Long k j new fault is = absurd fault

    fault_on : (served : Served) (new : Moment) → HasFault served mid new → HasFault served old new
    fault_on WriteFault new fault = (rw was.calm_write at fault.0, fault.1 ∙ was.calm_disk)
    fault_on DiskFault new fault = (fault.0 ∙ was.calm_write, rw was.calm_disk at fault.1)
    fault_on Memory new fault = (fault.0 ∙ was.calm_write, fault.1 ∙ was.calm_disk)
    fault_on Done new fault = absurd fault
    fault_on ReadFault new fault = absurd fault
    fault_on Long new fault = absurd fault

    -- it stops in the next items, before others
    pub stopped_then : (served : Served) (new : Moment) → Stopped code served ys mid new → Stopped code served ((xs ++ ys) ++ rest) old new
    stopped_then served new stop = record {
      k = length xs + stop.k;
      answered = answered_in served stop.k new stop.cause stop.answered;
      given = replies xs ++ stop.given;
      written = gives_then old.output.written mid.output.written new.output.written (replies xs) stop.given was.given stop.written;
      given_is = given_in served stop.k stop.given new stop.cause stop.answered stop.given_is;
      stored = throughout_to new.disk _ _
          (moved (λ stand s. Throughout new.disk (AfterFirst stand s ys (IsStored served stop.k))) stop.stored)
          (first_in (stands_where code old.store) (state_of old.store) xs ys rest (IsStored served stop.k) (IsStored served (length xs + stop.k))
          (λ j is. few_stored served stop.k j new stop.cause stop.answered is) (λ j is. stored_later served stop.k j new stop.cause is));
      since = since_on ys rest new stop.since;
      stays = stays_on new stop.stays;
      sure = λ none. stop.sure (was.area ∙ none);
      cause = fault_on served new stop.cause;
    }

-- ---- the ends of a session

module _ {S : Type 0} (items : S → List ℕ → List (SessionItem S)) (stands : S → List ℕ → Type 0) (start : S) where
  module _ (old new : Devices) where
    -- All of these items, which aren't the last, are answered and stored.
    before : (served : Served) (lines : List (List ℕ)) (so_far rest : List (SessionItem S)) → items_from items start lines ≡ so_far ++ rest → SpeaksOf served old.input new.input lines
        → IsAnswered served (length (so_far ++ rest)) (length so_far) → IsGiven served (so_far ++ rest) (length so_far) (replies so_far) → IsStored served (length so_far) (length so_far)
        → Gives old.output.written new.output.written (replies so_far) → LeavesOnly old.disk new.disk (AfterSome stands start so_far) → Throughout new.disk (stands (state_after start so_far))
        → IsCause served old new → Ends items stands start old new served
    before served lines so_far rest all of_input answered is stored given since images cause = record {
      lines = lines;
      of_input = of_input;
      k = length so_far;
      answered = rw all answered;
      given = replies so_far;
      written = given;
      given_is = rw all is;
      stored = rw all (throughout_to new.disk _ _ images (λ c is. (length so_far, stored, after_front stands start so_far rest c is)));
      since = rw all (weaker old.disk new.disk _ _ since (λ c some. inr (some_more stands start so_far rest c some)));
      cause = cause;
    }

    front_replies : (so_far rest : List (SessionItem S)) → replies so_far ≡ replies (take (length so_far) (so_far ++ rest))
    front_replies so_far rest = ap replies (sym (take_at so_far rest (length so_far) refl))

    -- memory runs out before a line is looked at
    pub gives_up : (input : List ℕ) (so_far rest : List (SessionItem S)) → IsToldAs old.input.left input → items_from items start (lines_of input) ≡ so_far ++ rest
        → Gives old.output.written new.output.written (replies so_far) → LeavesOnly old.disk new.disk (AfterSome stands start so_far) → Throughout new.disk (stands (state_after start so_far))
        → Ends items stands start old new Memory
    gives_up input so_far rest is all given since images =
        before Memory (lines_of input) so_far rest all (record { input = input; all = is; is = refl }) (omega (arith, length-append so_far rest)) (front_replies so_far rest) refl given since images tt

    -- the lines so far are all that the end speaks of
    all_so_far : (served : Served) (lines so_far : List (List ℕ)) → lines ≡ so_far → SpeaksOf served old.input new.input lines
        → (length (items_from items start so_far ++ []) ≡ length (items_from items start so_far) → IsAnswered served (length (items_from items start so_far ++ [])) (length (items_from items start so_far)))
        → (replies (items_from items start so_far) ≡ replies (take (length (items_from items start so_far)) (items_from items start so_far ++ []))
        → IsGiven served (items_from items start so_far ++ []) (length (items_from items start so_far)) (replies (items_from items start so_far)))
        → IsStored served (length (items_from items start so_far)) (length (items_from items start so_far))
        → Gives old.output.written new.output.written (replies (items_from items start so_far)) → LeavesOnly old.disk new.disk (AfterSome stands start (items_from items start so_far))
        → Throughout new.disk (stands (state_after start (items_from items start so_far))) → IsCause served old new → Ends items stands start old new served
    all_so_far served lines so_far is of_input answered told stored given since images cause =
        let xs = items_from items start so_far in
        before served lines xs [] (ap (items_from items start) is ∙ sym (append-nil xs)) of_input (answered (ap length (append-nil xs))) (told (front_replies xs [])) stored given since images cause

    -- the input stops within a line
    cut_off : (from now : LineReader) (read : Reading old.input.left from.pending from.ended from.handed) (part : ReadsPart from now) → now.left ≡ new.input.left → HasTaken old.input new.input now.taken
        → (P : ℕ → Type 0) → (length (read.taken ++ part.bytes) ≡ now.handed → P (length (read.taken ++ part.bytes))) → ReadsSome P old.input new.input (whole_lines (read.taken ++ part.bytes))
    cut_off from now read part left has P many =
        let taken = read.taken ++ part.bytes in
        let told = takes_then old.input.left from.pending new.input.left read.taken part.bytes read.took (rw left at part.took) in
        let count : length taken ≡ now.handed = omega (arith, read.counted, part.counted, length-append read.taken part.bytes) in
        record { taken = taken; took = all_taken old.input new.input taken now.taken told has (omega (arith, part.all, count)); many = many count; is = refl }

    -- what an end before a line says
    pub stopped : (served : Served) (from now : LineReader) (read : Reading old.input.left from.pending from.ended from.handed) → (from.ended ≡ true → IsEnd from.pending) → IsStop from now served → old.input.faults ≤ from.faults
        → now.left ≡ new.input.left → now.faults ≡ new.input.faults → HasTaken old.input new.input now.taken
        → Gives old.output.written new.output.written (replies (items_from items start read.lines)) → LeavesOnly old.disk new.disk (AfterSome stands start (items_from items start read.lines))
        → Throughout new.disk (stands (state_after start (items_from items start read.lines))) → Ends items stands start old new served
    stopped Done from now read ends stop later left faults has given since images =
        let told = takes_then old.input.left from.pending new.input.left read.taken [] read.took (rw left at stop.took) in
        let count : now.handed ≡ length read.taken = omega (arith, read.counted, stop.counted) in
        all_so_far Done (lines_of read.taken) read.lines (split_end from.ended read.taken read.lines read.split)
        (record {
          input = read.taken;
          took = all_taken old.input new.input read.taken now.taken (subst (Takes old.input.left new.input.left) (append-nil read.taken) told) has (omega (arith, stop.all, count));
          end = rw left at stop.end;
          within = omega (arith, stop.within, count);
          is = refl;
        }) (λ same. sym same) (λ is. is) refl given since images tt
    stopped ReadFault from now read ends stop later left faults has given since images =
        let part = stop.1 in
        all_so_far ReadFault _ read.lines (split_part read.taken part.bytes read.lines (rw part.goes_on at read.split) part.one_line)
        (cut_off from now read part left has (λ n. n < most_taken) (λ count. omega (arith, count, stop.2))) (λ same. sym same) (λ is. is) refl given since images
        (let rose : Rose from.faults new.input.faults = rw faults at stop.0 in omega (arith, later, rose))
    stopped Long from now read ends stop later left faults has given since images =
        let part = stop.0 in
        all_so_far Long _ read.lines (split_part read.taken part.bytes read.lines (rw part.goes_on at read.split) part.one_line)
        (cut_off from now read part left has (λ n. n ≡ most_taken) (λ count. omega (arith, count, stop.1))) (λ same. sym same) (λ is. is) refl given since images tt
    stopped Memory from now read ends stop later left faults has given since images =
        let at = reached old.input.left from.pending from.ended from.handed read ends in
        gives_up at.input (items_from items start read.lines) (items_from items (state_after start (items_from items start read.lines)) at.rest) at.is (ap (items_from items start) at.all ∙ items_from-append items start read.lines at.rest) given since images
    stopped WriteFault from now read ends stop later left faults has given since images = absurd stop
    stopped DiskFault from now read ends stop later left faults has given since images = absurd stop

    -- the replies of the items that are stored hold what was written
    pub stored_holds : (served : Served) (ended : Ends items stands start old new served) (c : List ℕ) → AfterFirst stands start (items_from items start ended.lines) (IsStored served ended.k) c
        → AfterFirst stands start (items_from items start ended.lines) (λ j. (rest : List ℕ) × (replies (take j (items_from items start ended.lines)) ≡ ended.given ++ rest)) c
    stored_holds served ended c is = (is.0, within served ended.k is.0 is.1 (items_from items start ended.lines) ended.given ended.given_is, is.2)
      where
        whole : (k j : ℕ) (all : List (SessionItem S)) (given : List ℕ) → j ≡ k → given ≡ replies (take k all) → (rest : List ℕ) × (replies (take j all) ≡ given ++ rest)
        whole k j all given same is = ([], ap (λ (n : ℕ). replies (take n all)) same ∙ sym is ∙ sym (append-nil given))

        more : (k : ℕ) (all : List (SessionItem S)) → (rest : List ℕ) × (replies (take (k + 1) all) ≡ replies (take k all) ++ rest)
        more k all =
            let split : take k all ++ drop k (take (k + 1) all) ≡ take (k + 1) all = ap (λ (is : List (SessionItem S)). is ++ drop k (take (k + 1) all)) (sym (take-take k (k + 1) all (omega arith))) ∙ take-append-drop k (take (k + 1) all) in
            (replies (drop k (take (k + 1) all)), ap replies (sym split) ∙ replies-append (take k all) (drop k (take (k + 1) all)))

        within : (served : Served) (k j : ℕ) → IsStored served k j → (all : List (SessionItem S)) (given : List ℕ) → IsGiven served all k given → (rest : List ℕ) × (replies (take j all) ≡ given ++ rest)
        within Done k j same all given is = whole k j all given same is
        within ReadFault k j same all given is = whole k j all given same is
        within Long k j same all given is = whole k j all given same is
        within Memory k j same all given is = whole k j all given same is
        within WriteFault k j same all given is = (is.1, ap (λ (n : ℕ). replies (take n all)) same ∙ is.3)
        within DiskFault k j same all given is = ⊎_elim (λ s. whole k j all given s is) (λ s. let m = more k all in (m.0, ap (λ (n : ℕ). replies (take n all)) s ∙ m.1 ∙ ap (λ (l : List ℕ). l ++ m.0) (sym is))) same

-- ---- the session by code

module _ (code : Image) (items : StoreState → List ℕ → List (SessionItem StoreState)) (m0 m : Moment) where
  -- a line more is answered
  pub line_answered : (lines : List (List ℕ)) (line : List ℕ) (new : Moment) → Answered code (items_from items (state_of m0.store) lines) m0 m
      → Answered code (items_shown items (state_after (state_of m0.store) (items_from items (state_of m0.store) lines)) line) m new → Answered code (items_from items (state_of m0.store) (lines ++ line ∷ [])) m0 new
  line_answered lines line new was more =
      let start = state_of m0.store in
      let xs = items_from items start lines in
      subst (λ (is : List (SessionItem StoreState)). Answered code is m0 new) (sym (one_more items start lines line)) (answered_then code xs m0 m was (items_shown items (state_after start xs) line) new more)

  -- it stops in a line
  pub line_stopped : (input old_input : SourceView) (served : Served) (lines rest : List (List ℕ)) (line bytes : List ℕ) (new : Moment) → IsToldAs input.left bytes → lines_of bytes ≡ (lines ++ line ∷ []) ++ rest
      → Answered code (items_from items (state_of m0.store) lines) m0 m
      → Stopped code served (items_shown items (state_after (state_of m0.store) (items_from items (state_of m0.store) lines)) line) m new
      → Ends items (stands_where code m0.store) (state_of m0.store) (record { input = input; output = m0.output; disk = m0.disk }) (record { input = old_input; output = new.output; disk = new.disk }) served
  line_stopped input now served lines rest line bytes new told all was stop =
      let start = state_of m0.store in
      let xs = items_from items start lines in
      let ys = items_shown items (state_after start xs) line in
      let more = items_from items (state_after start (items_from items start (lines ++ line ∷ []))) rest in
      let same : items_from items start (lines_of bytes) ≡ (xs ++ ys) ++ more =
      ap (items_from items start) all ∙ items_from-append items start (lines ++ line ∷ []) rest ∙ ap (λ (is : List (SessionItem StoreState)). is ++ more) (one_more items start lines line) in
      whole served (subst (λ (is : List (SessionItem StoreState)). Stopped code served is m0 new) (sym same) (stopped_then code xs m0 m was ys more served new stop))
    where
      speaks : (served : Served) → HasFault served m0 new → SpeaksOf served input now (lines_of bytes)
      speaks WriteFault fault = record { input = bytes; all = told; is = refl }
      speaks DiskFault fault = record { input = bytes; all = told; is = refl }
      speaks Memory fault = record { input = bytes; all = told; is = refl }
      speaks Done fault = absurd fault
      speaks ReadFault fault = absurd fault
      speaks Long fault = absurd fault

      caused : (served : Served) → HasFault served m0 new → IsCause served (record { input = input; output = m0.output; disk = m0.disk }) (record { input = now; output = new.output; disk = new.disk })
      caused WriteFault fault = fault.0.rose
      caused DiskFault fault = fault.1.rose
      caused Memory fault = tt
      caused Done fault = absurd fault
      caused ReadFault fault = absurd fault
      caused Long fault = absurd fault

      whole : (served : Served) → Stopped code served (items_from items (state_of m0.store) (lines_of bytes)) m0 new
          → Ends items (stands_where code m0.store) (state_of m0.store) (record { input = input; output = m0.output; disk = m0.disk }) (record { input = now; output = new.output; disk = new.disk }) served
      whole served stop = record {
        lines = lines_of bytes;
        of_input = speaks served stop.cause;
        k = stop.k;
        answered = stop.answered;
        given = stop.given;
        written = stop.written;
        given_is = stop.given_is;
        stored = stop.stored;
        since = weaker m0.disk new.disk _ _ stop.since (λ c some. inr some);
        cause = caused served stop.cause;
      }

-- ---- a session's part, said of its start

-- what a part answers on the store at hand, said of the first store and the lines so far
pub line_here : (code : Image) (limits : Limits) (m0 m : Moment) (lines : List (List ℕ)) (full : List ℕ) (new : Moment) (result : Result ⊤ Served)
    → Answered code (items_from (items_of_line (by_machine code limits (area_of_store m0.store))) (state_of m0.store) lines) m0 m
    → Answers code (items_shown (items_of_line (by_machine code limits (area_of_store m.store))) (state_of m.store) full) m new result
    → Answers code (items_shown (items_of_line (by_machine code limits (area_of_store m0.store)))
    (state_after (state_of m0.store) (items_from (items_of_line (by_machine code limits (area_of_store m0.store))) (state_of m0.store) lines)) full) m new result
line_here code limits m0 m lines full new result was answers =
    subst (λ (s : StoreState). Answers code (items_shown (items_of_line (by_machine code limits (area_of_store m0.store))) s full) m new result) was.state
    (subst (λ (a : Option ℕ). Answers code (items_shown (items_of_line (by_machine code limits a)) (state_of m.store) full) m new result) was.area answers)

-- memory runs out before the first line
pub gives_up_first : (code : Image) (items : StoreState → List ℕ → List (SessionItem StoreState)) (store : Store) (input : SourceView) (output : SinkView) (disk : DiskView) → IsServing code (record { store = store; output = output; disk = disk })
    → Ends items (stands_where code store) (state_of store) (record { input = input; output = output; disk = disk }) (record { input = input; output = output; disk = disk }) Memory
gives_up_first code items store input output disk serving =
    let devices : Devices = record { input = input; output = output; disk = disk } in
    let at = reached input.left input.left false 0 (reads_none input.left input.left false 0 refl refl refl) (λ e. absurd (cc e)) in
    gives_up items (stands_where code store) (state_of store) devices devices at.input [] (items_from items (state_of store) (lines_of at.input)) at.is refl
    (gives_none output.written) (record { later = omega arith; each = λ t c le left. inl left }) (stands_through (program_of code) store disk serving.stands serving.at_rest)

module _ (code : Image) (items : StoreState → List ℕ → List (SessionItem StoreState)) (m0 m : Moment) where
  -- it ends before a line
  pub stopped_here : (old_input new_input : SourceView) (served : Served) (from now : LineReader) (read : Reading old_input.left from.pending from.ended from.handed) → (from.ended ≡ true → IsEnd from.pending) → IsStop from now served → old_input.faults ≤ from.faults
      → now.left ≡ new_input.left → now.faults ≡ new_input.faults → HasTaken old_input new_input now.taken → Answered code (items_from items (state_of m0.store) read.lines) m0 m
      → Ends items (stands_where code m0.store) (state_of m0.store) (record { input = old_input; output = m0.output; disk = m0.disk }) (record { input = new_input; output = m.output; disk = m.disk }) served
  stopped_here old_input new_input served from now read ends stop later left faults has was =
      stopped items (stands_where code m0.store) (state_of m0.store) (record { input = old_input; output = m0.output; disk = m0.disk }) (record { input = new_input; output = m.output; disk = m.disk })
      served from now read ends stop later left faults has was.given was.since
      (stands_now (program_of code) m.store m.disk (area_of_store m0.store) (state_after (state_of m0.store) (items_from items (state_of m0.store) read.lines)) was.area was.state was.serving.stands was.serving.at_rest)

  -- a line's stop, whatever follows
  pub stop_there : (served : Served) (lines : List (List ℕ)) (line : List ℕ) (new : Moment) → Answered code (items_from items (state_of m0.store) lines) m0 m
      → Stopped code served (items_shown items (state_after (state_of m0.store) (items_from items (state_of m0.store) lines)) line) m new
      → Stopped code served ((items_from items (state_of m0.store) lines ++ items_shown items (state_after (state_of m0.store) (items_from items (state_of m0.store) lines)) line) ++ []) m0 new
  stop_there served lines line new was stop =
      let xs = items_from items (state_of m0.store) lines in
      stopped_then code xs m0 m was (items_shown items (state_after (state_of m0.store) xs) line) [] served new stop

-- what a stop says of faults
pub record Counts (served : Served) (old new : Moment) : Type 0 where
  pub later_write : old.output.faults ≤ new.output.faults
  pub later_disk : old.disk.faults ≤ new.disk.faults
  pub calm : served ≢ WriteFault → served ≢ DiskFault → (new.output.faults ≡ old.output.faults) × (new.disk.faults ≡ old.disk.faults)
  pub once : new.output.faults + new.disk.faults ≤ old.output.faults + old.disk.faults + 1

pub stop_counts : (served : Served) (old new : Moment) → HasFault served old new → Counts served old new
stop_counts WriteFault old new fault = record {
  later_write = fault.0.later;
  later_disk = let e = fault.1 in omega (arith, e);
  calm = λ other more. absurd (other refl);
  once = let a = fault.0.once in let e = fault.1 in omega (arith, a, e);
}
stop_counts DiskFault old new fault = record {
  later_write = let e = fault.0 in omega (arith, e);
  later_disk = fault.1.later;
  calm = λ other more. absurd (more refl);
  once = let a = fault.1.once in let e = fault.0 in omega (arith, a, e);
}
stop_counts Memory old new fault = record {
  later_write = let e = fault.0 in omega (arith, e);
  later_disk = let e = fault.1 in omega (arith, e);
  calm = λ other more. fault;
  once = let a = fault.0 in let e = fault.1 in omega (arith, a, e);
}
stop_counts Done old new fault = absurd fault
stop_counts ReadFault old new fault = absurd fault
stop_counts Long old new fault = absurd fault
