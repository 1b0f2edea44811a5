-- Frames that wait go on waiting where a call of an object that isn't theirs has ended.
use Rattle.std.proofs.Common.{◌≡◌, ◌≢◌, ℕ, ◌+◌, ◌<◌, ◌⊎◌, inl, inr, Bool, List, [], ◌∷◌, refl, sym, ◌∙◌, subst, arith}
use Rattle.ob_table.specs.Tables.{ClassTable}
use Rattle.ob_heap_spec.specs.Worlds.{World}
use Rattle.ob_silica_places.specs.Places.{Location, slot, field}
use Rattle.ob_silica_steps.specs.Configurations.{How, by_receiver, by_this, by_new, SilicaFrame, Ends, plain_end, test_end, lock_end, loop_end, Rest, Loan, Waiting, Notes, Configuration}
use Rattle.ob_silica_steps.specs.Here.{self_of, read}
use Rattle.ob_flow_spec.specs.Contexts.{BodyFrame, Context}
use Rattle.ob_coherent_spec.specs.Runs.{times, tests_among, entered_among}
use Rattle.ob_coherent_spec.specs.Saying.{Says}
use Rattle.ob_coherent_spec.specs.Remaining.{BodyParts}
use Rattle.ob_coherent_spec.specs.OpenTests.{IsTestOf, IsOpen, AreOpen}
use Rattle.ob_coherent_spec.specs.Waiting.{tests_of, SharesThis, waiting_here, is_settled, AreLoans, IsNotAmong, IsApart, Waits, AllWait}
use Rattle.ob_soundness_laws.proofs.frames.Near.{IsAmong}
use Rattle.ob_soundness_laws.proofs.counting.Frames.{tests_other, entered_other}

not_that : (n me : ℕ) (above : List ℕ) → IsNotAmong n above → IsAmong me above → n ≢ me
not_that n me [] a h e = absurd h
not_that n me (m ∷ above) a (inl h) e = a.0 (e ∙ h)
not_that n me (m ∷ above) a (inr h) e = not_that n me above a.1 h e

-- a frame's object isn't one of the frames above, unless the frame above is of the same one
pub is_far : (how : How) (n m me : ℕ) (above : List ℕ) → IsApart how n above m → IsAmong me above → m ≢ me → n ≢ me
is_far by_this n m me above apart inside far = λ e. far (sym apart ∙ e)
is_far by_receiver n m me above apart inside far = not_that n me above apart inside
is_far by_new n m me above apart inside far = not_that n me above apart inside

fewer_apart : (how : How) (n m : ℕ) (above below : List ℕ) → ((i : ℕ) → IsNotAmong i above → IsNotAmong i below)
    → IsApart how n above m → IsApart how n below m
fewer_apart by_this n m above below fewer a = a
fewer_apart by_receiver n m above below fewer a = fewer n a
fewer_apart by_new n m above below fewer a = fewer n a

-- Frames below one of another object.

module _ (table : ClassTable) (N : ℕ → Type 0) (c : Configuration) (me : ℕ) where
  pub far_tests : (callee : SilicaFrame) (called : BodyParts) (above : List ℕ) (tests : ℕ → ℕ) (hs : List Waiting)
      → IsAmong me above → self_of callee.slots ≢ me → AllWait table N c callee called above tests hs → tests_among me
      hs ≡ 0
  far_tests callee called above tests [] inside far w = refl
  far_tests callee called above tests (h ∷ hs) inside far (w, ws) =
      let other = is_far callee.how (self_of h.frame.slots) (self_of callee.slots) me above w.apart inside far in
      let none = tests_other me h.frame.slots h.outer other in
      let rest = far_tests h.frame w.parts (self_of h.frame.slots ∷ above) (λ n. tests_of n h.frame.slots h.outer +
      tests n) hs (inr inside) other ws in
      omega arith

  pub far_entered : (callee : SilicaFrame) (called : BodyParts) (above : List ℕ) (tests : ℕ → ℕ) (hs : List Waiting)
      → IsAmong me above → self_of callee.slots ≢ me → AllWait table N c callee called above tests hs → entered_among me
      hs ≡ 0
  far_entered callee called above tests [] inside far w = refl
  far_entered callee called above tests (h ∷ hs) inside far (w, ws) =
      let other = is_far callee.how (self_of h.frame.slots) (self_of callee.slots) me above w.apart inside far in
      let none = entered_other me h.frame.how h.frame.slots other in
      let rest = far_entered h.frame w.parts (self_of h.frame.slots ∷ above) (λ n. tests_of n h.frame.slots h.outer +
      tests n) hs (inr inside) other ws in
      omega arith

-- Progress.

-- the same world with other transactions in progress
abbrev pub with_progress : World → List ℕ → World
with_progress w ps = record w { progress = ps }

-- the same configuration with others
abbrev pub progressed : Configuration → List ℕ → Configuration
progressed c ps = record c { world = with_progress c.world ps }

pub read_progressed : (table : ClassTable) (notes : Notes) (w : World) (ps : List ℕ) (h : Waiting) (p : Location)
    → read table (waiting_here notes (with_progress w ps) h) p ≡ read table (waiting_here notes w h) p
read_progressed table notes w ps h (slot k) = refl
read_progressed table notes w ps h (field k) = refl

module _ (b : BodyFrame) (notes : Notes) (w : World) (ps : List ℕ) (h : Waiting) where
  test_progressed : (p : Location) (n : ℕ) → IsTestOf b (waiting_here notes w h) p n → IsTestOf b (waiting_here notes
      (with_progress w ps) h) p n
  test_progressed p n a = record {
    inside = a.inside;
    cell = a.cell;
    found = read_progressed b.table notes w ps h p
        ∙ a.found;
    object = a.object;
  }

  open_progressed : (e : Ends) → IsOpen b (waiting_here notes w h) e → IsOpen b (waiting_here notes (with_progress w ps)
      h) e
  open_progressed plain_end a = tt
  open_progressed (test_end p) a = (a.0, test_progressed p (self_of h.frame.slots) a.1, a.2)
  open_progressed (lock_end p n) a = (a.0, test_progressed p n a.1, a.2)
  open_progressed (loop_end first x body end) a = a

  pub opens_progressed : (outer : List Rest) → AreOpen b (waiting_here notes w h) outer → AreOpen b (waiting_here notes
      (with_progress w ps) h) outer
  opens_progressed [] a = tt
  opens_progressed (r ∷ outer) a = (open_progressed r.ends a.0, a.1, opens_progressed outer a.2)

pub says_progressed : (b : BodyFrame) (N : ℕ → Type 0) (g : Context) (notes : Notes) (w : World) (ps : List ℕ)
    (h : Waiting) (free : Location → Bool)
    → Says b N g (waiting_here notes w h) free → Says b N g (waiting_here notes (with_progress w ps) h) free
says_progressed b N g notes w ps h free s = record { slots = s.slots; fields = s.fields; mode = s.mode }

module _ (table : ClassTable) (N : ℕ → Type 0) (c : Configuration) (ps : List ℕ) (me : ℕ)
    (kept : (n : ℕ) → n ≢ me → 0 < times n c.world.progress → 0 < times n ps) where
  -- a frame is of another object, or nothing has ended
  abbrev pub IsAside : ℕ → Type 0
  IsAside n = (ps ≡ c.world.progress) ⊎ (n ≢ me)

  kept_aside : (n : ℕ) → IsAside n → 0 < times n c.world.progress → 0 < times n ps
  kept_aside n (inl e) has = subst (λ l. 0 < times n l) (sym e) has
  kept_aside n (inr far) has = kept n far has

  aside_too : (how : How) (n m : ℕ) (above : List ℕ) → IsApart how n above m → IsAmong me above → IsAside m → IsAside n
  aside_too how n m above apart inside (inl e) = inl e
  aside_too how n m above apart inside (inr far) = inr (is_far how n m me above apart inside far)

  loans_progressed : (callee : SilicaFrame) (called : BodyParts) (tests : ℕ → ℕ) (h : Waiting) (g : Context)
      (ls : List Loan)
      → AreLoans table c callee called tests (waiting_here c.notes c.world h) g ls
      → AreLoans table (progressed c ps) callee called tests (waiting_here c.notes (with_progress c.world ps) h) g ls
  loans_progressed callee called tests h g [] a = tt
  loans_progressed callee called tests h g (l ∷ ls) a = (
    record {
      cell = a.0.cell;
      place = read_progressed table c.notes c.world ps h l.place ∙ a.0.place;
      lent = a.0.lent;
      parameter = a.0.parameter;
      param = a.0.param;
      given = a.0.given;
      found = a.0.found;
      same = a.0.same;
      serves = a.0.serves;
      kind = a.0.kind;
      exit = a.0.exit;
      gone = a.0.gone;
    },
    a.1,
    a.2,
    loans_progressed callee called tests h g ls a.3,
  )

  pub shares_progressed : (f : SilicaFrame) (above : ℕ) → IsAside (self_of f.slots) → SharesThis f c above → SharesThis
      f (progressed c ps) above
  shares_progressed f above far s e = (kept_aside (self_of f.slots) far (s e).0, (s e).1)

  waits_progressed : (callee : SilicaFrame) (called : BodyParts) (above below : List ℕ) (tests : ℕ → ℕ) (h : Waiting)
      → IsAside (self_of h.frame.slots) → ((i : ℕ) → IsNotAmong i above → IsNotAmong i below)
      → Waits table N c callee called above tests h → Waits table N (progressed c ps) callee called below tests h
  waits_progressed callee called above below tests h far fewer w = record {
    parts = w.parts;
    context = w.context;
    holdings = w.holdings;
    frame = w.frame;
    owns_made = w.owns_made;
    cells = w.cells;
    says = says_progressed _ N w.context c.notes c.world ps h (is_settled callee.how h) w.says;
    held = w.held;
    result_held = w.result_held;
    remains = w.remains;
    opens = opens_progressed _ c.notes c.world ps h h.outer w.opens;
    open_slots = w.open_slots;
    loans = loans_progressed callee called tests h w.context h.loans w.loans;
    lent_slots = w.lent_slots;
    placed = w.placed;
    apart = fewer_apart callee.how _ _ above below fewer w.apart;
    back = w.back;
    no_constructor = w.no_constructor;
    result = w.result;
    shares = shares_progressed h.frame _ far w.shares;
    share_entered = w.share_entered;
  }

  -- all frames go on waiting that aren't of the object that is left
  pub all_progressed : (callee : SilicaFrame) (called : BodyParts) (above below : List ℕ) (tests : ℕ → ℕ)
      (hs : List Waiting)
      → IsAmong me above → IsAside (self_of callee.slots) → ((i : ℕ) → IsNotAmong i above → IsNotAmong i below)
      → AllWait table N c callee called above tests hs → AllWait table N (progressed c ps) callee called below tests hs
  unfolding waits_progressed
  all_progressed callee called above below tests [] inside far fewer w = w
  all_progressed callee called above below tests (h ∷ hs) inside far fewer (w, ws) =
      let other = aside_too callee.how (self_of h.frame.slots) (self_of callee.slots) above w.apart inside far in (
        waits_progressed callee called above below tests h other fewer w,
        all_progressed h.frame w.parts (self_of h.frame.slots ∷ above) (self_of h.frame.slots ∷ below)
            (λ n. tests_of n h.frame.slots h.outer + tests n) hs (inr inside) other (λ i a. (a.0, fewer i a.1)) ws,
      )
