-- A step that leaves all places of a frame as they are.
use Rattle.std.proofs.Common.{◌≡◌, ℕ, List, [], ◌∷◌, Option, refl, sym, ◌∙◌, subst, arith, inl}
use Rattle.ob_table.specs.Tables.{ClassTable}
use Rattle.ob_table_spec.specs.Conditions.{IsClassTable}
use Rattle.ob_silica.specs.Terms.{SilicaTerms}
use Rattle.ob_silica_steps.specs.Configurations.{Ends, plain_end, test_end, lock_end, loop_end, Rest, Control, runs, Configuration}
use Rattle.ob_heap_spec.specs.Worlds.{ReadItem}
use Rattle.ob_silica_places.specs.Places.{Location, slot, field}
use Rattle.ob_silica_steps.specs.Here.{Here, here, self_of, read}
use Rattle.ob_perm.specs.Permissions.{owns}
use Rattle.ob_silica_formed.specs.Holdings.{Holdings}
use Rattle.ob_flow_spec.specs.Contexts.{BodyFrame, Context}
use Rattle.ob_coherent_spec.specs.Counting.{Counted, any, in_all, owners}
use Rattle.ob_coherent_spec.specs.Runs.{around}
use Rattle.ob_coherent_spec.specs.Standing.{NeedsOwner}
use Rattle.ob_coherent_spec.specs.Saying.{Says, every}
use Rattle.ob_coherent_spec.specs.Remaining.{body_of, AreHeld, Remains}
use Rattle.ob_coherent_spec.specs.OpenTests.{IsTestOf, IsOpen, AreOpen}
use Rattle.ob_coherent_spec.specs.Coherent.{Beginning, IsRunning}
use Rattle.ob_soundness_laws.proofs.counting.Whole.{all_but_running}
use Rattle.ob_soundness_laws.specs.frames.Steps.{moved, IsQuietStep}
use Rattle.ob_soundness_laws.proofs.frames.Near.{keeps_itself}
use Rattle.ob_soundness_laws.proofs.frames.Own.{EndsSame, quiet_step_keeps}
use Rattle.ob_soundness_laws.specs.places.Placed.{cell_at, SameCells}
use Rattle.ob_soundness_laws.proofs.places.Writing.{stays_leaves}

-- What is read.

-- what a frame works on once these things have been read
abbrev pub having_read : Configuration → List ReadItem → Here
having_read c reads = record { slots = c.frame.slots; notes = c.notes; world = record c.world { reads = reads } }

-- no place changes by that
pub reads_leave : (c : Configuration) (reads : List ReadItem) → SameCells (here c) (having_read c reads)
reads_leave c reads = record {
  stays = record {
    this = refl;
    count = refl;
    contracts = λ n. refl;
    states = λ n. refl;
    fields = λ n k ne. refl;
    notes = λ n k ne. refl;
    shared = λ n e. e;
    disowned = λ n e. e;
    handles = refl;
    locked = refl;
    progress = refl;
  };
  same = places;
}
  where
    places : (q : Location) → cell_at (having_read c reads) q ≡ cell_at (here c) q
    places (slot n) = refl
    places (field n) = refl

read_same : (table : ClassTable) (c : Configuration) (reads : List ReadItem) (p : Location)
    → read table (having_read c reads) p ≡ read table (here c) p
read_same table c reads (slot k) = refl
read_same table c reads (field k) = refl

test_read : (b : BodyFrame) (c : Configuration) (reads : List ReadItem) (p : Location) (n : ℕ) → IsTestOf b (here c) p n
    → IsTestOf b (having_read c reads) p n
test_read b c reads p n a = record {
  inside = a.inside;
  cell = a.cell;
  found = read_same b.table c reads p
      ∙ a.found;
  object = a.object;
}

end_read : (b : BodyFrame) (c : Configuration) (reads : List ReadItem) (e : Ends) → IsOpen b (here c) e
    → IsOpen b (having_read c reads) e
end_read b c reads plain_end a = tt
end_read b c reads (test_end p) a = (a.0, test_read b c reads p (self_of c.frame.slots) a.1, a.2)
end_read b c reads (lock_end p n) a = (a.0, test_read b c reads p n a.1, a.2)
end_read b c reads (loop_end first x body end) a = a

-- open tests stay so
pub opens_read : (b : BodyFrame) (c : Configuration) (reads : List ReadItem) (outer : List Rest)
    → AreOpen b (here c) outer → AreOpen b (having_read c reads) outer
opens_read b c reads [] a = tt
opens_read b c reads (r ∷ outer) a = (end_read b c reads r.ends a.0, a.1, opens_read b c reads outer a.2)

-- What a frame runs.

runs_terms : (terms others : SilicaTerms) (outer more : List Rest) → runs terms outer ≡ runs others more
    → terms ≡ others
runs_terms terms others outer more e = cc

runs_outer : (terms others : SilicaTerms) (outer more : List Rest) → runs terms outer ≡ runs others more → outer ≡ more
runs_outer terms others outer more e = cc

module _ (table : ClassTable) (entry : Option ℕ) (beginning : Beginning) (c : Configuration)
    (k : IsRunning table entry beginning c)
    (terms : SilicaTerms) (outer : List Rest) (so : c.control ≡ runs terms outer) where
  -- what is left of a frame that runs these terms
  pub remains_so : Remains (body_of table c.frame k.whole.parts) k.holdings k.context terms outer
  remains_so = subst (λ (x : SilicaTerms). Remains (body_of table c.frame k.whole.parts) k.holdings k.context x outer)
      (runs_terms k.terms terms k.outer outer (sym k.control ∙ so))
      (subst (λ (x : List Rest). Remains (body_of table c.frame k.whole.parts) k.holdings k.context k.terms x)
      (runs_outer k.terms terms k.outer outer (sym k.control ∙ so)) k.remains)

  -- and its open tests
  pub opens_so : AreOpen (body_of table c.frame k.whole.parts) (here c) outer
  opens_so = subst (λ (x : List Rest). AreOpen (body_of table c.frame k.whole.parts) (here c) x)
      (runs_outer k.terms terms k.outer outer (sym k.control ∙ so)) k.opens

  -- the places count what they did
  pub counts_same : (counts : Counted) (n : ℕ) (reads : List ReadItem) (more : SilicaTerms) (lists : List Rest)
      → in_all counts n (moved c (having_read c reads) more lists) ≡ in_all counts n c
  counts_same counts n reads more lists = omega (
    arith,
    all_but_running counts n c (moved c (having_read c reads) more lists) terms more outer lists so refl refl
        refl,
  )

  -- Where nothing changes but what the frame runs, the step is quiet.
  pub nothing_changes : (reads : List ReadItem) (more : SilicaTerms) (lists : List Rest)
      → AreOpen (body_of table c.frame k.whole.parts) (here c) lists
      → IsQuietStep table c k.whole.parts (having_read c reads) more lists
  nothing_changes reads more lists opens = record {
    others = stays_leaves c (having_read c reads) (reads_leave c reads).stays;
    state = refl;
    locks = refl;
    this = refl;
    arguments = λ j x le e. keeps_itself (λ n. owners n (moved c (having_read c reads) more lists)) x
        (c.frame.slots j) e;
    unset = k.whole.frame.unset;
    slots = k.whole.slots;
    fields = k.whole.fields (self_of c.frame.slots);
    object = k.whole.objects (self_of c.frame.slots) k.whole.frame.there;
    opens = opens_read (body_of table c.frame k.whole.parts) c reads lists opens;
    owns_made = k.owns_made;
    fewer = λ n. let e = counts_same owns n reads more lists in omega (arith, e);
    keeps_owner = λ n need. let e = counts_same owns n reads more lists in omega (arith, e);
    newly_shared = λ n e d. absurd (cc);
    newly_disowned = λ n e d. absurd (cc);
    shares = λ e. inl e;
    unreferred = λ n has. let e = counts_same any n reads more lists in omega (arith, e);
  }

  -- Such a step leads to a coherent configuration, where the same tests end.
  pub unchanged_keeps : IsClassTable table → (reads : List ReadItem) (more : SilicaTerms) (lists : List Rest)
      → AreOpen (body_of table c.frame k.whole.parts) (here c) lists
      → EndsSame outer lists → (g : Context) → Says (body_of table c.frame k.whole.parts)
      (NeedsOwner table c.world.objects) g (here c) every
      → (i : Holdings) → AreHeld i c.frame.slots every → Remains (body_of table c.frame k.whole.parts) i g more lists
      → IsRunning table entry beginning (moved c (having_read c reads) more lists)
  unchanged_keeps t reads more lists opens same g says i held remains = quiet_step_keeps table entry beginning c
      (having_read c reads) more lists t k
      (subst (λ (x : Control). EndsSame (around x) lists) (sym so) same) (nothing_changes reads more lists opens) g
      (record { slots = says.slots; fields = says.fields; mode = says.mode }) i held remains

  -- Into a branch, after which no test ends.
  pub into_plain : IsClassTable table → (reads : List ReadItem) (more rest : SilicaTerms)
      → Remains (body_of table c.frame k.whole.parts) k.holdings k.context more
      (record { terms = rest; ends = plain_end } ∷ outer)
      → IsRunning table entry beginning (moved c (having_read c reads) more
      (record { terms = rest; ends = plain_end } ∷ outer))
  into_plain t reads more rest remains = unchanged_keeps t reads more
      (record { terms = rest; ends = plain_end } ∷ outer) (tt, tt, opens_so)
      (record { locks = λ n. omega arith; tests = λ n. omega arith }) k.context k.says k.holdings k.held remains
