-- Code with operands: fields are loaded, objects are marked, and an instruction uses the values.
use Rattle.std.proofs.Common.{◌≡◌, ℕ, ◌+◌, ◌<◌, List, [], ◌∷◌, ◌++◌, map, length, Some, Bool, true, false, Contains, refl, sym, ap, ◌∙◌, subst, arith}
use Rattle.std.specs.Prelude.{⊤, if◌then◌else◌}
use Rattle.std.proofs.lemmas.Bool.{true≢false}
use Rattle.std.proofs.lemmas.List.{append_assoc}
use Rattle.ob_perm.specs.Masks.{permission_of}
use Rattle.ob_perm.specs.Permissions.{is_shared}
use Rattle.ob_table.specs.declared.contract.ResolvedType.{ResolvedType}
use Rattle.ob_table.specs.declared.contract.ResolvedType.TheVariants as typed
use Rattle.ob_table.specs.declared.contract.Param.{Param}
use Rattle.ob_table.specs.Tables.{ClassTable}
use Rattle.ob_table.specs.declared.seen.Kind.{Kind}
use Rattle.ob_table.specs.declared.seen.Kind.TheVariants as kind
use Rattle.ob_table_spec.specs.WellFormed.{kind_of_resolved, serves_as, is_reference as refers}
use Rattle.ob_silica.specs.declared.place.Operand.{Operand}
use Rattle.ob_silica_places.specs.Parameters.{Parameter, parameter_of}
use Rattle.ob_silica_formed.specs.Holdings.{Holdings, kind_of_operand}
use Rattle.ob_silica_formed.specs.Points.{HasKind, IsReference, ArePassed}
use Rattle.ob_places_laws.proofs.Tables.{there_is}
use Rattle.ob_code.specs.declared.instruction.Instruction.{Instruction}
use Rattle.ob_code.specs.declared.instruction.Instruction.TheVariants as is
use Rattle.ob_verify_spec.specs.Kinds.{is_reference, fits}
use Rattle.ob_verify_spec.specs.Frames.{CodeFrame}
use Rattle.ob_verify_spec.specs.Instructions.{KindsOfSlots, Need, of_kind, any_value, any_reference, meets, passes, needs_of_args, done, effect}
use Rattle.ob_emit_spec.specs.Emission.{EmissionFrame}
use Rattle.ob_emit_spec.specs.Operands.{slot_read, slots_read, loads, share, shares}
use Rattle.ob_emit_verified.proofs.Flows.{Fit, fit_self, IsSound, IsCertified, IsPlain, certified_none, certified_one, certified_both, certified_after}
use Rattle.ob_emit_verified.proofs.Saying.{kinds_passed}
use Rattle.ob_emit_verified.proofs.Operands.{known_of, KnowsBelow, knows_itself, IsCodeOf, HoldsThis, good_slots, one_read, none_needed, more_needed, one_needed, IsReadFrom, AreReadFrom, HaveRoom, Loaded, load_all, still_below}

-- What operands meet.

-- a slot of which a kind is known that fits meets the need of that kind
pub kind_met : (c : CodeFrame) (known : KindsOfSlots) (k : ℕ) (x wanted : Kind) → known k ≡ Some x → fits c.image x wanted ≡ true
    → meets c.image known (of_kind k wanted) ≡ true
kind_met c known k x wanted e g = ap (passes (λ given. fits c.image given wanted)) e ∙ g

pub value_met : (c : CodeFrame) (known : KindsOfSlots) (k : ℕ) (x : Kind) → known k ≡ Some x
    → meets c.image known (any_value k) ≡ true
value_met c known k x e = ap (passes (λ given. true)) e

pub reference_met : (c : CodeFrame) (known : KindsOfSlots) (k : ℕ) (x : Kind) → known k ≡ Some x → is_reference x ≡ true
    → meets c.image known (any_reference k) ≡ true
reference_met c known k x e g = ap (passes is_reference) e ∙ g

pub operand_met : (c : CodeFrame) (f : EmissionFrame) → IsCodeOf c f
    → (h : Holdings) (known : KindsOfSlots) (k : ℕ) (wanted : Kind) (o : Operand) → HasKind f.static h wanted o
    → IsReadFrom c f.static h known k o → meets c.image known (of_kind k wanted) ≡ true
operand_met c f of h known k wanted o has read =
    let w = there_is (kind_of_operand f.static h o) _ has in
    kind_met c known k w.0 wanted (read.kind w.0 w.1) (of.says.serves wanted w.0 w.2)

same_refers : (x : Kind) → refers x ≡ is_reference x
same_refers (kind.Reference id) = refl
same_refers kind.Int = refl
same_refers kind.Bool = refl
same_refers kind.Text = refl

pub operand_refers : (c : CodeFrame) (f : EmissionFrame) (h : Holdings) (known : KindsOfSlots) (k : ℕ) (o : Operand)
    → IsReference f.static h o → IsReadFrom c f.static h known k o
    → meets c.image known (any_reference k) ≡ true
operand_refers c f h known k o has read =
    let w = there_is (kind_of_operand f.static h o) _ has in
    reference_met c known k w.0 (read.kind w.0 w.1) (sym (same_refers w.0) ∙ w.2)

-- Marks.

-- a slot may be marked where it holds a reference
abbrev pub MayShare : CodeFrame → KindsOfSlots → ResolvedType → ℕ → Type 0
MayShare c known (typed.Reference id p) a = (a < c.body.slots) × (meets c.image known (any_reference a) ≡ true)
MayShare c known of a = ⊤

sound_share : (c : CodeFrame) (known : KindsOfSlots) (a : ℕ) → a < c.body.slots → meets c.image known (any_reference a) ≡ true
    → IsSound c known (is.Share a)
sound_share c known a lt met = record { slots = good_slots c (is.Share a) (one_read c a lt) refl; fields = refl; calls = refl; met = one_needed c known (any_reference a) met }

share_if : (c : CodeFrame) (f : EmissionFrame) → IsCodeOf c f → (at : ℕ) (known : KindsOfSlots) (a : ℕ) (b : Bool)
    → a < c.body.slots → meets c.image known (any_reference a) ≡ true
    → IsCertified c at (if b then is.Share a ∷ [] else []) known false known
share_if c f of at known a true lt met = certified_one c at (is.Share a) known (refl, λ i. refl) (sound_share c known a lt met)
share_if c f of at known a false lt met = certified_none c of.says.alone at known known (fit_self c.image known)

no_mark : (c : CodeFrame) (f : EmissionFrame) → IsCodeOf c f → (at : ℕ) (known : KindsOfSlots)
    → IsCertified c at [] known false known
no_mark c f of at known = certified_none c of.says.alone at known known (fit_self c.image known)

pub certified_share : (c : CodeFrame) (f : EmissionFrame) → IsCodeOf c f
    → (at : ℕ) (known : KindsOfSlots) (a : ℕ) (of_type : ResolvedType) → MayShare c known of_type a
    → IsCertified c at (share of_type a) known false known
certified_share c f of at known a (typed.Reference id p) may = share_if c f of at known a (is_shared (permission_of p)) may.0 may.1
certified_share c f of at known a typed.Int may = no_mark c f of at known
certified_share c f of at known a typed.Bool may = no_mark c f of at known
certified_share c f of at known a typed.Text may = no_mark c f of at known

-- the same of several
abbrev pub MayShareAll : CodeFrame → KindsOfSlots → List ResolvedType → List ℕ → Type 0
MayShareAll c known [] slots = ⊤
MayShareAll c known (of ∷ types) [] = ⊤
MayShareAll c known (of ∷ types) (a ∷ slots) = MayShare c known of a × MayShareAll c known types slots

pub certified_shares : (c : CodeFrame) (f : EmissionFrame) → IsCodeOf c f
    → (at : ℕ) (known : KindsOfSlots) (types : List ResolvedType) (slots : List ℕ)
    → MayShareAll c known types slots → IsCertified c at (shares types slots) known false known
certified_shares c f of at known [] slots may = no_mark c f of at known
certified_shares c f of at known (t ∷ types) [] may = no_mark c f of at known
certified_shares c f of at known (t ∷ types) (a ∷ slots) may =
    certified_both c at (share t a) (shares types slots) known known known false (certified_share c f of at known a t may.0)
    (certified_shares c f of (at + length (share t a)) known types slots may.1)

reference_serves : (table : ClassTable) (wanted x : Kind) → refers wanted ≡ true → serves_as table wanted x ≡ true
    → is_reference x ≡ true
reference_serves table (kind.Reference i) (kind.Reference d) e g = refl
reference_serves table (kind.Reference i) kind.Int e g = absurd (true≢false (sym g))
reference_serves table (kind.Reference i) kind.Bool e g = absurd (true≢false (sym g))
reference_serves table (kind.Reference i) kind.Text e g = absurd (true≢false (sym g))
reference_serves table kind.Int x e g = absurd (true≢false (sym e))
reference_serves table kind.Bool x e g = absurd (true≢false (sym e))
reference_serves table kind.Text x e g = absurd (true≢false (sym e))

-- a value that serves as one of a type may be marked as one
pub operand_shared : (c : CodeFrame) (f : EmissionFrame) (h : Holdings) (known : KindsOfSlots) (k : ℕ) (t : ResolvedType)
    (o : Operand) → HasKind f.static h (kind_of_resolved t) o
    → IsReadFrom c f.static h known k o → MayShare c known t k
operand_shared c f h known k (typed.Reference id p) o has read =
    let w = there_is (kind_of_operand f.static h o) _ has in
    (read.within, reference_met c known k w.0 (read.kind w.0 w.1) (reference_serves f.static.table (kind.Reference id) w.0 refl w.2))
operand_shared c f h known k typed.Int o has read = tt
operand_shared c f h known k typed.Bool o has read = tt
operand_shared c f h known k typed.Text o has read = tt

-- Arguments.

pub passed_shared : (c : CodeFrame) (f : EmissionFrame) (h : Holdings) (known : KindsOfSlots) (n : ℕ) (ps : List Param)
    (os : List Operand) → ArePassed f.static h ps os
    → AreReadFrom c f h known n os → MayShareAll c known (map (λ (p : Parameter). p.of) (map parameter_of ps)) (slots_read f.scratch n os)
passed_shared c f h known n [] [] passed read = tt
passed_shared c f h known n [] (o ∷ os) passed read = tt
passed_shared c f h known n (p ∷ ps) [] passed read = tt
passed_shared c f h known n (p ∷ ps) (o ∷ os) passed read =
    (operand_shared c f h known (slot_read f.scratch n o.place) p.of o passed.0 read.0, passed_shared c f h known (n + 1) ps os passed.1 read.1)

pub passed_met : (c : CodeFrame) (f : EmissionFrame) → IsCodeOf c f
    → (h : Holdings) (known : KindsOfSlots) (n : ℕ) (ps : List Param) (os : List Operand) → ArePassed f.static h ps os
    → AreReadFrom c f h known n os → (m : Need) → Contains (needs_of_args (slots_read f.scratch n os) (kinds_passed ps)) m → meets c.image known m ≡ true
passed_met c f of h known n [] [] passed read = none_needed c known
passed_met c f of h known n [] (o ∷ os) passed read = none_needed c known
passed_met c f of h known n (p ∷ ps) [] passed read = none_needed c known
passed_met c f of h known n (p ∷ ps) (o ∷ os) passed read =
    more_needed c known (of_kind (slot_read f.scratch n o.place) (kind_of_resolved p.of)) (needs_of_args (slots_read f.scratch (n + 1) os) (kinds_passed ps))
    (operand_met c f of h known (slot_read f.scratch n o.place) (kind_of_resolved p.of) o passed.0 read.0) (passed_met c f of h known (n + 1) ps os passed.1 read.1)

pub passed_count : (f : EmissionFrame) (h : Holdings) (n : ℕ) (ps : List Param) (os : List Operand) → ArePassed f.static h ps os
    → length (slots_read f.scratch n os) ≡ length ps
passed_count f h n [] [] passed = refl
passed_count f h n [] (o ∷ os) passed = absurd passed
passed_count f h n (p ∷ ps) [] passed = absurd passed
passed_count f h n (p ∷ ps) (o ∷ os) passed = let e = passed_count f h (n + 1) ps os passed.1 in omega arith

-- Loads, marks and an instruction.

-- what is known where the operands of a form were loaded
pub record KnowsOperands (c : CodeFrame) (f : EmissionFrame) (h : Holdings) (os : List Operand) (known : KindsOfSlots) : Type 0 where
  pub below : KnowsBelow f.scratch h known
  pub read : AreReadFrom c f h known 0 os

pub operands_known : (c : CodeFrame) (f : EmissionFrame) → IsCodeOf c f → (h : Holdings) → HoldsThis f h
    → (at : ℕ) (os : List Operand) → HaveRoom c f 0 os
    → (l : Loaded c f h at 0 os (known_of f.scratch h)) × KnowsOperands c f h os l.after
operands_known c f of h this at os room =
    let l = load_all c f of h this at 0 os (known_of f.scratch h) room (knows_itself f.scratch h) in
    (l, record { below = still_below c f h at 0 os (known_of f.scratch h) (knows_itself f.scratch h) l; read = l.read })

-- operands are loaded, and then code runs that is certified wherever they are known
pub loaded_then : (c : CodeFrame) (f : EmissionFrame) → IsCodeOf c f → (h after : Holdings) → HoldsThis f h
    → (at : ℕ) (os : List Operand) (code : List Instruction)
    (ended : Bool) → HaveRoom c f 0 os
    → ((known : KindsOfSlots) → KnowsOperands c f h os known → IsCertified c (at + length (loads f.scratch 0 os)) code known ended (known_of f.scratch after))
    → IsCertified c at (loads f.scratch 0 os ++ code) (known_of f.scratch h) ended (known_of f.scratch after)
loaded_then c f of h after this at os code ended room next =
    let l = operands_known c f of h this at os room in
    certified_both c at (loads f.scratch 0 os) code (known_of f.scratch h) l.0.after (known_of f.scratch after) ended l.0.code (next l.0.after l.1)

-- the same code, grouped otherwise
pub regrouped : (c : CodeFrame) (at : ℕ) (xs ys zs : List Instruction) (before after : KindsOfSlots) (ended : Bool)
    → IsCertified c at (xs ++ (ys ++ zs)) before ended after
    → IsCertified c at (xs ++ ys ++ zs) before ended after
regrouped c at xs ys zs before after ended h = subst (λ z. IsCertified c at z before ended after) (sym (append_assoc xs ys zs)) h

-- an instruction that leads on
pub one_then : (c : CodeFrame) (f : EmissionFrame) → IsCodeOf c f
    → (after : Holdings) (at : ℕ) (x : Instruction) (known : KindsOfSlots) → IsPlain x → IsSound c known x
    → Fit c.image (known_of f.scratch after) (done (effect c x) known) → IsCertified c at (x ∷ []) known false (known_of f.scratch after)
one_then c f of after at x known plain sound fit =
    certified_after c of.says.alone at (x ∷ []) known (done (effect c x) known) (known_of f.scratch after) false fit (certified_one c at x known plain sound)
