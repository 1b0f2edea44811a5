-- Code whose targets are written back is the code at its place.
use Rattle.std.proofs.Common.{◌≡◌, ℕ, zero, suc, ◌+◌, Bool, true, false, List, [], ◌∷◌, ◌++◌, length, refl, sym, ap, ◌∙◌, arith, append_assoc, length-append}
use Rattle.std.specs.Prelude.{not, slice_set, if◌then◌else◌}
use Rattle.std.proofs.lemmas.List.{append-nil}
use Rattle.ob_base.specs.declared.id.ContractId.{ContractId}
use Rattle.ob_table.specs.declared.contract.Param.{Param}
use Rattle.ob_silica.specs.Terms.{SilicaForm, unit_form, const_form, op_form, copy_form, move_form, new_form, call_form, call_this_form, change_form, test_form, if_form, loop_form, assert_form, disown_form, drop_form, return_form, revert_form, bad_row_form, SilicaTerms, no_terms, and_term}
use Rattle.ob_silica.specs.declared.place.Operand.{Operand}
use Rattle.ob_silica_formed.specs.Holdings.{Holdings, terms_end, after_form, after_terms, at_head, held_at_start}
use Rattle.ob_code.specs.declared.instruction.Instruction.{Instruction}
use Rattle.ob_code.specs.declared.instruction.Instruction.TheVariants as instruction
use Rattle.ob_emit_spec.specs.Operands.{slot_read, loads}
use Rattle.ob_emit_spec.specs.Emission.{EmissionFrame, jumps_over, jump_if, after_branch, choice_code, turn_code, form_code, terms_code, contract_referred, after_load}
use Rattle.ob_silica_kinds.specs.Kinds.{kinds_held, kinds_after}
use Rattle.ob_silica_kinds.proofs.HeldLemmas.{kind_same, form_held, terms_held, head_held}
use Rattle.ob_emit.specs.Making.{chooses, jumps_over_terms, test_ended, between, landed, choice_made, loop_made, choice_of_value, choice_of_state, with_operand, form_made, terms_made}
use Rattle.ob_emit.specs.declared.code.Choice.{Choice}
use Rattle.ob_emit.specs.declared.code.Choice.TheVariants as choice

-- Choices.

-- the instruction behind others is set
set_behind : (code : List Instruction) (x y : Instruction) (rest : List Instruction) (place : ℕ) → place ≡ length code
    → slice_set (code ++ x ∷ rest) place y ≡ code ++ y ∷ rest
set_behind [] x y rest zero e = refl
set_behind [] x y rest (suc n) e = absurd (omega (arith, e))
set_behind (z ∷ code) x y rest zero e = absurd (omega (arith, e))
set_behind (z ∷ code) x y rest (suc n) e = ap (λ l. z ∷ l) (set_behind code x y rest n (omega (arith, e)))

behind : (code : List Instruction) (x : Instruction) (more : List Instruction) → (code ++ x ∷ []) ++ more ≡ code ++ x ∷ more
behind code x more = append_assoc code (x ∷ []) more

length_jump : (jumps : Bool) (target : ℕ) → length (jump_if jumps target) ≡ (if jumps then 1 else 0)
length_jump true target = refl
length_jump false target = refl

-- how long code is after a choice and its branch
length_first : (code : List Instruction) (x : Instruction) (b : List Instruction) (jumps : Bool) (target : ℕ)
    → length (code ++ (x ∷ (b ++ jump_if jumps target))) ≡ after_branch (length code + 1) b jumps
length_first code x b jumps target =
    sum (length (code ++ (x ∷ (b ++ jump_if jumps target)))) (length code) (length (b ++ jump_if jumps target)) (length b)
    (length (jump_if jumps target)) (if jumps then 1 else 0)
    (length-append code (x ∷ (b ++ jump_if jumps target))) (length-append b (jump_if jumps target)) (length_jump jumps target)
  where
    sum : (whole c m l j k : ℕ) → whole ≡ c + suc m → m ≡ l + j → j ≡ k → whole ≡ (c + 1 + l) + k
    sum whole c m l j k a b d = omega (arith, a, b, d)

-- between the branches: the target of the choice is known
middle : (code : List Instruction) (c : Choice) (b : List Instruction) (jumps : Bool) (to : ℕ)
    → between c jumps to (length code) (code ++ (chooses c 0 ∷ b))
    ≡ code ++ (chooses c (after_branch (length code + 1) b jumps) ∷ (b ++ jump_if jumps to))
middle code c b jumps to =
    ap (λ l. slice_set l (length code) (chooses c (length l))) (append_assoc code (chooses c 0 ∷ b) (jump_if jumps to))
    ∙ ap (λ n. slice_set (code ++ (chooses c 0 ∷ (b ++ jump_if jumps to))) (length code) (chooses c n))
    (length_first code (chooses c 0) b jumps to)
    ∙ set_behind code (chooses c 0) (chooses c (after_branch (length code + 1) b jumps)) (b ++ jump_if jumps to) (length code) refl

-- after both branches: the target of the jump is known
end : (code : List Instruction) (x : Instruction) (b o : List Instruction) (jumps : Bool) (place target : ℕ)
    → place ≡ length (code ++ (x ∷ b)) → target ≡ length ((code ++ (x ∷ (b ++ jump_if jumps 0))) ++ o)
    → landed jumps place ((code ++ (x ∷ (b ++ jump_if jumps 0))) ++ o) ≡ code ++ (((x ∷ b) ++ jump_if jumps target) ++ o)
end code x b o false place target p t = append_assoc code (x ∷ (b ++ [])) o
end code x b o true place target p t =
    ap (λ n. slice_set ((code ++ (x ∷ (b ++ (instruction.Jump 0 ∷ [])))) ++ o) place (instruction.Jump n)) (sym t)
    ∙ ap (λ l. slice_set l place (instruction.Jump target))
    (ap (λ l. l ++ o) (sym (append_assoc code (x ∷ b) (instruction.Jump 0 ∷ [])))
    ∙ append_assoc (code ++ (x ∷ b)) (instruction.Jump 0 ∷ []) o)
    ∙ set_behind (code ++ (x ∷ b)) (instruction.Jump 0) (instruction.Jump target) o place p
    ∙ append_assoc code (x ∷ b) (instruction.Jump target ∷ o)
    ∙ ap (λ l. code ++ (x ∷ l)) (sym (append_assoc b (instruction.Jump target ∷ []) o))

-- a choice whose branches put their code at its place
pub choice_placed : (c : Choice) (jumps : Bool) (branch other : List Instruction → List Instruction) (b o : ℕ → List Instruction)
    (code : List Instruction)
    → ((x : List Instruction) → branch x ≡ x ++ b (length x)) → ((x : List Instruction) → other x ≡ x ++ o (length x))
    → choice_made c jumps branch other code
    ≡ code ++ choice_code (length code) (chooses c) jumps (b (length code + 1))
    (o (after_branch (length code + 1) (b (length code + 1)) jumps))
choice_placed c jumps branch other b o code pb po =
    ap (λ l. landed jumps (length l) (other (between c jumps 0 (length code) l))) first
    ∙ ap (λ l. landed jumps (length (code ++ (chooses c 0 ∷ B))) (other l)) (middle code c B jumps 0)
    ∙ ap (λ l. landed jumps (length (code ++ (chooses c 0 ∷ B))) l) (po mid)
    ∙ ap (λ n. landed jumps (length (code ++ (chooses c 0 ∷ B))) (mid ++ o n)) (length_first code (chooses c T) B jumps 0)
    ∙ end code (chooses c T) B (o T) jumps (length (code ++ (chooses c 0 ∷ B))) (T + length (o T)) same_length whole
  where
    B : List Instruction
    B = b (length code + 1)

    T : ℕ
    T = after_branch (length code + 1) B jumps

    mid : List Instruction
    mid = code ++ (chooses c T ∷ (B ++ jump_if jumps 0))

    first : branch (code ++ (chooses c 0 ∷ [])) ≡ code ++ (chooses c 0 ∷ B)
    first = pb (code ++ (chooses c 0 ∷ []))
        ∙ ap (λ n. (code ++ (chooses c 0 ∷ [])) ++ b n) (length-append code (chooses c 0 ∷ []))
        ∙ behind code (chooses c 0) B

    same_length : length (code ++ (chooses c 0 ∷ B)) ≡ length (code ++ (chooses c T ∷ B))
    same_length = length-append code (chooses c 0 ∷ B) ∙ sym (length-append code (chooses c T ∷ B))

    whole : T + length (o T) ≡ length (mid ++ o T)
    whole = sym (length-append mid (o T) ∙ ap (λ n. n + length (o T)) (length_first code (chooses c T) B jumps 0))

-- a choice at a place, after its operand
abbrev chosen : EmissionFrame → Operand → Choice → Bool → (ℕ → List Instruction) → (ℕ → List Instruction) → ℕ → List Instruction
chosen f place c jumps b o at =
    choice_code at (chooses c) jumps (b (at + 1)) (o (after_branch (at + 1) (b (at + 1)) jumps))

choice_after : (f : EmissionFrame) (place : Operand) (c : Choice) (jumps : Bool) (b o : ℕ → List Instruction)
    (code : List Instruction)
    → with_operand f place code ++ chosen f place c jumps b o (length (with_operand f place code))
    ≡ code ++ (loads f.scratch 0 (place ∷ []) ++ chosen f place c jumps b o (after_load f place (length code)))
choice_after f place c jumps b o code =
    ap (λ n. with_operand f place code ++ chosen f place c jumps b o n) (length-append code (loads f.scratch 0 (place ∷ [])))
    ∙ append_assoc code (loads f.scratch 0 (place ∷ [])) (chosen f place c jumps b o (after_load f place (length code)))

jumps_same : (branch other : SilicaTerms) → jumps_over_terms (terms_end branch) other ≡ jumps_over branch other
jumps_same branch no_terms = refl
jumps_same branch (and_term form span rest) = refl

-- Loops.

sum_of : (c w l m : ℕ) → w ≡ l + m → c + w ≡ c + l + m
sum_of c w l m e = omega (arith, e)

-- a loop whose parts put their code at its place
loop_placed : (c : Choice) (again : Bool) (first body : List Instruction → List Instruction) (F B : ℕ → List Instruction)
    (code : List Instruction)
    → ((x : List Instruction) → first x ≡ x ++ F (length x)) → ((x : List Instruction) → body x ≡ x ++ B (length x))
    → loop_made c again first body code
    ≡ code ++ (F (length code) ++ (chooses c
    (after_branch (length code + length (F (length code)) + 1) (B (length code + length (F (length code)) + 1)) again)
    ∷ (B (length code + length (F (length code)) + 1) ++ jump_if again (length code))))
loop_placed c again first body F B code pf pb =
    ap (λ l. between c again (length code) (length l) (body (l ++ chooses c 0 ∷ []))) (pf code)
    ∙ ap (λ l. between c again (length code) (length X) l) inside
    ∙ middle X c (B (length X + 1)) again (length code)
    ∙ ap (λ n. X ++ (chooses c (after_branch (n + 1) (B (n + 1)) again) ∷ (B (n + 1) ++ jump_if again (length code))))
    (length-append code (F (length code)))
    ∙ append_assoc code (F (length code)) _
  where
    X : List Instruction
    X = code ++ F (length code)

    inside : body (X ++ (chooses c 0 ∷ [])) ≡ X ++ (chooses c 0 ∷ B (length X + 1))
    inside = pb (X ++ (chooses c 0 ∷ []))
        ∙ ap (λ n. (X ++ (chooses c 0 ∷ [])) ++ B n) (length-append X (chooses c 0 ∷ []))
        ∙ behind X (chooses c 0) (B (length X + 1))

-- Terms.

mutual
  -- the code after a form ends with the form's code at its place
  pub form_placed : (f : EmissionFrame) (h : Holdings) (form : SilicaForm) (code : List Instruction)
      → form_made f (kinds_held h) form code ≡ code ++ form_code f h form (length code)
  form_placed f h unit_form code = refl
  form_placed f h (const_form k value) code = refl
  form_placed f h (op_form k operator a b line) code = refl
  form_placed f h (copy_form to from) code = refl
  form_placed f h (move_form to from contract) code = refl
  form_placed f h (new_form k contract args) code = refl
  form_placed f h (call_form k receiver contract tx args) code = refl
  form_placed f h (call_this_form k tx args) code = refl
  form_placed f h (change_form state given) code = refl
  form_placed f h (test_form o state branch other join) code =
      let C = choice_of_state f (kinds_held h) o state in
      let at_end = λ (x : List Instruction).
      ap (λ l. l ++ test_ended (terms_end branch)) (terms_placed f h branch x)
      ∙ append_assoc x (terms_code f h branch (length x)) (test_ended (terms_end branch)) in
      choice_placed C (jumps_over_terms (terms_end branch) other)
      (λ x. terms_made f (kinds_held h) branch x ++ test_ended (terms_end branch)) (λ x. terms_made f (kinds_held h) other x)
      (λ n. terms_code f h branch n ++ test_ended (terms_end branch)) (λ n. terms_code f h other n) (with_operand f o code)
      at_end (λ x. terms_placed f h other x)
      ∙ choice_after f o C (jumps_over_terms (terms_end branch) other)
      (λ n. terms_code f h branch n ++ test_ended (terms_end branch)) (λ n. terms_code f h other n) code
      ∙ ap (λ jumps. code ++ (loads f.scratch 0 (o ∷ []) ++ chosen f o C jumps
      (λ n. terms_code f h branch n ++ test_ended (terms_end branch)) (λ n. terms_code f h other n)
      (after_load f o (length code))))
      (jumps_same branch other)
      ∙ ap (λ kind. code ++ (loads f.scratch 0 (o ∷ [])
      ++ chosen f o (choice.State (slot_read f.scratch 0 o.place) (contract_referred kind) state) (jumps_over branch other)
      (λ n. terms_code f h branch n ++ test_ended (terms_end branch)) (λ n. terms_code f h other n)
      (after_load f o (length code))))
      (kind_same f.static h o.place)
  form_placed f h (if_form o branch other join) code =
      let C = choice_of_value f o in
      choice_placed C (jumps_over_terms (terms_end branch) other)
      (λ x. terms_made f (kinds_held h) branch x) (λ x. terms_made f (kinds_held h) other x)
      (λ n. terms_code f h branch n) (λ n. terms_code f h other n) (with_operand f o code)
      (λ x. terms_placed f h branch x) (λ x. terms_placed f h other x)
      ∙ choice_after f o C (jumps_over_terms (terms_end branch) other) (λ n. terms_code f h branch n)
      (λ n. terms_code f h other n) code
      ∙ ap (λ jumps. code ++ (loads f.scratch 0 (o ∷ []) ++ chosen f o C jumps
      (λ n. terms_code f h branch n) (λ n. terms_code f h other n) (after_load f o (length code))))
      (jumps_same branch other)
  form_placed f h (loop_form first o body end) code =
      let again = not (terms_end body) in
      let head = at_head f.static first body h in
      let inside = after_terms f.static first head in
      let a = slot_read f.scratch 0 o.place in
      let L = loads f.scratch 0 (o ∷ []) in
      let C = choice_of_value f o in
      ap (λ ks. loop_made C again (λ x. with_operand f o (terms_made f ks first x))
      (λ x. terms_made f (kinds_after f.static first ks) body x) code) (head_held f.static h first body)
      ∙ ap (λ ks. loop_made C again (λ x. with_operand f o (terms_made f (kinds_held head) first x)) (λ x. terms_made f ks body x) code)
      (terms_held f.static first head)
      ∙ loop_placed C again (λ x. with_operand f o (terms_made f (kinds_held head) first x))
      (λ x. terms_made f (kinds_held inside) body x) (λ n. terms_code f head first n ++ L) (λ n. terms_code f inside body n) code
      (λ x. ap (λ l. l ++ L) (terms_placed f head first x) ∙ append_assoc x (terms_code f head first (length x)) L)
      (λ x. terms_placed f inside body x)
      ∙ ap (λ n. code ++ ((terms_code f head first (length code) ++ L)
      ++ turn_code a (length code) again n (terms_code f inside body (n + 1))))
      (sum_of (length code) (length (terms_code f head first (length code) ++ L)) (length (terms_code f head first (length code))) (length L)
      (length-append (terms_code f head first (length code)) L))
      ∙ ap (λ l. code ++ l) (append_assoc (terms_code f head first (length code)) L
      (turn_code a (length code) again (after_load f o (length code + length (terms_code f head first (length code))))
      (terms_code f inside body (after_load f o (length code + length (terms_code f head first (length code))) + 1))))
  form_placed f h (assert_form o perm) code = refl
  form_placed f h (disown_form o) code = refl
  form_placed f h (drop_form k) code = refl
  form_placed f h (return_form place) code = refl
  form_placed f h (revert_form o) code = refl
  form_placed f h bad_row_form code = refl

  -- the code after terms ends with their code at its place
  pub terms_placed : (f : EmissionFrame) (h : Holdings) (ts : SilicaTerms) (code : List Instruction)
      → terms_made f (kinds_held h) ts code ≡ code ++ terms_code f h ts (length code)
  terms_placed f h no_terms code = sym (append-nil code)
  terms_placed f h (and_term form span rest) code =
      ap (λ ks. terms_made f ks rest (form_made f (kinds_held h) form code)) (form_held f.static form h)
      ∙ ap (λ l. terms_made f (kinds_held (after_form f.static form h)) rest l) (form_placed f h form code)
      ∙ terms_placed f (after_form f.static form h) rest (code ++ form_code f h form (length code))
      ∙ ap (λ n. (code ++ form_code f h form (length code)) ++ terms_code f (after_form f.static form h) rest n)
      (length-append code (form_code f h form (length code)))
      ∙ append_assoc code (form_code f h form (length code))
      (terms_code f (after_form f.static form h) rest (length code + length (form_code f h form (length code))))

-- the code of a body
pub body_placed : (f : EmissionFrame) (here : ContractId) (params : List Param) (ts : SilicaTerms)
    → terms_made f (kinds_held (held_at_start here params)) ts [] ≡ terms_code f (held_at_start here params) ts 0
body_placed f here params ts = terms_placed f (held_at_start here params) ts []
