-- What a line tells of a reply whose fields stand in another order: a JSON object (RFC 8259) has none.
use Rattle.std.specs.Prelude.{ℕ, ◌≡◌, List, map, IsTrue, ⊤}
use Rattle.std.specs.List.Sorted.{IsPermutation}
use Rattle.ob_table_spec.specs.Conditions.{AreDistinct}
use Rattle.ob_wire.specs.declared.reply.Reply.{Reply}
use Rattle.ob_wire.specs.declared.reply.Answer.{Answer}
use Rattle.ob_wire.specs.declared.reply.Answer.TheVariants as answer
use Rattle.ob_wire.specs.declared.reply.Outcome.TheVariants as outcome
use Rattle.ob_wire.specs.declared.reply.Shown.{Shown}
use Rattle.ob_wire.specs.declared.reply.ShownField.{ShownField}
use Rattle.ob_client.specs.Told.{is_answer, is_id_of, Tells}

-- no two fields of an object that is shown have the same name
abbrev pub AreNamedApart : Answer → Type 0
AreNamedApart (answer.Ok (outcome.See s)) = AreDistinct (map (λ f. f.name) s.fields)
AreNamedApart _ = ⊤

-- A reply that a session may give: its names, texts and numbers are such, no two fields of an object have the same name, and it has the
-- number of a request exactly where the line was one. The fields stand in any order.
pub record MayBeGiven (reply : Reply) : Type 0 where
  pub id : IsTrue (is_id_of reply.answer reply.id)
  pub parts : IsTrue (is_answer reply.answer)
  pub names : AreNamedApart reply.answer

-- an object as it is shown, with these fields
abbrev pub shown_with : Shown → List ShownField → Shown
shown_with s fields = record {
  object = s.object;
  contract = s.contract;
  state = s.state;
  shared = s.shared;
  disowned = s.disowned;
  fields = fields;
}

-- Another answer is this one but for the order of the fields of an object that is shown.
abbrev pub IsReordered : Answer → Answer → Type 0
IsReordered (answer.Ok (outcome.See s)) other =
    (fields : List ShownField) × IsPermutation s.fields fields × (other ≡ answer.Ok (outcome.See (shown_with s fields)))
IsReordered a other = other ≡ a

-- A line tells this reply but for the order of the fields of an object that is shown.
pub record TellsReordered (line : List ℕ) (reply : Reply) : Type 0 where
  pub told : Reply
  pub id : told.id ≡ reply.id
  pub answer : IsReordered reply.answer told.answer
  pub tells : Tells line told
