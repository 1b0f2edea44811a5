-- For what the thing stands that a request enters, as the code keeps it (this project's own).
use Rattle.std.specs.Prelude.{◌≡◌, ℕ, List, map, Contains, Option}
use Rattle.std.specs.List.{AllByRecursion}
use Rattle.ob_heap_spec.specs.Contents.{Content}
use Rattle.ob_heap_spec.specs.Worlds.{ReadItem, object_item}
use Rattle.ob_invocation_spec.specs.Entries.{HandleUse, Entry, handle_uses}
use Rattle.ob_invocation_spec.specs.Entering.{run_entry}
use Rattle.ob_invocation_spec.specs.Invocation.{ended}
use Rattle.ob_invocation_spec.specs.Replies.{Invocation}
use Rattle.ob_code.specs.declared.image.Image.{Image}
use Rattle.ob_code_table.specs.ImageTables.{table_of_image}
use Rattle.ob_machine_meaning.specs.Meanings.{machine_meaning, entry_of_request}
use Rattle.ob_exec_entries.specs.Entering.{use_of, machine_entry}
use Rattle.ob_exec_entries.specs.declared.entered.Entered.{Entered}

-- What is entered represents an entry of this client's request, with this name for the handle on what it gives.
pub record EnteredRepresents (content : Content) (who : List ℕ) (into : Option (List ℕ)) (entered : Entered) (e : Entry) : Type 0 where
  pub client : e.who ≡ who
  pub name : e.into ≡ into
  pub machine : machine_entry entered ≡ entry_of_request content e
  pub uses : map (use_of who) entered.uses ≡ handle_uses content e
  pub given : entered.given ≡ e.given

-- what comes of an entry, with what the checks of its request have read
abbrev pub Way : Type 0
Way = List ReadItem → Entry → Invocation

-- by code, with so many units, once it has passed its entry test
abbrev pub running : Image → Content → ℕ → Way
running image content fuel reads e =
    ended (table_of_image image) content e reads (run_entry (machine_meaning image) content fuel e)

-- An invocation is what comes so of what this represents.
pub record ComesBy (way : Way) (content : Content) (who : List ℕ) (into : Option (List ℕ)) (entered : Entered) (i : Invocation) : Type 0 where
  pub entry : Entry
  pub reads : List ReadItem
  pub stands : EnteredRepresents content who into entered entry
  pub is : i ≡ way reads entry

-- the object of each use was read
abbrev pub AreUsesRead : List ReadItem → List HandleUse → Type 0
AreUsesRead reads uses = AllByRecursion (λ (u : HandleUse). Contains reads (object_item u.handle.object)) uses
