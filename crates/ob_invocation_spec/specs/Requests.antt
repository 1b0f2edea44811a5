-- What a client asks of a store (this project's own).
use Rattle.std.specs.Prelude.{ℕ, ℤ, Bool, List, [], ◌∷◌, ◌++◌, filter_map, Option, Some, None, option_to_list, IsTrue}
use Rattle.std.specs.List.{list_all}
use Rattle.ob_base.specs.Names.{is_label}
use Rattle.ob_base.specs.declared.permission.Mode.{Mode}

-- an argument: a whole number, a truth value, a text by its bytes, the name of a handle of the client, or something
-- else, which is of no kind
pub data Argument : Type 0 where
  int_argument : ℤ → Argument
  bool_argument : Bool → Argument
  text_argument : List ℕ → Argument
  handle_argument : List ℕ → Argument
  other_argument : Argument

-- a `new`: an object of the contract of this name is made; `into` is the name of the handle on it
pub record NewRequest : Type 0 where
  pub contract : List ℕ
  pub args : List Argument
  pub into : Option (List ℕ)

-- a `call`: the transaction of this name runs on the object of the handle `on`; `into` is the name of the handle on
-- what it gives
pub record CallRequest : Type 0 where
  pub on : List ℕ
  pub tx : List ℕ
  pub args : List Argument
  pub into : Option (List ℕ)

-- a `give`: the client `to` gets a handle of the name `into` on the object of the handle `on`, in this mode
pub record GiveRequest : Type 0 where
  pub on : List ℕ
  pub to : List ℕ
  pub into : List ℕ
  pub mode : Mode

-- what is asked; a `disown` removes a handle, a `see` shows the object of one, an `owner` the owner of that object
pub data Operation : Type 0 where
  new_request : NewRequest → Operation
  call_request : CallRequest → Operation
  disown_request : List ℕ → Operation
  give_request : GiveRequest → Operation
  see_request : List ℕ → Operation
  owner_request : List ℕ → Operation

-- a request: the client, and what it asks
pub record Request : Type 0 where
  pub who : List ℕ
  pub operation : Operation

-- the name of the handle that an argument is, if it is one
abbrev pub argument_name : Argument → Option (List ℕ)
argument_name (handle_argument name) = Some name
argument_name arg = None

-- the names of the handles among arguments
abbrev pub argument_names : List Argument → List (List ℕ)
argument_names args = filter_map argument_name args

-- the names in what is asked: of contracts, transactions, handles and clients
abbrev pub names_in : Operation → List (List ℕ)
names_in (new_request r) = r.contract ∷ argument_names r.args ++ option_to_list r.into
names_in (call_request r) = r.on ∷ r.tx ∷ argument_names r.args ++ option_to_list r.into
names_in (disown_request on) = on ∷ []
names_in (give_request r) = r.on ∷ r.to ∷ r.into ∷ []
names_in (see_request on) = on ∷ []
names_in (owner_request on) = on ∷ []

-- each name in a request has 1 to 64 bytes of UTF-8
abbrev pub HasLabels : Request → Type 0
HasLabels request = IsTrue (list_all is_label (request.who ∷ names_in request.operation))
