-- The program of the trial: the vending machine of the language's article (Coblenz et al., TOPLAS 42(3), 2020), with transactions that
-- make what it takes.
use Rattle.std.specs.Prelude.{ℕ, List, codes}

-- its text
abbrev pub vending_machine : List ℕ
vending_machine = codes "asset contract Coin { }\nasset contract Candy { }\nmain asset contract Machine {\n  state Full { Candy@Owned candy; }\n  state Empty;\n  int sold;\n  Machine@Empty() { sold = 0; ->Empty; }\n  transaction mint(Machine@Unowned this) returns Coin@Owned { return new Coin(); }\n  transaction bake(Machine@Unowned this) returns Candy@Owned { return new Candy(); }\n  transaction restock(Machine@Empty >> Full this, Candy@Owned >> Unowned c) {\n    ->Full(candy = c);\n  }\n  transaction buy(Machine@Full >> Empty this, Coin@Owned >> Unowned c) returns Candy@Owned {\n    disown c;\n    Candy r = candy;\n    ->Empty;\n    sold = sold + 1;\n    return r;\n  }\n}\n"
