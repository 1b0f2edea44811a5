-- What the code's values of the trial represent.
use Rattle.ob_client.specs.Trials.{TrialClient, Wish, mint, bake, restock, buy}
use Rattle.ob_client.specs.declared.trial.TrialClient.{TrialClient as CodeClient}
use Rattle.ob_client.specs.declared.trial.Wish.{Wish as CodeWish}
use Rattle.ob_client.specs.declared.trial.Wish.TheVariants.{Mint, Bake, Restock, Buy}

-- what is held
abbrev pub holding_view : CodeClient → TrialClient
holding_view h = record { coins = h.coins.items; candies = h.candies.items; is_full = h.is_full }

-- what is asked
abbrev pub wish_view : CodeWish → Wish
wish_view Mint = mint
wish_view Bake = bake
wish_view (Restock candy) = restock candy
wish_view (Buy coin) = buy coin
