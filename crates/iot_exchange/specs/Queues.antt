-- How the transactions that wait are synced, and what is said and done of one that has ended.
use Rattle.std.specs.Prelude.{◌∷◌, ◌≡◌}
use Rattle.iot_exchange.specs.Words.{Bool, Goes, Laptop, List, Pair, Refreshes, Some, SyncsAll, Try, name_of, state_in}
use Rattle.iot_laptop.specs.declared.needs.Gone.{Gone}
use Rattle.iot_machine.specs.{Calls.Answers, Calls.Asks, Calls.Says, Calls.Then, Calls.either, Events.is_drained, Texts.end_line}
use Rattle.iot_machine.specs.Transactions.{Ended, pends, sync_if, syncs_or_waits}
use Rattle.{iot_node.specs.declared.lines.Transaction.Transaction, iot_queue.specs.declared.items.Item.Item}

-- the first that waits has this name, and this is so of it
pub record First {D : Type 0} (Is : Item → Type 0) (laptop : Laptop D) (t : Transaction) : Type 0 where
  pub item : Item
  pub rest : List Item
  pub items : (state_in laptop).items ≡ item ∷ rest
  pub named : t ≡ record { client = laptop.name; number = item.tid }
  pub is : Is item

-- the first that waits is synced, if one does, and whether the next may follow
abbrev pub SyncsNext : Try Pair Bool
SyncsNext = Then (Asks pends) sync_if

-- a drain, but for what it says if it has nothing to say
abbrev pub DrainsQuietly : Try Pair (Unit {0})
DrainsQuietly = Goes SyncsAll (λ _. Then (Asks is_drained) (either Refreshes (Answers (Some tt))))

-- what is known of one that ends, as its client tells it
abbrev pub ended_as : Gone → Ended
ended_as gone = record {
  number = gone.printed.transaction.number;
  name = name_of gone.printed.transaction;
  printed = gone.printed.output;
  first = gone.first;
}

-- that it ends is said; and it is synced at once, or waits
abbrev pub EndsAloud : Ended → Try Pair (Unit {0})
EndsAloud gone = Then (Says (λ _. end_line gone.name)) (λ _. syncs_or_waits gone gone.first)
