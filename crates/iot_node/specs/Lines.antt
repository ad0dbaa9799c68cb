-- How a transaction is named in a line.
use Rattle.iot_node.specs.{Prelude.List, Prelude.transaction_name, Prelude.ℕ, declared.lines.Transaction.Transaction}

abbrev pub name_of : Transaction → List ℕ
name_of transaction = transaction_name transaction.client transaction.number
