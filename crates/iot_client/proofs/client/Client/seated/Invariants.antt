use Rattle.std.proofs.Common.{◌≡◌, None, replicate}
use Rattle.iot_client.proofs.client.Client.seated.Given as goal

abbrev pub invariant-interpreters : goal.invariant-interpreters
invariant-interpreters g l = l.interpreters.items ≡ replicate l.counter None
